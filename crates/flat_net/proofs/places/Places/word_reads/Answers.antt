use Rattle.flat_net.proofs.Kept.{within-Keeps}
use Rattle.flat_net.proofs.Reading.{Extends-refl, Extends-then, IsPoint-kept, ArePoints-kept, listed_read}
use Rattle.flat_net.proofs.places.Places.word_reads.Goals as goal

pub pin_point-requires-2 : goal.pin_point-requires-2
pin_point-requires-2 c =
    let e1 = c.in_ok-pin_point.ensures.grows in
    record { in_range = within-Keeps _ _ _ e1.paths c.requires.in_range }

pub pin_point-requires-3 : goal.pin_point-requires-3
pin_point-requires-3 c =
    let e1 = c.in_ok-pin_point.ensures.grows in
    let e2 = Extends-then _ _ _ e1 c.in_ok-pin_point-2.ensures.grows in
    record { in_range = within-Keeps _ _ _ e2.paths c.requires.in_range }

pub pin_point-requires-4 : goal.pin_point-requires-4
pin_point-requires-4 c =
    let e1 = c.in_ok-pin_point.ensures.grows in
    let e2 = Extends-then _ _ _ e1 c.in_ok-pin_point-2.ensures.grows in
    let e3 = Extends-then _ _ _ e2 c.in_ok-pin_point-3.ensures.grows in
    record { in_range = within-Keeps _ _ _ e3.paths c.requires.in_range }

pub pin_point-requires-5 : goal.pin_point-requires-5
pin_point-requires-5 c =
    let e1 = c.in_ok-pin_point.ensures.grows in
    let e2 = Extends-then _ _ _ e1 c.in_ok-pin_point-2.ensures.grows in
    let e3 = Extends-then _ _ _ e2 c.in_ok-pin_point-3.ensures.grows in
    let e4 = Extends-then _ _ _ e3 c.in_ok-pin_point-4.ensures.grows in
    record { in_range = within-Keeps _ _ _ e4.paths c.requires.in_range }

pub pin_points-requires : goal.pin_points-requires
pin_points-requires c =
    let e1 = c.in_ok-pin_point.ensures.grows in
    let e2 = Extends-then _ _ _ e1 c.in_ok-pin_point-2.ensures.grows in
    let e3 = Extends-then _ _ _ e2 c.in_ok-pin_point-3.ensures.grows in
    let e4 = Extends-then _ _ _ e3 c.in_ok-pin_point-4.ensures.grows in
    let e5 = Extends-then _ _ _ e4 c.in_ok-pin_point-5.ensures.grows in
    record { in_range = within-Keeps _ _ _ e5.paths c.requires.in_range }

pub pin_points-requires-2 : goal.pin_points-requires-2
pin_points-requires-2 c =
    let e1 = c.in_ok-pin_point.ensures.grows in
    let e2 = Extends-then _ _ _ e1 c.in_ok-pin_point-2.ensures.grows in
    let e3 = Extends-then _ _ _ e2 c.in_ok-pin_point-3.ensures.grows in
    let e4 = Extends-then _ _ _ e3 c.in_ok-pin_point-4.ensures.grows in
    let e5 = Extends-then _ _ _ e4 c.in_ok-pin_point-5.ensures.grows in
    let e6 = Extends-then _ _ _ e5 c.in_ok-pin_points.ensures.grows in
    record { in_range = within-Keeps _ _ _ e6.paths c.requires.in_range }

pub pin_points-requires-3 : goal.pin_points-requires-3
pin_points-requires-3 c =
    let e1 = c.in_ok-pin_point.ensures.grows in
    let e2 = Extends-then _ _ _ e1 c.in_ok-pin_point-2.ensures.grows in
    let e3 = Extends-then _ _ _ e2 c.in_ok-pin_point-3.ensures.grows in
    let e4 = Extends-then _ _ _ e3 c.in_ok-pin_point-4.ensures.grows in
    let e5 = Extends-then _ _ _ e4 c.in_ok-pin_point-5.ensures.grows in
    let e6 = Extends-then _ _ _ e5 c.in_ok-pin_points.ensures.grows in
    let e7 = Extends-then _ _ _ e6 c.in_ok-pin_points-2.ensures.grows in
    record { in_range = within-Keeps _ _ _ e7.paths c.requires.in_range }

pub pin_points-requires-4 : goal.pin_points-requires-4
pin_points-requires-4 c =
    let e1 = c.in_ok-pin_point.ensures.grows in
    let e2 = Extends-then _ _ _ e1 c.in_ok-pin_point-2.ensures.grows in
    let e3 = Extends-then _ _ _ e2 c.in_ok-pin_point-3.ensures.grows in
    let e4 = Extends-then _ _ _ e3 c.in_ok-pin_point-4.ensures.grows in
    let e5 = Extends-then _ _ _ e4 c.in_ok-pin_point-5.ensures.grows in
    let e6 = Extends-then _ _ _ e5 c.in_ok-pin_points.ensures.grows in
    let e7 = Extends-then _ _ _ e6 c.in_ok-pin_points-2.ensures.grows in
    let e8 = Extends-then _ _ _ e7 c.in_ok-pin_points-3.ensures.grows in
    record { in_range = within-Keeps _ _ _ e8.paths c.requires.in_range }

pub returns-clause-value : goal.returns-clause-value
returns-clause-value c = λ p path.
    let e1 = c.in_ok-pin_point.ensures.grows in
    let e2 = Extends-then _ _ _ e1 c.in_ok-pin_point-2.ensures.grows in
    let e3 = Extends-then _ _ _ e2 c.in_ok-pin_point-3.ensures.grows in
    let e4 = Extends-then _ _ _ e3 c.in_ok-pin_point-4.ensures.grows in
    let e5 = Extends-then _ _ _ e4 c.in_ok-pin_point-5.ensures.grows in
    let e6 = Extends-then _ _ _ e5 c.in_ok-pin_points.ensures.grows in
    let e7 = Extends-then _ _ _ e6 c.in_ok-pin_points-2.ensures.grows in
    let e8 = Extends-then _ _ _ e7 c.in_ok-pin_points-3.ensures.grows in
    let f9 = Extends-refl c.pin_points-4.new.self in
    let f8 = Extends-then _ _ _ c.in_ok-pin_points-4.ensures.grows f9 in
    let f7 = Extends-then _ _ _ c.in_ok-pin_points-3.ensures.grows f8 in
    let f6 = Extends-then _ _ _ c.in_ok-pin_points-2.ensures.grows f7 in
    let f5 = Extends-then _ _ _ c.in_ok-pin_points.ensures.grows f6 in
    let f4 = Extends-then _ _ _ c.in_ok-pin_point-5.ensures.grows f5 in
    let f3 = Extends-then _ _ _ c.in_ok-pin_point-4.ensures.grows f4 in
    let f2 = Extends-then _ _ _ c.in_ok-pin_point-3.ensures.grows f3 in
    let f1 = Extends-then _ _ _ c.in_ok-pin_point-2.ensures.grows f2 in
    let v1 = IsPoint-kept _ _ f1.places _ _ (c.in_ok-pin_point.ensures.value p path) in
    let v2 = IsPoint-kept _ _ f2.places _ _ (c.in_ok-pin_point-2.ensures.value p (e1.paths _ _ path)) in
    let v3 = IsPoint-kept _ _ f3.places _ _ (c.in_ok-pin_point-3.ensures.value p (e2.paths _ _ path)) in
    let v4 = IsPoint-kept _ _ f4.places _ _ (c.in_ok-pin_point-4.ensures.value p (e3.paths _ _ path)) in
    let v5 = IsPoint-kept _ _ f5.places _ _ (c.in_ok-pin_point-5.ensures.value p (e4.paths _ _ path)) in
    let v6 = ArePoints-kept _ _ f6.places _ _ (c.in_ok-pin_points.ensures.value p (e5.paths _ _ path)) in
    let v7 = ArePoints-kept _ _ f7.places _ _ (c.in_ok-pin_points-2.ensures.value p (e6.paths _ _ path)) in
    let v8 = ArePoints-kept _ _ f8.places _ _ (c.in_ok-pin_points-3.ensures.value p (e7.paths _ _ path)) in
    let v9 = ArePoints-kept _ _ f9.places _ _ (c.in_ok-pin_points-4.ensures.value p (e8.paths _ _ path)) in
    record {
      are = λ at. (λ i. record { clk = v1.is i; en = v2.is i; arst = v3.is i; srst = v4.is i; aload = v5.is i; ad = (listed_read _ _ _ at v6).is i; set = (listed_read _ _ _ at v7).is i; clr = (listed_read _ _ _ at v8).is i; d = (listed_read _ _ _ at v9).is i });
      within = λ at. record { clk = v1.within; en = v2.within; arst = v3.within; srst = v4.within; aload = v5.within; ad = (listed_read _ _ _ at v6).within; set = (listed_read _ _ _ at v7).within; clr = (listed_read _ _ _ at v8).within; d = (listed_read _ _ _ at v9).within };
    }
