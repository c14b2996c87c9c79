use Rattle.flat_net.proofs.Kept.{within-Keeps}
use Rattle.flat_net.proofs.Reading.{Extends-refl, Extends-then, IsPoint-kept}
use Rattle.flat_net.proofs.places.Places.gate_reads.Goals as goal

pub pin_point-requires-2 : goal.pin_point-requires-2
pin_point-requires-2 c =
    let e1 = c.in_ok-reset.ensures.grows in
    record { in_range = within-Keeps _ _ _ e1.paths c.requires.in_range }

pub pin_point-requires-3 : goal.pin_point-requires-3
pin_point-requires-3 c =
    let e1 = c.in_ok-reset.ensures.grows in
    let e2 = Extends-then _ _ _ e1 c.in_ok-pin_point.ensures.grows in
    record { in_range = within-Keeps _ _ _ e2.paths c.requires.in_range }

pub pin_point-requires-4 : goal.pin_point-requires-4
pin_point-requires-4 c =
    let e1 = c.in_ok-reset.ensures.grows in
    let e2 = Extends-then _ _ _ e1 c.in_ok-pin_point.ensures.grows in
    let e3 = Extends-then _ _ _ e2 c.in_ok-pin_point-2.ensures.grows in
    record { in_range = within-Keeps _ _ _ e3.paths c.requires.in_range }

pub pin_point-requires-5 : goal.pin_point-requires-5
pin_point-requires-5 c =
    let e1 = c.in_ok-reset.ensures.grows in
    let e2 = Extends-then _ _ _ e1 c.in_ok-pin_point.ensures.grows in
    let e3 = Extends-then _ _ _ e2 c.in_ok-pin_point-2.ensures.grows in
    let e4 = Extends-then _ _ _ e3 c.in_ok-pin_point-3.ensures.grows in
    record { in_range = within-Keeps _ _ _ e4.paths c.requires.in_range }

pub pin_point-requires-6 : goal.pin_point-requires-6
pin_point-requires-6 c =
    let e1 = c.in_ok-reset.ensures.grows in
    let e2 = Extends-then _ _ _ e1 c.in_ok-pin_point.ensures.grows in
    let e3 = Extends-then _ _ _ e2 c.in_ok-pin_point-2.ensures.grows in
    let e4 = Extends-then _ _ _ e3 c.in_ok-pin_point-3.ensures.grows in
    let e5 = Extends-then _ _ _ e4 c.in_ok-pin_point-4.ensures.grows in
    record { in_range = within-Keeps _ _ _ e5.paths c.requires.in_range }

pub pin_point-requires-7 : goal.pin_point-requires-7
pin_point-requires-7 c =
    let e1 = c.in_ok-reset.ensures.grows in
    let e2 = Extends-then _ _ _ e1 c.in_ok-pin_point.ensures.grows in
    let e3 = Extends-then _ _ _ e2 c.in_ok-pin_point-2.ensures.grows in
    let e4 = Extends-then _ _ _ e3 c.in_ok-pin_point-3.ensures.grows in
    let e5 = Extends-then _ _ _ e4 c.in_ok-pin_point-4.ensures.grows in
    let e6 = Extends-then _ _ _ e5 c.in_ok-pin_point-5.ensures.grows in
    record { in_range = within-Keeps _ _ _ e6.paths c.requires.in_range }

pub returns-clause-value : goal.returns-clause-value
returns-clause-value c = λ p path.
    let e1 = c.in_ok-reset.ensures.grows in
    let e2 = Extends-then _ _ _ e1 c.in_ok-pin_point.ensures.grows in
    let e3 = Extends-then _ _ _ e2 c.in_ok-pin_point-2.ensures.grows in
    let e4 = Extends-then _ _ _ e3 c.in_ok-pin_point-3.ensures.grows in
    let e5 = Extends-then _ _ _ e4 c.in_ok-pin_point-4.ensures.grows in
    let e6 = Extends-then _ _ _ e5 c.in_ok-pin_point-5.ensures.grows in
    let f7 = Extends-refl c.pin_point-7.new.self in
    let f6 = Extends-then _ _ _ c.in_ok-pin_point-6.ensures.grows f7 in
    let f5 = Extends-then _ _ _ c.in_ok-pin_point-5.ensures.grows f6 in
    let f4 = Extends-then _ _ _ c.in_ok-pin_point-4.ensures.grows f5 in
    let f3 = Extends-then _ _ _ c.in_ok-pin_point-3.ensures.grows f4 in
    let f2 = Extends-then _ _ _ c.in_ok-pin_point-2.ensures.grows f3 in
    let f1 = Extends-then _ _ _ c.in_ok-pin_point.ensures.grows f2 in
    let v1 = IsPoint-kept _ _ f1.places _ _ (c.in_ok-reset.ensures.value p path) in
    let v2 = IsPoint-kept _ _ f2.places _ _ (c.in_ok-pin_point.ensures.value p (e1.paths _ _ path)) in
    let v3 = IsPoint-kept _ _ f3.places _ _ (c.in_ok-pin_point-2.ensures.value p (e2.paths _ _ path)) in
    let v4 = IsPoint-kept _ _ f4.places _ _ (c.in_ok-pin_point-3.ensures.value p (e3.paths _ _ path)) in
    let v5 = IsPoint-kept _ _ f5.places _ _ (c.in_ok-pin_point-4.ensures.value p (e4.paths _ _ path)) in
    let v6 = IsPoint-kept _ _ f6.places _ _ (c.in_ok-pin_point-5.ensures.value p (e5.paths _ _ path)) in
    let v7 = IsPoint-kept _ _ f7.places _ _ (c.in_ok-pin_point-6.ensures.value p (e6.paths _ _ path)) in
    record {
      are = λ at. (λ i. record { clk = v2.is i; en = v3.is i; arst = v1.is i; srst = v1.is i; aload = v4.is i; ad = v5.is i; set = v6.is i; clr = v1.is i; d = v7.is i });
      within = λ at. record { clk = v2.within; en = v3.within; arst = v1.within; srst = v1.within; aload = v4.within; ad = v5.within; set = v6.within; clr = v1.within; d = v7.within };
    }
