use Rattle.std.proofs.Common.{◌≡◌, ◌<◌, [], ◌∷◌, true, refl, sym, ap, ◌∙◌, subst, arith}
use Rattle.result_cache.specs.declared.call.Act.TheVariants.{GiveBack}
use Rattle.result_cache.specs.Tickets.{has_ticket}
use Rattle.result_cache.specs.Shared.{Entered, seat_of, view_of}
use Rattle.result_cache.specs.Seats.{Seated, seat_at, first_view, seated_of, Made}
use Rattle.result_cache.proofs.Turns.{spent, holds_own, may_give, left, seat_made, in_place, made, after_call}
use Rattle.result_cache.proofs.cache.SharedCache.give_back.Goals as goal

pub give_back_under-requires-clause-shard : goal.give_back_under-requires-clause-shard
give_back_under-requires-clause-shard g c κs within =
    let D = g.row.V.Denot in
    let key = c.args.ticket.key in
    let at = c.place_of-at.result in
    let inside = c.seat.inside in
    let old = inside.badge.views in
    let k = seat_of (first_view old) in
    let me = c.enter-pass.result.me in
    let replaced = c.replace-badge.ensures.value in
    let entered : Entered D k at me = subst (λ vs. Entered D (seat_of (first_view vs)) at me) (ap (λ b. b.views) replaced) c.enter-pass.ensures.entered in
    let same = ap (λ (s : Seated). s.cache) c.seat.view_is ∙ c.requires.cache in
    let at_is = in_place inside.badge.table_id c.args.self.now.table.shared.table_id k key at c.args.self.now.shards c.seat.invariant.shards_are same c.args.self.now.slots c.place_of-at.ensures.place in
    let one : has_ticket k.calls key ≡ true = ap (λ (s : Seated). has_ticket s.calls key) c.seat.view_is ∙ c.requires.holds_ticket in
    holds_own D k at key inside.number me entered c.seat.invariant.number_is at_is one

pub give-requires-clause-shard : goal.give-requires-clause-shard
give-requires-clause-shard g c κs within =
    let D = g.row.V.Denot in
    let key = c.args.ticket.key in
    let at = c.place_of-at.result in
    let inside = c.seat.inside in
    let old = inside.badge.views in
    let k = seat_of (first_view old) in
    let me = c.enter-pass.result.me in
    let replaced = c.replace-badge.ensures.value in
    let entered : Entered D k at me = subst (λ vs. Entered D (seat_of (first_view vs)) at me) (ap (λ b. b.views) replaced) c.enter-pass.ensures.entered in
    let same = ap (λ (s : Seated). s.cache) c.seat.view_is ∙ c.requires.cache in
    let at_is = in_place inside.badge.table_id c.args.self.now.table.shared.table_id k key at c.args.self.now.shards c.seat.invariant.shards_are same c.args.self.now.slots c.place_of-at.ensures.place in
    let one : has_ticket k.calls key ≡ true = ap (λ (s : Seated). has_ticket s.calls key) c.seat.view_is ∙ c.requires.holds_ticket in
    let me' = c.give_back_under.new.pass.me in
    let s = c.give_back_under.ensures.swaps in
    let act = GiveBack in
    let o = spent D g.V.Keyed.stands_for k at key inside.number act _ me me' entered c.seat.invariant.number_is s s.4 (λ h. h) at_is one in
    let below : k.number < k.callers = let e = c.seat.invariant.number_is in let b = c.seat.invariant.below in omega arith in
    may_give D k at key act me' o at_is below

pub invariant_of-seat : goal.invariant_of-seat
invariant_of-seat g c =
    let D = g.row.V.Denot in
    let key = c.args.ticket.key in
    let at = c.place_of-at.result in
    let inside = c.seat.inside in
    let old = inside.badge.views in
    let k = seat_of (first_view old) in
    let me = c.enter-pass.result.me in
    let replaced = c.replace-badge.ensures.value in
    let entered : Entered D k at me = subst (λ vs. Entered D (seat_of (first_view vs)) at me) (ap (λ b. b.views) replaced) c.enter-pass.ensures.entered in
    let same = ap (λ (s : Seated). s.cache) c.seat.view_is ∙ c.requires.cache in
    let at_is = in_place inside.badge.table_id c.args.self.now.table.shared.table_id k key at c.args.self.now.shards c.seat.invariant.shards_are same c.args.self.now.slots c.place_of-at.ensures.place in
    let one : has_ticket k.calls key ≡ true = ap (λ (s : Seated). has_ticket s.calls key) c.seat.view_is ∙ c.requires.holds_ticket in
    let me' = c.give_back_under.new.pass.me in
    let s = c.give_back_under.ensures.swaps in
    let act = GiveBack in
    let o = spent D g.V.Keyed.stands_for k at key inside.number act _ me me' entered c.seat.invariant.number_is s s.4 (λ h. h) at_is one in
    let below : k.number < k.callers = let e = c.seat.invariant.number_is in let b = c.seat.invariant.below in omega arith in
    let views_are : c.give.result.views ≡ view_of (after_call D k at key act o.z ∷ []) ∷ [] = c.give.ensures.given ∙ ap (λ u. u ∷ []) (left D k at key act me' o) in
    let table_is : c.give.result.table_id ≡ inside.badge.table_id = c.give.ensures.cache ∙ c.give_back_under.ensures.cache ∙ c.enter-pass.ensures.cache ∙ ap (λ b. b.table_id) replaced in
    seat_made D inside.badge.table_id c.give.result.table_id k at key act o.z inside.number inside.claims inside.fills inside.give_backs inside.drops inside.claims inside.fills c.saturating_add-seat-inside.result inside.drops old c.give.result.views
    c.seat.invariant refl table_is views_are
    (let f = c.seat.invariant.claims_are in omega arith)
    (let f = c.seat.invariant.fills_are in omega arith)
    c.saturating_add-seat-inside.ensures
    (let f = c.seat.invariant.drops_are in omega arith)

pub returns : goal.returns
returns g c =
    let D = g.row.V.Denot in
    let key = c.args.ticket.key in
    let at = c.place_of-at.result in
    let inside = c.seat.inside in
    let old = inside.badge.views in
    let k = seat_of (first_view old) in
    let me = c.enter-pass.result.me in
    let replaced = c.replace-badge.ensures.value in
    let entered : Entered D k at me = subst (λ vs. Entered D (seat_of (first_view vs)) at me) (ap (λ b. b.views) replaced) c.enter-pass.ensures.entered in
    let same = ap (λ (s : Seated). s.cache) c.seat.view_is ∙ c.requires.cache in
    let at_is = in_place inside.badge.table_id c.args.self.now.table.shared.table_id k key at c.args.self.now.shards c.seat.invariant.shards_are same c.args.self.now.slots c.place_of-at.ensures.place in
    let one : has_ticket k.calls key ≡ true = ap (λ (s : Seated). has_ticket s.calls key) c.seat.view_is ∙ c.requires.holds_ticket in
    let me' = c.give_back_under.new.pass.me in
    let s = c.give_back_under.ensures.swaps in
    let act = GiveBack in
    let o = spent D g.V.Keyed.stands_for k at key inside.number act _ me me' entered c.seat.invariant.number_is s s.4 (λ h. h) at_is one in
    let below : k.number < k.callers = let e = c.seat.invariant.number_is in let b = c.seat.invariant.below in omega arith in
    let views_are : c.give.result.views ≡ view_of (after_call D k at key act o.z ∷ []) ∷ [] = c.give.ensures.given ∙ ap (λ u. u ∷ []) (left D k at key act me' o) in
    let table_is : c.give.result.table_id ≡ inside.badge.table_id = c.give.ensures.cache ∙ c.give_back_under.ensures.cache ∙ c.enter-pass.ensures.cache ∙ ap (λ b. b.table_id) replaced in
    let now_is : seat_at inside.badge.table_id (after_call D k at key act o.z) ≡ seated_of c.give.result.table_id c.give.result.views = λ j. seated_of (sym table_is j) (sym views_are j) in
    record { given_back = subst (λ (x : Seated × Seated). Made x.0 x.1 key act) (λ j. (c.seat.view_is j, now_is j)) (made D inside.badge.table_id k at key act me' o at_is below) }
