use Rattle.std.proofs.Common.{◌≡◌, ℕ, ◌<◌, [], ◌∷◌, refl, sym, ap, ◌∙◌, subst, arith}
use Rattle.result_cache.specs.History.{state_after, held}
use Rattle.result_cache.specs.Shared.{Entered, seat_of, seat_after, view_of}
use Rattle.result_cache.specs.Seats.{Seated, seat_at, first_view, seated_of, HasWaited, NoOtherHolds}
use Rattle.result_cache.proofs.Turns.{holds_some, may_give_seen, left_seen, agrees_seen, may_give_up, seat_looked, looked, in_place}
use Rattle.result_cache.proofs.cache.SharedCache.look.Goals as goal

pub is_free_for-free-requires-clause-shard : goal.is_free_for-free-requires-clause-shard
is_free_for-free-requires-clause-shard g c κs within =
    let D = g.row.V.Denot in
    let key = c.args.key.now in
    let at = c.args.at in
    let inside = c.seat.inside in
    let old = inside.badge.views in
    let k = seat_of (first_view old) in
    let me = c.enter-pass.result.me in
    let replaced = c.replace-badge.ensures.value in
    let entered : Entered D k at me = subst (λ vs. Entered D (seat_of (first_view vs)) at me) (ap (λ b. b.views) replaced) c.enter-pass.ensures.entered in
    holds_some D k at me entered

pub give-requires-clause-shard : goal.give-requires-clause-shard
give-requires-clause-shard g c κs within =
    let D = g.row.V.Denot in
    let key = c.args.key.now in
    let at = c.args.at in
    let inside = c.seat.inside in
    let old = inside.badge.views in
    let k = seat_of (first_view old) in
    let me = c.enter-pass.result.me in
    let replaced = c.replace-badge.ensures.value in
    let entered : Entered D k at me = subst (λ vs. Entered D (seat_of (first_view vs)) at me) (ap (λ b. b.views) replaced) c.enter-pass.ensures.entered in
    let me' = c.is_free_for-free.new.pass.me in
    let s = c.is_free_for-free.ensures.swaps in
    let below : k.number < k.callers = let e = c.seat.invariant.number_is in let b = c.seat.invariant.below in omega arith in
    may_give_seen D k at _ me me' entered s s.4.0 below

pub give_up-requires-clause-shard : goal.give_up-requires-clause-shard
give_up-requires-clause-shard g c κs within =
    let D = g.row.V.Denot in
    let key = c.args.key.now in
    let at = c.args.at in
    let inside = c.seat.inside in
    let old = inside.badge.views in
    let k = seat_of (first_view old) in
    let me = c.enter-pass.result.me in
    let replaced = c.replace-badge.ensures.value in
    let entered : Entered D k at me = subst (λ vs. Entered D (seat_of (first_view vs)) at me) (ap (λ b. b.views) replaced) c.enter-pass.ensures.entered in
    let me' = c.is_free_for-free.new.pass.me in
    let s = c.is_free_for-free.ensures.swaps in
    may_give_up D k at _ me me' entered s s.4.0

pub invariant_of-seat : goal.invariant_of-seat
invariant_of-seat g c =
    let D = g.row.V.Denot in
    let key = c.args.key.now in
    let at = c.args.at in
    let inside = c.seat.inside in
    let old = inside.badge.views in
    let k = seat_of (first_view old) in
    let me = c.enter-pass.result.me in
    let replaced = c.replace-badge.ensures.value in
    let entered : Entered D k at me = subst (λ vs. Entered D (seat_of (first_view vs)) at me) (ap (λ b. b.views) replaced) c.enter-pass.ensures.entered in
    let me' = c.is_free_for-free.new.pass.me in
    let s = c.is_free_for-free.ensures.swaps in
    let views_are : c.give.result.views ≡ view_of (seat_after k at [] s.0.history ∷ []) ∷ [] = c.give.ensures.given ∙ ap (λ u. u ∷ []) (left_seen D k at _ me me' entered s s.4.0) in
    let table_is : c.give.result.table_id ≡ inside.badge.table_id = c.give.ensures.cache ∙ c.is_free_for-free.ensures.cache ∙ c.enter-pass.ensures.cache ∙ ap (λ b. b.table_id) replaced in
    seat_looked inside.badge.table_id c.give.result.table_id k at s.0.history inside.number inside.claims inside.fills inside.give_backs inside.drops old c.give.result.views c.seat.invariant refl table_is views_are

pub returns-then-free : goal.returns-then-free
returns-then-free g c =
    let D = g.row.V.Denot in
    let key = c.args.key.now in
    let at = c.args.at in
    let inside = c.seat.inside in
    let old = inside.badge.views in
    let k = seat_of (first_view old) in
    let me = c.enter-pass.result.me in
    let replaced = c.replace-badge.ensures.value in
    let entered : Entered D k at me = subst (λ vs. Entered D (seat_of (first_view vs)) at me) (ap (λ b. b.views) replaced) c.enter-pass.ensures.entered in
    let me' = c.is_free_for-free.new.pass.me in
    let s = c.is_free_for-free.ensures.swaps in
    let views_are : c.give.result.views ≡ view_of (seat_after k at [] s.0.history ∷ []) ∷ [] = c.give.ensures.given ∙ ap (λ u. u ∷ []) (left_seen D k at _ me me' entered s s.4.0) in
    let table_is : c.give.result.table_id ≡ inside.badge.table_id = c.give.ensures.cache ∙ c.is_free_for-free.ensures.cache ∙ c.enter-pass.ensures.cache ∙ ap (λ b. b.table_id) replaced in
    let same = ap (λ (s : Seated). s.cache) c.seat.view_is ∙ c.requires.cache in
    let at_is = in_place inside.badge.table_id c.args.self.now.table.shared.table_id k key at c.args.self.now.shards c.seat.invariant.shards_are same c.args.self.now.slots c.requires.place in
    let now_is : seat_at inside.badge.table_id (seat_after k at [] s.0.history) ≡ seated_of c.give.result.table_id c.give.result.views = λ j. seated_of (sym table_is j) (sym views_are j) in
    let free : (by : ℕ) → state_after s.0.history key ≡ held by → by ≡ k.number = λ by e. s.4.1 c.if-free.true by e ∙ sym c.seat.invariant.number_is in
    record { looked = subst (λ (x : Seated × Seated). HasWaited x.0 x.1 key) (λ j. (c.seat.view_is j, now_is j)) (looked inside.badge.table_id k at key (NoOtherHolds k.number) s.0.history (agrees_seen D k at _ me me' entered s) at_is free) }
