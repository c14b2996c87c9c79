use Rattle.std.proofs.Common.{◌≡◌, ◌<◌, [], ◌∷◌, refl, sym, ap, ◌∙◌, subst, arith}
use Rattle.result_cache.specs.declared.call.Act.TheVariants.{Forget}
use Rattle.result_cache.specs.Shared.{Entered, seat_of, seat_after, view_of}
use Rattle.result_cache.specs.Seats.{Seated, seat_at, first_view, seated_of, HasLooked, Made}
use Rattle.result_cache.proofs.Turns.{dropped, holds_some, may_give, may_give_seen, left, left_seen, agrees_seen, seat_made, seat_looked, looked, made, after_call, in_place, stays_same, stays_seen}
use Rattle.result_cache.proofs.cache.SharedCache.forget.Goals as goal

pub forget_under-answer-requires-clause-shard : goal.forget_under-answer-requires-clause-shard
forget_under-answer-requires-clause-shard g c κs within =
    let D = g.row.V.Denot in
    let key = c.args.key.now in
    let at = c.place_of-place.result in
    let inside = c.seat.inside in
    let old = inside.badge.views in
    let k = seat_of (first_view old) in
    let me = c.enter-pass.result.me in
    let replaced = c.replace-badge.ensures.value in
    let entered : Entered D k at me = subst (λ vs. Entered D (seat_of (first_view vs)) at me) (ap (λ b. b.views) replaced) c.enter-pass.ensures.entered in
    holds_some D k at me entered

pub give-requires-clause-shard : goal.give-requires-clause-shard
give-requires-clause-shard g c κs within =
    let D = g.row.V.Denot in
    let key = c.args.key.now in
    let at = c.place_of-place.result in
    let inside = c.seat.inside in
    let old = inside.badge.views in
    let k = seat_of (first_view old) in
    let me = c.enter-pass.result.me in
    let replaced = c.replace-badge.ensures.value in
    let entered : Entered D k at me = subst (λ vs. Entered D (seat_of (first_view vs)) at me) (ap (λ b. b.views) replaced) c.enter-pass.ensures.entered in
    let same = ap (λ (s : Seated). s.cache) c.seat.view_is ∙ c.requires.cache in
    let at_is = in_place inside.badge.table_id c.args.self.now.table.shared.table_id k key at c.args.self.now.shards c.seat.invariant.shards_are same c.args.self.now.slots c.place_of-place.ensures.place in
    let below : k.number < k.callers = let e = c.seat.invariant.number_is in let b = c.seat.invariant.below in omega arith in
    let me' = c.forget_under-answer.new.pass.me in
    let s = c.in-Dropped.ensures.swaps in
    let one = dropped D k at key inside.number s.4.0.0 _ me me' entered c.seat.invariant.number_is s s.4.0.3 s.4.0.1 in
    may_give D k at key (Forget s.4.0.0) me' one at_is below

pub give-requires-in_default-clause-shard : goal.give-requires-in_default-clause-shard
give-requires-in_default-clause-shard g c κs within =
    let D = g.row.V.Denot in
    let key = c.args.key.now in
    let at = c.place_of-place.result in
    let inside = c.seat.inside in
    let old = inside.badge.views in
    let k = seat_of (first_view old) in
    let me = c.enter-pass.result.me in
    let replaced = c.replace-badge.ensures.value in
    let entered : Entered D k at me = subst (λ vs. Entered D (seat_of (first_view vs)) at me) (ap (λ b. b.views) replaced) c.enter-pass.ensures.entered in
    let same = ap (λ (s : Seated). s.cache) c.seat.view_is ∙ c.requires.cache in
    let at_is = in_place inside.badge.table_id c.args.self.now.table.shared.table_id k key at c.args.self.now.shards c.seat.invariant.shards_are same c.args.self.now.slots c.place_of-place.ensures.place in
    let below : k.number < k.callers = let e = c.seat.invariant.number_is in let b = c.seat.invariant.below in omega arith in
    let me' = c.forget_under-answer.new.pass.me in
    let s = c.forget_under-answer.ensures.swaps in
    let answer = c.forget_under-answer.result in
    let same_shard : s.1 ≡ s.0 = stays_same s.0 s.1 inside.number key answer c.in_default.not-Dropped s.4.0 in
    may_give_seen D k at _ me me' entered s same_shard below

pub invariant_of-seat : goal.invariant_of-seat
invariant_of-seat g c =
    let D = g.row.V.Denot in
    let key = c.args.key.now in
    let at = c.place_of-place.result in
    let inside = c.seat.inside in
    let old = inside.badge.views in
    let k = seat_of (first_view old) in
    let me = c.enter-pass.result.me in
    let replaced = c.replace-badge.ensures.value in
    let entered : Entered D k at me = subst (λ vs. Entered D (seat_of (first_view vs)) at me) (ap (λ b. b.views) replaced) c.enter-pass.ensures.entered in
    let same = ap (λ (s : Seated). s.cache) c.seat.view_is ∙ c.requires.cache in
    let at_is = in_place inside.badge.table_id c.args.self.now.table.shared.table_id k key at c.args.self.now.shards c.seat.invariant.shards_are same c.args.self.now.slots c.place_of-place.ensures.place in
    let below : k.number < k.callers = let e = c.seat.invariant.number_is in let b = c.seat.invariant.below in omega arith in
    let me' = c.forget_under-answer.new.pass.me in
    let s = c.in-Dropped.ensures.swaps in
    let one = dropped D k at key inside.number s.4.0.0 _ me me' entered c.seat.invariant.number_is s s.4.0.3 s.4.0.1 in
    let views_are : c.give.result.views ≡ view_of (after_call D k at key (Forget s.4.0.0) one.z ∷ []) ∷ [] = c.give.ensures.given ∙ ap (λ u. u ∷ []) (left D k at key (Forget s.4.0.0) me' one) in
    let table_is : c.give.result.table_id ≡ inside.badge.table_id = c.give.ensures.cache ∙ c.forget_under-answer.ensures.cache ∙ c.enter-pass.ensures.cache ∙ ap (λ b. b.table_id) replaced in
    seat_made D inside.badge.table_id c.give.result.table_id k at key (Forget s.4.0.0) one.z inside.number inside.claims inside.fills inside.give_backs inside.drops inside.claims inside.fills inside.give_backs c.saturating_add-seat-inside.result old c.give.result.views
    c.seat.invariant refl table_is views_are
    (let f = c.seat.invariant.claims_are in omega arith)
    (let f = c.seat.invariant.fills_are in omega arith)
    (let f = c.seat.invariant.give_backs_are in omega arith)
    c.saturating_add-seat-inside.ensures

pub invariant_of-seat-in_default : goal.invariant_of-seat-in_default
invariant_of-seat-in_default g c =
    let D = g.row.V.Denot in
    let key = c.args.key.now in
    let at = c.place_of-place.result in
    let inside = c.seat.inside in
    let old = inside.badge.views in
    let k = seat_of (first_view old) in
    let me = c.enter-pass.result.me in
    let replaced = c.replace-badge.ensures.value in
    let entered : Entered D k at me = subst (λ vs. Entered D (seat_of (first_view vs)) at me) (ap (λ b. b.views) replaced) c.enter-pass.ensures.entered in
    let same = ap (λ (s : Seated). s.cache) c.seat.view_is ∙ c.requires.cache in
    let at_is = in_place inside.badge.table_id c.args.self.now.table.shared.table_id k key at c.args.self.now.shards c.seat.invariant.shards_are same c.args.self.now.slots c.place_of-place.ensures.place in
    let below : k.number < k.callers = let e = c.seat.invariant.number_is in let b = c.seat.invariant.below in omega arith in
    let me' = c.forget_under-answer.new.pass.me in
    let s = c.forget_under-answer.ensures.swaps in
    let answer = c.forget_under-answer.result in
    let same_shard : s.1 ≡ s.0 = stays_same s.0 s.1 inside.number key answer c.in_default.not-Dropped s.4.0 in
    let views_are : c.give-in_default.result.views ≡ view_of (seat_after k at [] s.0.history ∷ []) ∷ [] = c.give-in_default.ensures.given ∙ ap (λ u. u ∷ []) (left_seen D k at _ me me' entered s same_shard) in
    let table_is : c.give-in_default.result.table_id ≡ inside.badge.table_id = c.give-in_default.ensures.cache ∙ c.forget_under-answer.ensures.cache ∙ c.enter-pass.ensures.cache ∙ ap (λ b. b.table_id) replaced in
    seat_looked inside.badge.table_id c.give-in_default.result.table_id k at s.0.history inside.number inside.claims inside.fills inside.give_backs inside.drops old c.give-in_default.result.views c.seat.invariant refl table_is views_are

pub returns-in-Dropped : goal.returns-in-Dropped
returns-in-Dropped g c =
    let D = g.row.V.Denot in
    let key = c.args.key.now in
    let at = c.place_of-place.result in
    let inside = c.seat.inside in
    let old = inside.badge.views in
    let k = seat_of (first_view old) in
    let me = c.enter-pass.result.me in
    let replaced = c.replace-badge.ensures.value in
    let entered : Entered D k at me = subst (λ vs. Entered D (seat_of (first_view vs)) at me) (ap (λ b. b.views) replaced) c.enter-pass.ensures.entered in
    let same = ap (λ (s : Seated). s.cache) c.seat.view_is ∙ c.requires.cache in
    let at_is = in_place inside.badge.table_id c.args.self.now.table.shared.table_id k key at c.args.self.now.shards c.seat.invariant.shards_are same c.args.self.now.slots c.place_of-place.ensures.place in
    let below : k.number < k.callers = let e = c.seat.invariant.number_is in let b = c.seat.invariant.below in omega arith in
    let me' = c.forget_under-answer.new.pass.me in
    let s = c.in-Dropped.ensures.swaps in
    let one = dropped D k at key inside.number s.4.0.0 _ me me' entered c.seat.invariant.number_is s s.4.0.3 s.4.0.1 in
    let views_are : c.give.result.views ≡ view_of (after_call D k at key (Forget s.4.0.0) one.z ∷ []) ∷ [] = c.give.ensures.given ∙ ap (λ u. u ∷ []) (left D k at key (Forget s.4.0.0) me' one) in
    let table_is : c.give.result.table_id ≡ inside.badge.table_id = c.give.ensures.cache ∙ c.forget_under-answer.ensures.cache ∙ c.enter-pass.ensures.cache ∙ ap (λ b. b.table_id) replaced in
    let now_is : seat_at inside.badge.table_id (after_call D k at key (Forget s.4.0.0) one.z) ≡ seated_of c.give.result.table_id c.give.result.views = λ j. seated_of (sym table_is j) (sym views_are j) in
    record { forgot = (s.4.1, (s.4.0.0, subst (λ (x : Seated × Seated). Made x.0 x.1 key (Forget s.4.0.0)) (λ j. (c.seat.view_is j, now_is j)) (made D inside.badge.table_id k at key (Forget s.4.0.0) me' one at_is below))) }

pub returns-in_default : goal.returns-in_default
returns-in_default g c =
    let D = g.row.V.Denot in
    let key = c.args.key.now in
    let at = c.place_of-place.result in
    let inside = c.seat.inside in
    let old = inside.badge.views in
    let k = seat_of (first_view old) in
    let me = c.enter-pass.result.me in
    let replaced = c.replace-badge.ensures.value in
    let entered : Entered D k at me = subst (λ vs. Entered D (seat_of (first_view vs)) at me) (ap (λ b. b.views) replaced) c.enter-pass.ensures.entered in
    let same = ap (λ (s : Seated). s.cache) c.seat.view_is ∙ c.requires.cache in
    let at_is = in_place inside.badge.table_id c.args.self.now.table.shared.table_id k key at c.args.self.now.shards c.seat.invariant.shards_are same c.args.self.now.slots c.place_of-place.ensures.place in
    let below : k.number < k.callers = let e = c.seat.invariant.number_is in let b = c.seat.invariant.below in omega arith in
    let me' = c.forget_under-answer.new.pass.me in
    let s = c.forget_under-answer.ensures.swaps in
    let answer = c.forget_under-answer.result in
    let same_shard : s.1 ≡ s.0 = stays_same s.0 s.1 inside.number key answer c.in_default.not-Dropped s.4.0 in
    let views_are : c.give-in_default.result.views ≡ view_of (seat_after k at [] s.0.history ∷ []) ∷ [] = c.give-in_default.ensures.given ∙ ap (λ u. u ∷ []) (left_seen D k at _ me me' entered s same_shard) in
    let table_is : c.give-in_default.result.table_id ≡ inside.badge.table_id = c.give-in_default.ensures.cache ∙ c.forget_under-answer.ensures.cache ∙ c.enter-pass.ensures.cache ∙ ap (λ b. b.table_id) replaced in
    let now_is : seat_at inside.badge.table_id (seat_after k at [] s.0.history) ≡ seated_of c.give-in_default.result.table_id c.give-in_default.result.views = λ j. seated_of (sym table_is j) (sym views_are j) in
    record {
      forgot = stays_seen g.V.Keyed.stands_for s.0 s.1 inside.number key answer _ _ c.in_default.not-Dropped s.4.0
          (λ P holds. subst (λ (x : Seated × Seated). HasLooked x.0 x.1 key P) (λ j. (c.seat.view_is j, now_is j)) (looked inside.badge.table_id k at key P s.0.history (agrees_seen D k at _ me me' entered s) at_is holds));
    }
