use Rattle.std.proofs.Common.{◌≡◌, ◌+◌, ◌<◌, [], ◌∷◌, false, refl, sym, ap, ◌∙◌, subst, arith}
use Rattle.result_cache.specs.Tickets.{has_ticket}
use Rattle.result_cache.specs.Shared.{Entered, seat_of, view_of}
use Rattle.result_cache.specs.Seats.{Seated, seat_at, first_view, seated_of, capped, Made}
use Rattle.result_cache.proofs.Turns.{claimed, holds_other, may_give, left, seat_made, in_place, made, after_call}
use Rattle.result_cache.proofs.cache.SharedCache.claim.Goals as goal

pub claim_under-reply-requires-clause-shard : goal.claim_under-reply-requires-clause-shard
claim_under-reply-requires-clause-shard g c κs within =
    let D = g.row.V.Denot in
    let key = c.args.key.now in
    let at = c.place_of-at.result in
    let old = c.seat.inside.badge.views in
    let k = seat_of (first_view old) in
    let me = c.enter-pass.result.me in
    let entered : Entered D k at me = subst (λ vs. Entered D (seat_of (first_view vs)) at me) (ap (λ b. b.views) c.replace-badge.ensures.value) c.enter-pass.ensures.entered in
    let same = ap (λ (s : Seated). s.cache) c.seat.view_is ∙ c.requires.cache in
    let at_is = in_place c.seat.inside.badge.table_id c.args.self.now.table.shared.table_id k key at c.args.self.now.shards c.seat.invariant.shards_are same c.args.self.now.slots c.place_of-at.ensures.place in
    let no_ticket : has_ticket k.calls key ≡ false = ap (λ (s : Seated). has_ticket s.calls key) c.seat.view_is ∙ c.requires.holds_no_ticket in
    holds_other D k at key c.seat.inside.number me entered c.seat.invariant.number_is at_is no_ticket

pub give-requires-clause-shard : goal.give-requires-clause-shard
give-requires-clause-shard g c κs within =
    let D = g.row.V.Denot in
    let key = c.args.key.now in
    let at = c.place_of-at.result in
    let old = c.seat.inside.badge.views in
    let k = seat_of (first_view old) in
    let me = c.enter-pass.result.me in
    let me' = c.claim_under-reply.new.pass.me in
    let entered : Entered D k at me = subst (λ vs. Entered D (seat_of (first_view vs)) at me) (ap (λ b. b.views) c.replace-badge.ensures.value) c.enter-pass.ensures.entered in
    let same = ap (λ (s : Seated). s.cache) c.seat.view_is ∙ c.requires.cache in
    let at_is = in_place c.seat.inside.badge.table_id c.args.self.now.table.shared.table_id k key at c.args.self.now.shards c.seat.invariant.shards_are same c.args.self.now.slots c.place_of-at.ensures.place in
    let no_ticket : has_ticket k.calls key ≡ false = ap (λ (s : Seated). has_ticket s.calls key) c.seat.view_is ∙ c.requires.holds_no_ticket in
    let below : k.number < k.callers = let e = c.seat.invariant.number_is in let b = c.seat.invariant.below in omega arith in
    let s = c.in-Ok.ensures.swaps in
    let a = claimed D g.V.Keyed.stands_for k at key c.seat.inside.number c.in-Ok.claim _ me me' entered c.seat.invariant.number_is at_is no_ticket s s.4.0 s.4.1 in
    may_give D k at key a.act me' a.one at_is below

pub invariant_of-seat : goal.invariant_of-seat
invariant_of-seat g c =
    let D = g.row.V.Denot in
    let key = c.args.key.now in
    let at = c.place_of-at.result in
    let inside = c.seat.inside in
    let old = inside.badge.views in
    let k = seat_of (first_view old) in
    let me = c.enter-pass.result.me in
    let me' = c.claim_under-reply.new.pass.me in
    let replaced = c.replace-badge.ensures.value in
    let entered : Entered D k at me = subst (λ vs. Entered D (seat_of (first_view vs)) at me) (ap (λ b. b.views) replaced) c.enter-pass.ensures.entered in
    let same = ap (λ (s : Seated). s.cache) c.seat.view_is ∙ c.requires.cache in
    let at_is = in_place inside.badge.table_id c.args.self.now.table.shared.table_id k key at c.args.self.now.shards c.seat.invariant.shards_are same c.args.self.now.slots c.place_of-at.ensures.place in
    let no_ticket : has_ticket k.calls key ≡ false = ap (λ (s : Seated). has_ticket s.calls key) c.seat.view_is ∙ c.requires.holds_no_ticket in
    let s = c.in-Ok.ensures.swaps in
    let a = claimed D g.V.Keyed.stands_for k at key inside.number c.in-Ok.claim _ me me' entered c.seat.invariant.number_is at_is no_ticket s s.4.0 s.4.1 in
    let views_are : c.give.result.views ≡ view_of (after_call D k at key a.act a.one.z ∷ []) ∷ [] = c.give.ensures.given ∙ ap (λ u. u ∷ []) (left D k at key a.act me' a.one) in
    let table_is : c.give.result.table_id ≡ inside.badge.table_id = c.give.ensures.cache ∙ c.in-Ok.ensures.cache ∙ c.enter-pass.ensures.cache ∙ ap (λ b. b.table_id) replaced in
    seat_made D inside.badge.table_id c.give.result.table_id k at key a.act a.one.z inside.number inside.claims inside.fills inside.give_backs inside.drops c.saturating_add-seat-inside.result inside.fills inside.give_backs inside.drops old c.give.result.views
    c.seat.invariant refl table_is views_are
    (c.saturating_add-seat-inside.ensures ∙ ap (λ m. capped (inside.claims + m)) (sym a.a_claim))
    (let e = a.no_fill in let f = c.seat.invariant.fills_are in omega arith)
    (let e = a.no_return in let f = c.seat.invariant.give_backs_are in omega arith)
    (let e = a.no_drop in let f = c.seat.invariant.drops_are in omega arith)

pub returns-in-Ok-clause-ok : goal.returns-in-Ok-clause-ok
returns-in-Ok-clause-ok g c =
    let D = g.row.V.Denot in
    let key = c.args.key.now in
    let at = c.place_of-at.result in
    let inside = c.seat.inside in
    let old = inside.badge.views in
    let k = seat_of (first_view old) in
    let me = c.enter-pass.result.me in
    let me' = c.claim_under-reply.new.pass.me in
    let replaced = c.replace-badge.ensures.value in
    let entered : Entered D k at me = subst (λ vs. Entered D (seat_of (first_view vs)) at me) (ap (λ b. b.views) replaced) c.enter-pass.ensures.entered in
    let same = ap (λ (s : Seated). s.cache) c.seat.view_is ∙ c.requires.cache in
    let at_is = in_place inside.badge.table_id c.args.self.now.table.shared.table_id k key at c.args.self.now.shards c.seat.invariant.shards_are same c.args.self.now.slots c.place_of-at.ensures.place in
    let no_ticket : has_ticket k.calls key ≡ false = ap (λ (s : Seated). has_ticket s.calls key) c.seat.view_is ∙ c.requires.holds_no_ticket in
    let below : k.number < k.callers = let e = c.seat.invariant.number_is in let b = c.seat.invariant.below in omega arith in
    let s = c.in-Ok.ensures.swaps in
    let a = claimed D g.V.Keyed.stands_for k at key inside.number c.in-Ok.claim _ me me' entered c.seat.invariant.number_is at_is no_ticket s s.4.0 s.4.1 in
    let views_are : c.give.result.views ≡ view_of (after_call D k at key a.act a.one.z ∷ []) ∷ [] = c.give.ensures.given ∙ ap (λ u. u ∷ []) (left D k at key a.act me' a.one) in
    let table_is : c.give.result.table_id ≡ inside.badge.table_id = c.give.ensures.cache ∙ c.in-Ok.ensures.cache ∙ c.enter-pass.ensures.cache ∙ ap (λ b. b.table_id) replaced in
    let now_is : seat_at inside.badge.table_id (after_call D k at key a.act a.one.z) ≡ seated_of c.give.result.table_id c.give.result.views = λ j. seated_of (sym table_is j) (sym views_are j) in
    a.means _ _ (ap (λ (x : Seated). x.number) (sym c.seat.view_is)) (subst (λ (x : Seated × Seated). Made x.0 x.1 key a.act) (λ j. (c.seat.view_is j, now_is j)) (made D inside.badge.table_id k at key a.act me' a.one at_is below))
