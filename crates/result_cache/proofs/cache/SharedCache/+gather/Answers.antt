use Rattle.std.proofs.Common.{◌≡◌, List, [], ◌∷◌, ◌++◌, sym, ap, ◌∙◌, subst, arith}
use Rattle.atomic_table.specs.Table.{Me}
use Rattle.result_cache.specs.declared.view.Known.{Known}
use Rattle.result_cache.specs.declared.view.View.{View}
use Rattle.result_cache.specs.Stored.{Contents}
use Rattle.result_cache.specs.Shared.{view_of, seat_of, first_of, rest_of}
use Rattle.result_cache.specs.Seats.{Seated, seat_at, first_view, seated_of}
use Rattle.result_cache.specs.Meet.{Gathered}
use Rattle.result_cache.proofs.Steps.{gathers_as, parts_as}
use Rattle.result_cache.proofs.Turns.{rests, resting}
use Rattle.result_cache.proofs.Meeting.{first_is, gathered_more}
use Rattle.result_cache.proofs.cache.SharedCache.+gather.Goals as goal

pub gather_one-join_seat-requires : goal.gather_one-join_seat-requires
gather_one-join_seat-requires g t c =
    let D = g.row.V.Denot in
    let cache = c.args.self.now in
    let key = cache.table.shared.key in
    let inside = c.seat.inside in
    let old = inside.badge.views in
    let k = seat_of (first_view old) in
    let other = c.into_seat.result in
    let replaced = c.replace-badge.ensures.value in
    let r = rests D old c.replace-badge.result.views other.me c.seat.invariant.view_is (ap (λ b. b.views) replaced) c.into_seat.ensures.2 c.into_seat.ensures.3 in (
      c.requires.cache,
      c.into_seat.ensures.0 ∙ ap (λ b. b.table_id) replaced ∙ ap (λ (s : Seated). s.cache) c.seat.view_is ∙ c.requires.seat,
      c.into_seat.ensures.3,
      (let w = cache.words in let s = cache.some.0 in omega arith),
      gathers_as D key.0 key.1 c.args.pass.now.id c.args.pass.now.me.0 other.id other.me.0 (ap (λ (m : Me (Contents D) View). m.0) c.requires.view) (ap (λ (m : Me (Contents D) View). m.0) (resting D k other.me r)),
    )

pub gather_one-split_seat-own-requires : goal.gather_one-split_seat-own-requires
gather_one-split_seat-own-requires g t c =
    let D = g.row.V.Denot in
    let cache = c.args.self.now in
    let key = cache.table.shared.key in
    let inside = c.seat.inside in
    let old = inside.badge.views in
    let k = seat_of (first_view old) in
    let other = c.into_seat.result in
    let replaced = c.replace-badge.ensures.value in
    let r = rests D old c.replace-badge.result.views other.me c.seat.invariant.view_is (ap (λ b. b.views) replaced) c.into_seat.ensures.2 c.into_seat.ensures.3 in
    let ks = c.args.pass.now.me.0.seats in
    let v = c.gather.new.pass.me.0 in
    let news = v.seats in
    let ss = c.args.others.now in
    let ss' = c.gather.new.seats in
    let n = cache.shards in
    let joined : c.join_seat.new.seat.me.0.seats ≡ k ∷ ks = ap (λ (m : Me (Contents D) View). m.0.seats) c.join_seat.ensures.2 ∙ (λ j. (r.is j).0.seats ++ ks) in
    let h : Gathered n (k ∷ ks) news ss ss' = subst (λ xs. Gathered n xs news ss ss') joined c.gather.ensures.gathered in (
      c.gather.ensures.cache ∙ c.join_seat.ensures.0 ∙ c.requires.cache,
      (let w = cache.words in let s = cache.some.0 in omega arith),
      parts_as D key.0 key.1 c.gather.new.pass.id v (ap (λ (m : Me (Contents D) View). m.0) c.gather.ensures.view ∙ ap view_of (first_is n k ks news ss ss' h)),
    )

pub gather_one-returns-clause-gathered : goal.gather_one-returns-clause-gathered
gather_one-returns-clause-gathered g t c =
    let D = g.row.V.Denot in
    let cache = c.args.self.now in
    let key = cache.table.shared.key in
    let inside = c.seat.inside in
    let old = inside.badge.views in
    let k = seat_of (first_view old) in
    let other = c.into_seat.result in
    let replaced = c.replace-badge.ensures.value in
    let r = rests D old c.replace-badge.result.views other.me c.seat.invariant.view_is (ap (λ b. b.views) replaced) c.into_seat.ensures.2 c.into_seat.ensures.3 in
    let ks = c.args.pass.now.me.0.seats in
    let v = c.gather.new.pass.me.0 in
    let news = v.seats in
    let ss = c.args.others.now in
    let ss' = c.gather.new.seats in
    let n = cache.shards in
    let joined : c.join_seat.new.seat.me.0.seats ≡ k ∷ ks = ap (λ (m : Me (Contents D) View). m.0.seats) c.join_seat.ensures.2 ∙ (λ j. (r.is j).0.seats ++ ks) in
    let h : Gathered n (k ∷ ks) news ss ss' = subst (λ xs. Gathered n xs news ss ss') joined c.gather.ensures.gathered in
    let table' = c.into_badge.result.table_id in
    let same : table' ≡ inside.badge.table_id = c.into_badge.ensures.0 ∙ c.split_seat-own.ensures.3 ∙ c.gather.ensures.cache ∙ c.join_seat.ensures.0 ∙ c.requires.cache ∙ sym c.requires.seat ∙ sym (ap (λ (s : Seated). s.cache) c.seat.view_is) in
    let left_is : c.split_seat-own.new.seat.me.0.seats ≡ rest_of news = ap (λ (m : Me (Contents D) View). m.0.seats) c.split_seat-own.ensures.2 in
    let own_is : seated_of table' c.into_badge.result.views ≡ seat_at table' (first_of news) = ap (seated_of table') (c.into_badge.ensures.2 ∙ ap (λ (m : Me (Contents D) View). m.0 ∷ []) c.split_seat-own.ensures.4) in
    subst (λ (x : List Known × Seated × Seated). Gathered n ks x.0 (x.1 ∷ ss) (x.2 ∷ ss')) (λ j. (sym left_is j, c.seat.view_is j, sym own_is j)) (gathered_more n inside.badge.table_id table' k ks news ss ss' same h)
