use Rattle.std.proofs.Common.{◌≡◌, List, [], ◌∷◌, sym, ap, ◌∙◌, subst}
use Rattle.atomic_table.specs.Table.{Me}
use Rattle.result_cache.specs.declared.call.Call.{Call}
use Rattle.result_cache.specs.declared.view.View.{View}
use Rattle.result_cache.specs.Stored.{Contents}
use Rattle.result_cache.specs.Shared.{seat_of, first_of}
use Rattle.result_cache.specs.Seats.{Seated, seat_at, first_view, seated_of}
use Rattle.result_cache.specs.Meet.{Gathered, HasMet}
use Rattle.result_cache.proofs.Turns.{rests}
use Rattle.result_cache.proofs.Meeting.{all_meet}
use Rattle.result_cache.proofs.cache.SharedCache.meet.Goals as goal

pub returns-in-Some : goal.returns-in-Some
returns-in-Some g c =
    let D = g.row.V.Denot in
    let inside = c.first.inside in
    let k = seat_of (first_view inside.badge.views) in
    let replaced = c.replace-badge.ensures.value in
    let pass = c.into_seat-pass.result in
    let r = rests D inside.badge.views c.replace-badge.result.views pass.me c.first.invariant.view_is (ap (λ b. b.views) replaced) c.into_seat-pass.ensures.2 c.into_seat-pass.ensures.3 in
    let n = c.args.self.now.shards in
    let news = c.gather.new.pass.me.0.seats in
    let ss = c.in-Some.others.now in
    let ss' = c.gather.new.seats in
    let h : Gathered n (k ∷ []) news ss ss' = subst (λ (m : Me (Contents D) View). Gathered n m.0.seats news ss ss') r.is c.gather.ensures.gathered in
    let table' = c.into_badge.result.table_id in
    let same : table' ≡ inside.badge.table_id = c.into_badge.ensures.0 ∙ c.gather.ensures.cache ∙ c.into_seat-pass.ensures.0 ∙ ap (λ b. b.table_id) replaced in
    let own_is : seated_of table' c.into_badge.result.views ≡ seat_at table' (first_of news) = ap (seated_of table') c.into_badge.ensures.2 in
    let olds_are : seat_at inside.badge.table_id k ∷ ss ≡ c.args.seats.now = (λ j. c.first.view_is j ∷ ss) ∙ sym c.in-Some.ensures.cases.0 in
    record {
      met = λ i l. subst (λ (x : List Seated × Seated). (log : List Call) × HasMet i log x.0 (x.1 ∷ ss')) (λ j. (olds_are j, sym own_is j)) (all_meet n inside.badge.table_id table' k news ss ss' same h i l);
    }
