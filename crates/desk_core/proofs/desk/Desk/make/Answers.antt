use denote.Param.Send.{sendable}
use Rattle.std.proofs.Common.{ℕ, sym, subst}
use Rattle.desk_core.specs.declared.results.Results.{Results}
use Rattle.desk_core.specs.Results.{AreSeated}
use Rattle.desk_core.proofs.Sending.{kept_send}
use Rattle.desk_core.proofs.Starting.{as_many, new_are_seated, sound_first, state_first}
use Rattle.desk_core.proofs.desk.Desk.make.Goals as goal

pub make-requires-send-V : goal.make-requires-send-V
make-requires-send-V c κs = search (sendable, kept_send)

pub invariant_of-result : goal.invariant_of-result
invariant_of-result c =
    let opened = c.in_ok-cache.field-0 in
    let cache = opened.cache.table.shared.table_id in
    let results : Results = record { cache = opened.cache; seats = opened.seats; ages = c.make-2.result; found = c.new.result } in
    let seated : AreSeated cache 16 opened.seats.items = new_are_seated cache c.args.workers 16 opened.seats.items c.requires.some c.requires.few c.in_ok-cache.ensures.seats in
    sound_first c.make-3.result.design.design c.make-3.result.script results c.make-3.ensures.design
    (subst (λ (n : ℕ). AreSeated cache n opened.seats.items) (sym c.in_ok-cache.ensures.shards) seated) c.new.ensures.items c.make-2.ensures.keys c.make-2.ensures.ages

pub returns-clause-value : goal.returns-clause-value
returns-clause-value c =
    let opened = c.in_ok-cache.field-0 in
    let results : Results = record { cache = opened.cache; seats = opened.seats; ages = c.make-2.result; found = c.new.result } in
    state_first c.make-3.result.design.design c.make-3.result.script c.args.script results c.make-3.ensures.design c.make-3.ensures.script c.make-2.ensures.keys

pub returns-clause-workers : goal.returns-clause-workers
returns-clause-workers c =
    let opened = c.in_ok-cache.field-0 in as_many opened.cache.table.shared.table_id c.args.workers 16 opened.seats.items c.in_ok-cache.ensures.seats
