use mir.Syntax.{named}
use denote.Param.{param}
use denote.Param.Send.{sendable}
use denote.Ref.{NamedLft}
use Rattle.std.proofs.Common.{◌≡◌, ℕ, ◌<◌, List, ap, arith, length, subst, sym, ◌∙◌}
use Rattle.std.specs.Prelude.{All, IfOk}
use Rattle.std.specs.List.{AllZip}
use Rattle.build_crew.proofs.Seats.{idle_of, seats_idle}
use Rattle.desk_core.proofs.Finding.{back_whole}
use Rattle.desk_core.proofs.Sending.{kept_send, solo_send}
use Rattle.desk_core.proofs.Starting.{as_many, new_are_seated}
use Rattle.desk_core.specs.State.{first_state}
use Rattle.desk_core.specs.Step.{IsStep}
use Rattle.desk_read.specs.declared.command.Command.{Command}
use Rattle.many_desks.specs.Replies.{Replies}
use Rattle.many_desks.specs.Serving.{HaveServed}
use Rattle.result_cache.specs.declared.call.Call.{Call}
use Rattle.result_cache.specs.Meet.{HasMet}
use Rattle.result_cache.specs.Seats.{AreSeatsOf, IsIdle, Seated, new_seats}
use Rattle.synth_run.proofs.Counted.{served_counts}
use Rattle.synth_run.proofs.Meeting.{Builds}
use Rattle.synth_run.proofs.Sending.{table_sync}
use Rattle.synth_run.proofs.desks.answer_all.Goals as goal

pub make-requires-send-V : goal.make-requires-send-V
make-requires-send-V g c κs = search (sendable, kept_send) depth 40

pub serve-answers-requires-clause-limits : goal.serve-answers-requires-clause-limits
serve-answers-requires-clause-limits g c κs within =
    let size = ap length c.as_slice-lists.ensures.value in
    let few = c.requires.router.few in
    let desk = c.requires.router.desk in (omega (arith, size, desk.0, desk.1), omega (arith, size, few))

pub serve-answers-requires-clause-count : goal.serve-answers-requires-clause-count
serve-answers-requires-clause-count g c κs within =
    ap length c.deref_mut.ensures.value ∙ as_many _ _ _ c.in_ok-cache.field-0.seats.items c.in_ok-cache.ensures.seats

pub serve-answers-requires-clause-idle : goal.serve-answers-requires-clause-idle
serve-answers-requires-clause-idle g c κs within =
    let opened = c.in_ok-cache.field-0 in
    let cache = opened.cache.table.shared.table_id in
    let size = ap length c.as_slice-lists.ensures.value in
    let few = c.requires.router.few in
    let desk = c.requires.router.desk in
    subst (All (IsIdle cache)) (sym c.deref_mut.ensures.value)
    (seats_idle cache (length opened.seats.items) 16 0 opened.seats.items
    (new_are_seated cache (length c.as_slice-lists.result.now) 16 opened.seats.items (omega (arith, size, desk.0, desk.1)) (omega (arith, size, few)) c.in_ok-cache.ensures.seats).all)

pub serve-answers-requires-send-T-Value : goal.serve-answers-requires-send-T-Value
serve-answers-requires-send-T-Value g c κs within = search (sendable, kept_send) depth 40

pub serve-answers-requires-send-T-State : goal.serve-answers-requires-send-T-State
serve-answers-requires-send-T-State g c κs within = search (sendable, solo_send) depth 40

pub serve-answers-requires-sync-T : goal.serve-answers-requires-sync-T
serve-answers-requires-sync-T g c κs within =
    let y = c.type_bounds.sync-R in
    let a : NamedLft = record { mir = named 8; lft = κs.1.1.1.1.1.1.1.1.0 } in
    let t = (table_sync a (param 0 g.row.R) (search (sendable, y))) in record { shared = t.shared }

pub meet-requires-clause-some : goal.meet-requires-clause-some
meet-requires-clause-some g c κs within =
    let opened = c.in_ok-cache.field-0 in
    let size = ap length c.as_slice-lists.ensures.value in
    let desk = c.requires.router.desk in
    let many = as_many _ _ _ opened.seats.items c.in_ok-cache.ensures.seats in
    let lent = c.deref_mut.ensures.len in
    let first = ap length c.deref_mut.ensures.value in
    let kept = c.serve-answers.auto.seats in
    let back = ap length c.deref_mut-2.ensures.value ∙ ap length (back_whole opened.seats.len opened.seats.items c.serve-answers.new.seats (omega (arith, lent, kept))) in
    omega (arith, back, size, desk.0, desk.1, many, first, kept)

pub meet-requires-clause-cache : goal.meet-requires-clause-cache
meet-requires-clause-cache g c κs within =
    let opened = c.in_ok-cache.field-0 in
    let cache = opened.cache.table.shared.table_id in
    let lent = c.deref_mut.ensures.len in
    let kept = c.serve-answers.auto.seats in
    let back : c.deref_mut-2.result.now ≡ c.serve-answers.new.seats =
    c.deref_mut-2.ensures.value ∙ back_whole opened.seats.len opened.seats.items c.serve-answers.new.seats (omega (arith, lent, kept)) in
    subst (AreSeatsOf cache) (sym back) (idle_of cache c.serve-answers.new.seats c.serve-answers.ensures.idle)

pub meet-requires-send-V : goal.meet-requires-send-V
meet-requires-send-V g c κs within = search (sendable, kept_send) depth 40

pub returns-clause-replies : goal.returns-clause-replies
returns-clause-replies g c =
    subst (λ (lists : List (List Command)). IfOk c.serve-answers.result (λ answers. AllZip (Replies IsStep (first_state c.args.script.now)) lists answers)) c.as_slice-lists.ensures.value
    c.serve-answers.ensures.replies

pub returns-clause-builds : goal.returns-clause-builds
returns-clause-builds g c =
    let opened = c.in_ok-cache.field-0 in
    let cache = opened.cache.table.shared.table_id in
    let script = c.args.script.now in
    let lent = c.deref_mut.ensures.len in
    let kept = c.serve-answers.auto.seats in
    let back : c.deref_mut-2.result.now ≡ c.serve-answers.new.seats =
    c.deref_mut-2.ensures.value ∙ back_whole opened.seats.len opened.seats.items c.serve-answers.new.seats (omega (arith, lent, kept)) in
    let are : opened.seats.items ≡ new_seats cache (length c.args.router.now.lists.items) opened.cache.shards =
    subst (λ (shards : ℕ). opened.seats.items ≡ new_seats cache (length c.args.router.now.lists.items) shards) (sym c.in_ok-cache.ensures.shards)
    (subst (λ (lists : List (List Command)). opened.seats.items ≡ new_seats cache (length lists) 16) c.as_slice-lists.ensures.value c.in_ok-cache.ensures.seats) in
    let met : (i : ℕ) → i < opened.cache.shards → (log : List Call) × HasMet i log c.serve-answers.new.seats c.meet.new.seats =
    subst (λ (seats : List Seated). (i : ℕ) → i < opened.cache.shards → (log : List Call) × HasMet i log seats c.meet.new.seats) back c.meet.ensures.met in
    served_counts script c.args.router.now cache opened.cache.shards opened.seats.items c.serve-answers.new.seats c.meet.new.seats c.args.meter.now c.serve-answers.new.meter c.requires.router opened.cache.some.0 are c.serve-answers.ensures.idle met
    c.serve-answers.result
    (subst (λ (lists : List (List Command)). IfOk c.serve-answers.result (λ answers. AllZip (Replies IsStep (first_state script)) lists answers)) c.as_slice-lists.ensures.value c.serve-answers.ensures.replies)
    (subst (λ (lists : List (List Command)). IfOk c.serve-answers.result (λ answers. (taken : List (List ℕ)) × HaveServed IsStep Builds (first_state script) lists answers taken opened.seats.items c.serve-answers.new.seats c.args.meter.now c.serve-answers.new.meter)) c.as_slice-lists.ensures.value
    (subst (λ (seats : List Seated). IfOk c.serve-answers.result (λ answers. (taken : List (List ℕ)) × HaveServed IsStep Builds (first_state script) c.as_slice-lists.result.now answers taken seats c.serve-answers.new.seats c.args.meter.now c.serve-answers.new.meter)) c.deref_mut.ensures.value
    c.serve-answers.ensures.seats))
