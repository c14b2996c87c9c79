use Rattle.std.proofs.Common.{◌∙◌, Bor, ap, map, subst}
use Rattle.std.specs.Prelude.{option_map}
use Rattle.rtl_ir.specs.declared.process.Event.{Event}
use Rattle.rtl_ir.specs.Flat.Access.{rule_accesses}
use Rattle.net_model.specs.Mem.Gather.{write_port}
use Rattle.flat_net.specs.Accesses.{event_of, next_of, rules_of}
use Rattle.flat_net.specs.Memories.{AreRemembered, planned_rows}
use Rattle.flat_net.proofs.Adding.{Adds-part}
use Rattle.flat_net.proofs.Wording.{planned_same, remembered_part}
use Rattle.flat_net.proofs.builder.Builder.add_words.Goals as goal

pub returns-clause-rows : goal.returns-clause-rows
returns-clause-rows c = λ p path is.
    let m = c.args.body.now in
    let s = c.args.store.now in
    let plan = c.args.plan.now in
    let lines = c.in_ok-lines.lines.items in
    let event = option_map (λ (e : Bor Event). e.now) c.first_event-event.result in
    let name = c.as_slice-name.ensures.value in
    let processes = c.as_slice-processes.ensures.value in
    let number = c.in_ok-number.ensures.value ∙ ap next_of c.as_slice.ensures.value in
    let made = c.in_ok-lines.ensures.value ∙ (λ i. map write_port (rule_accesses (name i) (number i) (rules_of (processes i)))) in
    let first = c.first_event-event.ensures.value ∙ (λ i. event_of (name i) (rules_of (processes i))) in
    let wires = c.args.scope.now.wires.now in
    let same = (λ i. planned_rows p wires s plan (c.as_slice-2.ensures.value i) event) ∙ planned_same p wires m s plan lines event is made first in
    let words = subst (AreRemembered c.remembered.new.self.places c.in_ok-words.words) same (c.in_ok-words.ensures.value p path) in
    let part = remembered_part _ c.in_ok-new.field-0 _ _ c.in_ok-new.ensures.ok words in
    Adds-part _ _ _ _ c.in_ok-words.ensures.grows c.in_ok-push.ensures.items part.0 part.1
