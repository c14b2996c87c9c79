-- The module in the code, from its steps.
use Rattle.std.proofs.Common.{rules, ◌≡◌, ◌∙◌, ℕ, List, length, map, Some, sym, ap, refl, subst}
use Rattle.std.specs.Prelude.{option_map, slice_get}
use Rattle.cell_types.specs.declared.pin_name.PinName.TheVariants.{Y}
use Rattle.rtl_ir.specs.declared.cell.Cell.{Cell}
use Rattle.rtl_ir.specs.declared.module.Module.{Module}
use Rattle.rtl_ir.specs.Types.{Ports, table_ports}
use Rattle.net_model.specs.Fsm.Code.{Coding as Codes, coded_cells}
use Rattle.net_model.specs.Fsm.Find.{at_pin}
use Rattle.fsm_code.specs.Links.{with_cells}
use Rattle.fsm_code.specs.Outputs.{outputs_of}
use Rattle.fsm_code.specs.Places.{AreMarks, ArePlaces}
use Rattle.fsm_code.proofs.Recoding.{over_code, over_outputs, recoded_is, same_cells, within_all}
use Rattle.fsm_code.proofs.recoded.Goals as goal

pub returns-in_err-code-clause-over : goal.returns-in_err-code-clause-over
returns-in_err-code-clause-over c e =
    let named : map (λ at. option_map (λ (c : Cell). at_pin c Y) (slice_get c.args.module.cells at)) c.args.machine.now.muxes ≡ map Some c.in_ok-old.old.items = (λ i. map (λ at. option_map (λ (c : Cell). at_pin c Y) (slice_get (sym c.as_slice.ensures.value i) at)) (sym c.as_slice-2.ensures.value i)) ∙ c.in_ok-old.ensures.value in
    over_code c.args.module c.args.machine.now c.in_ok-old.old.items named c.as_slice-states.result.now c.as_slice-states.ensures.value c.in_ok-builder.builder c.in_ok-builder.ensures.value
    (search (rules, c.code_wire.ensures.over, e, c.from_residual-in_err-code.ensures))

pub returns-in_err-outputs-clause-over : goal.returns-in_err-outputs-clause-over
returns-in_err-outputs-clause-over c e =
    let named : map (λ at. option_map (λ (c : Cell). at_pin c Y) (slice_get c.args.module.cells at)) c.args.machine.now.muxes ≡ map Some c.in_ok-old.old.items = (λ i. map (λ at. option_map (λ (c : Cell). at_pin c Y) (slice_get (sym c.as_slice.ensures.value i) at)) (sym c.as_slice-2.ensures.value i)) ∙ c.in_ok-old.ensures.value in
    over_outputs c.args.module c.args.machine.now c.in_ok-old.old.items named c.as_slice-states.result.now c.as_slice-states.ensures.value c.in_ok-builder.builder c.in_ok-builder.ensures.value
    c.in_ok-code.code c.code_wire.new.builder c.in_ok-code.ensures.exact
    (search (rules, c.fresh_outputs.ensures.over, e, c.from_residual-in_err-outputs.ensures))

pub returns-clause-exact : goal.returns-clause-exact
returns-clause-exact c =
    let ports : Ports = table_ports c.args.ports.now.modules in
    let coding : Codes = record { states = c.as_slice-states.result.now; state = c.args.state; code = c.in_ok-code.code; outputs = outputs_of c.in_ok-outputs.outputs } in
    let places : ArePlaces (length c.args.module.cells) c.args.machine.now (record { flop = c.args.machine.now.flop; forks = c.in_ok-forks.forks; compares = c.in_ok-compares.compares }) = record {
      flop = refl;
      forks = subst (λ (z : ℕ × List ℕ). AreMarks z.0 z.1 c.in_ok-forks.forks.items) (λ i. (length (c.as_slice-count.ensures.value i), c.as_slice-3.ensures.value i)) c.in_ok-forks.ensures.value;
      compares = subst (λ (z : ℕ × List ℕ). AreMarks z.0 z.1 c.in_ok-compares.compares.items) (λ i. (length (c.as_slice-count.ensures.value i), c.as_slice-4.ensures.value i)) c.in_ok-compares.ensures.value;
    } in
    let named : map (λ at. option_map (λ (c : Cell). at_pin c Y) (slice_get c.args.module.cells at)) c.args.machine.now.muxes ≡ map Some c.in_ok-old.old.items = (λ i. map (λ at. option_map (λ (c : Cell). at_pin c Y) (slice_get (sym c.as_slice.ensures.value i) at)) (sym c.as_slice-2.ensures.value i)) ∙ c.in_ok-old.ensures.value in
    recoded_is c.args.module c.args.machine.now c.in_ok-old.old.items named c.as_slice-states.result.now c.as_slice-states.ensures.value c.in_ok-builder.builder c.in_ok-builder.ensures.value
    c.in_ok-code.code c.code_wire.new.builder c.in_ok-code.ensures.exact (outputs_of c.in_ok-outputs.outputs) c.fresh_outputs.new.builder c.in_ok-outputs.ensures.exact c.args.state c.in_ok-after.after
    (c.in_ok-after.ensures.exact ports c.args.module c.fresh_outputs.new.builder.next c.in_ok-index.ensures.value c.in_ok-outputs.ensures.tabled places
    (ap (λ (m : Module). m.cells) c.finish-wide.ensures.value ∙ same_cells c.args.module c.args.machine.now c.in_ok-old.old.items named c.as_slice-states.result.now c.as_slice-states.ensures.value c.in_ok-builder.builder c.in_ok-builder.ensures.value
    c.in_ok-code.code c.code_wire.new.builder c.in_ok-code.ensures.exact (outputs_of c.in_ok-outputs.outputs) c.fresh_outputs.new.builder c.in_ok-outputs.ensures.exact)
    ∙ (λ i. with_cells (coded_cells c.args.module c.args.machine.now coding 0 c.args.module.cells (record { body = c.finish-wide.ensures.value i; next = c.fresh_outputs.new.builder.next }))))

pub returns-clause-within : goal.returns-clause-within
returns-clause-within c =
    let named : map (λ at. option_map (λ (c : Cell). at_pin c Y) (slice_get c.args.module.cells at)) c.args.machine.now.muxes ≡ map Some c.in_ok-old.old.items = (λ i. map (λ at. option_map (λ (c : Cell). at_pin c Y) (slice_get (sym c.as_slice.ensures.value i) at)) (sym c.as_slice-2.ensures.value i)) ∙ c.in_ok-old.ensures.value in
    within_all c.args.module c.args.machine.now c.in_ok-old.old.items named c.as_slice-states.result.now c.as_slice-states.ensures.value c.in_ok-builder.builder c.in_ok-builder.ensures.value
    c.in_ok-code.code c.code_wire.new.builder c.in_ok-code.ensures.exact (outputs_of c.in_ok-outputs.outputs) c.fresh_outputs.new.builder c.in_ok-outputs.ensures.exact
    (c.in_ok-outputs.ensures.within c.in_ok-code.ensures.within)
