-- The signals so far, and those of the places that are left, are all.
use Rattle.std.proofs.Common.{◌≡◌, ◌++◌, Some, drop, map}
use Rattle.std.specs.Prelude.{option_map, slice_get}
use Rattle.cell_types.specs.declared.pin_name.PinName.TheVariants.{Y}
use Rattle.rtl_ir.specs.declared.cell.Cell.{Cell}
use Rattle.net_model.specs.Fsm.Find.{at_pin}
use Rattle.fsm_code.proofs.wires.output_signals.Given as goal

abbrev pub invariant-loop-place : goal.invariant-loop-place
invariant-loop-place l = map Some l.signals.items ++ map (λ at. option_map (λ (c : Cell). at_pin c Y) (slice_get l.cells at)) (drop l.place-index l.places) ≡ map (λ at. option_map (λ (c : Cell). at_pin c Y) (slice_get l.cells at)) l.places
