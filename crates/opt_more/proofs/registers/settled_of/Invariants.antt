-- The values so far, and those of the places that are left, are all.
use Rattle.std.proofs.Common.{◌≡◌, ◌-◌, List, length, map}
use Rattle.std.specs.Option.{option_map}
use Rattle.cell_types.specs.PinName.{pin_text}
use Rattle.cell_types.specs.declared.pin_name.PinName.TheVariants.{Q}
use Rattle.rtl_sig.specs.declared.sig.SigBit.TheVariants.{Fixed}
use Rattle.rtl_ir.specs.Flat.Cell.{cell_shape}
use Rattle.rtl_ir.specs.Parameters.{signal_at}
use Rattle.rtl_ir.specs.declared.cell.Cell.{Cell}
use Rattle.rtl_ir.specs.declared.wire.Wire.{Wire}
use Rattle.opt_more.specs.Dff.{enabled_of, settled_from, settled_of}
use Rattle.rtl_ir.specs.Starts.{inits_of}
use Rattle.opt_more.proofs.RegisterSteps.{values_then}
use Rattle.opt_more.proofs.registers.settled_of.Given as goal

abbrev pub invariant-loop-at : goal.invariant-loop-at
invariant-loop-at l = (wires : List Wire) (c : Cell) → l.inits ≡ inits_of wires → l.shape ≡ cell_shape l.kind c.params → l.enable ≡ enabled_of l.kind c → l.pins ≡ c.pins → values_then l.values (settled_from wires l.kind c l.at (length (signal_at c.pins (pin_text Q)) - l.at)) ≡ option_map (λ bits. map Fixed bits) (settled_of wires l.kind c)
