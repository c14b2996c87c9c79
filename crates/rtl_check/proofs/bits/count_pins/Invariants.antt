-- What is counted so far and what is left give all.
use Rattle.std.proofs.Common.{◌≡◌, drop, flat_map}
use Rattle.rtl_ir.specs.Types.{CellType}
use Rattle.net_index.specs.Types.{IsType}
use Rattle.rtl_check.specs.Tallies.{bits_of_pin, with_bits}
use Rattle.rtl_check.proofs.bits.count_pins.Given as goal

abbrev pub invariant-loop-pin : goal.invariant-loop-pin
invariant-loop-pin l = record {
  widths : l.tally.widths ≡ l.fn.tally.widths;
  counted : (type : CellType) → IsType l.cell_type type → with_bits l.tally (flat_map (bits_of_pin type) (drop l.pin-index l.pins)) ≡ with_bits l.fn.tally (flat_map (bits_of_pin type) l.pins);
}
