-- The outside sees no bit that the pins so far drive.
use Rattle.std.proofs.Common.{◌≡◌, drop}
use Rattle.std.specs.List.{list_any}
use Rattle.rtl_ir.specs.Types.{CellType}
use Rattle.net_index.specs.Types.{IsType}
use Rattle.pass_laws.specs.Bits.{pin_bits}
use Rattle.opt_clean.specs.Marking.{is_seen}
use Rattle.opt_clean.proofs.kept.drives_shown.Given as goal

abbrev pub invariant-loop-pin : goal.invariant-loop-pin
invariant-loop-pin l =
    (type : CellType) → IsType l.cell_type type
    → list_any (is_seen l.shown) (pin_bits type l.pins) ≡ list_any (is_seen l.shown) (pin_bits type (drop l.pin-index l.pins))
