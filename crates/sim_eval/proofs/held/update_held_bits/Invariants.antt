-- The bits so far were given their values.
use Rattle.std.proofs.Common.{List, length, map, take}
use Rattle.std.specs.List.{AllByRecursion}
use Rattle.rtl_ir.specs.Flat.Place.{Place}
use Rattle.flat_net.specs.Parts.{held_row}
use Rattle.flat_net.specs.Within.{IsHeldBitWithin, IsTreeWithin}
use Rattle.sim_eval.specs.Advance.{Advances, AreFewer}
use Rattle.sim_eval.specs.Moment.{IsBoard, time_of}
use Rattle.sim_eval.proofs.held.update_held_bits.Given as goal

abbrev pub invariant-loop-bit : goal.invariant-loop-bit
invariant-loop-bit l = record {
  fewer : AreFewer l.fn.now l.now l.changed;
  advances : (ps : List Place) → IsBoard ps l.moment l.fn.now → IsTreeWithin (length ps) l.tree → AllByRecursion (IsHeldBitWithin (length ps) l.tree.width) l.bits → Advances ps (time_of ps l.moment) (map (held_row ps l.tree) (take l.bit-index l.bits)) l.fn.now l.now l.changed;
}
