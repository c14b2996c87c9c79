-- The bits so far were given what the clock and then the reset make of them.
use Rattle.std.proofs.Common.{◌≡◌, Bool, List, length, map, take}
use Rattle.std.specs.List.{AllByRecursion}
use Rattle.rtl_bits.specs.declared.bit.Bit.{Bit}
use Rattle.rtl_ir.specs.Flat.Place.{Place}
use Rattle.net_model.specs.declared.order.Order.TheVariants.{Released}
use Rattle.flat_net.specs.Points.{AreApart}
use Rattle.flat_net.specs.Within.{IsHeldBitWithin, IsTreeWithin}
use Rattle.sim_eval.specs.Advance.{AreFewer, Takes}
use Rattle.sim_eval.specs.Race.{IsClocked, raced_fact}
use Rattle.sim_eval.proofs.clocked.put_clocked.Given as goal

abbrev pub invariant-loop-bit : goal.invariant-loop-bit
invariant-loop-bit l = record {
  fewer : AreFewer l.fn.now l.now l.changed;
  takes : (ps : List Place) (first : Bool) (was : List Bit) → AreApart ps → length ps ≡ length l.before → length ps ≡ length l.fn.now → IsClocked ps l.before first l.raced was l.clocked → IsTreeWithin (length ps) l.raced.tree → AllByRecursion (IsHeldBitWithin (length ps) l.raced.tree.width) l.bits → Takes ps (map (raced_fact ps l.before Released first l.raced was) (take l.bit-index l.bits)) l.fn.now l.now l.changed;
}
