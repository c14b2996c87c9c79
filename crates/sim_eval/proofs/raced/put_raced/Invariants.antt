-- The bits so far were given what the race makes of them.
use Rattle.std.proofs.Common.{◌≡◌, Bool, List, length, map, take}
use Rattle.std.specs.List.{AllByRecursion}
use Rattle.rtl_bits.specs.declared.bit.Bit.{Bit}
use Rattle.rtl_ir.specs.Flat.Place.{Place}
use Rattle.net_model.specs.declared.order.Order.TheVariants.{Together}
use Rattle.flat_net.specs.declared.leaves.Raced.{Raced}
use Rattle.flat_net.specs.Points.{AreApart}
use Rattle.flat_net.specs.Within.{IsHeldBitWithin}
use Rattle.sim_eval.specs.Advance.{AreFewer, Takes}
use Rattle.sim_eval.specs.Race.{IsRace, raced_fact}
use Rattle.sim_eval.proofs.raced.put_raced.Given as goal

abbrev pub invariant-loop-bit : goal.invariant-loop-bit
invariant-loop-bit l = record {
  fewer : AreFewer l.fn.now l.now l.changed;
  takes : (ps : List Place) (first : Bool) (raced : Raced) (was : List Bit) → AreApart ps → length ps ≡ length l.before → length ps ≡ length l.fn.now → IsRace ps l.before first raced was l.race → AllByRecursion (IsHeldBitWithin (length ps) raced.tree.width) l.bits → Takes ps (map (raced_fact ps l.before Together first raced was) (take l.bit-index l.bits)) l.fn.now l.now l.changed;
}
