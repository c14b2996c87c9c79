-- What stands for the bits so far is added.
use Rattle.std.proofs.Common.{List, [], drop}
use Rattle.std.specs.Prelude.{flat_map}
use Rattle.std.specs.List.{fold}
use Rattle.rtl_ir.specs.declared.cell.Cell.{Cell}
use Rattle.rtl_ir.specs.declared.module.Link.{Link}
use Rattle.net_alias.specs.Aliases.{IsAliases}
use Rattle.opt_expr.specs.Places.{ArePlaces}
use Rattle.opt_more.specs.Gather.{AreAlike, AreSeen}
use Rattle.opt_more.specs.Reduce.{standing_for, with_bit}
use Rattle.opt_more.proofs.folds.gathered.Given as goal

abbrev pub invariant-loop-bit : goal.invariant-loop-bit
invariant-loop-bit l = record {
  bits : (cells : List Cell) (links : List Link) → ArePlaces l.others.places.now cells → IsAliases l.fn.aliases links → AreAlike (fold (with_bit l.neutral) l.bits.bits (flat_map (standing_for l.neutral cells l.others.done.now l.others.rest.now.items links) (drop l.bit-index l.inputs))) (fold (with_bit l.neutral) [] (flat_map (standing_for l.neutral cells l.others.done.now l.others.rest.now.items links) l.inputs));
  seen : AreSeen l.bits;
  keeps : (links : List Link) → IsAliases l.fn.aliases links → IsAliases l.aliases links;
}
