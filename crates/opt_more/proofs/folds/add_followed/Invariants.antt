-- The bits so far are added.
use Rattle.std.proofs.Common.{◌≡◌, List, drop, map}
use Rattle.std.specs.List.{fold}
use Rattle.rtl_ir.specs.Follow.{follow}
use Rattle.rtl_ir.specs.declared.module.Link.{Link}
use Rattle.net_alias.specs.Aliases.{IsAliases}
use Rattle.opt_more.specs.Gather.{AreSeen}
use Rattle.opt_more.specs.Reduce.{with_bit}
use Rattle.opt_more.proofs.folds.add_followed.Given as goal

abbrev pub invariant-loop-bit : goal.invariant-loop-bit
invariant-loop-bit l = record {
  bits : (links : List Link) → IsAliases l.fn.aliases links → fold (with_bit l.neutral) l.bits.bits (map (follow links) (drop l.bit-index l.inputs)) ≡ fold (with_bit l.neutral) l.fn.bits.bits (map (follow links) l.inputs);
  seen : AreSeen l.bits;
  keeps : (links : List Link) → IsAliases l.fn.aliases links → IsAliases l.aliases links;
}
