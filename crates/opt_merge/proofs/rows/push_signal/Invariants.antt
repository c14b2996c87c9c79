-- The bits so far are there, and those that are left follow.
use Rattle.std.proofs.Common.{◌≡◌, ◌++◌, List, drop, map}
use Rattle.std.specs.List.{flat_map}
use Rattle.rtl_ir.specs.declared.module.Link.{Link}
use Rattle.rtl_ir.specs.Follow.{follow}
use Rattle.net_alias.specs.Aliases.{IsAliases}
use Rattle.opt_merge.specs.Rows.{place_numbers, signal_numbers}
use Rattle.opt_merge.proofs.rows.push_signal.Given as goal

abbrev pub invariant-loop-bit : goal.invariant-loop-bit
invariant-loop-bit l = record {
  keeps : (links : List Link) → IsAliases l.fn.aliases links → IsAliases l.aliases links;
  row : (links : List Link) → IsAliases l.fn.aliases links
      → l.row.items ++ flat_map place_numbers (map (follow links) (drop l.bit-index l.signal)) ≡ l.fn.row.items ++ signal_numbers (map (follow links) l.signal);
}
