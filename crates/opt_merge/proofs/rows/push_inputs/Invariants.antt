-- The signals so far are there, and those that are left follow.
use Rattle.std.proofs.Common.{◌≡◌, ◌++◌, List, drop}
use Rattle.std.specs.List.{flat_map}
use Rattle.rtl_ir.specs.declared.module.Link.{Link}
use Rattle.net_alias.specs.Aliases.{IsAliases}
use Rattle.opt_merge.specs.Rows.{signal_numbers, signals_numbers}
use Rattle.opt_merge.specs.Traits.{inputs_of}
use Rattle.opt_merge.proofs.rows.push_inputs.Given as goal

abbrev pub invariant-loop-name : goal.invariant-loop-name
invariant-loop-name l = record {
  keeps : (links : List Link) → IsAliases l.fn.aliases links → IsAliases l.aliases links;
  row : (links : List Link) → IsAliases l.fn.aliases links
      → l.row.items ++ flat_map signal_numbers (inputs_of links (drop l.name-index l.names) l.pins) ≡ l.fn.row.items ++ signals_numbers (inputs_of links l.names l.pins);
}
