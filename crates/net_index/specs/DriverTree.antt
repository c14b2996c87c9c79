-- The bits that the rules of processes name.
use Rattle.std.specs.Prelude.{List, flat_map}
use Rattle.rtl_sig.specs.declared.sig.WireBit.{WireBit}
use Rattle.rtl_ir.specs.declared.process.SyncRule.{SyncRule}
use Rattle.rtl_ir.specs.Assigns.{left_bits}
use Rattle.rtl_ir.specs.Rules.{acting_rules}

-- the bits on the left of the lines of the rules that act, in order
abbrev pub rule_lefts : List SyncRule → List WireBit
rule_lefts rules = flat_map (λ (rule : SyncRule). left_bits rule.updates) (acting_rules rules)
