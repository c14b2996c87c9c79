-- The bits given so far, and those of the rules that are left.
use Rattle.std.proofs.Common.{◌≡◌, drop, max}
use Rattle.rtl_sig.specs.declared.sig.WireBit.{WireBit}
use Rattle.rtl_ir.specs.Rules.{updated_bits}
use Rattle.process_check.specs.Updates.{AreCounts, count_in}
use Rattle.process_check.proofs.updates.updated_bits.Given as goal

abbrev pub invariant-loop-rule : goal.invariant-loop-rule
invariant-loop-rule l = record {
  counts : AreCounts l.most l.given.items;
  all : (b : WireBit) → max (count_in l.given.items b) (count_in (updated_bits (drop l.rule-index l.rules)) b) ≡ count_in (updated_bits l.rules) b;
}
