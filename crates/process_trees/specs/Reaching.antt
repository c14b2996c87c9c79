-- What the tree bits of a root may be given last.
use Rattle.std.specs.Prelude.{◌≡◌, ℕ, List, length, Some}
use Rattle.std.specs.HashSet.{contains}
use Rattle.std.specs.List.{list_any}
use Rattle.rtl_sig.specs.declared.sig.WireBit.{WireBit}
use Rattle.rtl_ir.specs.EventTests.{is_bit}
use Rattle.rtl_ir.specs.Signals.{same_bit}
use Rattle.rtl_ir.specs.Tree.{CaseView}
use Rattle.process_trees.specs.declared.reaching.Reaching.{Reaching}
use Rattle.process_trees.specs.Numbers.{AreNumbers, number_in}
use Rattle.process_trees.specs.Reach.{reaching}
use Rattle.process_trees.specs.Walk.{rows_of, sources_at}

-- the table has what the tree bits of a root may be given last
pub record AreReaching (table : Reaching) (root : CaseView) (bits : List WireBit) : Type 0 where
  pub numbers : AreNumbers table.numbers bits
  pub size : length table.sources.items ≡ length bits
  pub sources : (b : WireBit) (k : ℕ) → number_in bits b ≡ Some k → sources_at table.sources.items k ≡ reaching root b
  pub read : (q : WireBit) → contains same_bit table.read q ≡ list_any (list_any (is_bit q)) (rows_of table.sources.items)
