-- The connections so far and those that are left are all.
use Rattle.std.proofs.Common.{◌≡◌, drop}
use Rattle.rtl_sig.specs.declared.sig.WireBit.{WireBit}
use Rattle.net_index.specs.IndexWays.{first_way}
use Rattle.net_index.proofs.index_ways.put_joins.Given as goal

abbrev pub invariant-loop-join : goal.invariant-loop-join
invariant-loop-join l = (b : WireBit) → first_way l.table (drop l.join-index l.joins) b ≡ first_way l.fn.table l.joins b
