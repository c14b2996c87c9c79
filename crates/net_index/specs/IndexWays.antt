-- Where the connections of a module lead from a bit, as far as it is known.
use Rattle.std.specs.Prelude.{◌≡◌, ℕ, ◌<◌, List, length, Option, Some, None, unwrap_or}
use Rattle.std.specs.Option.{option_map, option_or}
use Rattle.rtl_sig.specs.declared.sig.SigBit.{SigBit}
use Rattle.rtl_sig.specs.declared.sig.SigBit.TheVariants as sig
use Rattle.rtl_sig.specs.declared.sig.WireBit.{WireBit}
use Rattle.rtl_ir.specs.Follow.{end_within, source_at}
use Rattle.rtl_ir.specs.declared.follow.Join.{Join}
use Rattle.net_index.specs.declared.index_table.BitTable.{BitTable}
use Rattle.net_index.specs.declared.index_ways.Way.{Way}
use Rattle.net_index.specs.declared.index_ways.Way.TheVariants.{To, End, Loop}
use Rattle.net_index.specs.declared.index_ways.Ways.{Ways}
use Rattle.net_index.specs.IndexTable.{at_bit}

-- some number of connections leads back to this end
abbrev pub Leads : List Join → SigBit → SigBit → Type 0
Leads joins s e = (n : ℕ) × (end_within joins n s ≡ Some e)

-- no number of connections leads back to an end
abbrev pub RunsOn : List Join → SigBit → Type 0
RunsOn joins s = (n : ℕ) → end_within joins n s ≡ None

-- where the way ends, if it does
abbrev pub IsEnd : List Join → SigBit → Option SigBit → Type 0
IsEnd joins s (Some e) = Leads joins s e
IsEnd joins s None = RunsOn joins s

-- what is known of the way from a bit is so
abbrev pub IsWay : List Join → WireBit → Way → Type 0
IsWay joins b (To next) = source_at joins b ≡ Some (sig.Wire next)
IsWay joins b (End e) = Leads joins (sig.Wire b) e
IsWay joins b Loop = RunsOn joins (sig.Wire b)

-- it is known where the way from a bit ends, or that it does not
abbrev pub IsFound : List Join → WireBit → Way → Type 0
IsFound joins b (To next) = ⊥
IsFound joins b (End e) = Leads joins (sig.Wire b) e
IsFound joins b Loop = RunsOn joins (sig.Wire b)

-- the way of one connection from a source: a constant is its end
abbrev pub way_by : SigBit → Way
way_by (sig.Fixed c) = End (sig.Fixed c)
way_by (sig.Wire b) = To b

-- the way that has an end, if there is one
abbrev pub found_by : Option SigBit → Way
found_by (Some e) = End e
found_by None = Loop

-- the way that a table has of a bit, and else that of the first of these connections
abbrev pub first_way : BitTable Way → List Join → WireBit → Option Way
first_way table joins b = option_or (at_bit table b) (option_map way_by (source_at joins b))

-- what is known of the way from a bit: where nothing leads on from it, it is an end
abbrev pub way_at : BitTable Way → WireBit → Way
way_at table b = unwrap_or (at_bit table b) (End (sig.Wire b))

-- all that is known of the ways along these connections is so, and there are more steps than connections
pub record AreWays (known : Ways) (joins : List Join) : Type 0 where
  pub steps : length joins < known.steps
  pub ways : (b : WireBit) → IsWay joins b (way_at known.table b)
