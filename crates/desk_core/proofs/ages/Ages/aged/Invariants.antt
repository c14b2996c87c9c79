use Rattle.std.proofs.Common.{◌≡◌, ◌++◌, drop, filter}
use Rattle.std.specs.Option.{is_some}
use Rattle.desk_core.specs.Ages.{aged_keys}
use Rattle.desk_core.proofs.ages.Ages.aged.Given as goal

-- the keys that have an age so far, and those from this place on, are all of them
abbrev pub invariant-loop-index : goal.invariant-loop-index
invariant-loop-index l = record {
  keys : l.aged.keys ++ aged_keys (drop l.index l.self.keys) (drop l.index l.self.ages.items) ≡ aged_keys l.self.keys l.self.ages.items;
  ages : l.aged.ages.items ++ filter is_some (drop l.index l.self.ages.items) ≡ filter is_some l.self.ages.items;
}
