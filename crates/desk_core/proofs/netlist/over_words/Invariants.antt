use Rattle.std.proofs.Common.{◌≡◌, drop}
use Rattle.desk_core.specs.Results.{over_of}
use Rattle.desk_core.proofs.netlist.over_words.Given as goal

-- none of the modules so far passes a limit
abbrev pub invariant-loop-at : goal.invariant-loop-at
invariant-loop-at l = over_of (drop l.at l.modules) (drop l.at l.found) ≡ over_of l.modules l.found
