use Rattle.std.proofs.Common.{◌≡◌, ◌++◌, drop}
use Rattle.flat_net.specs.Titled.{titled_design}
use Rattle.desk_core.specs.Netlist.{done_modules}
use Rattle.desk_core.specs.Results.{outcomes_of}
use Rattle.desk_core.proofs.netlist.netlist_modules.Given as goal

-- the modules so far, and those that are left, are all of them
abbrev pub invariant-loop-at : goal.invariant-loop-at
invariant-loop-at l = (titled_design l.lent.items).modules ++ done_modules (outcomes_of (drop l.at l.modules) (drop l.at l.found)) ≡ done_modules (outcomes_of l.modules l.found)
