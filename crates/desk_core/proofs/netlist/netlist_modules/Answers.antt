use Rattle.std.proofs.Common.{◌≤◌, length, min, arith}
use Rattle.flat_net.specs.Titled.{titled_design}
use Rattle.desk_core.proofs.Outcomes.{copies_end}
use Rattle.desk_core.proofs.netlist.netlist_modules.Goals as goal

pub returns : goal.returns
returns c =
    let past : min (length c.args.modules.now) (length c.args.found.now) ≤ c.loop-at.at = omega arith in
    record { value = copies_end c.args.modules.now c.args.found.now c.loop-at.at (titled_design c.loop-at.lent.items).modules _ past c.loop-at.invariant }
