use Rattle.std.proofs.Common.{◌≤◌, length, min, arith}
use Rattle.desk_core.proofs.Staying.{unedited_end}
use Rattle.desk_core.proofs.beside.unedited.Goals as goal

pub returns : goal.returns
returns c =
    let past : min (length c.args.modules.now) (length c.args.found.now) ≤ c.loop-at.at = omega arith in
    record { value = unedited_end c.args.edits.now c.args.modules.now c.args.found.now c.loop-at.at c.loop-at.rest.items _ past c.loop-at.invariant }
