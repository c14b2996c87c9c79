use Rattle.std.proofs.Common.{◌≡◌, [], arith, drop}
use Rattle.std.proofs.lemmas.Grind.{common_steps}
use Rattle.opt_clean.proofs.Wholes.{marked_none}
use Rattle.opt_clean.proofs.marked_cells.Goals as goal

pub returns : goal.returns
returns c =
    let rest : c.loop-cell.cell-iterator.rest.items ≡ [] = grind (arith, common_steps, c.in-None.ensures.steps) in
    let none = marked_none (drop c.loop-cell.place c.args.marks.now) c.loop-cell.cell-iterator.rest.items rest in
    record { value = grind (arith, common_steps, none, c.loop-cell.invariant.all) }
