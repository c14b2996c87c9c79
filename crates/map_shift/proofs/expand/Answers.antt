use Rattle.std.proofs.lemmas.Result.{on_ok_weaker}
use Rattle.map_shift.proofs.Expanded.{expanded, expanded_stands}
use Rattle.map_shift.proofs.expand.Goals as goal

pub returns-clause-expansion : goal.returns-clause-expansion
returns-clause-expansion c =
    on_ok_weaker c.add_gates.result (λ e is m whole. expanded c.args.cell.now c.args.builder.now c.add_gates.new.builder c.args.shape.now e is m whole) c.add_gates.ensures.exact

pub returns-clause-refines : goal.returns-clause-refines
returns-clause-refines c =
    on_ok_weaker c.add_gates.result (λ e is m ports start wires. expanded_stands c.args.cell.now c.args.builder.now c.add_gates.new.builder c.args.shape.now e is m ports start wires) c.add_gates.ensures.exact
