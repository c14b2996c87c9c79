use Rattle.cell_types.specs.declared.word.BitwiseKind.TheVariants.{And, Or, Xor}
use Rattle.gate_nets.proofs.Lawful.{fold_computes}
use Rattle.gate_nets.proofs.laws.folds_join.Goals as goal

pub returns : goal.returns
returns c = record {
  and = λ f is bits old. fold_computes f is And bits old;
  or = λ f is bits old. fold_computes f is Or bits old;
  xor = λ f is bits old. fold_computes f is Xor bits old;
}
