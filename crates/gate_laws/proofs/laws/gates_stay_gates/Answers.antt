use Rattle.gate_laws.proofs.Keeping.{clean_gates, merge_gates}
use Rattle.gate_laws.proofs.Rounding.{opt_gates}
use Rattle.gate_laws.proofs.Sweeping.{expr_gates}
use Rattle.gate_laws.proofs.laws.gates_stay_gates.Goals as goal

pub returns-clause-expr : goal.returns-clause-expr
returns-clause-expr c = expr_gates

pub returns-clause-merge : goal.returns-clause-merge
returns-clause-merge c = merge_gates

pub returns-clause-clean : goal.returns-clause-clean
returns-clause-clean c = clean_gates

pub returns-clause-opt : goal.returns-clause-opt
returns-clause-opt c = opt_gates
