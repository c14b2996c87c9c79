use Rattle.reset_laws.proofs.FormModule.{reset_edges}
use Rattle.reset_laws.proofs.forming.resets_leave_one_edge.Goals as goal

pub returns : goal.returns
returns c = record {
  no_two_edges = λ ports m ready ruled starts placed trees. reset_edges ports m ready placed trees starts ruled;
}
