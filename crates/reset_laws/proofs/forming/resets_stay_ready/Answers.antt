use Rattle.std.proofs.Common.{[]}
use Rattle.rtl_ir.specs.Types.{table_ports}
use Rattle.reset_laws.proofs.FormModule.{reset_placed, reset_ready, reset_starts, reset_trees}
use Rattle.reset_laws.proofs.StepTurn.{resets_refine}
use Rattle.reset_laws.proofs.forming.resets_stay_ready.Goals as goal

pub returns : goal.returns
returns c = record {
  stays = λ table m ruled starts placed trees ready. reset_ready (table_ports table.modules) m ready placed trees starts ruled;
  ruled = λ ports m ready ruled starts placed trees q i.
      ((resets_refine ports m ready placed trees starts ruled (λ id. [])).1 q i).ruled;
  no_starts = λ ports m ready ruled starts placed trees. reset_starts ports m ready placed trees starts ruled;
  placed = λ ports m ready ruled starts placed trees. reset_placed ports m ready placed trees starts ruled;
  trees = λ ports m ready ruled starts placed trees. reset_trees ports m ready placed trees starts ruled;
}
