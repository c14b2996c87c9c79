use Rattle.rtl_ir.specs.Flat.Tree as flat
use Rattle.rtl_ir.specs.Types.{table_ports}
use Rattle.reset_laws.proofs.StepTurn.{resets_refine}
use Rattle.reset_laws.proofs.refining.resets_refine.Goals as goal

pub returns : goal.returns
returns c = record {
  refines = λ table m ready ruled starts placed trees.
      (resets_refine (table_ports table.modules) m ready placed trees starts ruled (flat.table_ports table)).0.refines;
}
