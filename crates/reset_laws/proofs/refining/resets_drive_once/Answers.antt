use Rattle.reset_laws.proofs.StepTurn.{resets_refine}
use Rattle.reset_laws.proofs.refining.resets_drive_once.Goals as goal

pub returns : goal.returns
returns c = record {
  driven = λ ports over m ready ruled starts placed trees h.
      (resets_refine ports m ready placed trees starts ruled over).0.driven over h;
}
