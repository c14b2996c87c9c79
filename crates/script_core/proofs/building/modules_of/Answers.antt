use Rattle.std.proofs.Common.{refl}
use Rattle.script_core.proofs.BelowTexts.{design_given, written}
use Rattle.script_core.proofs.building.modules_of.Goals as goal

pub returns-in-Ok : goal.returns-in-Ok
returns-in-Ok c = record {
  round_trip = λ d good e.
      design_given d c.read.result c.in-Ok.design (c.read.ensures.only d (written d c.args.below.now c.args.below.now good e refl)) c.in-Ok.is;
}
