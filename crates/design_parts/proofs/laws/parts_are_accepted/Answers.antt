use Rattle.design_parts.proofs.Accepting.{part_accepted, whole_accepted}
use Rattle.design_parts.proofs.laws.parts_are_accepted.Goals as goal

pub returns : goal.returns
returns c = record { parts = λ script d own. part_accepted script own d.modules; whole = whole_accepted }
