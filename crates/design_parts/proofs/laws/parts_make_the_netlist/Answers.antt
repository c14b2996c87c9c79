use Rattle.design_parts.proofs.Gathering.{results_same, whole_gathered}
use Rattle.design_parts.proofs.laws.parts_make_the_netlist.Goals as goal

pub returns : goal.returns
returns c = record { own = λ script d own. results_same script own d.modules; whole = whole_gathered }
