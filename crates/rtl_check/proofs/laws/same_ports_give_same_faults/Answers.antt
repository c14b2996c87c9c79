use Rattle.rtl_check.proofs.OverPorts.{same_faults}
use Rattle.rtl_check.proofs.laws.same_ports_give_same_faults.Goals as goal

pub returns : goal.returns
returns c = λ scope ports others m alike. same_faults ports others scope m alike
