use Rattle.proc_laws.proofs.Taking.{ready_without}
use Rattle.proc_laws.proofs.laws.modules_without_processes_may_be_given.Goals as goal

pub returns : goal.returns
returns c = record { ready = ready_without }
