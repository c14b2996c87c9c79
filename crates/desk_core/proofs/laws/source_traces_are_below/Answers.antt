use Rattle.desk_core.proofs.Tracing.{has_traces}
use Rattle.desk_core.proofs.laws.source_traces_are_below.Goals as goal

pub returns : goal.returns
returns c = λ s readable fine script order name text ok. has_traces s readable fine script order name text ok
