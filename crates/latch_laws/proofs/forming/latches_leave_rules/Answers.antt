use Rattle.latch_laws.proofs.Left.{no_always, no_starts, no_two_edges, no_writes, ruled}
use Rattle.latch_laws.proofs.forming.latches_leave_rules.Goals as goal

pub returns : goal.returns
returns c = record { no_always = no_always; ruled = ruled; no_starts = no_starts; no_two_edges = no_two_edges; no_writes = no_writes }
