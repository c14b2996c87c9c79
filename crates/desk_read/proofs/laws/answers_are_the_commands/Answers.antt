use Rattle.std.proofs.Common.{None}
use Rattle.desk_read.proofs.Turns.{in_turn}
use Rattle.desk_read.proofs.laws.answers_are_the_commands.Goals as goal

pub returns : goal.returns
returns c = record { all = in_turn None }
