use Rattle.sim_text.proofs.Lines.{read, written}
use Rattle.sim_text.proofs.laws.written_lines_are_read.Goals as goal

pub returns-clause-written : goal.returns-clause-written
returns-clause-written c = written

pub returns-clause-read : goal.returns-clause-read
returns-clause-read c = read
