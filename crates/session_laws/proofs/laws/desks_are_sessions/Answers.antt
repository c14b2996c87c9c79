use Rattle.session_laws.proofs.Desks.{by_lines, of_lines, own_session}
use Rattle.session_laws.proofs.laws.desks_are_sessions.Goals as goal

pub returns : goal.returns
returns c = record {
  input = λ script input turns. (by_lines script input turns, of_lines script input turns);
  own = own_session;
}
