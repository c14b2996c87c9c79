use Rattle.session_laws.proofs.Alone.{as_desks, as_session}
use Rattle.session_laws.proofs.laws.one_desk_is_a_session.Goals as goal

pub returns : goal.returns
returns c = λ count script input said silent. (as_session count script input said silent, as_desks count script input said silent)
