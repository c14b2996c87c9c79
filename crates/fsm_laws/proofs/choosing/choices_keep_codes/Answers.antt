use Rattle.fsm_laws.proofs.Coded.{apart_mux, mux_hot}
use Rattle.fsm_laws.proofs.choosing.choices_keep_codes.Goals as goal

pub returns-clause-apart : goal.returns-clause-apart
returns-clause-apart c = apart_mux

pub returns-clause-hot : goal.returns-clause-hot
returns-clause-hot c = mux_hot
