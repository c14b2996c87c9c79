use Rattle.read_laws.proofs.ConstantBits.{as_value, as_signal, only_values, only_signals, sized, integer, string}
use Rattle.read_laws.proofs.laws.constants_agree.Goals as goal

pub returns-clause-as_value : goal.returns-clause-as_value
returns-clause-as_value c = as_value

pub returns-clause-as_signal : goal.returns-clause-as_signal
returns-clause-as_signal c = as_signal

pub returns-clause-only_values : goal.returns-clause-only_values
returns-clause-only_values c = only_values

pub returns-clause-only_signals : goal.returns-clause-only_signals
returns-clause-only_signals c = only_signals

pub returns-clause-sized : goal.returns-clause-sized
returns-clause-sized c = sized

pub returns-clause-integer : goal.returns-clause-integer
returns-clause-integer c = integer

pub returns-clause-string : goal.returns-clause-string
returns-clause-string c = string
