-- Signals: constants, wires, braces round signals, and slices.
use Rattle.std.specs.Prelude.{Result, Ok}
use Rattle.rtl_lex.specs.declared.sort.Sort.{Sort}
use Rattle.rtl_lex.specs.Items.{Seen}
use Rattle.rtl_read.specs.declared.draft.Draft.{Draft}
use Rattle.rtl_read.specs.declared.read_fault.ReadFault.{ReadFault}
use Rattle.rtl_grammar.specs.Uses.{◌>>=◌}
use Rattle.rtl_read.specs.Signal.{no_signal, begin, inside, behind_inside, open_index, set_high, set_low, slice, behind_index}

-- a signal begins, with the wires that stand above it in its module
abbrev pub begin_signal : Sort → Seen → Draft → Result Draft ReadFault
begin_signal sort i d = begin d.current.body.wires d.current.wire_names sort i d.signal >>= λ s. Ok (record d { signal = s })

-- a bracket opens behind the signal
abbrev pub open_bracket : Seen → Draft → Draft
open_bracket i d = record d { signal = open_index i d.signal }

-- the signal is taken: none is left
abbrev pub without_signal : Draft → Draft
without_signal d = record d { signal = no_signal }

-- a signal without its slices
abbrev pub act_signal : Seen → Draft → Result Draft ReadFault
act_signal i d = begin_signal i.sort i d

-- behind an opening brace
abbrev pub act_inside : Seen → Draft → Result Draft ReadFault
act_inside i d = inside d.current.body.wires d.current.wire_names i.sort i d.signal >>= λ s. Ok (record d { signal = s })

-- behind a signal in braces
abbrev pub act_behind_inside : Seen → Draft → Result Draft ReadFault
act_behind_inside i d = behind_inside d.current.body.wires d.current.wire_names i.sort i d.signal >>= λ s. Ok (record d { signal = s })

-- the first number in brackets
abbrev pub act_index : Seen → Draft → Result Draft ReadFault
act_index i d = set_high i d.signal >>= λ s. Ok (record d { signal = s })

-- behind it: the bracket closes, or a second number follows
abbrev pub act_behind_index : Seen → Draft → Result Draft ReadFault
act_behind_index i d = behind_index i.sort i d.signal >>= λ s. Ok (record d { signal = s })

-- the second number in brackets
abbrev pub act_low_index : Seen → Draft → Result Draft ReadFault
act_low_index i d = set_low i d.signal >>= λ s. Ok (record d { signal = s })

-- the bracket closes behind the second number
abbrev pub act_index_end : Seen → Draft → Result Draft ReadFault
act_index_end i d = slice i d.signal.low d.signal.high d.signal >>= λ s. Ok (record d { signal = s })
