-- Pairs of signals, up to the end of the line: those of `connect`, `assign` and `update`. Each of them may be empty.
use Rattle.std.specs.Prelude.{[], Result, Ok}
use Rattle.rtl_lex.specs.declared.sort.Sort.{Sort}
use Rattle.rtl_lex.specs.declared.sort.Sort.TheVariants as sorts
use Rattle.rtl_lex.specs.Items.{Seen}
use Rattle.rtl_ir.specs.declared.module.Link.{Link}
use Rattle.rtl_read.specs.declared.draft.Draft.{Draft}
use Rattle.rtl_read.specs.declared.draft.PairKind.{PairKind}
use Rattle.rtl_read.specs.declared.draft.PairKind.TheVariants.{Connect, Assign, Update}
use Rattle.rtl_read.specs.declared.read_fault.ReadFault.{ReadFault}
use Rattle.rtl_read.specs.Signal.{no_signal}
use Rattle.rtl_read.specs.Meaning.Module.{with_link}
use Rattle.rtl_read.specs.Meaning.Tree.{with_assign}
use Rattle.rtl_read.specs.Meaning.Process.{with_update}
use Rattle.rtl_read.specs.Act.Signal.{open_bracket, begin_signal, without_signal}

-- a bracket behind the left signal; or the right signal begins
abbrev pub act_behind_left : Sort → Seen → Draft → Result Draft ReadFault
act_behind_left sorts.OpenIndex i d = Ok (open_bracket i d)
act_behind_left sort i d = begin_signal sort i (record (without_signal d) { left = d.signal.part })

-- a pair goes to the module, to the open case, or to the open rule
abbrev pub put_pair : PairKind → Link → Draft → Draft
put_pair Connect link d = record d { current = with_link link d.current }
put_pair Assign link d = record d { process = record d.process { tree = with_assign link d.process.tree } }
put_pair Update link d = record d { process = with_update link d.process }

-- the pair is whole
abbrev pub close_pair : Draft → Draft
close_pair d = record (put_pair d.pair (record { left = d.left; right = d.signal.part }) d) { pair = Connect; left = []; signal = no_signal }

-- a bracket behind the right signal; or the end of the line
abbrev pub act_behind_right : Sort → Seen → Draft → Draft
act_behind_right sorts.OpenIndex i d = open_bracket i d
act_behind_right sort i d = close_pair d
