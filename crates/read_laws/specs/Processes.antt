-- A process as it is written, where its items stand, and the process that it stands for, by its parts.
use Rattle.std.specs.Prelude.{◌≡◌, ℕ, List, [], ◌∷◌, ◌++◌}
use Rattle.rtl_lex.specs.declared.sort.Sort.TheVariants as sorts
use Rattle.rtl_lex.specs.Items.{Seen}
use Rattle.rtl_sig.specs.Names.{with_name}
use Rattle.rtl_ir.specs.Tree.{SwitchView, switches_of}
use Rattle.rtl_ir.specs.declared.module.Link.{Link}
use Rattle.rtl_ir.specs.declared.process.Process.{Process}
use Rattle.rtl_ir.specs.declared.process.SyncRule.{SyncRule}
use Rattle.rtl_ir.specs.declared.wire.Wire.{Wire}
use Rattle.rtl_grammar.specs.declared.expect.Expect.{Expect}
use Rattle.rtl_grammar.specs.declared.expect.Expect.TheVariants as expects
use Rattle.rtl_grammar.specs.Uses.{Use}
use Rattle.rtl_read.specs.declared.draft.Draft.{Draft}
use Rattle.rtl_read.specs.Meaning.Module.{with_process}
use Rattle.rtl_read.specs.Meaning.Process.{plain_process}
use Rattle.read_laws.specs.SignalBits.{placed}
use Rattle.read_laws.specs.Lines.{between_lines}
use Rattle.read_laws.specs.Rules.{WrittenRule, GivesRule, rule_places}
use Rattle.read_laws.specs.Trees.{BodyLines, GivesBody, body_places}

-- the word `sync` and its rule
pub record SyncLines : Type 0 where
  pub word : Seen
  pub rule : WrittenRule

-- a process, from its name on: the name and the end of its line, the assigns and switches, the syncs, and the `end` and
-- the end of its line
pub record WrittenProcess : Type 0 where
  pub name : Seen
  pub line : Seen
  pub body : BodyLines
  pub syncs : List SyncLines
  pub end : Seen
  pub last : Seen

-- the rules of the syncs, in their order
abbrev pub GiveRules : List Wire → List (List ℕ) → List SyncLines → List SyncRule → Type 0
GiveRules wires names [] rules = rules ≡ []
GiveRules wires names (s ∷ more) rules =
    (s.word.sort ≡ sorts.Sync)
    × ((rule : SyncRule) × (rest : List SyncRule) × GivesRule wires names s.rule rule × GiveRules wires names more rest × (rules ≡ rule ∷ rest))

-- each part of a process: its name, its root with assigns and switches and without patterns, and its rules
pub record GivesProcess (wires : List Wire) (names : List (List ℕ)) (p : WrittenProcess) (process : Process) : Type 0 where
  pub id : p.name.sort ≡ sorts.Id
  pub line : p.line.sort ≡ sorts.Line
  pub end : p.end.sort ≡ sorts.End
  pub last : p.last.sort ≡ sorts.Line
  pub name : process.name ≡ p.name.text
  pub assigns : List Link
  pub switches : List SwitchView
  pub body : GivesBody wires names 0 p.body assigns switches
  pub root : process.root ≡ record { patterns = []; assigns = assigns; switches = switches_of switches; attributes = [] }
  pub rules : GiveRules wires names p.syncs process.syncs

-- the syncs and the `end`, where the first word stands at this place
abbrev pub sync_places : Expect → List SyncLines → Seen → Seen → List Use
sync_places place [] end last = placed place end ∷ placed expects.EndOfLine last ∷ []
sync_places place (s ∷ more) end last = placed place s.word ∷ (rule_places s.rule ++ sync_places expects.SyncBody more end last)

abbrev pub process_places : WrittenProcess → List Use
process_places p =
    placed expects.ProcessName p.name
    ∷ placed expects.EndOfLine p.line
    ∷ (body_places expects.ProcessBody expects.NextSwitch p.body ++ sync_places expects.ProcessBody p.syncs p.end p.last)

-- behind the word `process`, and behind the whole process, which the module then has, and whose name is taken
abbrev pub before_process : Process → Draft → Draft
before_process process d = between_lines (record d { process = plain_process process.attributes })

abbrev pub after_process : Process → Draft → Draft
after_process process d = between_lines (record d {
  current = with_process process (record d.current { other_names = with_name d.current.other_names process.name });
  process = plain_process [];
})
