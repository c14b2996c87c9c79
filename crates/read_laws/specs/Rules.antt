-- A rule as it is written, where its items stand, and the rule that it stands for, by its parts.
use Rattle.std.specs.Prelude.{◌≡◌, ℕ, ◌<◌, List, [], ◌∷◌, ◌++◌, length, Option, Some, None}
use Rattle.rtl_lex.specs.declared.sort.Sort.{Sort}
use Rattle.rtl_lex.specs.declared.sort.Sort.TheVariants as sorts
use Rattle.rtl_lex.specs.Items.{Seen}
use Rattle.rtl_sig.specs.declared.sig.SigBit.{SigBit}
use Rattle.rtl_ir.specs.declared.module.Link.{Link}
use Rattle.rtl_ir.specs.declared.process.Event.{Event}
use Rattle.rtl_ir.specs.declared.process.Event.TheVariants as events
use Rattle.rtl_ir.specs.declared.process.SyncRule.{SyncRule}
use Rattle.rtl_ir.specs.declared.process.WriteLine.{WriteLine}
use Rattle.rtl_ir.specs.declared.wire.Wire.{Wire}
use Rattle.rtl_grammar.specs.declared.expect.Expect.TheVariants as expects
use Rattle.rtl_grammar.specs.Uses.{Use}
use Rattle.rtl_read.specs.declared.attributes.Attributes.{Attributes}
use Rattle.rtl_read.specs.declared.draft.Draft.{Draft}
use Rattle.rtl_read.specs.Meaning.Attribute.{no_attributes}
use Rattle.rtl_read.specs.Meaning.Process.{plain_rule}
use Rattle.read_laws.specs.SignalBits.{Written, IsWritten, places_of, placed}
use Rattle.read_laws.specs.ConstantBits.{HasValue}
use Rattle.read_laws.specs.Lines.{AttributeLine, PairLine, AreAttributes, IsPair, HaveAttributes, GivesBits, GivesLink, attribute_places, place_behind, pair_places}

-- ---- as it is written

-- the event behind the word `sync`: a word, the signal of some words, and the end of the line
pub data EventLine : Type 0 where
  OnSignal : Seen → Written → Seen → EventLine
  OnWord : Seen → Seen → EventLine

-- a `memwr` line with the attributes before it: the word, the memory, the address, the value, the enable, the mask, and
-- the end of the line
pub record MemoryLine : Type 0 where
  pub attributes : List AttributeLine
  pub word : Seen
  pub memory : Seen
  pub address : Written
  pub value : Written
  pub enable : Written
  pub mask : Seen
  pub line : Seen

-- a line of a rule
pub data RuleLine : Type 0 where
  OneUpdate : PairLine → RuleLine
  OneWrite : MemoryLine → RuleLine

-- a rule, from the event on
pub record WrittenRule : Type 0 where
  pub event : EventLine
  pub lines : List RuleLine

-- the event of a word and its signal; of a word alone
abbrev pub event_on : Sort → List SigBit → Option Event
event_on sorts.Low sig = Some (events.Low sig)
event_on sorts.High sig = Some (events.High sig)
event_on sorts.Posedge sig = Some (events.Posedge sig)
event_on sorts.Negedge sig = Some (events.Negedge sig)
event_on sorts.Edge sig = Some (events.Edge sig)
event_on sort sig = None

abbrev pub event_alone : Sort → Option Event
event_alone sorts.Global = Some events.Global
event_alone sorts.Init = Some events.Init
event_alone sorts.Always = Some events.Always
event_alone sort = None

-- ---- what it stands for, where its items have the sorts of such lines

-- the event; its signal has a bit
abbrev pub GivesEvent : List Wire → List (List ℕ) → EventLine → Event → Type 0
GivesEvent wires names (OnSignal word signal line) event =
    (line.sort ≡ sorts.Line) × IsWritten signal × ((sig : List SigBit) × GivesBits wires names signal sig × (0 < length sig) × (event_on word.sort sig ≡ Some event))
GivesEvent wires names (OnWord word line) event = (line.sort ≡ sorts.Line) × (event_alone word.sort ≡ Some event)

-- the sorts of a `memwr` line
pub record IsMemoryLine (w : MemoryLine) : Type 0 where
  pub attributes : AreAttributes w.attributes
  pub word : w.word.sort ≡ sorts.Memwr
  pub memory : w.memory.sort ≡ sorts.Id
  pub address : IsWritten w.address
  pub value : IsWritten w.value
  pub enable : IsWritten w.enable
  pub line : w.line.sort ≡ sorts.Line

-- the write of a `memwr` line: each part of the line is the part of the write; no signal of it is empty
pub record GivesWrite (wires : List Wire) (names : List (List ℕ)) (w : MemoryLine) (write : WriteLine) : Type 0 where
  pub sorts : IsMemoryLine w
  pub all : Attributes
  pub have : HaveAttributes w.attributes no_attributes all
  pub attributes : write.attributes ≡ all.items
  pub memory : write.memory ≡ w.memory.text
  pub address : GivesBits wires names w.address write.address
  pub some_address : 0 < length write.address
  pub value : GivesBits wires names w.value write.value
  pub some_value : 0 < length write.value
  pub enable : GivesBits wires names w.enable write.enable
  pub some_enable : 0 < length write.enable
  pub mask : HasValue w.mask write.mask

-- the updates and the writes, each in the order of their lines
abbrev pub GiveLines : List Wire → List (List ℕ) → List RuleLine → List Link → List WriteLine → Type 0
GiveLines wires names [] updates writes = (updates ≡ []) × (writes ≡ [])
GiveLines wires names (OneUpdate p ∷ lines) updates writes =
    IsPair sorts.Update p × ((link : Link) × (rest : List Link) × GivesLink wires names p link × GiveLines wires names lines rest writes × (updates ≡ link ∷ rest))
GiveLines wires names (OneWrite w ∷ lines) updates writes =
    (write : WriteLine) × (rest : List WriteLine) × GivesWrite wires names w write × GiveLines wires names lines updates rest × (writes ≡ write ∷ rest)

abbrev pub GivesRule : List Wire → List (List ℕ) → WrittenRule → SyncRule → Type 0
GivesRule wires names r rule = GivesEvent wires names r.event rule.event × GiveLines wires names r.lines rule.updates rule.writes

-- ---- where its items stand

abbrev pub event_places : EventLine → List Use
event_places (OnSignal word signal line) =
    placed expects.SyncEvent word ∷ (places_of expects.Signal expects.BehindEvent signal ++ placed expects.BehindEvent line ∷ [])
event_places (OnWord word line) = placed expects.SyncEvent word ∷ placed expects.EndOfLine line ∷ []

-- the signals of a `memwr` line, its mask and its end
abbrev pub operand_places : MemoryLine → List Use
operand_places w =
    places_of expects.Signal expects.BehindAddress w.address
    ++ (places_of expects.BehindAddress expects.BehindValue w.value
    ++ (places_of expects.BehindValue expects.BehindEnable w.enable ++ placed expects.BehindEnable w.mask ∷ placed expects.EndOfLine w.line ∷ []))

abbrev pub write_places : MemoryLine → List Use
write_places w =
    attribute_places expects.SyncBody expects.NextWrite w.attributes
    ++ (placed (place_behind expects.SyncBody expects.NextWrite w.attributes) w.word ∷ placed expects.WriteMemory w.memory ∷ operand_places w)

abbrev pub line_places : List RuleLine → List Use
line_places [] = []
line_places (OneUpdate p ∷ lines) = pair_places expects.SyncBody p ++ line_places lines
line_places (OneWrite w ∷ lines) = write_places w ++ line_places lines

abbrev pub rule_places : WrittenRule → List Use
rule_places r = event_places r.event ++ line_places r.lines

-- the open rule is this one
abbrev pub with_rule : SyncRule → Draft → Draft
with_rule rule d = record d { process = record d.process { rule = rule } }

-- .. and once it is whole, it stands last of the rules
abbrev pub after_rule : SyncRule → Draft → Draft
after_rule rule d = record d { process = record d.process { syncs = d.process.syncs ++ rule ∷ []; rule = plain_rule events.Always } }
