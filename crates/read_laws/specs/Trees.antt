-- The assigns and switches of a case or a process as they are written, where their items stand, and what they stand for.
use Rattle.std.specs.Prelude.{◌≡◌, ℕ, suc, ◌<◌, List, [], ◌∷◌, ◌++◌, length, Bool, true, false}
use Rattle.rtl_lex.specs.declared.sort.Sort.TheVariants as sorts
use Rattle.rtl_lex.specs.Items.{Seen}
use Rattle.rtl_sig.specs.declared.sig.SigBit.{SigBit}
use Rattle.rtl_ir.specs.Tree.{CaseView, SwitchView, switches_of, cases_of}
use Rattle.rtl_ir.specs.declared.limits.TheConstants.{MAX_DEPTH}
use Rattle.rtl_ir.specs.declared.module.Link.{Link}
use Rattle.rtl_ir.specs.declared.value.Attribute.{Attribute}
use Rattle.rtl_ir.specs.declared.wire.Wire.{Wire}
use Rattle.rtl_grammar.specs.declared.expect.Expect.{Expect}
use Rattle.rtl_grammar.specs.declared.expect.Expect.TheVariants as expects
use Rattle.rtl_grammar.specs.Uses.{Use}
use Rattle.rtl_read.specs.declared.attributes.Attributes.{Attributes}
use Rattle.rtl_read.specs.declared.draft.Draft.{Draft}
use Rattle.rtl_read.specs.declared.tree.OpenCase.{OpenCase}
use Rattle.rtl_read.specs.declared.tree.OpenSwitch.{OpenSwitch}
use Rattle.rtl_read.specs.Meaning.Attribute.{no_attributes}
use Rattle.read_laws.specs.SignalBits.{Written, IsWritten, places_of, placed}
use Rattle.read_laws.specs.Lines.{AttributeLine, PairLine, AreAttributes, IsPair, HaveAttributes, GivesBits, GivesLink, attribute_places, place_behind, pair_places, between_lines}

-- ---- as they are written

-- the first line of a switch, with the attributes before it: the word, the signal, and the end of the line
pub record SwitchLine : Type 0 where
  pub attributes : List AttributeLine
  pub word : Seen
  pub signal : Written
  pub line : Seen

-- a comma and the pattern behind it
pub record NextPattern : Type 0 where
  pub comma : Seen
  pub pattern : Written

-- the patterns of a case: none, or the first and those behind it
pub data Patterns : Type 0 where
  NoPattern : Patterns
  SomePatterns : Written → List NextPattern → Patterns

-- the first line of a case, with the attributes before it: the word, the patterns, and the end of the line
pub record CaseLine : Type 0 where
  pub attributes : List AttributeLine
  pub word : Seen
  pub patterns : Patterns
  pub line : Seen

mutual
  -- the lines of a case or a process: none; an assign and others; or a switch up to its `end`, and others
  pub data BodyLines : Type 0 where
    NoLine : BodyLines
    AnAssign : PairLine → BodyLines → BodyLines
    ASwitch : SwitchLine → CaseLines → Seen → Seen → BodyLines → BodyLines

  -- the cases of a switch: none, or the first with its lines, and others
  pub data CaseLines : Type 0 where
    NoCaseLine : CaseLines
    ACase : CaseLine → BodyLines → CaseLines → CaseLines

-- ---- what they stand for, where their items have the sorts of such lines

-- the signal and the attributes of a switch
pub record GivesSwitch (wires : List Wire) (names : List (List ℕ)) (s : SwitchLine) (signal : List SigBit) (attributes : List Attribute) : Type 0 where
  pub lines : AreAttributes s.attributes
  pub word : s.word.sort ≡ sorts.Switch
  pub written : IsWritten s.signal
  pub line : s.line.sort ≡ sorts.Line
  pub all : Attributes
  pub have : HaveAttributes s.attributes no_attributes all
  pub are : attributes ≡ all.items
  pub bits : GivesBits wires names s.signal signal
  pub some : 0 < length signal

-- a pattern has a bit
abbrev pub GivesPattern : List Wire → List (List ℕ) → Written → List SigBit → Type 0
GivesPattern wires names p bits = IsWritten p × GivesBits wires names p bits × (0 < length bits)

abbrev pub GiveMore : List Wire → List (List ℕ) → List NextPattern → List (List SigBit) → Type 0
GiveMore wires names [] patterns = patterns ≡ []
GiveMore wires names (n ∷ more) patterns =
    (n.comma.sort ≡ sorts.Comma)
    × ((bits : List SigBit) × (rest : List (List SigBit)) × GivesPattern wires names n.pattern bits × GiveMore wires names more rest × (patterns ≡ bits ∷ rest))

abbrev pub GivePatterns : List Wire → List (List ℕ) → Patterns → List (List SigBit) → Type 0
GivePatterns wires names NoPattern patterns = patterns ≡ []
GivePatterns wires names (SomePatterns p more) patterns =
    (bits : List SigBit) × (rest : List (List SigBit)) × GivesPattern wires names p bits × GiveMore wires names more rest × (patterns ≡ bits ∷ rest)

-- the patterns and the attributes of a case
pub record GivesCase (wires : List Wire) (names : List (List ℕ)) (c : CaseLine) (patterns : List (List SigBit)) (attributes : List Attribute) : Type 0 where
  pub lines : AreAttributes c.attributes
  pub word : c.word.sort ≡ sorts.Case
  pub line : c.line.sort ≡ sorts.Line
  pub all : Attributes
  pub have : HaveAttributes c.attributes no_attributes all
  pub are : attributes ≡ all.items
  pub patterns_are : GivePatterns wires names c.patterns patterns

abbrev mutual
  -- the assigns and the switches of these lines, each in their order; so many switches stand round them, and there is a
  -- limit to that
  pub GivesBody : List Wire → List (List ℕ) → ℕ → BodyLines → List Link → List SwitchView → Type 0
  GivesBody wires names level NoLine assigns switches = (assigns ≡ []) × (switches ≡ [])
  GivesBody wires names level (AnAssign p lines) assigns switches =
      IsPair sorts.Assign p
      × ((link : Link) × (rest : List Link) × GivesLink wires names p link × GivesBody wires names level lines rest switches × (assigns ≡ link ∷ rest))
  GivesBody wires names level (ASwitch s cases end line lines) assigns switches =
      (end.sort ≡ sorts.End) × (line.sort ≡ sorts.Line) × (level < MAX_DEPTH)
      × ((one : SwitchView) × (rest : List SwitchView) × (list : List CaseView) × GivesSwitch wires names s one.signal one.attributes × GivesCases wires names (suc level) cases list × (one.cases ≡ cases_of list) × GivesBody wires names level lines assigns rest × (switches ≡ one ∷ rest))

  -- the cases of these lines, in their order
  pub GivesCases : List Wire → List (List ℕ) → ℕ → CaseLines → List CaseView → Type 0
  GivesCases wires names level NoCaseLine list = list ≡ []
  GivesCases wires names level (ACase c body cases) list =
      (one : CaseView) × (rest : List CaseView) × (switches : List SwitchView) × GivesCase wires names c one.patterns one.attributes × GivesBody wires names level body one.assigns switches × (one.switches ≡ switches_of switches) × GivesCases wires names level cases rest × (list ≡ one ∷ rest)

-- ---- where their items stand

abbrev pub switch_places : Expect → Expect → SwitchLine → List Use
switch_places place next s =
    attribute_places place next s.attributes
    ++ (placed (place_behind place next s.attributes) s.word ∷ (places_of expects.Signal expects.BehindSwitch s.signal ++ placed expects.BehindSwitch s.line ∷ []))

abbrev pub more_places : List NextPattern → Seen → List Use
more_places [] line = placed expects.BehindPattern line ∷ []
more_places (n ∷ more) line = placed expects.BehindPattern n.comma ∷ (places_of expects.Signal expects.BehindPattern n.pattern ++ more_places more line)

abbrev pub pattern_places : Patterns → Seen → List Use
pattern_places NoPattern line = placed expects.Patterns line ∷ []
pattern_places (SomePatterns p more) line = places_of expects.Patterns expects.BehindPattern p ++ more_places more line

abbrev pub head_places : Expect → Expect → CaseLine → List Use
head_places first next c =
    attribute_places first next c.attributes ++ (placed (place_behind first next c.attributes) c.word ∷ pattern_places c.patterns c.line)

abbrev mutual
  -- a line stands at the one place, and a word behind attributes at the other
  pub body_places : Expect → Expect → BodyLines → List Use
  body_places place next NoLine = []
  body_places place next (AnAssign p lines) = pair_places place p ++ body_places place next lines
  body_places place next (ASwitch s cases end line lines) =
      switch_places place next s ++ (case_places expects.Cases expects.NextCase cases end line ++ body_places place next lines)

  -- the cases, and the `end` of the switch
  pub case_places : Expect → Expect → CaseLines → Seen → Seen → List Use
  case_places first next NoCaseLine end line = placed first end ∷ placed expects.EndOfLine line ∷ []
  case_places first next (ACase c body cases) end line =
      head_places first next c ++ (body_places expects.CaseBody expects.NextInCase body ++ case_places expects.CaseBody expects.NextInCase cases end line)

-- where such lines may stand: in a case, or in a process; with the place of a word behind attributes there
abbrev pub may_hold : Expect → Expect → Bool
may_hold expects.CaseBody expects.NextInCase = true
may_hold expects.ProcessBody expects.NextSwitch = true
may_hold place next = false

-- ---- between lines of a tree

-- this case is open, in these switches, and no line is
abbrev pub in_case : OpenCase → List OpenSwitch → Draft → Draft
in_case c outer d = between_lines (record d { process = record d.process { tree = record { case = c; outer = outer; attributes = [] } } })

-- the case with these assigns and switches more
abbrev pub with_body : List Link → List SwitchView → OpenCase → OpenCase
with_body assigns switches c = record c { assigns = c.assigns ++ assigns; switches = c.switches ++ switches }
