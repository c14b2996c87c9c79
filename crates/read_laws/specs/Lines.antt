-- The lines that cases, switches and rules have in common: attributes, and pairs of signals.
use Rattle.std.specs.Prelude.{◌≡◌, ℕ, ◌≤◌, List, [], ◌∷◌, ◌++◌, true}
use Rattle.rtl_lex.specs.declared.sort.Sort.{Sort}
use Rattle.rtl_lex.specs.declared.sort.Sort.TheVariants as sorts
use Rattle.rtl_lex.specs.Items.{Seen}
use Rattle.rtl_sig.specs.declared.sig.SigBit.{SigBit}
use Rattle.rtl_ir.specs.declared.limits.TheConstants.{MAX_DEPTH}
use Rattle.rtl_ir.specs.declared.module.Link.{Link}
use Rattle.rtl_ir.specs.declared.value.Value.{Value}
use Rattle.rtl_ir.specs.declared.wire.Wire.{Wire}
use Rattle.rtl_grammar.specs.declared.expect.Expect.{Expect}
use Rattle.rtl_grammar.specs.declared.expect.Expect.TheVariants as expects
use Rattle.rtl_grammar.specs.Uses.{Use}
use Rattle.rtl_read.specs.declared.attributes.Attributes.{Attributes}
use Rattle.rtl_read.specs.declared.draft.Draft.{Draft}
use Rattle.rtl_read.specs.declared.draft.PairKind.TheVariants.{Connect}
use Rattle.rtl_read.specs.Meaning.Attribute.{no_attributes, with_attribute}
use Rattle.rtl_read.specs.Meaning.Process.{plain_write}
use Rattle.rtl_read.specs.Signal.{no_signal}
use Rattle.read_laws.specs.SignalBits.{Written, IsWritten, StandsFor, depth_of, places_of, placed}
use Rattle.read_laws.specs.ConstantBits.{is_constant, HasValue}

-- ---- as they are written

-- the line of an attribute: the word, its name, its value, and the end of the line
pub record AttributeLine : Type 0 where
  pub word : Seen
  pub name : Seen
  pub value : Seen
  pub line : Seen

-- the line of a pair: the word, the left signal, the right one, and the end of the line
pub record PairLine : Type 0 where
  pub word : Seen
  pub left : Written
  pub right : Written
  pub line : Seen

-- the items have the sorts that such lines have
abbrev pub AreAttributes : List AttributeLine → Type 0
AreAttributes [] = Unit {0}
AreAttributes (a ∷ more) =
    (a.word.sort ≡ sorts.Attribute) × (a.name.sort ≡ sorts.Id) × (is_constant a.value.sort ≡ true) × (a.line.sort ≡ sorts.Line) × AreAttributes more

abbrev pub IsPair : Sort → PairLine → Type 0
IsPair word p = (p.word.sort ≡ word) × IsWritten p.left × IsWritten p.right × (p.line.sort ≡ sorts.Line)

-- ---- what they stand for

-- the attributes that wait, after these lines: one more for each line, with the value of its constant
abbrev pub HaveAttributes : List AttributeLine → Attributes → Attributes → Type 0
HaveAttributes [] before after = after ≡ before
HaveAttributes (a ∷ more) before after = (v : Value) × HasValue a.value v × HaveAttributes more (with_attribute a.name.text v before) after

-- the signal stands for these bits, and its braces are no deeper than the limit
abbrev pub GivesBits : List Wire → List (List ℕ) → Written → List SigBit → Type 0
GivesBits wires names signal bits = StandsFor wires names signal bits × (depth_of signal ≤ MAX_DEPTH)

-- the signals of a pair are the two sides of the link
abbrev pub GivesLink : List Wire → List (List ℕ) → PairLine → Link → Type 0
GivesLink wires names p link = GivesBits wires names p.left link.left × GivesBits wires names p.right link.right

-- ---- where their items stand

-- the lines of attributes: the first word stands at one place, the others at another
abbrev pub attribute_places : Expect → Expect → List AttributeLine → List Use
attribute_places first next [] = []
attribute_places first next (a ∷ more) =
    placed first a.word ∷ placed expects.AttributeName a.name ∷ placed expects.AttributeValue a.value ∷ placed expects.EndOfLine a.line ∷ attribute_places next next more

-- .. and the place of the word behind them
abbrev pub place_behind : Expect → Expect → List AttributeLine → Expect
place_behind first next [] = first
place_behind first next (a ∷ more) = next

-- the line of a pair, whose word stands at this place
abbrev pub pair_places : Expect → PairLine → List Use
pair_places place p =
    placed place p.word
    ∷ (places_of expects.Signal expects.BehindLeft p.left ++ (places_of expects.BehindLeft expects.BehindRight p.right ++ placed expects.BehindRight p.line ∷ []))

-- ---- between lines

-- what was read, where no line is open: no pair, no signal, no attribute that waits, no `memwr` line
abbrev pub between_lines : Draft → Draft
between_lines d = record d {
  pair = Connect;
  left = [];
  signal = no_signal;
  attributes = no_attributes;
  name = [];
  process = record d.process { write = plain_write [] };
}
