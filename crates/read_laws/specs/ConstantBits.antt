-- The value that a constant has, and the bits that it stands for in a signal.
use Rattle.std.specs.Prelude.{◌≡◌, ℕ, ◌*◌, ◌≤◌, ℤ, List, [], ◌∷◌, ◌++◌, length, map, Some, Bool, true, false}
use Rattle.rtl_bits.specs.declared.bit.Bit.{Bit}
use Rattle.rtl_bits.specs.Numbers.{number_of, integer_of}
use Rattle.rtl_lex.specs.declared.sort.Sort.{Sort}
use Rattle.rtl_lex.specs.declared.sort.Sort.TheVariants as sorts
use Rattle.rtl_lex.specs.Items.{Seen}
use Rattle.rtl_lex.specs.Strings.{chars_of}
use Rattle.rtl_lex.specs.Values.{width_of, is_signed, bits_of}
use Rattle.rtl_sig.specs.declared.sig.SigBit.{SigBit}
use Rattle.rtl_sig.specs.declared.sig.SigBit.TheVariants.{Fixed}
use Rattle.rtl_ir.specs.Constants.{value_bits}
use Rattle.rtl_ir.specs.declared.value.Value.{Value}
use Rattle.rtl_ir.specs.declared.value.Value.TheVariants as values
use Rattle.rtl_ir.specs.declared.limits.TheConstants.{MAX_WIDTH}
use Rattle.rtl_grammar.specs.declared.expect.Expect.{Expect}
use Rattle.rtl_grammar.specs.declared.expect.Expect.TheVariants as expects
use Rattle.rtl_read.specs.declared.draft.Draft.{Draft}
use Rattle.rtl_read.specs.Meaning.Attribute.{with_attribute}
use Rattle.rtl_read.specs.Meaning.Module.{with_parameter}
use Rattle.rtl_read.specs.Meaning.Cell.{with_param}

-- the sorts of constants: `width'bits`, an integer, a string
abbrev pub is_constant : Sort → Bool
is_constant sorts.Value = true
is_constant sorts.Int = true
is_constant sorts.Chars = true
is_constant sort = false

-- the item is a constant of this value
abbrev pub HasValue : Seen → Value → Type 0
HasValue i (values.Bits bits signed) = (i.sort ≡ sorts.Value) × (bits ≡ bits_of i.text) × (signed ≡ is_signed i.text) × (width_of i.text ≤ MAX_WIDTH)
HasValue i (values.Int n) = (i.sort ≡ sorts.Int) × (i.number ≡ Some n)
HasValue i (values.Chars text) = (i.sort ≡ sorts.Chars) × (text ≡ chars_of i.text) × (8 * length text ≤ MAX_WIDTH)

-- the places where a constant is a value: of an attribute, of a parameter of a module, of a parameter of a cell
abbrev pub takes_value : Expect → Bool
takes_value expects.AttributeValue = true
takes_value expects.ParameterValue = true
takes_value expects.CellParameterValue = true
takes_value place = false

-- what was read before, with this value at such a place
abbrev pub with_value_at : Expect → Value → Draft → Draft
with_value_at expects.AttributeValue v d = record d { attributes = with_attribute d.name v d.attributes; name = [] }
with_value_at expects.ParameterValue v d = record d { current = with_parameter d.name (Some v) d.current; name = [] }
with_value_at expects.CellParameterValue v d = record d { cell = with_param v d.cell }
with_value_at place v d = d

-- the bits of a value as a signal
abbrev pub signal_of : Value → List SigBit
signal_of v = map (λ (b : Bit). Fixed b) (value_bits v)

-- an integer has 32 bits, which are the integer in two's complement
abbrev pub IsWord : ℤ → Type 0
IsWord n = (length (value_bits (values.Int n)) ≡ 32) × (integer_of (value_bits (values.Int n)) ≡ n)

-- the first character of a string has the 8 bits on top of the others, which are its number
abbrev pub IsOnTop : ℕ → List ℕ → Type 0
IsOnTop char text =
    (top : List Bit) × (value_bits (values.Chars (char ∷ text)) ≡ value_bits (values.Chars text) ++ top) × (length top ≡ 8) × (number_of top ≡ char)
