-- Constants, and the bits that they stand for in a signal.
use Rattle.std.specs.Prelude.{ℕ, ◌+◌, ◌-◌, ◌*◌, ◌^◌, ℤ, pos, negsuc, List, length, reverse, map, nat_lt, if◌then◌else◌, Option, Some, None, Result, Ok, Err}
use Rattle.std.specs.List.{flat_map}
use Rattle.rtl_bits.specs.declared.bit.Bit.{Bit}
use Rattle.rtl_bits.specs.Numbers as numbers
use Rattle.rtl_lex.specs.declared.sort.Sort.{Sort}
use Rattle.rtl_lex.specs.declared.sort.Sort.TheVariants as sorts
use Rattle.rtl_lex.specs.Items.{Seen}
use Rattle.rtl_lex.specs.Strings.{chars_of}
use Rattle.rtl_lex.specs.Values.{width_of, is_signed, bits_of}
use Rattle.rtl_sig.specs.declared.sig.SigBit.{SigBit}
use Rattle.rtl_sig.specs.declared.sig.SigBit.TheVariants.{Fixed}
use Rattle.rtl_ir.specs.declared.value.Value.{Value}
use Rattle.rtl_ir.specs.declared.value.Value.TheVariants as values
use Rattle.rtl_ir.specs.declared.limits.TheConstants.{MAX_WIDTH}
use Rattle.rtl_read.specs.declared.read_fault.ReadFault.{ReadFault}
use Rattle.rtl_read.specs.declared.read_fault.ReadFault.TheVariants as faults
use Rattle.rtl_grammar.specs.Uses.{◌>>=◌}

-- the integer of an item, where it is in range
abbrev pub integer : Option ℤ → Seen → Result ℤ ReadFault
integer None i = Err (faults.Int i.place)
integer (Some n) i = Ok n

-- a value, where its width is within the limit
abbrev pub value : Seen → Result Value ReadFault
value i = if nat_lt MAX_WIDTH (width_of i.text) then Err (faults.Limit i.place) else Ok (values.Bits (bits_of i.text) (is_signed i.text))

-- a string, where its width is within the limit
abbrev pub string : Seen → Result Value ReadFault
string i = if nat_lt MAX_WIDTH (8 * length (chars_of i.text)) then Err (faults.Limit i.place) else Ok (values.Chars (chars_of i.text))

-- a constant, by its sort
abbrev pub constant : Sort → Seen → Result Value ReadFault
constant sorts.Value i = value i
constant sorts.Int i = integer i.number i >>= λ n. Ok (values.Int n)
constant sorts.Chars i = string i
constant sort i = Err (faults.Syntax i.place)

-- so many low bits of a number, bit 0 first
unfoldable pub low_bits : ℕ → ℕ → List Bit
low_bits n width = numbers.bits_of n width

-- an integer as a number of 32 bits, in two's complement
abbrev pub unsigned : ℤ → ℕ
unsigned (pos n) = n
unsigned (negsuc n) = 2 ^ 32 - (n + 1)

-- the bits that a constant stands for: an integer has 32, a string 8 for each character with the first one on top
abbrev pub constant_bits : Value → List Bit
constant_bits (values.Bits bits signed) = bits
constant_bits (values.Int n) = low_bits (unsigned n) 32
constant_bits (values.Chars text) = flat_map (λ c. low_bits c 8) (reverse text)

-- a constant as a signal
abbrev pub fixed : Value → List SigBit
fixed v = map (λ b. Fixed b) (constant_bits v)
