-- What the tokens of a signal do. A signal is read from left to right: the part that was read last, the bits that the
-- open braces have so far, and the bracket that is open.
use Rattle.std.specs.Prelude.{ℕ, zero, suc, ◌+◌, ◌-◌, ℤ, pos, negsuc, List, [], ◌∷◌, ◌++◌, length, take, drop, nat_le, nat_lt, if◌then◌else◌, ◌||◌, Option, Some, None, Result, Ok, Err}
use Rattle.rtl_lex.specs.declared.sort.Sort.{Sort}
use Rattle.rtl_lex.specs.declared.sort.Sort.TheVariants as sorts
use Rattle.rtl_lex.specs.Place.{start}
use Rattle.rtl_lex.specs.Items.{Seen}
use Rattle.rtl_sig.specs.declared.sig.SigBit.{SigBit}
use Rattle.rtl_sig.specs.declared.sig.SigBit.TheVariants as bits
use Rattle.rtl_sig.specs.Names.{number_of}
use Rattle.rtl_ir.specs.declared.wire.Wire.{Wire}
use Rattle.rtl_ir.specs.declared.limits.TheConstants.{MAX_BITS, MAX_DEPTH}
use Rattle.rtl_read.specs.declared.read_fault.ReadFault.{ReadFault}
use Rattle.rtl_read.specs.declared.read_fault.ReadFault.TheVariants as faults
use Rattle.rtl_read.specs.declared.signal.OpenSignal.{OpenSignal}
use Rattle.rtl_grammar.specs.Uses.{◌>>=◌}
use Rattle.rtl_read.specs.Constant.{integer, constant, fixed}

-- the signal in which nothing was read
abbrev pub no_signal : OpenSignal
no_signal = record { part = []; place = start; braces = []; bracket = start; high = pos 0; low = pos 0 }

-- the bits of a wire, from bit 0
unfoldable pub wire_bits : ℕ → ℕ → List SigBit
wire_bits wire zero = []
wire_bits wire (suc n) = wire_bits wire n ++ bits.Wire (record { wire = wire; at = n }) ∷ []

-- the width of the wire at a place of the list
abbrev pub width_at : List Wire → ℕ → ℕ
width_at [] k = 0
width_at (w ∷ ws) zero = w.width
width_at (w ∷ ws) (suc k) = width_at ws k

-- the signal of a wire, given its place, where its name is known
abbrev pub wire_signal : List Wire → Seen → Option ℕ → Result (List SigBit) ReadFault
wire_signal wires i None = Err (faults.UnknownName i.place)
wire_signal wires i (Some k) = Ok (wire_bits k (width_at wires k))

-- the signal of a name or a constant
abbrev pub plain_signal : List Wire → List (List ℕ) → Sort → Seen → Result (List SigBit) ReadFault
plain_signal wires names sorts.Id i = wire_signal wires i (number_of names i.text)
plain_signal wires names sort i = constant sort i >>= λ v. Ok (fixed v)

-- a signal begins: a brace opens, or the part is a name or a constant
abbrev pub begin : List Wire → List (List ℕ) → Sort → Seen → OpenSignal → Result OpenSignal ReadFault
begin wires names sorts.OpenBrace i s = if nat_le MAX_DEPTH (length s.braces) then Err (faults.Limit i.place) else Ok (record s { braces = [] ∷ s.braces })
begin wires names sort i s = plain_signal wires names sort i >>= λ b. Ok (record s { part = b; place = i.place })

-- the innermost braces close, and what they hold is the part
abbrev pub close_brace : Seen → OpenSignal → List (List SigBit) → OpenSignal
close_brace i s [] = s
close_brace i s (brace ∷ braces) = record s { part = brace; place = i.place; braces = braces }

-- behind an opening brace
abbrev pub inside : List Wire → List (List ℕ) → Sort → Seen → OpenSignal → Result OpenSignal ReadFault
inside wires names sorts.CloseBrace i s = Ok (close_brace i s s.braces)
inside wires names sort i s = begin wires names sort i s

-- the part goes below what the innermost braces have so far, where both are no wider than a signal may be
abbrev pub put_below : OpenSignal → List (List SigBit) → Result OpenSignal ReadFault
put_below s [] = Ok s
put_below s (brace ∷ braces) = if nat_lt MAX_BITS (length s.part + length brace) then Err (faults.Limit s.place) else Ok (record s { braces = (s.part ++ brace) ∷ braces })

-- a bracket opens behind the part
abbrev pub open_index : Seen → OpenSignal → OpenSignal
open_index i s = record s { bracket = i.place }

-- behind a signal in braces
abbrev pub behind_inside : List Wire → List (List ℕ) → Sort → Seen → OpenSignal → Result OpenSignal ReadFault
behind_inside wires names sorts.OpenIndex i s = Ok (open_index i s)
behind_inside wires names sort i s = put_below s s.braces >>= λ t. inside wires names sort i t

-- the first number in brackets
abbrev pub set_high : Seen → OpenSignal → Result OpenSignal ReadFault
set_high i s = integer i.number i >>= λ n. Ok (record s { high = n })

-- the second
abbrev pub set_low : Seen → OpenSignal → Result OpenSignal ReadFault
set_low i s = integer i.number i >>= λ n. Ok (record s { low = n })

-- the bits from one number up to another, where the part has them
abbrev pub slice : Seen → ℤ → ℤ → OpenSignal → Result OpenSignal ReadFault
slice i (negsuc low) high s = Err (faults.Range s.bracket)
slice i (pos low) (negsuc high) s = Err (faults.Range s.bracket)
slice i (pos low) (pos high) s =
    if nat_lt high low || nat_le (length s.part) high then Err (faults.Range s.bracket)
    else Ok (record s { part = take (high + 1 - low) (drop low s.part); place = i.place })

-- behind the first number: the bracket closes, or a second number follows
abbrev pub behind_index : Sort → Seen → OpenSignal → Result OpenSignal ReadFault
behind_index sorts.CloseIndex i s = slice i s.high s.high s
behind_index sort i s = Ok s

-- the token behind a signal that may not be empty
abbrev pub some_bits : List SigBit → Seen → Result (List SigBit) ReadFault
some_bits [] i = Err (faults.Syntax i.place)
some_bits (b ∷ bs) i = Ok (b ∷ bs)
