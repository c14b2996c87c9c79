-- Tables of words: a bit for each address and each place.
use Rattle.std.specs.Prelude.{ℕ, ◌+◌, ◌-◌, ◌*◌, ◌&&◌, nat_le, nat_lt, List, [], length, map, slice_set, if◌then◌else◌, slice_index_or}
use Rattle.std.specs.List.{range_with_len}
use Rattle.rtl_bits.specs.declared.bit.Bit.{Bit}
use Rattle.rtl_bits.specs.declared.bit.Bit.TheVariants.{X}
use Rattle.rtl_ir.specs.declared.cell.Cell.{Cell}
use Rattle.rtl_ir.specs.Signals.{constant_of}
use Rattle.rtl_ir.specs.Flat.Memory.{init_bit_of, init_bits_of, init_enable}
use Rattle.rtl_ir.specs.Flat.Cell.{cell_kind}
use Rattle.rtl_ir.specs.Parameters.{signal_at}
use Rattle.rtl_sig.specs.declared.sig.SigBit.{SigBit}
use Rattle.rtl_sig.specs.declared.sig.SigBit.TheVariants as sig
use Rattle.cell_gate.specs.Control.{pick_of}
use Rattle.cell_types.specs.PinName.{pin_text}
use Rattle.cell_types.specs.declared.pin_name.PinName.TheVariants.{Data}

-- the constant at a place of a signal, past the end x
abbrev pub constant_at : List SigBit → ℕ → Bit
constant_at signal at = constant_of (slice_index_or signal at (sig.Fixed X))

-- the words at so many addresses from a base on
abbrev pub table : ℕ → ℕ → ℕ → (ℕ → ℕ → Bit) → List (List Bit)
table base size width bits = map (λ address. map (bits address) (range_with_len 0 width)) (range_with_len base size)

-- what a cell makes of the words, those below an address alone
abbrev pub below : ℕ → Cell → ℕ → (ℕ → ℕ → Bit) → ℕ → ℕ → Bit
below width c bound bits address at = if nat_lt address bound then init_bit_of width c address at (bits address at) else bits address at

-- what a cell makes of the words
abbrev pub after : ℕ → Cell → (ℕ → ℕ → Bit) → ℕ → ℕ → Bit
after width c bits address at = init_bit_of width c address at (bits address at)

-- what cells make of unknown bits
abbrev pub started : ℕ → List Cell → ℕ → ℕ → Bit
started width cells address at = init_bits_of width cells address at X

-- a bit of the start word of a number of a cell, over what the word was
abbrev pub start_bit : ℕ → Cell → ℕ → List Bit → ℕ → Bit
start_bit width c number old at =
    pick_of (init_enable (cell_kind c) c at)
    (constant_of (slice_index_or (signal_at c.pins (pin_text Data)) (number * width + at) (sig.Fixed X)))
    (slice_index_or old at X)

-- the start word of a number of a cell goes to an address, where it is one of the words
abbrev pub put_start : ℕ → ℕ → Cell → ℕ → ℕ → List (List Bit) → List (List Bit)
put_start base width c address number words =
    if nat_le base address && nat_lt (address - base) (length words)
    then slice_set words (address - base) (map (start_bit width c number (slice_index_or words (address - base) [])) (range_with_len 0 width))
    else words
