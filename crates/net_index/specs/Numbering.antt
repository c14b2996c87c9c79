-- The bits of the wires of a module in one row: those of each wire behind those of the wires before it.
use Rattle.std.specs.Prelude.{ℕ, zero, suc, ◌+◌, ◌<◌, nat_lt, List, [], ◌∷◌, Option, Some, None, IsSomeAnd, if◌then◌else◌, slice_get, slice_index, map}
use Rattle.rtl_sig.specs.declared.sig.WireBit.{WireBit}
use Rattle.rtl_ir.specs.declared.wire.Wire.{Wire}
use Rattle.net_index.specs.declared.numbering.Row.{Row}

-- the widths of wires
abbrev pub widths_of : List Wire → List ℕ
widths_of wires = map (λ (w : Wire). w.width) wires

-- how many bits stand before the wire at a place
abbrev pub start_of : List ℕ → ℕ → ℕ
start_of widths zero = 0
start_of [] (suc k) = 0
start_of (w ∷ ws) (suc k) = w + start_of ws k

-- how many bits there are
abbrev pub bit_count : List ℕ → ℕ
bit_count [] = 0
bit_count (w ∷ ws) = w + bit_count ws

-- the bit is one of these wires': the wire at its place has it
abbrev pub HasBit : List Wire → WireBit → Type 0
HasBit wires b = IsSomeAnd (slice_get wires b.wire) (λ (w : Wire). b.at < w.width)

-- the number of a bit, where a wire has it
abbrev pub number_of : List ℕ → WireBit → Option ℕ
number_of widths b = if nat_lt b.at (slice_index widths b.wire) then Some (start_of widths b.wire + b.at) else None

-- the widths with where each wire begins, behind so many bits
abbrev pub rows_from : ℕ → List ℕ → List Row
rows_from start [] = []
rows_from start (w ∷ ws) = record { start = start; width = w } ∷ rows_from (start + w) ws
