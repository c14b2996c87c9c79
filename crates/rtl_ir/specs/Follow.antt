-- Connections, place by place, and where they lead from a bit.
use Rattle.std.specs.Prelude.{ℕ, zero, suc, List, [], ◌∷◌, length, Option, Some, None, unwrap_or, if◌then◌else◌, flat_map}
use Rattle.std.specs.Option.{option_map_or}
use Rattle.rtl_sig.specs.declared.sig.SigBit.{SigBit}
use Rattle.rtl_sig.specs.declared.sig.SigBit.TheVariants as sig
use Rattle.rtl_sig.specs.declared.sig.WireBit.{WireBit}
use Rattle.rtl_ir.specs.declared.follow.Join.{Join}
use Rattle.rtl_ir.specs.declared.module.Link.{Link}
use Rattle.rtl_ir.specs.Signals.{same_bit}

-- the places that both sides have, where the left is a bit of a wire
abbrev pub joins : List SigBit → List SigBit → List Join
joins [] right = []
joins (l ∷ ls) [] = []
joins (sig.Fixed c ∷ ls) (r ∷ rs) = joins ls rs
joins (sig.Wire b ∷ ls) (r ∷ rs) = record { bit = b; source = r } ∷ joins ls rs

-- the places of several, in order
abbrev pub all_joins : List Link → List Join
all_joins links = flat_map (λ l. joins l.left l.right) links

-- what the first of these places gives to a bit
abbrev pub source_at : List Join → WireBit → Option SigBit
source_at [] b = None
source_at (j ∷ js) b = if same_bit j.bit b then Some j.source else source_at js b

-- one connection back from a bit, where one drives it
abbrev pub back : List Join → SigBit → Option SigBit
back js (sig.Fixed c) = None
back js (sig.Wire b) = source_at js b

-- where at most so many connections lead back to what no connection drives, where they do
abbrev pub end_within : List Join → ℕ → SigBit → Option SigBit
end_within js zero s = option_map_or (λ r. None) (back js s) (Some s)
end_within js (suc n) s = option_map_or (end_within js n) (back js s) (Some s)

-- the first bit or constant on the way back that no connection drives; the bit itself where the way runs into a loop
unfoldable pub follow_joins : List Join → SigBit → SigBit
follow_joins js s = unwrap_or (end_within js (length js) s) s

-- the same over the connections of a module
abbrev pub follow : List Link → SigBit → SigBit
follow links s = follow_joins (all_joins links) s
