-- Wires that are named, and new places of wires, in tables.
use Rattle.std.specs.Prelude.{◌≡◌, ℕ, ◌+◌, Bool, true, ◌||◌, List, [], ◌∷◌, set, if◌then◌else◌}
use Rattle.rtl_sig.specs.declared.sig.WireBit.{WireBit}
use Rattle.rtl_ir.specs.Ports.{is_port}
use Rattle.rtl_ir.specs.declared.wire.Wire.{Wire}
use Rattle.opt_clean.specs.declared.wires.Moves.{Moves}
use Rattle.rtl_ir.specs.Attributes.{is_kept}
use Rattle.opt_clean.specs.Wires.{mark_count}

-- the wires of these bits are noted
abbrev pub noted : List Bool → List WireBit → List Bool
noted named [] = named
noted named (b ∷ bits) = noted (set named b.wire true) bits

-- a wire stays that is named, is a port or has `\keep`
abbrev pub stays_if : Bool → Wire → Bool
stays_if named w = (named || is_port w.role) || is_kept w.attributes

-- which of the wires stay, of which these are named
abbrev pub marks_by : List Bool → List Wire → List Bool
marks_by [] ws = []
marks_by (t ∷ ts) [] = []
marks_by (t ∷ ts) (w ∷ ws) = stays_if t w ∷ marks_by ts ws

-- how many marked ones stand before each, behind so many
abbrev pub places_from : ℕ → List Bool → List ℕ
places_from count [] = []
places_from count (t ∷ ts) = count ∷ places_from (count + (if t then 1 else 0)) ts

-- the table has the new places of the wires, and how many there are
pub record AreMoves (moves : Moves) (marks : List Bool) : Type 0 where
  pub places : moves.places.items ≡ places_from 0 marks
  pub count : moves.count ≡ mark_count marks
