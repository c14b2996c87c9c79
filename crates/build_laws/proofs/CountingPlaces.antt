-- How often places stand among those that are driven.
use Rattle.std.proofs.Common.{◌≡◌, ℕ, ◌+◌, List, ◌++◌, ◌∙◌, ap}
use Rattle.rtl_sig.specs.declared.sig.WireBit.{WireBit}
use Rattle.rtl_ir.specs.Flat.Place.{Path, Place, place_same}
use Rattle.rtl_ir.specs.Flat.Point.{bit_place}
use Rattle.rtl_ir.specs.declared.wire.Wire.{Wire}
use Rattle.net_model.proofs.Members.{map-append}
use Rattle.pass_laws.proofs.Placing.{bits_places}
use Rattle.build_laws.proofs.CountingItems.{often, often_more}

-- how often a place stands among places
abbrev pub times : Place → List Place → ℕ
times q ps = often place_same q ps

-- a bit stands among two lists as often as among both
pub times_bits : (p : Path) (ws : List Wire) (q : Place) (xs ys : List WireBit) → times q (bits_places p ws (xs ++ ys)) ≡ times q (bits_places p ws xs) + times q (bits_places p ws ys)
times_bits p ws q xs ys =
    ap (times q) (map-append (bit_place p ws) xs ys) ∙ often_more place_same q (bits_places p ws xs) (bits_places p ws ys)
