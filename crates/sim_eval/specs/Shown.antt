-- Tables by number as tables by bit, over the list of the numbered bits.
use Rattle.std.specs.Prelude.{cond, List, [], ◌∷◌}
use Rattle.rtl_bits.specs.declared.bit.Bit.{Bit}
use Rattle.rtl_bits.specs.declared.bit.Bit.TheVariants.{X}
use Rattle.rtl_ir.specs.Flat.Place.{Place, place_same}
use Rattle.net_model.specs.Valuation.{Valuation}

-- what a table says of a bit; it says d of a bit that has no number
abbrev pub found : {A : Type 0} → A → List Place → List A → Place → A
found d [] table q = d
found d (p ∷ ps) [] q = d
found d (p ∷ ps) (a ∷ table) q = cond (place_same p q) a (found d ps table q)

-- the valuation that the values of the numbered bits are; all other bits are x
abbrev pub shown : List Place → List Bit → Valuation
shown ps values = found X ps values
