-- When one point may be read in the place of another.
use Rattle.std.specs.Prelude.{◌≡◌, List, [], ◌∷◌}
use Rattle.rtl_bits.specs.Knowledge.{Below}
use Rattle.rtl_ir.specs.Flat.Driver.{Driver, Driven}
use Rattle.rtl_ir.specs.Flat.Place.{Place}
use Rattle.rtl_ir.specs.Flat.Point.{Point}
use Rattle.net_model.specs.Run.{Time, Start, Step}
use Rattle.net_model.specs.Valuation.{Valuation, read}
use Rattle.net_model.specs.Value.{value_of}

-- two points have the same, as far as either is known
pub record Alike (w : Valuation) (a b : Point) : Type 0 where
  pub there : Below (read w a) (read w b)
  pub back : Below (read w b) (read w a)

-- the same in the step before, where there is one
abbrev pub AlikeBefore : Time Place → Point → Point → Type 0
AlikeBefore Start a b = Unit {0}
AlikeBefore (Step v x first) a b = Alike v a b

-- two points are read alike, now and in the step before
pub record ReadAlike (t : Time Place) (w : Valuation) (a b : Point) : Type 0 where
  pub before : AlikeBefore t a b
  pub now : Alike w a b

-- two drivers give the same, as far as either is known
pub record DriveAlike (t : Time Place) (w : Valuation) (d e : Driver) : Type 0 where
  pub there : Below (value_of d t w) (value_of e t w)
  pub back : Below (value_of e t w) (value_of d t w)

-- two lists stand in a relation, one by one
abbrev pub InPairs : {A : Type 0} → (A → A → Type 0) → List A → List A → Type 0
InPairs related [] [] = Unit {0}
InPairs related (x ∷ xs) (y ∷ ys) = related x y × InPairs related xs ys
InPairs related [] (y ∷ ys) = ⊥
InPairs related (x ∷ xs) [] = ⊥

-- two rows are of one bit, with drivers in this relation
abbrev pub SameBit : (Driver → Driver → Type 0) → Driven → Driven → Type 0
SameBit related d e = (d.place ≡ e.place) × related d.driver e.driver
