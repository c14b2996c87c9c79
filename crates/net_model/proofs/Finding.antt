-- The rows of cells and connections, place by place: what a row is, and that each place has its row.
use Rattle.std.proofs.Common.{◌≡◌, ℕ, zero, suc, ◌+◌, List, [], ◌∷◌, inl, inr, refl, sym, ap, arith}
use Rattle.rtl_bits.specs.declared.bit.Bit.{Bit}
use Rattle.rtl_bits.specs.declared.bit.Bit.TheVariants.{X}
use Rattle.rtl_sig.specs.declared.sig.SigBit.{SigBit}
use Rattle.rtl_sig.specs.declared.sig.SigBit.TheVariants.{Fixed}
use Rattle.std.specs.Prelude.{slice_index_or}
use Rattle.cell_types.specs.declared.shape.Shape.{Shape}
use Rattle.rtl_ir.specs.Flat.Cell.{outputs, stores}
use Rattle.rtl_ir.specs.Flat.Driver.{StorePoints, Driven, Joined, Worked, Stored}
use Rattle.rtl_ir.specs.Flat.Link.{joins}
use Rattle.rtl_ir.specs.Flat.Place.{Place}
use Rattle.rtl_ir.specs.Flat.Point.{Point, Constant, At, point_at}
use Rattle.net_model.specs.Lists.{In}

-- a number behind another: counted up from the second one, so that it computes place by place
abbrev pub behind : ℕ → ℕ → ℕ
behind from zero = from
behind from (suc k) = behind (suc from) k

pub behind_zero : (k : ℕ) → behind 0 k ≡ k
behind_zero k = let e : behind 0 k ≡ 0 + k = by 0 k in omega (arith, e)
  where
    by : (n k : ℕ) → behind n k ≡ n + k
    by n zero = omega arith
    by n (suc k) = omega (arith, by (suc n) k)

-- a row of an output: the place of the pin that it stands at
pub outputs_find : (shape : Shape) (inputs : List (List Point)) (ys : List Point) (from : ℕ) (x : Driven) → In x (outputs shape inputs ys from) → (k : ℕ) × (q : Place) × (point_at ys k ≡ At q) × (x ≡ record { place = q; driver = Worked shape inputs (behind from k) })
outputs_find shape inputs [] from x i = absurd i
outputs_find shape inputs (At q ∷ ys) from x (inl e) = (0, q, refl, e)
outputs_find shape inputs (At q ∷ ys) from x (inr i) =
    let f = outputs_find shape inputs ys (suc from) x i in (suc f.0, f.1, f.2, f.3)
outputs_find shape inputs (Constant b ∷ ys) from x i =
    let f = outputs_find shape inputs ys (suc from) x i in (suc f.0, f.1, f.2, f.3)

-- each place of the pin that is a bit has its row
pub outputs_have : (shape : Shape) (inputs : List (List Point)) (ys : List Point) (from k : ℕ) (q : Place) → point_at ys k ≡ At q → In (record { place = q; driver = Worked shape inputs (behind from k) }) (outputs shape inputs ys from)
outputs_have shape inputs [] from k q e = absurd (cc)
outputs_have shape inputs (At r ∷ ys) from zero q e =
    let same : r ≡ q = cc in inl (ap (λ z. record { place = z; driver = Worked shape inputs from }) (sym same))
outputs_have shape inputs (Constant b ∷ ys) from zero q e = absurd (cc)
outputs_have shape inputs (At r ∷ ys) from (suc k) q e = inr (outputs_have shape inputs ys (suc from) k q e)
outputs_have shape inputs (Constant b ∷ ys) from (suc k) q e = outputs_have shape inputs ys (suc from) k q e

-- a bit of a signal, past its end the constant x
abbrev pub sig_at : List SigBit → ℕ → SigBit
sig_at ss k = slice_index_or ss k (Fixed X)

-- the same of the bits that a storage cell keeps
pub stores_find : (start : SigBit → Bit) (shape : Shape) (pins : ℕ → StorePoints) (ss : List SigBit) (qs : List Point) (from : ℕ) (x : Driven) → In x (stores start shape pins ss qs from) → (k : ℕ) × (q : Place) × (point_at qs k ≡ At q) × (x ≡ record { place = q; driver = Stored (start (sig_at ss k)) shape (behind from k) (pins (behind from k)) q })
stores_find start shape pins [] qs from x i = absurd i
stores_find start shape pins (s ∷ ss) [] from x i = absurd i
stores_find start shape pins (s ∷ ss) (At q ∷ qs) from x (inl e) = (0, q, refl, e)
stores_find start shape pins (s ∷ ss) (At q ∷ qs) from x (inr i) =
    let f = stores_find start shape pins ss qs (suc from) x i in (suc f.0, f.1, f.2, f.3)
stores_find start shape pins (s ∷ ss) (Constant b ∷ qs) from x i =
    let f = stores_find start shape pins ss qs (suc from) x i in (suc f.0, f.1, f.2, f.3)

-- the same of connections: a row is a place that both sides have
pub joins_find : (ls rs : List Point) (x : Driven) → In x (joins ls rs) → (k : ℕ) × (q : Place) × (point_at ls k ≡ At q) × (x ≡ record { place = q; driver = Joined (point_at rs k) })
joins_find [] rs x i = absurd i
joins_find (l ∷ ls) [] x i = absurd i
joins_find (At q ∷ ls) (r ∷ rs) x (inl e) = (0, q, refl, e)
joins_find (At q ∷ ls) (r ∷ rs) x (inr i) = let f = joins_find ls rs x i in (suc f.0, f.1, f.2, f.3)
joins_find (Constant b ∷ ls) (r ∷ rs) x i = let f = joins_find ls rs x i in (suc f.0, f.1, f.2, f.3)
