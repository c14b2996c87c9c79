-- Nets that stand for word cells: what a net gives to the output of a cell is at least the cell's value.
use Rattle.std.proofs.Common.{◌≡◌, ◌<◌, ℕ, zero, suc, ◌+◌, ◌-◌, Bool, false, List, [], ◌∷◌, ◌++◌, length, Some, inl, inr, refl, sym, ◌∙◌, ap, subst, arith, length-append}
use Rattle.std.specs.Prelude.{replicate, slice_index_or, take}
use Rattle.std.proofs.lemmas.List.{length-take}
use Rattle.cell_gate.proofs.Monotone.{output_below}
use Rattle.cell_gate.specs.Gates.{output_of}
use Rattle.cell_types.specs.declared.kind.CellKind.{CellKind}
use Rattle.cell_types.specs.declared.kind.CellKind.TheVariants.{Gate as GateCell}
use Rattle.cell_types.specs.declared.shape.Shape.{Shape}
use Rattle.rtl_bits.proofs.Orders.{Below_from_equal, Below_trans}
use Rattle.rtl_bits.proofs.Tables.{mux_of_mono, not_of_mono}
use Rattle.rtl_bits.specs.Knowledge.{Below}
use Rattle.rtl_bits.specs.Tables.{mux_of, not_of}
use Rattle.rtl_bits.specs.declared.bit.Bit.{Bit}
use Rattle.rtl_bits.specs.declared.bit.Bit.TheVariants.{S0, S1, X, Z, M, Dash}
use Rattle.rtl_ir.specs.Flat.Cell.{Ports, cell_kind, cell_rows, cell_shape, cells_rows, outputs}
use Rattle.rtl_ir.specs.Flat.Driver.{Driven, Worked, Joined}
use Rattle.rtl_ir.specs.Flat.Link.{joins}
use Rattle.rtl_ir.specs.Flat.Place.{Path, Place}
use Rattle.rtl_ir.specs.Flat.Point.{Point, Constant, At, bit_place, point, points}
use Rattle.rtl_ir.specs.declared.cell.CellParam.{CellParam}
use Rattle.rtl_ir.specs.declared.wire.Wire.{Wire}
use Rattle.rtl_sig.specs.Signal.{extended, fill_of}
use Rattle.rtl_sig.specs.declared.sig.SigBit.{SigBit}
use Rattle.rtl_sig.specs.declared.sig.SigBit.TheVariants.{Fixed}
use Rattle.net_model.proofs.Members.{In-left, In-right}
use Rattle.net_model.specs.Lists.{In}
use Rattle.net_model.specs.Refine.{IsMet}
use Rattle.net_model.specs.Run.{Time}
use Rattle.net_model.specs.Valuation.{Valuation, passed_of, read, read_words}
use Rattle.net_model.specs.Value.{value_of as driver_value, worked_of}
use Rattle.gate_nets.specs.Gate.{bit_of, gate_for, kind_of}
use Rattle.gate_nets.specs.Reading.{IsReading, value_of}
use Rattle.gate_nets.specs.declared.gate.Gate.{Gate}
use Rattle.gate_nets.specs.declared.gate.Gate.TheVariants.{Not, Bitwise, Mux}
use Rattle.gate_nets.proofs.Added.{cell_of, cells_of}
use Rattle.gate_nets.proofs.Nets.{Fair, Logic, length-replicate, same_rest}
use Rattle.gate_nets.proofs.Wholes.{gate_named}

-- what is said of bits: a reading has at least this value of them
abbrev pub reads : (f : SigBit → Bit) → IsReading f → Logic
reads f is = record {
  Has = λ a y. Below a (f y);
  Made = λ at g. Below (value_of f g) (f (bit_of at));
  Fed = λ g. Unit {0};
  constant = λ b. Below_from_equal b (f (Fixed b)) (sym (is.constant b));
  inverse = λ u a h. (tt, λ at made. Below_trans (not_of u) (not_of (f a)) (f (bit_of at)) (not_of_mono u (f a) h) made);
  bitwise = λ kind u v a b h k.
      (tt, λ at made. Below_trans (output_of (gate_for kind) u v X) (output_of (gate_for kind) (f a) (f b) X) (f (bit_of at)) (output_below (gate_for kind) u (f a) v (f b) X X h k tt) made);
  choice = λ u v c a b s h k j.
      (tt, λ at made. Below_trans (mux_of u v c) (mux_of (f a) (f b) (f s)) (f (bit_of at)) (mux_of_mono u (f a) v (f b) c (f s) h k j) made);
}

pub shape_kind : (kind : CellKind) (params : List CellParam) → (cell_shape kind params).kind ≡ kind
unfolding cell_shape
shape_kind kind params = refl

-- a connection passes on what is known
passed_below : (a b : Bit) → Below a b → Below a (passed_of b)
passed_below S0 b h = ap passed_of h
passed_below S1 b h = ap passed_of h
passed_below X b h = tt
passed_below Z b h = tt
passed_below M b h = tt
passed_below Dash b h = tt

module _ (ports : Ports) (start : SigBit → Bit) (p : Path) (wires : List Wire) (t : Time Place) (w : Valuation) where
  -- how the bits of signals are read
  abbrev pub here : SigBit → Bit
  here s = read w (point p wires s)

  pub here_reads : IsReading here
  here_reads = record { constant = λ b. refl }

  -- the points that a gate reads
  abbrev words_of : Gate → List (List Point)
  words_of (Not a) = (point p wires a ∷ []) ∷ [] ∷ [] ∷ []
  words_of (Bitwise kind a b) = (point p wires a ∷ []) ∷ (point p wires b ∷ []) ∷ [] ∷ []
  words_of (Mux a b s) = (point p wires a ∷ []) ∷ (point p wires b ∷ []) ∷ (point p wires s ∷ []) ∷ []

  -- the row of a gate
  abbrev row_of : ℕ → Gate → Driven
  row_of wire g = record {
    place = bit_place p wires (record { wire = wire; at = 0 });
    driver = Worked (cell_shape (GateCell (kind_of g)) []) (words_of g) 0;
  }

  gate_rows : (n wire : ℕ) (g : Gate) → cell_rows start ports p wires (cell_of n wire g) (Some (GateCell (kind_of g))) ≡ row_of wire g ∷ []
  gate_rows n wire (Not a) = refl
  gate_rows n wire (Bitwise kind a b) = refl
  gate_rows n wire (Mux a b s) = refl

  gate_gives : (g : Gate) → worked_of (GateCell (kind_of g)) (cell_shape (GateCell (kind_of g)) []) (read_words w (words_of g)) 0 ≡ value_of here g
  gate_gives (Not a) = refl
  gate_gives (Bitwise kind a b) = refl
  gate_gives (Mux a b s) = refl

  row_gives : (wire : ℕ) (g : Gate) → driver_value (row_of wire g).driver t w ≡ value_of here g
  row_gives wire g =
      ap (λ k. worked_of k (cell_shape (GateCell (kind_of g)) []) (read_words w (words_of g)) 0) (shape_kind (GateCell (kind_of g)) []) ∙ gate_gives g

  -- a solution of the rows of gates is a reading that is fair to them
  pub fair_rows : (n wire : ℕ) (gates : List Gate) → ((d : Driven) → In d (cells_rows start ports p wires (cells_of n wire gates)) → IsMet d t w) → Fair (reads here here_reads) wire gates
  fair_rows n wire [] h = tt
  fair_rows n wire (g ∷ gates) h =
      let first : List Driven = cell_rows start ports p wires (cell_of n wire g) (cell_kind (cell_of n wire g)) in
      let rest : List Driven = cells_rows start ports p wires (cells_of (n + 1 + 1) (wire + 1) gates) in
      let is : first ≡ row_of wire g ∷ [] = ap (cell_rows start ports p wires (cell_of n wire g)) (gate_named n wire g) ∙ gate_rows n wire g in
      let own : In (row_of wire g) first = subst (In (row_of wire g)) (sym is) (inl refl) in (
        subst (λ v. Below v (w (row_of wire g).place)) (row_gives wire g) (h (row_of wire g) (In-left (row_of wire g) first rest own)),
        fair_rows (n + 1 + 1) (wire + 1) gates (λ d i. h d (In-right d first rest i)),
      )

  -- the rows of a word cell are met by a connection of its output to bits that have at least its value
  pub outputs_met : (shape : Shape) (words : List (List Point)) (ys rs : List SigBit) (at : ℕ) → length rs ≡ length ys
      → ((k : ℕ) → k < length ys → Below (driver_value (Worked shape words (at + k)) t w) (here (slice_index_or rs k (Fixed S0))))
      → ((d : Driven) → In d (joins (points p wires ys) (points p wires rs)) → IsMet d t w)
      → (d : Driven) → In d (outputs shape words (points p wires ys) at) → IsMet d t w
  outputs_met shape words [] rs at e says met d i = absurd i
  outputs_met shape words (y ∷ ys) [] at e says met d i = absurd (omega (arith, e))
  outputs_met shape words (y ∷ ys) (r ∷ rs) at e says met d i =
      by (point p wires y)
      (λ more.
      outputs_met shape words ys rs (suc at) (same_rest (length rs) (length ys) e)
      (λ k lt. let n : at + suc k ≡ suc at + k = omega arith in subst (λ z. Below (driver_value (Worked shape words z) t w) (here (slice_index_or rs k (Fixed S0)))) n (says (suc k) (omega arith)))
      more d)
      met i
    where
      first : Below (driver_value (Worked shape words at) t w) (here r)
      first = let n : at + 0 ≡ at = omega arith in subst (λ z. Below (driver_value (Worked shape words z) t w) (here r)) n (says 0 (omega arith))

      by : (l : Point) → (((x : Driven) → In x (joins (points p wires ys) (points p wires rs)) → IsMet x t w) → In d (outputs shape words (points p wires ys) (suc at)) → IsMet d t w)
          → ((x : Driven) → In x (joins (l ∷ points p wires ys) (point p wires r ∷ points p wires rs)) → IsMet x t w) → In d (outputs shape words (l ∷ points p wires ys) at) → IsMet d t w
      by (Constant c) next more j = next more j
      by (At q) next more (inl o) =
          let joined : Below (passed_of (here r)) (w q) = more (record { place = q; driver = Joined (point p wires r) }) (inl refl) in
          let value : Bit = driver_value (Worked shape words at) t w in
          subst (λ z. IsMet z t w) (sym o) (Below_trans value (passed_of (here r)) (w q) (passed_below value (here r) first) joined)
      by (At q) next more (inr j) = next (λ x i. more x (inr i)) j

-- a bit of a signal that is cut or filled up with 0
at_filled : (n k : ℕ) → slice_index_or (replicate n (Fixed S0)) k (Fixed S0) ≡ Fixed S0
at_filled zero k = refl
at_filled (suc n) zero = refl
at_filled (suc n) (suc k) = at_filled n k

pub at_extended : (bits : List SigBit) (n k : ℕ) → k < n → slice_index_or (extended bits n false) k (Fixed S0) ≡ slice_index_or bits k (Fixed S0)
at_extended bits zero k h = absurd (omega arith)
at_extended [] (suc n) k h = let e : suc n - 0 ≡ suc n = omega arith in ap (λ z. slice_index_or (replicate z (Fixed S0)) k (Fixed S0)) e ∙ at_filled (suc n) k
at_extended (b ∷ bits) (suc n) zero h = refl
at_extended (b ∷ bits) (suc n) (suc k) h =
    let e : suc n - suc (length bits) ≡ n - length bits = omega arith in
    ap (λ z. slice_index_or (take n bits ++ replicate z (Fixed S0)) k (Fixed S0)) e ∙ at_extended bits n k (omega arith)

pub length-extended : (bits : List SigBit) (n : ℕ) (signed : Bool) → length (extended bits n signed) ≡ n
length-extended bits n signed =
    omega (arith, length-append (take n bits) (replicate (n - length bits) (fill_of bits signed)), length-take n bits, length-replicate (n - length bits) (fill_of bits signed))
