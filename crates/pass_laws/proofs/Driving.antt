-- The rows of a cell of the library, place by place of its output.
use Rattle.std.proofs.Common.{◌≡◌, ℕ, zero, suc, ◌+◌, false, List, [], ◌∷◌, length, Some, inl, inr, refl, sym, ◌∙◌, ap, subst, arith}
use Rattle.std.specs.Prelude.{map, slice_get, slice_index_or}
use Rattle.std.specs.Option.{option_map_or}
use Rattle.cell_types.specs.PinName.{pin_text}
use Rattle.cell_types.specs.declared.kind.CellKind.{CellKind}
use Rattle.cell_types.specs.declared.kind.CellKind.TheVariants.{Gate, Memory, Storage, StorageGate, Word}
use Rattle.cell_types.specs.declared.pin_name.PinName.TheVariants.{A, B, Q, S, Y}
use Rattle.cell_types.specs.declared.shape.Shape.{Shape}
use Rattle.rtl_bits.specs.declared.bit.Bit.{Bit}
use Rattle.rtl_bits.specs.declared.bit.Bit.TheVariants.{S0}
use Rattle.rtl_sig.specs.declared.sig.SigBit.{SigBit}
use Rattle.rtl_sig.specs.declared.sig.SigBit.TheVariants.{Fixed, Wire as OnWire}
use Rattle.rtl_sig.specs.declared.sig.WireBit.{WireBit}
use Rattle.rtl_ir.specs.Faults.Cells.{is_memory_kind}
use Rattle.rtl_ir.specs.Flat.Cell.{cell_shape, gate_store, kind_rows, outputs, stores, word_store}
use Rattle.rtl_ir.specs.Flat.Driver.{Driven, Driver, Joined, Nothing, StorePoints, Stored, Worked}
use Rattle.rtl_ir.specs.Flat.Link.{joins}
use Rattle.rtl_ir.specs.Flat.Place.{Path}
use Rattle.rtl_ir.specs.Flat.Point.{Point, bit_place, pin_points, point, points}
use Rattle.rtl_ir.specs.Outputs.{output_pin}
use Rattle.rtl_ir.specs.Parameters.{signal_at}
use Rattle.rtl_ir.specs.declared.cell.Cell.{Cell}
use Rattle.rtl_ir.specs.declared.wire.Wire.{Wire}
use Rattle.net_model.specs.Lists.{In}
use Rattle.net_model.specs.Valuation.{Valuation, read, read_all}

-- the signal at the pin that a cell of a kind drives
abbrev pub output_signal : Cell → CellKind → List SigBit
output_signal c kind = option_map_or (λ name. signal_at c.pins (pin_text name)) (output_pin kind) []

-- the words at the inputs of a combinational cell
abbrev pub input_points : Path → List Wire → Cell → List (List Point)
input_points p wires c = pin_points p wires c.pins A ∷ pin_points p wires c.pins B ∷ pin_points p wires c.pins S ∷ []

-- what drives the bit at a place of the output of a cell
abbrev pub own_driver : (SigBit → Bit) → Path → List Wire → Cell → CellKind → ℕ → WireBit → Driver
own_driver start p wires c (Word kind) at b = Worked (cell_shape (Word kind) c.params) (input_points p wires c) at
own_driver start p wires c (Gate kind) at b = Worked (cell_shape (Gate kind) c.params) (input_points p wires c) at
own_driver start p wires c (Storage kind) at b =
    Stored (start (OnWire b)) (cell_shape (Storage kind) c.params) at (word_store p wires c.pins at) (bit_place p wires b)
own_driver start p wires c (StorageGate gate) at b =
    Stored (start (OnWire b)) (cell_shape (StorageGate gate) c.params) at (gate_store p wires c.pins at) (bit_place p wires b)
own_driver start p wires c (Memory kind) at b = Nothing

-- what the points of a signal have, bit by bit
pub read_points : (w : Valuation) (p : Path) (wires : List Wire) (signal : List SigBit) → read_all w (points p wires signal) ≡ map (λ s. read w (point p wires s)) signal
read_points w p wires [] = refl
read_points w p wires (s ∷ signal) = ap (λ z. read w (point p wires s) ∷ z) (read_points w p wires signal)

module _ (p : Path) (wires : List Wire) where
  -- a row
  abbrev pub row_of : WireBit → Driver → Driven
  row_of b driver = record { place = bit_place p wires b; driver = driver }

  -- the rows of the bits of a signal from a place on
  abbrev rows_from : (ℕ → WireBit → Driver) → List SigBit → ℕ → List Driven
  rows_from f [] at = []
  rows_from f (Fixed c ∷ ys) at = rows_from f ys (suc at)
  rows_from f (OnWire b ∷ ys) at = row_of b (f at b) ∷ rows_from f ys (suc at)

  outputs_from : (shape : Shape) (inputs : List (List Point)) (ys : List SigBit) (at : ℕ) → outputs shape inputs (points p wires ys) at ≡ rows_from (λ k b. Worked shape inputs k) ys at
  outputs_from shape inputs [] at = refl
  outputs_from shape inputs (Fixed c ∷ ys) at = outputs_from shape inputs ys (suc at)
  outputs_from shape inputs (OnWire b ∷ ys) at =
      ap (λ z. row_of b (Worked shape inputs at) ∷ z) (outputs_from shape inputs ys (suc at))

  stores_from : (start : SigBit → Bit) (shape : Shape) (reads : ℕ → StorePoints) (ys : List SigBit) (at : ℕ) → stores start shape reads ys (points p wires ys) at ≡ rows_from (λ k b. Stored (start (OnWire b)) shape k (reads k) (bit_place p wires b)) ys at
  stores_from start shape reads [] at = refl
  stores_from start shape reads (Fixed c ∷ ys) at = stores_from start shape reads ys (suc at)
  stores_from start shape reads (OnWire b ∷ ys) at =
      ap (λ z. row_of b (Stored (start (OnWire b)) shape at (reads at) (bit_place p wires b)) ∷ z) (stores_from start shape reads ys (suc at))

  -- a row of the bit at a place of a signal
  pub record IsRow (f : ℕ → WireBit → Driver) (ys : List SigBit) (at : ℕ) (d : Driven) : Type 0 where
    pub number : ℕ
    pub bit : WireBit
    pub there : slice_get ys number ≡ Some (OnWire bit)
    pub is : d ≡ row_of bit (f (at + number) bit)

  row_later : (f : ℕ → WireBit → Driver) (y : SigBit) (ys : List SigBit) (at : ℕ) (d : Driven) → IsRow f ys (suc at) d → IsRow f (y ∷ ys) at d
  row_later f y ys at d r =
      let e : suc at + r.number ≡ at + suc r.number = omega arith in
      record { number = suc r.number; bit = r.bit; there = r.there; is = r.is ∙ ap (λ k. row_of r.bit (f k r.bit)) e }

  row_is : (f : ℕ → WireBit → Driver) (ys : List SigBit) (at : ℕ) (d : Driven) → In d (rows_from f ys at) → IsRow f ys at d
  row_is f [] at d i = absurd i
  row_is f (Fixed c ∷ ys) at d i = row_later f (Fixed c) ys at d (row_is f ys (suc at) d i)
  row_is f (OnWire b ∷ ys) at d (inl e) =
      let here : at ≡ at + 0 = omega arith in
      record { number = 0; bit = b; there = refl; is = e ∙ ap (λ k. row_of b (f k b)) here }
  row_is f (OnWire b ∷ ys) at d (inr i) = row_later f (OnWire b) ys at d (row_is f ys (suc at) d i)

  row_in : (f : ℕ → WireBit → Driver) (ys : List SigBit) (at k : ℕ) (b : WireBit) → slice_get ys k ≡ Some (OnWire b) → In (row_of b (f (at + k) b)) (rows_from f ys at)
  row_in f [] at k b e = absurd (cc)
  row_in f (Fixed c ∷ ys) at zero b e = absurd (cc)
  row_in f (Fixed c ∷ ys) at (suc k) b e =
      let n : suc at + k ≡ at + suc k = omega arith in
      subst (λ z. In (row_of b (f z b)) (rows_from f ys (suc at))) n (row_in f ys (suc at) k b e)
  row_in f (OnWire d ∷ ys) at zero b e =
      let here : at + 0 ≡ at = omega arith in
      let same : b ≡ d = cc in
      inl (ap (λ z. row_of b (f z b)) here ∙ ap (λ z. row_of z (f at z)) same)
  row_in f (OnWire d ∷ ys) at (suc k) b e =
      let n : suc at + k ≡ at + suc k = omega arith in
      inr (subst (λ z. In (row_of b (f z b)) (rows_from f ys (suc at))) n (row_in f ys (suc at) k b e))

  -- the row of a place of a connection
  pub joined_in : (ys rs : List SigBit) → length ys ≡ length rs → (k : ℕ) (b : WireBit) → slice_get ys k ≡ Some (OnWire b) → In (row_of b (Joined (point p wires (slice_index_or rs k (Fixed S0))))) (joins (points p wires ys) (points p wires rs))
  joined_in [] rs l k b e = absurd (cc)
  joined_in (y ∷ ys) [] l k b e = absurd (omega (arith, l))
  joined_in (Fixed c ∷ ys) (r ∷ rs) l zero b e = absurd (cc)
  joined_in (Fixed c ∷ ys) (r ∷ rs) l (suc k) b e = joined_in ys rs (omega (arith, l)) k b e
  joined_in (OnWire d ∷ ys) (r ∷ rs) l zero b e =
      let same : b ≡ d = cc in
      inl (ap (λ z. row_of z (Joined (point p wires r))) same)
  joined_in (OnWire d ∷ ys) (r ∷ rs) l (suc k) b e = inr (joined_in ys rs (omega (arith, l)) k b e)

  -- the rows of a cell of the library are those of its output
  module _ (start : SigBit → Bit) (c : Cell) where
    own_rows : (kind : CellKind) → is_memory_kind kind ≡ false → kind_rows start p wires c kind ≡ rows_from (own_driver start p wires c kind) (output_signal c kind) 0
    own_rows (Word kind) plain = outputs_from _ _ (signal_at c.pins (pin_text Y)) 0
    own_rows (Gate kind) plain = outputs_from _ _ (signal_at c.pins (pin_text Y)) 0
    own_rows (Storage kind) plain = stores_from start _ _ (signal_at c.pins (pin_text Q)) 0
    own_rows (StorageGate gate) plain = stores_from start _ _ (signal_at c.pins (pin_text Q)) 0
    own_rows (Memory kind) plain = absurd (cc)

    -- each row is one of a bit at a place of the output
    pub own_row : (kind : CellKind) → is_memory_kind kind ≡ false → (d : Driven) → In d (kind_rows start p wires c kind) → IsRow (own_driver start p wires c kind) (output_signal c kind) 0 d
    own_row kind plain d i =
        row_is (own_driver start p wires c kind) (output_signal c kind) 0 d (subst (In d) (own_rows kind plain) i)

    -- and each such bit has a row
    pub own_in : (kind : CellKind) → is_memory_kind kind ≡ false → (k : ℕ) (b : WireBit) → slice_get (output_signal c kind) k ≡ Some (OnWire b) → In (row_of b (own_driver start p wires c kind k b)) (kind_rows start p wires c kind)
    own_in kind plain k b e =
        let n : 0 + k ≡ k = omega arith in
        subst (In (row_of b (own_driver start p wires c kind k b))) (sym (own_rows kind plain)) (subst (λ z. In (row_of b (own_driver start p wires c kind z b)) (rows_from (own_driver start p wires c kind) (output_signal c kind) 0)) n (row_in (own_driver start p wires c kind) (output_signal c kind) 0 k b e))
