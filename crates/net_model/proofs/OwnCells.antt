-- The rows of cells of the library and of connections are the module's own.
use Rattle.std.proofs.Common.{ℕ, suc, List, [], ◌∷◌, inl, inr, sym, subst}
use Rattle.std.specs.Prelude.{flat_map}
use Rattle.rtl_bits.specs.declared.bit.Bit.{Bit}
use Rattle.rtl_sig.specs.declared.sig.SigBit.{SigBit}
use Rattle.cell_types.specs.declared.kind.CellKind.{CellKind}
use Rattle.cell_types.specs.declared.kind.CellKind.TheVariants.{Word, Gate, Storage, StorageGate, Memory}
use Rattle.cell_types.specs.declared.pin_name.PinName.{PinName}
use Rattle.cell_types.specs.declared.pin_name.PinName.TheVariants.{A, B, S, Y, Clk, En, Arst, Srst, Aload, Set, Clr, Ad, D, Q, C, E, R, L}
use Rattle.cell_types.specs.declared.shape.Shape.{Shape}
use Rattle.cell_types.specs.PinName.{pin_text}
use Rattle.rtl_ir.specs.declared.cell.Cell.{Cell}
use Rattle.rtl_ir.specs.declared.cell.Pin.{Pin}
use Rattle.rtl_ir.specs.declared.module.Link.{Link}
use Rattle.rtl_ir.specs.declared.wire.Wire.{Wire}
use Rattle.rtl_ir.specs.Flat.Cell.{cell_shape, outputs, worked_rows, word_store, gate_store, stores, stored_rows, kind_rows}
use Rattle.rtl_ir.specs.Flat.Driver.{StorePoints}
use Rattle.rtl_ir.specs.Flat.Link.{joins, link_rows}
use Rattle.rtl_ir.specs.Flat.Place.{Path}
use Rattle.rtl_ir.specs.Flat.Point.{Point, Constant, At, points, point_at, pin_points}
use Rattle.rtl_ir.specs.Flat.Reads.{store_list, reads}
use Rattle.rtl_ir.specs.Parameters.{signal_at}
use Rattle.net_model.proofs.Own.{IsOwn, AreOwn, IsOwnRow, AreOwnRows, own_at, own_append, own_points, own_both}

module _ (p : Path) (wires : List Wire) where
  own_pin : (pins : List Pin) (name : PinName) (at : ℕ) → IsOwn p (point_at (pin_points p wires pins name) at)
  own_pin pins name at = own_at p (pin_points p wires pins name) (own_points p wires (signal_at pins (pin_text name))) at

  own_word_store : (pins : List Pin) (at : ℕ) → AreOwn p (store_list (word_store p wires pins at))
  own_word_store pins at =
      (own_pin pins Clk 0, (own_pin pins En 0, (own_pin pins Arst 0, (own_pin pins Srst 0, (own_pin pins Aload 0, (own_pin pins Ad at, (own_pin pins Set at, (own_pin pins Clr at, (own_pin pins D at, tt)))))))))

  own_gate_store : (pins : List Pin) (at : ℕ) → AreOwn p (store_list (gate_store p wires pins at))
  own_gate_store pins at =
      (own_pin pins C 0, (own_pin pins E 0, (own_pin pins R 0, (own_pin pins R 0, (own_pin pins L 0, (own_pin pins Ad 0, (own_pin pins S 0, (own_pin pins R 0, (own_pin pins D 0, tt)))))))))

pub own_joins : (p : Path) (ls rs : List Point) → AreOwn p ls → AreOwn p rs → AreOwnRows p (joins ls rs)
own_joins p [] rs h i x j = absurd j
own_joins p (l ∷ ls) [] h i x j = absurd j
own_joins p (Constant b ∷ ls) (r ∷ rs) h i x j = own_joins p ls rs h.1 i.1 x j
own_joins p (At q ∷ ls) (r ∷ rs) h i x (inl e) = subst (IsOwnRow p) (sym e) (record { place = h.0; read = (i.0, tt) })
own_joins p (At q ∷ ls) (r ∷ rs) h i x (inr j) = own_joins p ls rs h.1 i.1 x j

outputs_own : (p : Path) (shape : Shape) (inputs : List (List Point)) → AreOwn p (flat_map (λ word. word) inputs) → (ys : List Point) → AreOwn p ys → (at : ℕ) → AreOwnRows p (outputs shape inputs ys at)
outputs_own p shape inputs g [] h at x i = absurd i
outputs_own p shape inputs g (At q ∷ ys) h at x (inl e) = subst (IsOwnRow p) (sym e) (record { place = h.0; read = g })
outputs_own p shape inputs g (At q ∷ ys) h at x (inr i) = outputs_own p shape inputs g ys h.1 (suc at) x i
outputs_own p shape inputs g (Constant b ∷ ys) h at x i = outputs_own p shape inputs g ys h.1 (suc at) x i

stores_own : (p : Path) (start : SigBit → Bit) (shape : Shape) (pins : ℕ → StorePoints) → ((at : ℕ) → AreOwn p (store_list (pins at))) → (ss : List SigBit) (qs : List Point) → AreOwn p qs → (at : ℕ) → AreOwnRows p (stores start shape pins ss qs at)
stores_own p start shape pins g [] qs h at x i = absurd i
stores_own p start shape pins g (s ∷ ss) [] h at x i = absurd i
stores_own p start shape pins g (s ∷ ss) (At q ∷ qs) h at x (inl e) =
    subst (IsOwnRow p) (sym e) (record { place = h.0; read = (h.0, g at) })
stores_own p start shape pins g (s ∷ ss) (At q ∷ qs) h at x (inr i) = stores_own p start shape pins g ss qs h.1 (suc at) x i
stores_own p start shape pins g (s ∷ ss) (Constant b ∷ qs) h at x i = stores_own p start shape pins g ss qs h.1 (suc at) x i

module _ (start : SigBit → Bit) (p : Path) (wires : List Wire) where
  stored_own : (pins : List Pin) (shape : Shape) (reads : ℕ → StorePoints) → ((at : ℕ) → AreOwn p (store_list (reads at))) → AreOwnRows p (stored_rows start p wires pins shape reads)
  stored_own pins shape reads h =
      stores_own p start shape reads h (signal_at pins (pin_text Q)) (pin_points p wires pins Q) (own_points p wires (signal_at pins (pin_text Q))) 0

  worked_own : (pins : List Pin) (shape : Shape) → AreOwnRows p (worked_rows p wires pins shape)
  worked_own pins shape =
      let own = λ (name : PinName). own_points p wires (signal_at pins (pin_text name)) in
      outputs_own p shape (pin_points p wires pins A ∷ pin_points p wires pins B ∷ pin_points p wires pins S ∷ [])
      (own_append p (pin_points p wires pins A) _ (own A) (own_append p (pin_points p wires pins B) _ (own B) (own_append p (pin_points p wires pins S) [] (own S) tt)))
      (pin_points p wires pins Y) (own Y) 0

  pub kind_own : (c : Cell) (kind : CellKind) → AreOwnRows p (kind_rows start p wires c kind)
  kind_own c (Word kind) = worked_own c.pins (cell_shape (Word kind) c.params)
  kind_own c (Gate kind) = worked_own c.pins (cell_shape (Gate kind) c.params)
  kind_own c (Storage kind) =
      stored_own c.pins (cell_shape (Storage kind) c.params) (word_store p wires c.pins) (own_word_store p wires c.pins)
  kind_own c (StorageGate gate) =
      stored_own c.pins (cell_shape (StorageGate gate) c.params) (gate_store p wires c.pins) (own_gate_store p wires c.pins)
  kind_own c (Memory kind) = λ x i. absurd i

pub links_own : (p : Path) (wires : List Wire) (ls : List Link) → AreOwnRows p (link_rows p wires ls)
links_own p wires [] = λ x i. absurd i
links_own p wires (l ∷ ls) =
    own_both p (joins (points p wires l.left) (points p wires l.right)) (link_rows p wires ls) (own_joins p _ _ (own_points p wires l.left) (own_points p wires l.right)) (links_own p wires ls)
