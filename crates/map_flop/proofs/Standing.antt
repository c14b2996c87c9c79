-- The gates of a storage cell stand for it: each bit of Q has a gate that says no less.
use Rattle.std.proofs.Common.{◌≡◌, ℕ, suc, ◌+◌, List, [], ◌∷◌, ◌++◌, Some, inl, inr, refl, sym, ◌∙◌, ap, subst}
use Rattle.std.proofs.lemmas.List.{append-nil}
use Rattle.cell_gate.specs.Store.{reset_at}
use Rattle.cell_types.specs.declared.kind.CellKind.TheVariants.{Storage, StorageGate}
use Rattle.cell_types.specs.declared.pin_name.PinName.TheVariants.{Q}
use Rattle.cell_types.specs.declared.shape.Shape.{Shape}
use Rattle.cell_types.specs.declared.storage.StorageKind.{StorageKind}
use Rattle.rtl_bits.specs.declared.bit.Bit.{Bit}
use Rattle.rtl_ir.specs.Build.{Building}
use Rattle.rtl_ir.specs.Flat.Cell.{Ports, cell_kind, cell_rows, cell_shape, cells_rows, gate_store, instance_of, instances, listed, stores, word_store}
use Rattle.rtl_ir.specs.Flat.Driver.{Driven, StorePoints, Stored}
use Rattle.rtl_ir.specs.Flat.Place.{Path, Place}
use Rattle.rtl_ir.specs.Flat.Point.{Point, Constant, At, point, points}
use Rattle.rtl_ir.specs.declared.cell.Cell.{Cell}
use Rattle.rtl_ir.specs.declared.wire.Wire.{Wire}
use Rattle.rtl_sig.specs.declared.sig.SigBit.{SigBit}
use Rattle.net_model.proofs.Members.{In-left, In-right}
use Rattle.net_model.specs.Lists.{In}
use Rattle.net_model.specs.Refine.{IsMet}
use Rattle.net_model.specs.Run.{Time}
use Rattle.net_model.specs.Valuation.{Valuation}
use Rattle.map_laws.specs.Expansion.{StandsWith, cells_added}
use Rattle.map_laws.specs.Operand.{pin_signal}
use Rattle.map_flop.specs.Expand.{storage_gates}
use Rattle.map_flop.specs.Gate.{bit_gate, is_one}
use Rattle.map_flop.specs.Pins.{gate_pins}
use Rattle.map_flop.proofs.Adding.{added_is, cells_from, gate_here}
use Rattle.map_flop.proofs.Gating.{gate_named, output_bit}
use Rattle.map_flop.proofs.Storing.{gate_reads, row_above}

module _ (ports : Ports) (start : SigBit → Bit) (wires : List Wire) (kind : StorageKind) (shape : Shape) (is : shape.kind ≡ Storage kind) (c : Cell) where
  -- the gates of the bits
  abbrev gates : ℕ → ℕ → SigBit → Cell
  gates = gate_here kind shape c

  gates_named : (at n : ℕ) (q : SigBit) → cell_kind (gates at n q) ≡ Some (StorageGate (bit_gate kind shape at))
  gates_named at n q = gate_named (bit_gate kind shape at) (gate_pins kind (bit_gate kind shape at) c at q) n

  -- no gate is an instance
  no_instances : (at n : ℕ) (qs : List SigBit) → instances (cells_from gates at n qs) ≡ []
  no_instances at n [] = refl
  no_instances at n (q ∷ qs) =
      ap (λ k. listed (instance_of (gates at n q) k) ++ instances (cells_from gates (suc at) (n + 1) qs)) (gates_named at n q) ∙ no_instances (suc at) (n + 1) qs

  module _ (p : Path) where
    -- the rows of a gate
    abbrev gate_rows : ℕ → SigBit → List SigBit → List Driven
    gate_rows at q outs =
        stores start (cell_shape (StorageGate (bit_gate kind shape at)) []) (gate_store p wires (gate_pins kind (bit_gate kind shape at) c at q)) outs (points p wires outs) 0

    rows_are : (at n : ℕ) (q : SigBit) → cell_rows start ports p wires (gates at n q) (cell_kind (gates at n q)) ≡ gate_rows at q (q ∷ [])
    rows_are at n q =
        ap (cell_rows start ports p wires (gates at n q)) (gates_named at n q)
        ∙ ap (gate_rows at q) (output_bit shape.levels (is_one (reset_at kind shape.resets at)) c at q kind)

    -- where the rows of the gates are met, so are those of the cell
    rows_met : (t : Time Place) (w : Valuation) (at n : ℕ) (qs : List SigBit) → ((e : Driven) → In e (cells_rows start ports p wires (cells_from gates at n qs)) → IsMet e t w) →
        (d : Driven) → In d (stores start shape (word_store p wires c.pins) qs (points p wires qs) at) → IsMet d t w
    rows_met t w at n [] h d i = absurd i
    rows_met t w at n (q ∷ qs) h d i =
        by (point p wires q) refl (rows_met t w (suc at) (n + 1) qs (λ e j. h e (In-right e first rest j)) d) i
      where
        first : List Driven
        first = cell_rows start ports p wires (gates at n q) (cell_kind (gates at n q))

        rest : List Driven
        rest = cells_rows start ports p wires (cells_from gates (suc at) (n + 1) qs)

        gate : Shape
        gate = cell_shape (StorageGate (bit_gate kind shape at)) []

        reads : StorePoints
        reads = gate_reads p wires c at kind shape.levels (is_one (reset_at kind shape.resets at)) q

        by : (l : Point) → point p wires q ≡ l → (In d (stores start shape (word_store p wires c.pins) qs (points p wires qs) (suc at)) → IsMet d t w) → In d (stores start shape (word_store p wires c.pins) (q ∷ qs) (l ∷ points p wires qs) at) → IsMet d t w
        by (Constant b) e later j = later j
        by (At own) e later (inl o) =
            let g : Driven = record { place = own; driver = Stored (start q) gate 0 reads own } in
            let here : In g first =
            subst (In g) (sym (rows_are at n q ∙ ap (λ l. stores start gate (gate_store p wires (gate_pins kind (bit_gate kind shape at) c at q)) (q ∷ []) (l ∷ []) 0) e)) (inl refl)
            in
            subst (λ z. IsMet z t w) (sym o) (row_above p wires c at kind shape is q own (start q) t w (w own) (h g (In-left g first rest here)))
        by (At own) e later (inr j) = later j

  -- the gates stand for the cell
  pub gates_stand : (b : Building) → cell_kind c ≡ Some (Storage kind) → shape ≡ cell_shape (Storage kind) c.params → StandsWith ports start wires c (cells_added b (storage_gates kind shape c b)) []
  gates_stand b word e = record {
    children = ap instances added ∙ no_instances 0 b.next qs ∙ ap (λ k. listed (instance_of c k) ++ []) (sym word);
    rows = λ p t w s before d i.
        rows_met p t w 0 b.next qs
        (λ r j. s.met r (subst (In r) (sym (append-nil _)) (subst (λ cells. In r (cells_rows start ports p wires cells)) (sym added) j)))
        d
        (subst (λ s. In d (stores start s (word_store p wires c.pins) qs (points p wires qs) 0)) (sym e) (subst (λ k. In d (cell_rows start ports p wires c k)) word i));
  }
    where
      qs : List SigBit
      qs = pin_signal c Q

      added : cells_added b (storage_gates kind shape c b) ≡ cells_from gates 0 b.next qs
      added = added_is gates qs b
