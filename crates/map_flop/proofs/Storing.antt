-- The gate of a bit keeps it as the storage cell does, and gives no less.
use Rattle.std.proofs.Common.{◌≡◌, ℕ, zero, suc, Bool, List, [], ◌∷◌, refl, sym, subst}
use Rattle.std.specs.Prelude.{slice_index_or}
use Rattle.cell_gate.specs.Control.{edge_of, pick_of}
use Rattle.cell_gate.specs.Storage.{enabled_of, next_of}
use Rattle.cell_gate.specs.Store.{reset_at, storage_kind}
use Rattle.cell_gate.specs.declared.pins.Pins.{Pins}
use Rattle.cell_types.specs.Shape.{bit_of, gate_resets}
use Rattle.cell_types.specs.declared.kind.CellKind.TheVariants.{Storage, StorageGate}
use Rattle.cell_types.specs.declared.levels.Levels.{Levels}
use Rattle.cell_types.specs.declared.pin_name.PinName.TheVariants.{Clk, En, Arst, Srst, Aload, Set, Clr, Ad, D}
use Rattle.cell_types.specs.declared.shape.Resets.{Resets}
use Rattle.cell_types.specs.declared.shape.Shape.{Shape}
use Rattle.cell_types.specs.declared.storage.StorageKind.{StorageKind}
use Rattle.cell_types.specs.declared.storage.StorageKind.TheVariants.{Ff, Dff, Dffe, Sdff, Sdffe, Sdffce, Adff, Adffe, Aldff, Aldffe, Dffsr, Dffsre, Dlatch, Adlatch, Dlatchsr, Sr}
use Rattle.rtl_bits.proofs.Orders.{Below_refl, Below_trans}
use Rattle.rtl_bits.proofs.Tables.{mux_of_mono}
use Rattle.rtl_bits.specs.Knowledge.{Below}
use Rattle.rtl_bits.specs.declared.bit.Bit.{Bit}
use Rattle.rtl_bits.specs.declared.bit.Bit.TheVariants.{S0, S1, X, Z, M, Dash}
use Rattle.rtl_ir.specs.Flat.Cell.{cell_shape, gate_store, word_store}
use Rattle.rtl_ir.specs.Flat.Driver.{StorePoints, Stored}
use Rattle.rtl_ir.specs.Flat.Place.{Path, Place}
use Rattle.rtl_ir.specs.Flat.Point.{point, point_at, points}
use Rattle.rtl_ir.specs.declared.cell.Cell.{Cell}
use Rattle.rtl_ir.specs.declared.wire.Wire.{Wire}
use Rattle.rtl_sig.specs.declared.sig.SigBit.{SigBit}
use Rattle.rtl_sig.specs.declared.sig.SigBit.TheVariants.{Fixed}
use Rattle.net_model.specs.declared.order.Order.{Order}
use Rattle.net_model.specs.declared.order.Order.TheVariants.{Together, Released}
use Rattle.net_model.specs.Order.{Manner, next_bit_of, released_of, stored_in}
use Rattle.net_model.specs.Run.{Time, Start, Step}
use Rattle.net_model.specs.Valuation.{Valuation}
use Rattle.net_model.specs.Value.{pins_of, value_of}
use Rattle.map_laws.specs.Operand.{pin_signal}
use Rattle.map_flop.specs.Gate.{bit_gate, gate_for, is_one}
use Rattle.map_flop.specs.Pins.{gate_pins, pin_bit}

-- a control picks from more where it picks from less
picks : (c a a' b b' : Bit) → Below a a' → Below b b' → Below (pick_of c a b) (pick_of c a' b')
picks c a a' b b' h k = mux_of_mono b b' a a' c c k h (Below_refl c)

-- with more known of its reset's value a kind gives more
module _ (before now : Pins) where
  abbrev edge : Bit
  edge = edge_of before.clk now.clk

  value_kept : (kind : StorageKind) (a b : Bit) → Below a b → Below (next_of kind a before now) (next_of kind b before now)
  value_kept Sdff a b h = picks edge _ _ _ _ (reset a b before.d h) (Below_refl before.q)
    where
      reset : (a b d : Bit) → Below a b → Below (pick_of before.srst a d) (pick_of before.srst b d)
      reset a b d h = picks before.srst a b d d h (Below_refl d)
  value_kept Sdffe a b h = picks edge _ _ _ _ (picks before.srst a b _ _ h (Below_refl (enabled_of before before.d))) (Below_refl before.q)
  value_kept Sdffce a b h =
      picks edge _ _ _ _ (picks before.en _ _ _ _ (picks before.srst a b _ _ h (Below_refl before.d)) (Below_refl before.q)) (Below_refl before.q)
  value_kept Adff a b h = picks now.arst a b _ _ h (Below_refl (next_of Dff a before now))
  value_kept Adffe a b h = picks now.arst a b _ _ h (Below_refl (next_of Dffe a before now))
  value_kept Adlatch a b h = picks now.arst a b _ _ h (Below_refl (next_of Dlatch a before now))
  value_kept Ff a b h = Below_refl (next_of Ff a before now)
  value_kept Dff a b h = Below_refl (next_of Dff a before now)
  value_kept Dffe a b h = Below_refl (next_of Dffe a before now)
  value_kept Aldff a b h = Below_refl (next_of Aldff a before now)
  value_kept Aldffe a b h = Below_refl (next_of Aldffe a before now)
  value_kept Dffsr a b h = Below_refl (next_of Dffsr a before now)
  value_kept Dffsre a b h = Below_refl (next_of Dffsre a before now)
  value_kept Dlatch a b h = Below_refl (next_of Dlatch a before now)
  value_kept Dlatchsr a b h = Below_refl (next_of Dlatchsr a before now)
  value_kept Sr a b h = Below_refl (next_of Sr a before now)

  released_kept : (kind : StorageKind) (a b : Bit) → Below a b → (x y : Bit) → Below x y → Below (released_of kind a before now x) (released_of kind b before now y)
  released_kept Adff a b h x y k =
      picks now.arst a b _ _ h (picks edge _ _ _ _ (picks before.arst a b _ _ h (Below_refl before.d)) (Below_refl before.q))
  released_kept Adffe a b h x y k =
      picks now.arst a b _ _ h (picks edge _ _ _ _ (picks before.arst a b _ _ h (Below_refl (enabled_of before before.d))) (Below_refl before.q))
  released_kept Aldff a b h x y k = Below_refl (released_of Aldff a before now x)
  released_kept Aldffe a b h x y k = Below_refl (released_of Aldffe a before now x)
  released_kept Dffsr a b h x y k = Below_refl (released_of Dffsr a before now x)
  released_kept Dffsre a b h x y k = Below_refl (released_of Dffsre a before now x)
  released_kept kind a b h x y k = k

-- in either order of time
ordered_kept : (order : Order) (kind : StorageKind) (levels : Levels) (a b : Bit) → Below a b → (before now : Pins) (first : Bool) → Below (stored_in order kind levels a before now first) (stored_in order kind levels b before now first)
ordered_kept Together kind levels a b h before now first = value_kept _ _ kind a b h
ordered_kept Released kind levels a b h before now first = released_kept _ _ kind a b h _ _ (value_kept _ _ kind a b h)

-- the value of a reset, with what is not known as 0
one_above : (b : Bit) → Below b (bit_of (is_one b))
one_above S0 = refl
one_above S1 = refl
one_above X = tt
one_above Z = tt
one_above M = tt
one_above Dash = tt

-- the value of the reset of the gate of a kind
abbrev gate_reset : StorageKind → Levels → Bool → Bit
gate_reset kind levels value = reset_at kind (gate_resets (gate_for kind levels value)) 0

reset_above : (kind : StorageKind) (levels : Levels) (resets : Resets) (at : ℕ) → Below (reset_at kind resets at) (gate_reset kind levels (is_one (reset_at kind resets at)))
reset_above Sdff levels resets at = one_above (slice_index_or resets.srst at X)
reset_above Sdffe levels resets at = one_above (slice_index_or resets.srst at X)
reset_above Sdffce levels resets at = one_above (slice_index_or resets.srst at X)
reset_above Adff levels resets at = one_above (slice_index_or resets.arst at X)
reset_above Adffe levels resets at = one_above (slice_index_or resets.arst at X)
reset_above Adlatch levels resets at = one_above (slice_index_or resets.arst at X)
reset_above Ff levels resets at = tt
reset_above Dff levels resets at = tt
reset_above Dffe levels resets at = tt
reset_above Aldff levels resets at = tt
reset_above Aldffe levels resets at = tt
reset_above Dffsr levels resets at = tt
reset_above Dffsre levels resets at = tt
reset_above Dlatch levels resets at = tt
reset_above Dlatchsr levels resets at = tt
reset_above Sr levels resets at = tt

module _ (p : Path) (wires : List Wire) where
  -- the point at a place of a pin is that of the bit there
  point_taken : (bits : List SigBit) (at : ℕ) → point p wires (slice_index_or bits at (Fixed X)) ≡ point_at (points p wires bits) at
  point_taken [] at = refl
  point_taken (b ∷ bits) zero = refl
  point_taken (b ∷ bits) (suc at) = point_taken bits at

  module _ (c : Cell) (at : ℕ) where
    -- what a bit of the cell reads, by the bits at its pins
    abbrev reads : StorePoints
    reads = record {
      clk = point p wires (pin_bit c Clk 0);
      en = point p wires (pin_bit c En 0);
      arst = point p wires (pin_bit c Arst 0);
      srst = point p wires (pin_bit c Srst 0);
      aload = point p wires (pin_bit c Aload 0);
      ad = point p wires (pin_bit c Ad at);
      set = point p wires (pin_bit c Set at);
      clr = point p wires (pin_bit c Clr at);
      d = point p wires (pin_bit c D at);
    }

    word_reads : reads ≡ word_store p wires c.pins at
    word_reads = λ i. record {
      clk = point_taken (pin_signal c Clk) 0 i;
      en = point_taken (pin_signal c En) 0 i;
      arst = point_taken (pin_signal c Arst) 0 i;
      srst = point_taken (pin_signal c Srst) 0 i;
      aload = point_taken (pin_signal c Aload) 0 i;
      ad = point_taken (pin_signal c Ad) at i;
      set = point_taken (pin_signal c Set) at i;
      clr = point_taken (pin_signal c Clr) at i;
      d = point_taken (pin_signal c D) at i;
    }

    -- what the gate of a kind reads
    abbrev pub gate_reads : StorageKind → Levels → Bool → SigBit → StorePoints
    gate_reads kind levels value q = gate_store p wires (gate_pins kind (gate_for kind levels value) c at q) 0

    -- what a bit is next, by what it reads
    abbrev next_bit : Order → StorageKind → Levels → Bit → StorePoints → Place → Valuation → Valuation → Bool → Bit
    next_bit order kind levels value pins own before w first =
        stored_in order kind levels value (pins_of before pins own) (pins_of w pins own) first

    module _ (levels : Levels) (value : Bool) (q : SigBit) (own : Place) (before w : Valuation) (first : Bool) where
      abbrev gate_bit : Order → StorageKind → Bit
      gate_bit order kind =
          next_bit_of (record { first = first; order = order }) (cell_shape (StorageGate (gate_for kind levels value)) []) 0 (pins_of before (gate_reads kind levels value q) own) (pins_of w (gate_reads kind levels value q) own)

      -- the gate of a kind has the meaning of the kind
      same_bit : (kind : StorageKind) → gate_bit Together kind ≡ next_bit Together kind levels (gate_reset kind levels value) reads own before w first
      unfolding cell_shape
      same_bit Ff = refl
      same_bit Dff = refl
      same_bit Dffe = refl
      same_bit Sdff = refl
      same_bit Sdffe = refl
      same_bit Sdffce = refl
      same_bit Adff = refl
      same_bit Adffe = refl
      same_bit Aldff = refl
      same_bit Aldffe = refl
      same_bit Dffsr = refl
      same_bit Dffsre = refl
      same_bit Dlatch = refl
      same_bit Adlatch = refl
      same_bit Dlatchsr = refl
      same_bit Sr = refl

      -- in both orders of time
      ordered_bit : (order : Order) (kind : StorageKind) → gate_bit order kind ≡ next_bit order kind levels (gate_reset kind levels value) reads own before w first
      unfolding cell_shape
      ordered_bit Together kind = same_bit kind
      ordered_bit Released Ff = refl
      ordered_bit Released Dff = refl
      ordered_bit Released Dffe = refl
      ordered_bit Released Sdff = refl
      ordered_bit Released Sdffe = refl
      ordered_bit Released Sdffce = refl
      ordered_bit Released Adff = refl
      ordered_bit Released Adffe = refl
      ordered_bit Released Aldff = refl
      ordered_bit Released Aldffe = refl
      ordered_bit Released Dffsr = refl
      ordered_bit Released Dffsre = refl
      ordered_bit Released Dlatch = refl
      ordered_bit Released Adlatch = refl
      ordered_bit Released Dlatchsr = refl
      ordered_bit Released Sr = refl

    module _ (kind : StorageKind) (shape : Shape) (is : shape.kind ≡ Storage kind) (q : SigBit) (own : Place) where
      abbrev value : Bool
      value = is_one (reset_at kind shape.resets at)

      -- the cell's bit, by the bits at its pins
      word_bit : (before w : Valuation) (manner : Manner) → next_bit manner.order kind shape.levels (reset_at kind shape.resets at) reads own before w manner.first ≡ next_bit_of manner shape at (pins_of before (word_store p wires c.pins at) own) (pins_of w (word_store p wires c.pins at) own)
      word_bit before w manner = λ i. next_bit manner.order (storage_kind (sym is i)) shape.levels (reset_at (storage_kind (sym is i)) shape.resets at) (word_reads i) own before w manner.first

      bit_above : (before w : Valuation) (manner : Manner) (z : Bit) → Below (next_bit_of manner (cell_shape (StorageGate (bit_gate kind shape at)) []) 0 (pins_of before (gate_reads kind shape.levels value q) own) (pins_of w (gate_reads kind shape.levels value q) own)) z → Below (next_bit_of manner shape at (pins_of before (word_store p wires c.pins at) own) (pins_of w (word_store p wires c.pins at) own)) z
      bit_above before w manner z h =
          subst (λ v. Below v z) (word_bit before w manner)
          (Below_trans _ (next_bit manner.order kind shape.levels (gate_reset kind shape.levels value) reads own before w manner.first) z
          (ordered_kept manner.order kind shape.levels _ _ (reset_above kind shape.levels shape.resets at) _ _ manner.first)
          (subst (λ v. Below v z) (ordered_bit shape.levels value q own before w manner.first manner.order kind) h))

      -- a row of the gate says no less than the row of the cell's bit
      pub row_above : (start : Bit) (t : Time Place) (w : Valuation) (z : Bit) → Below (value_of (Stored start (cell_shape (StorageGate (bit_gate kind shape at)) []) 0 (gate_reads kind shape.levels value q) own) t w) z → Below (value_of (Stored start shape at (word_store p wires c.pins at) own) t w) z
      row_above start Start w z h = h
      row_above start (Step before inputs manner) w z h = bit_above before w manner z h
