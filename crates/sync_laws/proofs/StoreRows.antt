-- Bits of flip-flops and latches are kept as the rules say.
use Rattle.std.proofs.Common.{◌≡◌, ℕ, zero, suc, ◌+◌, Bool, List, [], ◌∷◌, Some, if◌then◌else◌, inl, inr, refl, sym, ap, subst, arith}
use Rattle.std.specs.Prelude.{◌==◌, map, slice_get, slice_index_or}
use Rattle.rtl_bits.specs.Knowledge.{Below}
use Rattle.rtl_bits.specs.Numbers.{number_of}
use Rattle.rtl_bits.specs.declared.bit.Bit.{Bit}
use Rattle.rtl_bits.specs.declared.bit.Bit.TheVariants.{X}
use Rattle.rtl_sig.specs.declared.sig.SigBit.{SigBit}
use Rattle.rtl_sig.specs.declared.sig.SigBit.TheVariants.{Fixed, Wire as OnWire}
use Rattle.cell_types.specs.Levels.{low}
use Rattle.cell_types.specs.declared.kind.CellKind.TheVariants.{Storage}
use Rattle.cell_types.specs.declared.level.Level.{Level}
use Rattle.cell_types.specs.declared.level.Level.TheVariants.{Low, High}
use Rattle.cell_types.specs.declared.levels.Levels.{Levels}
use Rattle.cell_types.specs.declared.shape.Shape.{Shape}
use Rattle.cell_types.specs.declared.storage.StorageKind.{StorageKind}
use Rattle.cell_types.specs.declared.storage.StorageKind.TheVariants.{Ff, Dff, Adff, Aldff, Dlatch}
use Rattle.rtl_ir.specs.Constants.{low_bits}
use Rattle.rtl_ir.specs.Signals.{constant_of}
use Rattle.rtl_ir.specs.Flat.Cell.{cell_kind, cell_rows, cell_shape, stored_rows, stores, word_store}
use Rattle.rtl_ir.specs.Flat.Driver.{Driven, StorePoints, Stored}
use Rattle.rtl_ir.specs.Flat.Place.{Path, Place}
use Rattle.rtl_ir.specs.Flat.Point.{Constant, bit_place, point, point_at, points}
use Rattle.rtl_ir.specs.Flat.Process.{Trigger, edge_row, event_point, level_row, loaded_row, no_pins, rule_row, rule_shape}
use Rattle.rtl_ir.specs.declared.follow.Join.{Join}
use Rattle.rtl_ir.specs.declared.wire.Wire.{Wire}
use Rattle.net_model.specs.Lists.{In}
use Rattle.net_model.specs.Proc.Sync.{left_side, polarity_of, right_side}
use Rattle.net_model.specs.Refine.{IsMet}
use Rattle.net_model.specs.declared.order.Order.{Order}
use Rattle.net_model.specs.declared.order.Order.TheVariants.{Together, Released}
use Rattle.net_model.specs.Order.{Manner, next_bit_of, stored_in}
use Rattle.net_model.specs.Run.{Time, Start, Step}
use Rattle.net_model.specs.Valuation.{Valuation}
use Rattle.net_model.specs.Value.{pins_of}
use Rattle.build_laws.proofs.Moments.{IsCellMet, Moment}
use Rattle.sync_laws.proofs.Parts.{Part, adff_part, aldff_part, dff_part, dlatch_part, ff_part, named}
use Rattle.pass_laws.proofs.CellNumbers.{number_is}

-- the number of a level means it
level_back : (l : Level) → (if number_of (low_bits (polarity_of l) 32) == 0 then Low else High) ≡ l
level_back Low = ap (λ n. if n == 0 then Low else High) (number_is 0 (omega arith))
level_back High = ap (λ n. if n == 0 then Low else High) (number_is 1 (omega arith))

-- what a signal has at a place
module _ (p : Path) (wires : List Wire) where
  point_get : (signal : List SigBit) (k : ℕ) (s : SigBit) → slice_get signal k ≡ Some s → point_at (points p wires signal) k ≡ point p wires s
  point_get [] k s e = absurd (cc)
  point_get (t ∷ signal) zero s e = let same : t ≡ s = cc in ap (point p wires) same
  point_get (t ∷ signal) (suc k) s e = point_get signal k s e

constant_get : (signal : List SigBit) (k : ℕ) (s : SigBit) → slice_get signal k ≡ Some s → slice_index_or (map constant_of signal) k X ≡ constant_of s
constant_get [] k s e = absurd (cc)
constant_get (t ∷ signal) zero s e = let same : t ≡ s = cc in ap constant_of same
constant_get (t ∷ signal) (suc k) s e = constant_get signal k s e

right_get : (js : List Join) (k : ℕ) (j : Join) → slice_get js k ≡ Some j → slice_get (right_side js) k ≡ Some j.source
right_get [] k j e = absurd (cc)
right_get (i ∷ js) zero j e = let same : i ≡ j = cc in ap (λ (x : Join). Some x.source) same
right_get (i ∷ js) (suc k) j e = right_get js k j e

-- a bit of a storage cell, by how it works
abbrev kept_of : StorageKind → Levels → Bit → StorePoints → Place → Valuation → Valuation → Manner → Bit
kept_of kind levels value pins own before w manner =
    stored_in manner.order kind levels value (pins_of before pins own) (pins_of w pins own) manner.first

module _ (start : SigBit → Bit) (p : Path) (wires : List Wire) where
  -- the rows of a part of a kind
  abbrev pub part_rows : StorageKind → Part → List Driven
  part_rows kind q =
      stored_rows start p wires q.pins (cell_shape (Storage kind) q.params) (word_store p wires q.pins)

  -- a part has a row that gives no less than this one
  pub record IsGivenBy (d : Driven) (q : Part) : Type 0 where
    pub kind : StorageKind
    pub own : (n : ℕ) → cell_kind (named q n) ≡ Some (Storage kind)
    pub row : Driven
    pub there : In row (part_rows kind q)
    pub above : (t : Time Place) (w : Valuation) → IsMet row t w → IsMet d t w

  -- the row of a bit of a storage cell at a place
  abbrev row_at : Shape → (ℕ → StorePoints) → ℕ → Join → Driven
  row_at shape reads k j = record {
    place = bit_place p wires j.bit;
    driver = Stored (start (OnWire j.bit)) shape k (reads k) (bit_place p wires j.bit);
  }

  stores_have : (shape : Shape) (reads : ℕ → StorePoints) (js : List Join) (from k : ℕ) (j : Join) → slice_get js k ≡ Some j → In (row_at shape reads (from + k) j) (stores start shape reads (left_side js) (points p wires (left_side js)) from)
  stores_have shape reads [] from k j e = absurd (cc)
  stores_have shape reads (i ∷ js) from zero j e =
      let same : j ≡ i = cc in
      let here : from + 0 ≡ from = omega arith in
      inl (λ x. row_at shape reads (here x) (same x))
  stores_have shape reads (i ∷ js) from (suc k) j e =
      let later : suc from + k ≡ from + suc k = omega arith in
      inr (subst (λ n. In (row_at shape reads n j) (stores start shape reads (left_side js) (points p wires (left_side js)) (suc from))) later (stores_have shape reads js (suc from) k j e))

  -- a rule's bit that is kept as the cell's bit is
  given_by : (kind : StorageKind) (q : Part) (js : List Join) (k : ℕ) (j : Join) → slice_get js k ≡ Some j → ((n : ℕ) → cell_kind (named q n) ≡ Some (Storage kind)) →
      part_rows kind q ≡ stores start (cell_shape (Storage kind) q.params) (word_store p wires q.pins) (left_side js) (points p wires (left_side js)) 0 →
      (shape : Shape) (pins : StorePoints) →
      ((before w : Valuation) (manner : Manner) → next_bit_of manner shape 0 (pins_of before pins (bit_place p wires j.bit)) (pins_of w pins (bit_place p wires j.bit)) ≡ next_bit_of manner (cell_shape (Storage kind) q.params) k (pins_of before (word_store p wires q.pins k) (bit_place p wires j.bit)) (pins_of w (word_store p wires q.pins k) (bit_place p wires j.bit))) →
      IsGivenBy (record { place = bit_place p wires j.bit; driver = Stored (start (OnWire j.bit)) shape 0 pins (bit_place p wires j.bit) }) q
  given_by kind q js k j e own are shape pins same = record {
    kind = kind;
    own = own;
    row = row_at (cell_shape (Storage kind) q.params) (word_store p wires q.pins) k j;
    there =
        let zero_and : 0 + k ≡ k = omega arith in
        subst (In (row_at (cell_shape (Storage kind) q.params) (word_store p wires q.pins) k j)) (sym are)
        (subst (λ n. In (row_at (cell_shape (Storage kind) q.params) (word_store p wires q.pins) n j) (stores start (cell_shape (Storage kind) q.params) (word_store p wires q.pins) (left_side js) (points p wires (left_side js)) 0)) zero_and
        (stores_have (cell_shape (Storage kind) q.params) (word_store p wires q.pins) js 0 k j e));
    above = above;
  }
    where
      above : (t : Time Place) (w : Valuation) → IsMet (row_at (cell_shape (Storage kind) q.params) (word_store p wires q.pins) k j) t w → IsMet (record { place = bit_place p wires j.bit; driver = Stored (start (OnWire j.bit)) shape 0 pins (bit_place p wires j.bit) }) t w
      above Start w h = h
      above (Step before inputs manner) w h = subst (λ v. Below v (w (bit_place p wires j.bit))) (sym (same before w manner)) h

  module _ (js : List Join) (k : ℕ) (j : Join) (e : slice_get js k ≡ Some j) where
    -- the data of the place
    data_at : point_at (points p wires (right_side js)) k ≡ point p wires j.source
    data_at = point_get p wires (right_side js) k j.source (right_get js k j e)

    pub ff_given : IsGivenBy (rule_row start p wires Ff low (record no_pins { d = point p wires j.source }) j.bit) (ff_part js)
    unfolding cell_kind cell_shape
    ff_given =
        given_by Ff (ff_part js) js k j e (λ n. refl) refl (rule_shape Ff low) (record no_pins { d = point p wires j.source })
        (λ before w manner i. kept_of Ff low X (record no_pins { d = sym data_at i }) (bit_place p wires j.bit) before w manner)

    pub level_given : (l : Trigger) → IsGivenBy (level_row start p wires l j) (dlatch_part l js)
    unfolding cell_kind cell_shape
    level_given l =
        given_by Dlatch (dlatch_part l js) js k j e (λ n. refl) refl (rule_shape Dlatch (record low { en = l.level })) (record no_pins { en = event_point start p wires l.signal; d = point p wires j.source })
        (λ before w manner i. kept_of Dlatch (record low { en = sym (level_back l.level) i }) X (record no_pins { en = event_point start p wires l.signal; d = sym data_at i }) (bit_place p wires j.bit) before w manner)

    pub edge_given : (c : Trigger) → IsGivenBy (edge_row start p wires c j) (dff_part c js)
    unfolding cell_kind cell_shape
    edge_given c =
        given_by Dff (dff_part c js) js k j e (λ n. refl) refl (rule_shape Dff (record low { clk = c.level })) (record no_pins { clk = event_point start p wires c.signal; d = point p wires j.source })
        (λ before w manner i. kept_of Dff (record low { clk = sym (level_back c.level) i }) X (record no_pins { clk = event_point start p wires c.signal; d = sym data_at i }) (bit_place p wires j.bit) before w manner)

    module _ (c l : Trigger) (given : List SigBit) where
      pub loads_given : (s : SigBit) → slice_get given k ≡ Some s → IsGivenBy (loaded_row start p wires c l (Some s) j) (aldff_part c l given js)
      unfolding cell_kind cell_shape
      loads_given s f =
          let load_at : point_at (points p wires given) k ≡ point p wires s = point_get p wires given k s f in
          given_by Aldff (aldff_part c l given js) js k j e (λ n. refl) refl (rule_shape Aldff (record low { clk = c.level; aload = l.level }))
          (record no_pins { clk = event_point start p wires c.signal; d = point p wires j.source; aload = event_point start p wires l.signal; ad = point p wires s })
          (λ before w manner i. kept_of Aldff (record low { clk = sym (level_back c.level) i; aload = sym (level_back l.level) i }) X
          (record no_pins { clk = event_point start p wires c.signal; d = sym data_at i; aload = event_point start p wires l.signal; ad = sym load_at i }) (bit_place p wires j.bit) before w manner)

      -- a register whose load is a constant, and one with a reset to it
      abbrev loads : Bit → StorePoints
      loads x = record no_pins { clk = event_point start p wires c.signal; d = point p wires j.source; aload = event_point start p wires l.signal; ad = Constant x }

      module _ (x : Bit) (f : slice_get given k ≡ Some (Fixed x)) where
        value_at : slice_index_or (map constant_of given) k X ≡ x
        value_at = constant_get given k (Fixed x) f

        loads_reset : (order : Order) (before w : Valuation) (first : Bool) →
            next_bit_of (record { first = first; order = order }) (rule_shape Aldff (record low { clk = c.level; aload = l.level })) 0 (pins_of before (loads x) (bit_place p wires j.bit)) (pins_of w (loads x) (bit_place p wires j.bit))
            ≡ next_bit_of (record { first = first; order = order }) (cell_shape (Storage Adff) (adff_part c l given js).params) k (pins_of before (word_store p wires (adff_part c l given js).pins k) (bit_place p wires j.bit)) (pins_of w (word_store p wires (adff_part c l given js).pins k) (bit_place p wires j.bit))
        unfolding cell_shape
        loads_reset Together before w first =
            λ i. kept_of Adff (record low { clk = sym (level_back c.level) i; arst = sym (level_back l.level) i }) (sym value_at i)
            (record no_pins { clk = event_point start p wires c.signal; d = sym data_at i; arst = event_point start p wires l.signal }) (bit_place p wires j.bit) before w (record { first = first; order = Together })
        loads_reset Released before w first =
            λ i. kept_of Adff (record low { clk = sym (level_back c.level) i; arst = sym (level_back l.level) i }) (sym value_at i)
            (record no_pins { clk = event_point start p wires c.signal; d = sym data_at i; arst = event_point start p wires l.signal }) (bit_place p wires j.bit) before w (record { first = first; order = Released })

        pub resets_given : IsGivenBy (loaded_row start p wires c l (Some (Fixed x)) j) (adff_part c l given js)
        unfolding cell_kind cell_shape
        resets_given =
            given_by Adff (adff_part c l given js) js k j e (λ n. refl) refl (rule_shape Aldff (record low { clk = c.level; aload = l.level })) (loads x)
            (λ before w manner. loads_reset manner.order before w manner.first)

-- a row that a part gives is met where the part's cell is there
pub given_met : (m : Moment) (d : Driven) (q : Part) (n : ℕ) → IsGivenBy m.start m.path m.wires d q → IsCellMet m (named q n) → IsMet d m.time m.has
given_met m d q n g h =
    g.above m.time m.has (h g.row (subst (λ k. In g.row (cell_rows m.start m.ports m.path m.wires (named q n) k)) (sym (g.own n)) g.there))
