-- A register whose candidates agree goes, and its output is connected to constants.
use Rattle.std.proofs.Common.{◌≡◌, ℕ, zero, suc, ◌+◌, ◌<◌, Bool, true, false, List, [], ◌∷◌, length, Option, Some, None, inl, inr, refl, sym, ◌∙◌, ap, subst, arith}
use Rattle.std.specs.Prelude.{if◌then◌else◌, slice_index_or}
use Rattle.cell_gate.specs.Control.{active_of, was_of}
use Rattle.cell_gate.specs.Storage.{acting_of, next_of}
use Rattle.cell_gate.specs.Store.{gate_kind, reset_at, storage_kind}
use Rattle.cell_gate.specs.declared.pins.Pins.{Pins}
use Rattle.cell_types.specs.PinName.{pin_text}
use Rattle.cell_types.specs.declared.level.Level.{Level}
use Rattle.cell_types.specs.declared.level.Level.TheVariants.{Low, High}
use Rattle.cell_types.specs.declared.levels.Levels.{Levels}
use Rattle.cell_types.specs.declared.kind.CellKind.{CellKind}
use Rattle.cell_types.specs.declared.kind.CellKind.TheVariants.{Storage, StorageGate}
use Rattle.cell_types.specs.declared.pin_name.PinName.TheVariants.{En, D, E, Q}
use Rattle.cell_types.specs.declared.shape.Shape.{Shape}
use Rattle.cell_types.specs.declared.storage.StorageKind.{StorageKind}
use Rattle.cell_types.specs.declared.storage.StorageKind.TheVariants.{Dffe}
use Rattle.cell_types.specs.declared.storage_gate.StorageGate.{StorageGate as AnyGate}
use Rattle.rtl_bits.proofs.Orders.{Below_trans}
use Rattle.rtl_bits.specs.Knowledge.{Below}
use Rattle.rtl_bits.specs.declared.bit.Bit.{Bit}
use Rattle.rtl_bits.specs.declared.bit.Bit.TheVariants.{S0, S1, X}
use Rattle.rtl_sig.specs.declared.sig.SigBit.{SigBit}
use Rattle.rtl_sig.specs.declared.sig.SigBit.TheVariants.{Fixed, Wire as OnWire}
use Rattle.rtl_sig.specs.declared.sig.WireBit.{WireBit}
use Rattle.rtl_ir.specs.Attributes.{is_kept}
use Rattle.rtl_ir.specs.Flat.Cell.{cell_kind, cell_shape, gate_store, word_store}
use Rattle.rtl_ir.specs.Flat.Place.{Path}
use Rattle.rtl_ir.specs.Flat.Point.{bit_place, point, point_at, points}
use Rattle.rtl_ir.specs.Flat.Start.{start_of}
use Rattle.rtl_ir.specs.Parameters.{signal_at}
use Rattle.rtl_ir.specs.Signals.{constant_of}
use Rattle.rtl_ir.specs.declared.cell.Cell.{Cell}
use Rattle.rtl_ir.specs.declared.wire.Wire.{Wire}
use Rattle.net_model.specs.declared.order.Order.{Order}
use Rattle.net_model.specs.declared.order.Order.TheVariants.{Together, Released}
use Rattle.net_model.specs.Order.{Manner, stored_in, were_of}
use Rattle.net_model.specs.Run.{Step}
use Rattle.net_model.specs.Valuation.{Valuation, read}
use Rattle.net_model.specs.Value.{pins_of, value_of}
use Rattle.pass_laws.proofs.Driving.{own_driver}
use Rattle.opt_expr.proofs.Known.{shape_kind}
use Rattle.opt_more.specs.Dff.{agree, bit_at, data_of, enabled_as, enabled_of, is_plain, register_kind, register_of, reset_of, settled_bit, settled_from, with_first}
use Rattle.opt_more.proofs.RegisterBits.{DataBelow, IsData, Constant, Held, Own, agree_is, data_is, next_below, released_below, seen_above}

-- a kind is a plain register
pub data IsPlain : CellKind → Type 0 where
  OfWords : (kind : StorageKind) → is_plain kind ≡ true → IsPlain (Storage kind)
  OfBits : (gate : AnyGate) → is_plain (gate_kind gate) ≡ true → IsPlain (StorageGate gate)

-- a cell is one
pub record IsRegister (c : Cell) (kind : CellKind) : Type 0 where
  pub own : cell_kind c ≡ Some kind
  pub plain : IsPlain kind

pub is_register : (c : Cell) (kind : CellKind) → register_of c ≡ Some kind → IsRegister c kind
is_register c kind e = by (is_kept c.attributes) (cell_kind c) refl e
  where
    words : (k : StorageKind) (t : Bool) → is_plain k ≡ t → cell_kind c ≡ Some (Storage k) → (if t then Some (Storage k) else None) ≡ Some kind → IsRegister c kind
    words k true p own f = let same : Storage k ≡ kind = cc in subst (IsRegister c) same (record { own = own; plain = OfWords k p })
    words k false p own f = absurd (cc)

    bits : (g : AnyGate) (t : Bool) → is_plain (gate_kind g) ≡ t → cell_kind c ≡ Some (StorageGate g) → (if t then Some (StorageGate g) else None) ≡ Some kind → IsRegister c kind
    bits g true p own f = let same : StorageGate g ≡ kind = cc in subst (IsRegister c) same (record { own = own; plain = OfBits g p })
    bits g false p own f = absurd (cc)

    by : (t : Bool) (o : Option CellKind) → cell_kind c ≡ o → (if t then None else register_kind o) ≡ Some kind → IsRegister c kind
    by true o k f = absurd (cc)
    by false (Some (Storage k)) own f = words k (is_plain k) refl own f
    by false (Some (StorageGate g)) own f = bits g (is_plain (gate_kind g)) refl own f
    by false o k f = absurd (cc)

-- the values of places that are all there
pub settled_at : (wires : List Wire) (kind : CellKind) (c : Cell) (from count : ℕ) (values : List Bit) → settled_from wires kind c from count ≡ Some values → (length values ≡ count) × ((at : ℕ) → at < count → settled_bit wires kind c (from + at) ≡ Some (slice_index_or values at S0))
settled_at wires kind c from zero values e =
    let none : [] ≡ values = cc in
    (ap length (sym none), λ at lt. absurd (omega (arith, lt)))
settled_at wires kind c from (suc count) values e =
    by (settled_bit wires kind c from) (settled_from wires kind c (suc from) count) refl refl e (settled_at wires kind c (suc from) count)
  where
    by : (o : Option Bit) (r : Option (List Bit)) → settled_bit wires kind c from ≡ o → settled_from wires kind c (suc from) count ≡ r → with_first o r ≡ Some values
        → ((rest : List Bit) → settled_from wires kind c (suc from) count ≡ Some rest → (length rest ≡ count) × ((at : ℕ) → at < count → settled_bit wires kind c (suc from + at) ≡ Some (slice_index_or rest at S0)))
        → (length values ≡ suc count) × ((at : ℕ) → at < suc count → settled_bit wires kind c (from + at) ≡ Some (slice_index_or values at S0))
    by None r f g h later = absurd (cc)
    by (Some b) None f g h later = absurd (cc)
    by (Some b) (Some rest) f g h later =
        let same : b ∷ rest ≡ values = cc in
        let below = later rest g in
        subst (λ (z : List Bit). (length z ≡ suc count) × ((at : ℕ) → at < suc count → settled_bit wires kind c (from + at) ≡ Some (slice_index_or z at S0))) same
        (ap suc below.0, places b rest f below.1)
      where
        places : (b : Bit) (rest : List Bit) → settled_bit wires kind c from ≡ Some b → ((at : ℕ) → at < count → settled_bit wires kind c (suc from + at) ≡ Some (slice_index_or rest at S0)) → (at : ℕ) → at < suc count → settled_bit wires kind c (from + at) ≡ Some (slice_index_or (b ∷ rest) at S0)
        places b rest f more zero lt = let here : from + 0 ≡ from = omega arith in ap (settled_bit wires kind c) here ∙ f
        places b rest f more (suc at) lt = let there : from + suc at ≡ suc from + at = omega arith in ap (settled_bit wires kind c) there ∙ more at (omega (arith, lt))

-- the point at a place of a signal
pub point_is : (p : Path) (wires : List Wire) (bits : List SigBit) (at : ℕ) → point_at (points p wires bits) at ≡ point p wires (slice_index_or bits at (Fixed X))
point_is p wires [] at = refl
point_is p wires (b ∷ bits) zero = refl
point_is p wires (b ∷ bits) (suc at) = point_is p wires bits at

-- a constant that an enable is known by is read there
enable_read : (level_is : Bit → Bit) (w : Valuation) (p : Path) (wires : List Wire) (s : SigBit) → level_is X ≡ X → level_is (constant_of s) ≡ S0 → level_is (read w (point p wires s)) ≡ S0
enable_read level_is w p wires (Fixed b) x e = e
enable_read level_is w p wires (OnWire b) x e = absurd (apart (sym x ∙ e))
  where
    apart : X ≡ S0 → ⊥
    apart f = absurd (cc)

pub enable_one : (level_is : Bit → Bit) (w : Valuation) (p : Path) (wires : List Wire) (s : SigBit) → level_is X ≡ X → level_is (constant_of s) ≡ S1 → level_is (read w (point p wires s)) ≡ S1
enable_one level_is w p wires (Fixed b) x e = e
enable_one level_is w p wires (OnWire b) x e = absurd (apart (sym x ∙ e))
  where
    apart : X ≡ S1 → ⊥
    apart f = absurd (cc)

pub active_unknown : (level : Level) → active_of level X ≡ X
active_unknown High = refl
active_unknown Low = refl

plain_data : (s : StorageKind) (before : Pins) (k : Bit) → Below before.d k → DataBelow s before k
plain_data Dffe before k h = inl h
plain_data s before k h = h

held_data : (s : StorageKind) (before : Pins) (k : Bit) (level : Level) (b : Bit) → enabled_as s level b ≡ S0 → (active_of level b ≡ S0 → before.en ≡ S0) → DataBelow s before k
held_data Dffe before k level b e f = inr (f e)
held_data s before k level b e f = absurd (cc)

-- the data of the step before, by why they are a candidate
data_case : (v : Valuation) (p : Path) (wires : List Wire) (s : StorageKind) (level : Level) (en q d : SigBit) (acting : Pins) (b k : Bit) → IsData (enabled_as s level (constant_of en)) q d b → Below b k → acting.d ≡ read v (point p wires d) → acting.q ≡ read v (point p wires q)
    → acting.en ≡ active_of level (read v (point p wires en)) → Below acting.q k → DataBelow s acting k
data_case v p wires s level en q d acting b k (Held e) below is_d is_q is_en old =
    held_data s acting k level (constant_of en) e (λ f. is_en ∙ enable_read (active_of level) v p wires en (active_unknown level) f)
data_case v p wires s level en q d acting b k (Constant c f g) below is_d is_q is_en old =
    plain_data s acting k (subst (λ z. Below z k) (sym (is_d ∙ ap (λ z. read v (point p wires z)) f)) (seen_above c k (subst (λ z. Below z k) g below)))
data_case v p wires s level en q d acting b k (Own f) below is_d is_q is_en old =
    plain_data s acting k (subst (λ z. Below z k) (is_q ∙ sym (ap (λ z. read v (point p wires z)) f) ∙ sym is_d) old)

-- what stands for a bit that always has a value
pub record IsSettled (wires : List Wire) (kind : CellKind) (c : Cell) (at : ℕ) (k : Bit) : Type 0 where
  pub start : Below (start_of wires [] (bit_at Q c at)) k
  pub reset : Below (reset_of (storage_kind kind) (reset_at (storage_kind kind) (cell_shape kind c.params).resets at)) k
  pub datum : Bit
  pub is : data_of (enabled_of kind c) (bit_at Q c at) (bit_at D c at) ≡ Some datum
  pub below : Below datum k

pub is_settled : (wires : List Wire) (kind : CellKind) (c : Cell) (at : ℕ) (k : Bit) → settled_bit wires kind c at ≡ Some k → IsSettled wires kind c at k
is_settled wires kind c at k e =
    let reset : Bit = reset_of (storage_kind kind) (reset_at (storage_kind kind) (cell_shape kind c.params).resets at) in
    let found : Option Bit = data_of (enabled_of kind c) (bit_at Q c at) (bit_at D c at) in
    let one = agree_is (start_of wires [] (bit_at Q c at)) (agree reset found) k e in
    let two = agree_is reset found one.1.0 one.1.1 in
    record { start = one.0; reset = Below_trans reset one.1.0 k two.0 one.1.2; datum = two.1.0; is = two.1.1; below = Below_trans two.1.0 one.1.0 k two.1.2 one.1.2 }

-- in either order of time
ordered_below : (order : Order) (kind : StorageKind) (levels : Levels) (value k : Bit) (before now : Pins) (first : Bool) → Below before.q k → is_plain kind ≡ true
    → DataBelow kind (acting_of levels (record before { clk = was_of first before.clk })) k → DataBelow kind (acting_of levels (were_of first before)) k → Below (reset_of kind value) k
    → Below (stored_in order kind levels value before now first) k
ordered_below Together kind levels value k before now first old plain given were reset =
    next_below value k (acting_of levels (record before { clk = was_of first before.clk })) (acting_of levels now) old kind plain given reset
ordered_below Released kind levels value k before now first old plain given were reset =
    released_below value k (acting_of levels (were_of first before)) (acting_of levels now) old kind plain were reset _
    (next_below value k (acting_of levels (record before { clk = was_of first before.clk })) (acting_of levels now) old kind plain given reset)

-- what a plain register gives after a step in which its output was below its value
pub stored_below : (start : SigBit → Bit) (p : Path) (wires : List Wire) (v w : Valuation) (x : List Bit) (manner : Manner) (c : Cell) (kind : CellKind) (at : ℕ) (b : WireBit) (k : Bit) → IsPlain kind → ((g : AnyGate) → kind ≡ StorageGate g → at ≡ 0) → bit_at Q c at ≡ OnWire b → IsSettled wires kind c at k → Below (v (bit_place p wires b)) k
    → Below (value_of (own_driver start p wires c kind at b) (Step v x manner) w) k
stored_below start p wires v w x manner c (Storage s) at b k (OfWords _ plain) one q h old =
    let shape : Shape = cell_shape (Storage s) c.params in
    let levels : Levels = shape.levels in
    let pins : Pins = pins_of v (word_store p wires c.pins at) (bit_place p wires b) in
    let now : Pins = pins_of w (word_store p wires c.pins at) (bit_place p wires b) in
    let taken : (z : Pins) → z.d ≡ pins.d → z.q ≡ pins.q → z.en ≡ active_of levels.en pins.en → DataBelow s z k = λ z is_d is_q is_en.
    data_case v p wires s levels.en (slice_index_or (signal_at c.pins (pin_text En)) 0 (Fixed X)) (bit_at Q c at) (bit_at D c at) z h.datum k (data_is (enabled_of (Storage s) c) (bit_at Q c at) (bit_at D c at) h.datum h.is) h.below
    (is_d ∙ ap (read v) (point_is p wires (signal_at c.pins (pin_text D)) at))
    (is_q ∙ sym (ap (λ y. read v (point p wires y)) q))
    (is_en ∙ ap (λ y. active_of levels.en (read v y)) (point_is p wires (signal_at c.pins (pin_text En)) 0))
    (subst (λ y. Below y k) (sym is_q) old) in
    subst (λ z. Below (stored_in manner.order (storage_kind z) levels (reset_at (storage_kind z) shape.resets at) pins now manner.first) k) (sym (shape_kind (Storage s) c))
    (ordered_below manner.order s levels (reset_at s shape.resets at) k pins now manner.first old plain (taken (acting_of levels (record pins { clk = was_of manner.first pins.clk })) refl refl refl) (taken (acting_of levels (were_of manner.first pins)) refl refl refl) h.reset)
stored_below start p wires v w x manner c (StorageGate g) at b k (OfBits _ plain) one q h old =
    let zero_at : at ≡ 0 = one g refl in
    let s : StorageKind = gate_kind g in
    let shape : Shape = cell_shape (StorageGate g) c.params in
    let levels : Levels = shape.levels in
    let pins : Pins = pins_of v (gate_store p wires c.pins at) (bit_place p wires b) in
    let now : Pins = pins_of w (gate_store p wires c.pins at) (bit_place p wires b) in
    let taken : (z : Pins) → z.d ≡ pins.d → z.q ≡ pins.q → z.en ≡ active_of levels.en pins.en → DataBelow s z k = λ z is_d is_q is_en.
    data_case v p wires s levels.en (slice_index_or (signal_at c.pins (pin_text E)) 0 (Fixed X)) (bit_at Q c at) (bit_at D c at) z h.datum k (data_is (enabled_of (StorageGate g) c) (bit_at Q c at) (bit_at D c at) h.datum h.is) h.below
    (is_d ∙ ap (read v) (point_is p wires (signal_at c.pins (pin_text D)) 0) ∙ ap (λ n. read v (point p wires (bit_at D c n))) (sym zero_at))
    (is_q ∙ sym (ap (λ y. read v (point p wires y)) q))
    (is_en ∙ ap (λ y. active_of levels.en (read v y)) (point_is p wires (signal_at c.pins (pin_text E)) 0))
    (subst (λ y. Below y k) (sym is_q) old) in
    subst (λ z. Below (stored_in manner.order (storage_kind z) levels (reset_at (storage_kind z) shape.resets at) pins now manner.first) k) (sym (shape_kind (StorageGate g) c))
    (ordered_below manner.order s levels (reset_at s shape.resets at) k pins now manner.first old plain (taken (acting_of levels (record pins { clk = was_of manner.first pins.clk })) refl refl refl) (taken (acting_of levels (were_of manner.first pins)) refl refl refl) h.reset)
stored_below start p wires v w x manner c kind at b k plain one q h old = elim plain [ ]
