-- The one pin that a cell of the library drives.
use Rattle.std.proofs.Common.{◌≡◌, ℕ, ◌+◌, Bool, true, false, cond, if◌then◌else◌, List, [], ◌∷◌, ◌++◌, Some, None, inl, inr, refl, sym, ◌∙◌, ap, subst, arith}
use Rattle.std.specs.Prelude.{◌&&◌, ◌||◌, ◌==◌, find, not}
use Rattle.std.specs.List.{count_by, fold, list_all}
use Rattle.std.specs.Option.{option_map_or}
use Rattle.std.specs.Str.{bytes_eq}
use Rattle.std.proofs.lemmas.Bool.{and_parts, eqb-true, or_parts}
use Rattle.std.proofs.lemmas.List.{append-nil}
use Rattle.cell_types.specs.Fault.{are_params_good, are_pins_good, has_no_meaning, has_other_width, has_pin, is_joined, is_wide, may_lack}
use Rattle.cell_types.specs.PinName.{pin_text}
use Rattle.cell_types.specs.Pins.{gate_pins, pins_of, storage_gate_pins, storage_pins, word_pins}
use Rattle.cell_types.specs.declared.fault.CellFault.TheVariants.{Bad, Wide, Width}
use Rattle.cell_types.specs.declared.gate.GateKind.{GateKind}
use Rattle.cell_types.specs.declared.gate.GateKind.TheVariants as Gates
use Rattle.cell_types.specs.declared.given.PinWidth.{PinWidth}
use Rattle.cell_types.specs.declared.kind.CellKind.{CellKind}
use Rattle.cell_types.specs.declared.kind.CellKind.TheVariants.{Gate, Memory, Storage, StorageGate, Word}
use Rattle.cell_types.specs.declared.pin_name.PinName.{PinName}
use Rattle.cell_types.specs.declared.pin_name.PinName.TheVariants.{Q, Y}
use Rattle.cell_types.specs.declared.storage.StorageKind.{StorageKind}
use Rattle.cell_types.specs.declared.storage.StorageKind.TheVariants as Stores
use Rattle.cell_types.specs.declared.storage_gate.StorageGate.{StorageGate as StorageGateKind}
use Rattle.cell_types.specs.declared.storage_gate.StorageGate.TheVariants as StoreGates
use Rattle.cell_types.specs.declared.word.WordKind.{WordKind}
use Rattle.cell_types.specs.declared.word.WordKind.TheVariants as Words
use Rattle.rtl_ir.specs.Faults.Cells.{has_constant_output, is_memory_kind, misfit, pin_widths}
use Rattle.rtl_ir.specs.Outputs.{drives_pin, output_pin}
use Rattle.rtl_ir.specs.Parameters.{given_params, signal_at}
use Rattle.rtl_ir.specs.Signals.{has_constant, wire_bits}
use Rattle.rtl_ir.specs.Types.{CellType, Library}
use Rattle.rtl_ir.specs.declared.cell.Cell.{Cell}
use Rattle.rtl_ir.specs.declared.cell.Pin.{Pin}
use Rattle.net_model.specs.Lists.{In}
use Rattle.pass_laws.specs.Bits.{pin_bits}

-- how many pins have this name
abbrev pub named_so : List ℕ → List Pin → ℕ
named_so name [] = 0
named_so name (p ∷ ps) = cond (bytes_eq p.name name) 1 0 + named_so name ps

counted : (name : List ℕ) (n : ℕ) (ps : List Pin) → fold (λ k (p : PinWidth). k + cond (bytes_eq p.name name) 1 0) n (pin_widths ps) ≡ n + named_so name ps
counted name n [] = omega arith
counted name n (p ∷ ps) = omega (arith, counted name (n + cond (bytes_eq p.name name) 1 0) ps)

-- of a type that drives the pin of one name
module _ (type : CellType) (name : List ℕ) (is : (pin : List ℕ) → drives_pin type pin ≡ bytes_eq pin name) where
  no_output : (ps : List Pin) → named_so name ps ≡ 0 → pin_bits type ps ≡ []
  no_output [] e = refl
  no_output (p ∷ ps) e =
      ap (λ t. (if t then wire_bits p.sig else []) ++ pin_bits type ps) (is p.name) ∙ by (no_output ps) (bytes_eq p.name name) e
    where
      by : (named_so name ps ≡ 0 → pin_bits type ps ≡ []) → (t : Bool) → cond t 1 0 + named_so name ps ≡ 0 → (if t then wire_bits p.sig else []) ++ pin_bits type ps ≡ []
      by later true f = absurd (omega arith)
      by later false f = later (omega arith)

  -- the one pin of this name drives its bits
  pub one_output : (ps : List Pin) → named_so name ps ≡ 1 → pin_bits type ps ≡ wire_bits (signal_at ps name)
  one_output [] e = absurd (omega arith)
  one_output (p ∷ ps) e =
      ap (λ t. (if t then wire_bits p.sig else []) ++ pin_bits type ps) (is p.name) ∙ by (one_output ps) (bytes_eq p.name name) e
    where
      by : (named_so name ps ≡ 1 → pin_bits type ps ≡ wire_bits (signal_at ps name)) → (t : Bool) → cond t 1 0 + named_so name ps ≡ 1 → (if t then wire_bits p.sig else []) ++ pin_bits type ps ≡ wire_bits (option_map_or (λ (q : Pin). q.sig) (cond t (Some p) (find (λ (q : Pin). bytes_eq q.name name) ps)) [])
      by later true f =
          let none : named_so name ps ≡ 0 = omega arith in
          ap (λ z. wire_bits p.sig ++ z) (no_output ps none) ∙ append-nil (wire_bits p.sig)
      by later false f = later (omega arith)

  -- where no pin that is driven has a constant, the pin of this name has none
  pub no_constant : (ps : List Pin) → has_constant_output type ps ≡ false → has_constant (signal_at ps name) ≡ false
  no_constant [] e = refl
  no_constant (p ∷ ps) e =
      by (no_constant ps) (bytes_eq p.name name) (ap (λ t. (t && has_constant p.sig) || has_constant_output type ps) (sym (is p.name)) ∙ e)
    where
      by : (has_constant_output type ps ≡ false → has_constant (signal_at ps name) ≡ false) → (t : Bool) → ((t && has_constant p.sig) || has_constant_output type ps) ≡ false → has_constant (option_map_or (λ (q : Pin). q.sig) (cond t (Some p) (find (λ (q : Pin). bytes_eq q.name name) ps)) []) ≡ false
      by later true f = (or_parts (has_constant p.sig) (has_constant_output type ps) f).0
      by later false f = later f

-- a cell of the library drives the pin of its kind
pub drives_own : (kind : CellKind) (name : PinName) → output_pin kind ≡ Some name → (pin : List ℕ) → drives_pin (Library kind) pin ≡ bytes_eq pin (pin_text name)
drives_own kind name e pin = ap (λ o. option_map_or (λ n. bytes_eq pin (pin_text n)) o false) e

-- the kinds of cells have the pins that they drive
pub word_output : (kind : WordKind) → In Y (word_pins kind)
word_output (Words.Unary _) = inr (inl refl)
word_output (Words.Fold _) = inr (inl refl)
word_output Words.Mux = inr (inr (inr (inl refl)))
word_output Words.Pmux = inr (inr (inr (inl refl)))
word_output Words.Slice = inr (inl refl)
word_output Words.Concat = inr (inr (inl refl))
word_output Words.Buf = inr (inl refl)
word_output Words.Bwmux = inr (inr (inr (inl refl)))
word_output Words.Bmux = inr (inr (inl refl))
word_output Words.Demux = inr (inr (inl refl))
word_output _ = inr (inr (inl refl))

pub gate_output : (kind : GateKind) → In Y (gate_pins kind)
gate_output Gates.Buf = inr (inl refl)
gate_output Gates.Not = inr (inl refl)
gate_output Gates.Mux = inr (inr (inr (inl refl)))
gate_output Gates.Nmux = inr (inr (inr (inl refl)))
gate_output _ = inr (inr (inl refl))

storage_output : (kind : StorageKind) → In Q (storage_pins kind)
storage_output Stores.Ff = inr (inl refl)
storage_output Stores.Dff = inr (inr (inl refl))
storage_output Stores.Dffe = inr (inr (inr (inl refl)))
storage_output Stores.Sdff = inr (inr (inr (inl refl)))
storage_output Stores.Sdffe = inr (inr (inr (inr (inl refl))))
storage_output Stores.Sdffce = inr (inr (inr (inr (inl refl))))
storage_output Stores.Adff = inr (inr (inr (inl refl)))
storage_output Stores.Adffe = inr (inr (inr (inr (inl refl))))
storage_output Stores.Aldff = inr (inr (inr (inr (inl refl))))
storage_output Stores.Aldffe = inr (inr (inr (inr (inr (inl refl)))))
storage_output Stores.Dffsr = inr (inr (inr (inr (inl refl))))
storage_output Stores.Dffsre = inr (inr (inr (inr (inr (inl refl)))))
storage_output Stores.Dlatch = inr (inr (inl refl))
storage_output Stores.Adlatch = inr (inr (inr (inl refl)))
storage_output Stores.Dlatchsr = inr (inr (inr (inr (inl refl))))
storage_output Stores.Sr = inr (inr (inl refl))

storage_gate_output : (gate : StorageGateKind) → In Q (storage_gate_pins gate)
storage_gate_output StoreGates.Ff = inr (inl refl)
storage_gate_output (StoreGates.Dff _) = inr (inr (inl refl))
storage_gate_output (StoreGates.Dffe _ _) = inr (inr (inr (inl refl)))
storage_gate_output (StoreGates.Adff _ _ _) = inr (inr (inr (inl refl)))
storage_gate_output (StoreGates.Adffe _ _ _ _) = inr (inr (inr (inr (inl refl))))
storage_gate_output (StoreGates.Sdff _ _ _) = inr (inr (inr (inl refl)))
storage_gate_output (StoreGates.Sdffe _ _ _ _) = inr (inr (inr (inr (inl refl))))
storage_gate_output (StoreGates.Sdffce _ _ _ _) = inr (inr (inr (inr (inl refl))))
storage_gate_output (StoreGates.Dffsr _ _ _) = inr (inr (inr (inr (inl refl))))
storage_gate_output (StoreGates.Dffsre _ _ _ _) = inr (inr (inr (inr (inr (inl refl)))))
storage_gate_output (StoreGates.Aldff _ _) = inr (inr (inr (inr (inl refl))))
storage_gate_output (StoreGates.Aldffe _ _ _) = inr (inr (inr (inr (inr (inl refl)))))
storage_gate_output (StoreGates.Dlatch _) = inr (inr (inl refl))
storage_gate_output (StoreGates.Adlatch _ _ _) = inr (inr (inr (inl refl)))
storage_gate_output (StoreGates.Dlatchsr _ _ _) = inr (inr (inr (inr (inl refl))))
storage_gate_output (StoreGates.Sr _ _) = inr (inr (inl refl))

-- the pin that a kind drives is one of its pins, and may not be missing
record HasOutput (kind : CellKind) (name : PinName) : Type 0 where
  there : In name (pins_of kind)
  owed : may_lack kind name ≡ false

has_output : (kind : CellKind) → is_memory_kind kind ≡ false → (name : PinName) → output_pin kind ≡ Some name → HasOutput kind name
has_output (Word kind) plain name e =
    let same : Y ≡ name = cc in
    record { there = subst (λ z. In z (word_pins kind)) same (word_output kind); owed = refl }
has_output (Gate kind) plain name e =
    let same : Y ≡ name = cc in
    record { there = subst (λ z. In z (gate_pins kind)) same (gate_output kind); owed = refl }
has_output (Storage kind) plain name e =
    let same : Q ≡ name = cc in
    record { there = subst (λ z. In z (storage_pins kind)) same (storage_output kind); owed = refl }
has_output (StorageGate gate) plain name e =
    let same : Q ≡ name = cc in
    record { there = subst (λ z. In z (storage_gate_pins gate)) same (storage_gate_output gate); owed = refl }
has_output (Memory kind) plain name e = absurd (cc)

-- a cell that fits its kind has the pins of its kind
pins_good : (kind : CellKind) (c : Cell) → misfit kind c ≡ None → are_pins_good kind (pin_widths c.pins) ≡ true
unfolding misfit
pins_good kind c e =
    by (are_params_good kind (given_params c.params)) (are_pins_good kind (pin_widths c.pins)) (has_no_meaning kind (given_params c.params)) (is_wide kind (given_params c.params)) (has_other_width kind (given_params c.params) (pin_widths c.pins)) e
  where
    by : (a b d f g : Bool) → (if ((not a || not b) || d) then Some Bad else if f then Some Wide else if g then Some Width else None) ≡ None → b ≡ true
    by a true d f g h = refl
    by true false d f g h = absurd (cc)
    by false false d f g h = absurd (cc)

joined_in : (kind : CellKind) (pins : List PinWidth) (name : PinName) (names : List PinName) → In name names → list_all (is_joined kind pins) names ≡ true → is_joined kind pins name ≡ true
joined_in kind pins name [] i e = absurd i
joined_in kind pins name (n ∷ ns) (inl here) e =
    ap (is_joined kind pins) here ∙ (and_parts (is_joined kind pins n) (list_all (is_joined kind pins) ns) e).0
joined_in kind pins name (n ∷ ns) (inr i) e =
    joined_in kind pins name ns i (and_parts (is_joined kind pins n) (list_all (is_joined kind pins) ns) e).1

joined_once : (t u : Bool) → (t || (u && false)) ≡ true → t ≡ true
joined_once true u e = refl
joined_once false true e = absurd (cc)
joined_once false false e = absurd (cc)

-- a cell of the library that fits its kind has the pin that it drives once
pub output_once : (kind : CellKind) (c : Cell) → is_memory_kind kind ≡ false → misfit kind c ≡ None → (name : PinName) → output_pin kind ≡ Some name → named_so (pin_text name) c.pins ≡ 1
output_once kind c plain fit name e =
    let has = has_output kind plain name e in
    let pins : List PinWidth = pin_widths c.pins in
    let number : ℕ = count_by (λ (pin : PinWidth). bytes_eq pin.name (pin_text name)) pins in
    let good : list_all (is_joined kind pins) (pins_of kind) ≡ true = (and_parts (list_all (is_joined kind pins) (pins_of kind)) (list_all (has_pin kind) pins) (pins_good kind c fit)).0 in
    let joined : ((number == 1) || ((number == 0) && may_lack kind name)) ≡ true = joined_in kind pins name (pins_of kind) has.there good in
    let once : number ≡ 1 = eqb-true number 1 (joined_once (number == 1) (number == 0) (ap (λ t. (number == 1) || ((number == 0) && t)) (sym has.owed) ∙ joined)) in
    omega (arith, once, counted (pin_text name) 0 c.pins)

-- and drives the bits of that pin
pub output_bits : (kind : CellKind) (c : Cell) → is_memory_kind kind ≡ false → misfit kind c ≡ None → (name : PinName) → output_pin kind ≡ Some name → pin_bits (Library kind) c.pins ≡ wire_bits (signal_at c.pins (pin_text name))
output_bits kind c plain fit name e =
    one_output (Library kind) (pin_text name) (drives_own kind name e) c.pins (output_once kind c plain fit name e)

-- which are bits of wires, where it drives no constant
pub output_wires : (kind : CellKind) (c : Cell) (name : PinName) → output_pin kind ≡ Some name → has_constant_output (Library kind) c.pins ≡ false → has_constant (signal_at c.pins (pin_text name)) ≡ false
output_wires kind c name e = no_constant (Library kind) (pin_text name) (drives_own kind name e) c.pins
