-- The cells of a design without faults are within the limits of their kinds.
use Rattle.std.proofs.Common.{◌≡◌, ℕ, suc, ◌≤◌, Bool, true, false, not, ◌&&◌, ◌||◌, List, [], ◌∷◌, length, Some, None, refl, sym, ap, subst, arith, lit≤}
use Rattle.std.specs.Prelude.{if◌then◌else◌, nat_le, ◌==◌, find}
use Rattle.std.specs.List.{list_all, list_any}
use Rattle.std.specs.Option.{option_map_or}
use Rattle.std.specs.Str.{bytes_eq}
use Rattle.std.proofs.lemmas.Bool.{true≢false, and_parts, and_from, ltb-false, eqb-true, le-leb, leb-true}
use Rattle.rtl_bits.specs.declared.bit.Bit.{Bit}
use Rattle.rtl_sig.specs.declared.sig.SigBit.{SigBit}
use Rattle.cell_types.specs.declared.fault.CellFault.TheVariants as fault
use Rattle.cell_types.specs.declared.given.Param.{Param}
use Rattle.cell_types.specs.declared.given.PinWidth.{PinWidth}
use Rattle.cell_types.specs.declared.kind.CellKind.{CellKind}
use Rattle.cell_types.specs.declared.kind.CellKind.TheVariants as Cell
use Rattle.cell_types.specs.declared.pin_name.PinName.{PinName}
use Rattle.cell_types.specs.declared.pin_name.PinName.TheVariants.{A, B, S, Y}
use Rattle.cell_types.specs.declared.shape.Shape.{Shape}
use Rattle.cell_types.specs.declared.word.UnaryKind.TheVariants.{Neg}
use Rattle.cell_types.specs.declared.word.WordKind.{WordKind}
use Rattle.cell_types.specs.declared.word.WordKind.TheVariants.{Unary, Order, Arith, Division, Shift, Pmux, Bmux, Demux}
use Rattle.cell_types.specs.Fault.{fault_of, fits, has_other_width, has_width, is_bad, is_wide, is_wide_pin, limit_of}
use Rattle.cell_types.specs.PinName.{pin_text}
use Rattle.cell_types.specs.Pins.{pins_of}
use Rattle.cell_types.specs.Shape.{made_shape, small}
use Rattle.cell_types.specs.Bounds.{AreWordWidths}
use Rattle.cell_types.specs.Given.{number_in}
use Rattle.cell_types.specs.declared.param_name.ParamName.TheVariants.{SWidth}
use Rattle.cell_types.proofs.Within.{made_bounds}
use Rattle.cell_types.specs.Widths.{pin_width}
use Rattle.rtl_ir.specs.declared.cell.Cell.{Cell as CellOf}
use Rattle.rtl_ir.specs.declared.cell.Pin.{Pin}
use Rattle.rtl_ir.specs.declared.wire.Wire.{Wire}
use Rattle.rtl_ir.specs.Faults.Cells.{misfit, pin_widths}
use Rattle.rtl_ir.specs.Flat.Cell.{cell_shape}
use Rattle.rtl_ir.specs.Flat.Place.{Path}
use Rattle.rtl_ir.specs.Flat.Point.{pin_points, points}
use Rattle.rtl_ir.specs.Parameters.{given_params, signal_at}
use Rattle.cell_word.specs.Values.{HasInputs}
use Rattle.sim_eval.specs.Limits.{is_word_within, most_of, width_at}

or_false : (a b : Bool) → (a || b) ≡ false → (a ≡ false) × (b ≡ false)
or_false true b e = absurd (true≢false e)
or_false false b e = (refl, e)

not_false : (a : Bool) → not a ≡ false → a ≡ true
not_false true e = refl
not_false false e = absurd (true≢false e)

-- a cell without fault is neither bad nor too wide, and each pin has its width
pub faultless : (kind : CellKind) (params : List Param) (pins : List PinWidth) → fault_of kind params pins ≡ None → (is_wide kind params ≡ false) × (list_all (has_width kind params pins) (pins_of kind) ≡ true)
faultless kind params pins e =
    by (is_bad kind params pins) (is_wide kind params) (has_other_width kind params pins) refl refl refl
  where
    by : (bad wide other : Bool) → is_bad kind params pins ≡ bad → is_wide kind params ≡ wide → has_other_width kind params pins ≡ other → (is_wide kind params ≡ false) × (list_all (has_width kind params pins) (pins_of kind) ≡ true)
    by true wide other b w o = absurd (let none : fault_of kind params pins ≡ None = e in cc)
    by false true other b w o = absurd (let none : fault_of kind params pins ≡ None = e in cc)
    by false false true b w o = absurd (let none : fault_of kind params pins ≡ None = e in cc)
    by false false false b w o = (w, not_false (list_all (has_width kind params pins) (pins_of kind)) o)

-- the signal at a pin is no wider than the pin of that name
signal_width : (kind : CellKind) (params : List Param) (pins : List Pin) (name : PinName) → has_width kind params (pin_widths pins) name ≡ true → length (signal_at pins (pin_text name)) ≤ pin_width kind params name
signal_width kind params [] name e = omega arith
signal_width kind params (p ∷ pins) name e =
    let both = and_parts (fits kind params name (record { name = p.name; width = length p.sig })) (has_width kind params (pin_widths pins) name) e in
    by (signal_width kind params pins name both.1) both.0 (bytes_eq p.name (pin_text name)) refl
  where
    by : length (signal_at pins (pin_text name)) ≤ pin_width kind params name → fits kind params name (record { name = p.name; width = length p.sig }) ≡ true → (t : Bool) → bytes_eq p.name (pin_text name) ≡ t → length (signal_at (p ∷ pins) (pin_text name)) ≤ pin_width kind params name
    by rest h true f =
        let here : (length p.sig == pin_width kind params name) ≡ true = subst (λ z. (not z || (length p.sig == pin_width kind params name)) ≡ true) f h in
        let same : length p.sig ≡ pin_width kind params name = eqb-true (length p.sig) (pin_width kind params name) here in
        subst (λ z. length (option_map_or (λ (q : Pin). q.sig) (if z then Some p else find (λ (q : Pin). bytes_eq q.name (pin_text name)) pins) []) ≤ pin_width kind params name) (sym f) (omega (arith, same))
    by rest h false f =
        subst (λ z. length (option_map_or (λ (q : Pin). q.sig) (if z then Some p else find (λ (q : Pin). bytes_eq q.name (pin_text name)) pins) []) ≤ pin_width kind params name) (sym f) rest

length-points : (p : Path) (wires : List Wire) (signal : List SigBit) → length (points p wires signal) ≡ length signal
length-points p wires [] = refl
length-points p wires (s ∷ signal) = ap suc (length-points p wires signal)

le_true : (a b : ℕ) → a ≤ b → nat_le a b ≡ true
le_true a b l = le-leb a b l

-- what is within the width of a pin, and the pin within the limit of its kind
most_within : (kind : WordKind) (name : PinName) (params : List Param) (n : ℕ) → AreWordWidths kind (made_shape (Cell.Word kind) params).widths (made_shape (Cell.Word kind) params).offset → n ≤ pin_width (Cell.Word kind) params name → pin_width (Cell.Word kind) params name ≤ limit_of kind → n ≤ most_of kind name
most_within Bmux S params n keeps le narrow =
    let few : small (number_in params SWidth) ≤ 12 = keeps.1.1 in
    omega arith
most_within Demux S params n keeps le narrow =
    let few : small (number_in params SWidth) ≤ 12 = keeps.1.1 in
    omega arith
most_within kind name params n keeps le narrow = omega arith

module _ (p : Path) (wires : List Wire) (kind : WordKind) (params : List Param) (pins : List Pin) (keeps : AreWordWidths kind (made_shape (Cell.Word kind) params).widths (made_shape (Cell.Word kind) params).offset) where
  abbrev widths : List ℕ
  widths = length (pin_points p wires pins A) ∷ length (pin_points p wires pins B) ∷ length (pin_points p wires pins S) ∷ []

  abbrev word : CellKind
  word = Cell.Word kind

  signal_long : (name : PinName) → has_width word params (pin_widths pins) name ≡ true → length (pin_points p wires pins name) ≤ pin_width word params name
  signal_long name h =
      let long : length (pin_points p wires pins name) ≡ length (signal_at pins (pin_text name)) = length-points p wires (signal_at pins (pin_text name)) in
      omega (arith, long, signal_width word params pins name h)

  within : (name : PinName) (n : ℕ) → n ≤ pin_width word params name → is_wide_pin kind params name ≡ false → nat_le n (most_of kind name) ≡ true
  within name n le w =
      le_true n (most_of kind name) (most_within kind name params n keeps le (ltb-false (limit_of kind) (pin_width word params name) w))

  pin_within : (name : PinName) → has_width word params (pin_widths pins) name ≡ true → is_wide_pin kind params name ≡ false → nat_le (width_at (made_shape word params) widths name) (most_of kind name) ≡ true
  pin_within A h w = within A (length (pin_points p wires pins A)) (signal_long A h) w
  pin_within B h w = within B (length (pin_points p wires pins B)) (signal_long B h) w
  pin_within S h w = within S (length (pin_points p wires pins S)) (signal_long S h) w
  pin_within Y h w = within Y (made_shape word params).widths.y (omega arith) w
  pin_within name h w = within name 0 (omega arith) w

  pins_within : (names : List PinName) → list_all (has_width word params (pin_widths pins)) names ≡ true → list_any (is_wide_pin kind params) names ≡ false → list_all (λ name. nat_le (width_at (made_shape word params) widths name) (most_of kind name)) names ≡ true
  pins_within [] h w = refl
  pins_within (name ∷ names) h w =
      let hs = and_parts (has_width word params (pin_widths pins) name) (list_all (has_width word params (pin_widths pins)) names) h in
      let ws = or_false (is_wide_pin kind params name) (list_any (is_wide_pin kind params) names) w in
      and_from _ _ (pin_within name hs.0 ws.0) (pins_within names hs.1 ws.1)

-- the words at the pins of a cell without fault are within the limits of its kind
pub word_within : (p : Path) (wires : List Wire) (kind : WordKind) (c : CellOf) → misfit (Cell.Word kind) c ≡ None → is_word_within kind (cell_shape (Cell.Word kind) c.params) (length (pin_points p wires c.pins A) ∷ length (pin_points p wires c.pins B) ∷ length (pin_points p wires c.pins S) ∷ []) ≡ true
unfolding misfit cell_shape
word_within p wires kind c e =
    let good = faultless (Cell.Word kind) (given_params c.params) (pin_widths c.pins) e in
    pins_within p wires kind (given_params c.params) c.pins (made_bounds (Cell.Word kind) (given_params c.params) (pin_widths c.pins) e) (pins_of (Cell.Word kind)) good.1 good.0

-- a fault is no want of memory
pub no_memory : (kind : CellKind) (c : CellOf) → misfit kind c ≡ Some fault.Memory → ⊥
unfolding misfit
no_memory kind c e =
    by (is_bad kind params pins) (is_wide kind params) (has_other_width kind params pins) refl refl refl
  where
    params : List Param
    params = given_params c.params

    pins : List PinWidth
    pins = pin_widths c.pins

    by : (bad wide other : Bool) → is_bad kind (given_params c.params) (pin_widths c.pins) ≡ bad → is_wide kind (given_params c.params) ≡ wide → has_other_width kind (given_params c.params) (pin_widths c.pins) ≡ other → ⊥
    by true wide other b w o = absurd (let memory : fault_of kind (given_params c.params) (pin_widths c.pins) ≡ Some fault.Memory = e in cc)
    by false true other b w o = absurd (let memory : fault_of kind (given_params c.params) (pin_widths c.pins) ≡ Some fault.Memory = e in cc)
    by false false true b w o = absurd (let memory : fault_of kind (given_params c.params) (pin_widths c.pins) ≡ Some fault.Memory = e in cc)
    by false false false b w o = absurd (let memory : fault_of kind (given_params c.params) (pin_widths c.pins) ≡ Some fault.Memory = e in cc)

both_le : (n m k l : ℕ) → (nat_le n k && (nat_le m l && true)) ≡ true → (n ≤ k) × (m ≤ l)
both_le n m k l h =
    let p = and_parts (nat_le n k) (nat_le m l && true) h in
    (leb-true n k p.0, leb-true m l (and_parts (nat_le m l) true p.1).0)

all_le : (a b y k : ℕ) → (nat_le a k && (nat_le b k && (nat_le y k && true))) ≡ true → (a ≤ k) × (b ≤ k) × (y ≤ k)
all_le a b y k h =
    let p = and_parts (nat_le a k) (nat_le b k && (nat_le y k && true)) h in
    let q = both_le b y k k p.1 in
    (leb-true a k p.0, q.0, q.1)

-- words of these widths are within the limits of the kind
pub inputs_within : (kind : WordKind) (shape : Shape) (a b s : List Bit) → is_word_within kind shape (length a ∷ length b ∷ length s ∷ []) ≡ true → HasInputs (Cell.Word kind) shape (a ∷ b ∷ s ∷ [])
inputs_within (Unary Neg) shape a b s h = (lit≤ tt, both_le (length a) shape.widths.y 128 128 h)
inputs_within (Order kind) shape a b s h =
    let p = all_le (length a) (length b) shape.widths.y 128 h in (lit≤ tt, (p.0, p.1))
inputs_within (Arith kind) shape a b s h = (lit≤ tt, all_le (length a) (length b) shape.widths.y 128 h)
inputs_within (Division kind) shape a b s h = (lit≤ tt, all_le (length a) (length b) shape.widths.y 128 h)
inputs_within (Shift kind) shape a b s h = (lit≤ tt, (all_le (length a) (length b) shape.widths.y 4096 h).0)
inputs_within Pmux shape a b s h =
    let p = and_parts (nat_le (length a) 4096) _ h in
    let q = and_parts (nat_le (length b) 4096) _ p.1 in
    (lit≤ tt, (both_le (length s) shape.widths.y 4096 4096 q.1).0)
inputs_within Bmux shape a b s h =
    let p = and_parts (nat_le (length a) 4096) _ h in (lit≤ tt, (both_le (length s) shape.widths.y 12 4096 p.1).0)
inputs_within Demux shape a b s h =
    let p = and_parts (nat_le (length a) 4096) _ h in (lit≤ tt, (both_le (length s) shape.widths.y 12 4096 p.1).0)
inputs_within kind shape a b s h = (lit≤ tt, tt)
