-- The widths of the pins of a cell that fits its kind.
use Rattle.std.proofs.Common.{◌≡◌, ℕ, ◌≤◌, Bool, true, false, not, ◌||◌, List, [], ◌∷◌, length, Some, None, refl, sym, subst, arith}
use Rattle.std.specs.Prelude.{if◌then◌else◌, ◌==◌, find}
use Rattle.std.specs.List.{list_all, list_any}
use Rattle.std.specs.Option.{option_map_or}
use Rattle.std.specs.Str.{bytes_eq}
use Rattle.std.proofs.lemmas.Bool.{true≢false, and_parts, eqb-true, ltb-false}
use Rattle.cell_types.specs.declared.given.Param.{Param}
use Rattle.cell_types.specs.declared.given.PinWidth.{PinWidth}
use Rattle.cell_types.specs.declared.kind.CellKind.{CellKind}
use Rattle.cell_types.specs.declared.pin_name.PinName.{PinName}
use Rattle.cell_types.specs.declared.kind.CellKind.TheVariants as Cells
use Rattle.cell_types.specs.declared.pin_name.PinName.TheVariants.{A, B, S, Y}
use Rattle.cell_types.specs.declared.word.UnaryKind.TheVariants.{Not, Pos, Neg}
use Rattle.cell_types.specs.declared.word.WordKind.{WordKind}
use Rattle.cell_types.specs.declared.word.WordKind.TheVariants.{Unary, Fold, Bitwise, Logic, Equal, Order, Arith, Division, Shift, Mux, Pmux, Slice, Concat, Buf, Bwmux, Bmux, Demux}
use Rattle.cell_types.specs.Fault.{fault_of, fits, has_other_width, has_width, is_bad, is_wide, is_wide_pin, limit_of, may_lack}
use Rattle.cell_types.specs.Shape.{small}
use Rattle.cell_types.specs.Given.{number_in}
use Rattle.cell_types.proofs.Within.{made_bounds}
use Rattle.cell_types.specs.declared.param_name.ParamName.TheVariants.{SWidth}
use Rattle.cell_word.specs.Values.{IsWithin}
use Rattle.rtl_bits.specs.declared.bit.Bit.{Bit}
use Rattle.cell_types.specs.PinName.{pin_text}
use Rattle.cell_types.specs.Pins.{pins_of}
use Rattle.cell_types.specs.Widths.{pin_width}
use Rattle.rtl_ir.specs.declared.cell.Cell.{Cell}
use Rattle.rtl_ir.specs.declared.cell.Pin.{Pin}
use Rattle.rtl_ir.specs.Faults.Cells.{misfit, pin_widths}
use Rattle.rtl_ir.specs.Flat.Cell.{cell_shape}
use Rattle.rtl_ir.specs.Parameters.{given_params, signal_at}
use Rattle.net_model.specs.Lists.{In}
use Rattle.opt_expr.specs.Places.{combinational}
use Rattle.pass_laws.proofs.PinWidths as widths

not_false : (a : Bool) → not a ≡ false → a ≡ true
not_false true e = refl
not_false false e = absurd (true≢false e)

-- a cell without fault is neither bad nor too wide, and each pin has its width
pub faultless : (kind : CellKind) (params : List Param) (pins : List PinWidth) → fault_of kind params pins ≡ None → (is_wide kind params ≡ false) × (list_all (has_width kind params pins) (pins_of kind) ≡ true)
faultless kind params pins e =
    by (is_bad kind params pins) (is_wide kind params) (has_other_width kind params pins) refl refl refl
  where
    by : (bad wide other : Bool) → is_bad kind params pins ≡ bad → is_wide kind params ≡ wide → has_other_width kind params pins ≡ other → (is_wide kind params ≡ false) × (list_all (has_width kind params pins) (pins_of kind) ≡ true)
    by true wide other b w o = absurd (let none : fault_of kind params pins ≡ None = e in cc)
    by false true other b w o = absurd (let none : fault_of kind params pins ≡ None = e in cc)
    by false false true b w o = absurd (let none : fault_of kind params pins ≡ None = e in cc)
    by false false false b w o = (w, not_false (list_all (has_width kind params pins) (pins_of kind)) o)

-- the signal at a pin is no wider than the pin of that name
pub signal_width : (kind : CellKind) (params : List Param) (pins : List Pin) (name : PinName) → has_width kind params (pin_widths pins) name ≡ true → length (signal_at pins (pin_text name)) ≤ pin_width kind params name
signal_width kind params [] name e = omega arith
signal_width kind params (p ∷ pins) name e =
    let both = and_parts (fits kind params name (record { name = p.name; width = length p.sig })) (has_width kind params (pin_widths pins) name) e in
    by (signal_width kind params pins name both.1) both.0 (bytes_eq p.name (pin_text name)) refl
  where
    by : length (signal_at pins (pin_text name)) ≤ pin_width kind params name → fits kind params name (record { name = p.name; width = length p.sig }) ≡ true → (t : Bool) → bytes_eq p.name (pin_text name) ≡ t → length (signal_at (p ∷ pins) (pin_text name)) ≤ pin_width kind params name
    by rest h true f =
        let here : (length p.sig == pin_width kind params name) ≡ true = subst (λ z. (not z || (length p.sig == pin_width kind params name)) ≡ true) f h in
        let same : length p.sig ≡ pin_width kind params name = eqb-true (length p.sig) (pin_width kind params name) here in
        subst (λ z. length (option_map_or (λ (q : Pin). q.sig) (if z then Some p else find (λ (q : Pin). bytes_eq q.name (pin_text name)) pins) []) ≤ pin_width kind params name) (sym f) (omega (arith, same))
    by rest h false f =
        subst (λ z. length (option_map_or (λ (q : Pin). q.sig) (if z then Some p else find (λ (q : Pin). bytes_eq q.name (pin_text name)) pins) []) ≤ pin_width kind params name) (sym f) rest

-- the pins of a cell that fits its kind have their widths
pub widths_fit : (kind : CellKind) (c : Cell) → misfit kind c ≡ None → list_all (has_width kind (given_params c.params) (pin_widths c.pins)) (pins_of kind) ≡ true
unfolding misfit
widths_fit kind c e = (faultless kind (given_params c.params) (pin_widths c.pins) e).1

-- and are not too wide
pub not_wide : (kind : CellKind) (c : Cell) → misfit kind c ≡ None → is_wide kind (given_params c.params) ≡ false
unfolding misfit
not_wide kind c e = (faultless kind (given_params c.params) (pin_widths c.pins) e).0

-- a width within a limit is not cut off
pub not_cut : (n : ℕ) → n ≤ 4096 → small n ≡ n
not_cut n le = omega arith

any_false : (a b : Bool) → (a || b) ≡ false → (a ≡ false) × (b ≡ false)
any_false true b e = absurd (true≢false e)
any_false false b e = (refl, e)

-- a pin of a word cell is within the limit of its kind
pub record IsLimited (kind : WordKind) (params : List Param) (pins : List Pin) (name : PinName) : Type 0 where
  pub signal : length (signal_at pins (pin_text name)) ≤ limit_of kind
  pub width : pin_width (Cells.Word kind) params name ≤ limit_of kind

limited : (kind : WordKind) (params : List Param) (pins : List Pin) (name : PinName) → has_width (Cells.Word kind) params (pin_widths pins) name ≡ true → is_wide_pin kind params name ≡ false → IsLimited kind params pins name
limited kind params pins name h w =
    let narrow : pin_width (Cells.Word kind) params name ≤ limit_of kind = ltb-false (limit_of kind) (pin_width (Cells.Word kind) params name) w in
    let fits : length (signal_at pins (pin_text name)) ≤ pin_width (Cells.Word kind) params name = signal_width (Cells.Word kind) params pins name h in
    record { signal = omega arith; width = narrow }

-- each of some pins is
abbrev AreLimited : WordKind → List Param → List Pin → List PinName → Type 0
AreLimited kind params pins [] = Unit {0}
AreLimited kind params pins (name ∷ names) = IsLimited kind params pins name × AreLimited kind params pins names

all_limited : (kind : WordKind) (params : List Param) (pins : List Pin) (names : List PinName) → list_all (has_width (Cells.Word kind) params (pin_widths pins)) names ≡ true → list_any (is_wide_pin kind params) names ≡ false → AreLimited kind params pins names
all_limited kind params pins [] h w = tt
all_limited kind params pins (name ∷ names) h w =
    let hs = and_parts (has_width (Cells.Word kind) params (pin_widths pins) name) (list_all (has_width (Cells.Word kind) params (pin_widths pins)) names) h in
    let ws = any_false (is_wide_pin kind params name) (list_any (is_wide_pin kind params) names) w in
    (limited kind params pins name hs.0 ws.0, all_limited kind params pins names hs.1 ws.1)

-- the words at the pins of a cell that fits its kind are within the widths that its value is computed for
module _ (c : Cell) (a b s : List Bit) (wide : length a ≡ length (signal_at c.pins (pin_text A))) (high : length b ≡ length (signal_at c.pins (pin_text B))) (long : length s ≡ length (signal_at c.pins (pin_text S))) where
  three : (kind : WordKind) → limit_of kind ≡ 128 → IsLimited kind (given_params c.params) c.pins A → IsLimited kind (given_params c.params) c.pins B → IsLimited kind (given_params c.params) c.pins Y → (length a ≤ 128) × (length b ≤ 128) × (small (pin_width (Cells.Word kind) (given_params c.params) Y) ≤ 128)
  three kind limit p q r = let x = p.signal in let y = q.signal in let z = r.width in (omega arith, omega arith, omega arith)

  -- few bits choose one of parts
  few : (kind : WordKind) → list_all (has_width (Cells.Word kind) (given_params c.params) (pin_widths c.pins)) (A ∷ S ∷ Y ∷ []) ≡ true → list_any (is_wide_pin kind (given_params c.params)) (A ∷ S ∷ Y ∷ []) ≡ false
      → pin_width (Cells.Word kind) (given_params c.params) S ≡ number_in (given_params c.params) SWidth → limit_of kind ≡ 4096 → small (number_in (given_params c.params) SWidth) ≤ 12 → length s ≤ 12
  few kind hs ws own limit low =
      let h = (and_parts (has_width (Cells.Word kind) (given_params c.params) (pin_widths c.pins) S) _ (and_parts (has_width (Cells.Word kind) (given_params c.params) (pin_widths c.pins) A) _ hs).1).0 in
      let w = (any_false (is_wide_pin kind (given_params c.params) S) _ (any_false (is_wide_pin kind (given_params c.params) A) _ ws).1).0 in
      let narrow : pin_width (Cells.Word kind) (given_params c.params) S ≤ limit_of kind = ltb-false (limit_of kind) (pin_width (Cells.Word kind) (given_params c.params) S) w in
      let fits : length (signal_at c.pins (pin_text S)) ≤ pin_width (Cells.Word kind) (given_params c.params) S = signal_width (Cells.Word kind) (given_params c.params) c.pins S h in
      omega arith

  pub computed : (kind : WordKind) → misfit (Cells.Word kind) c ≡ None → IsWithin kind a b s (cell_shape (Cells.Word kind) c.params).widths.y
  unfolding cell_shape misfit
  computed (Unary Not) fit = tt
  computed (Unary Pos) fit = tt
  computed (Unary Neg) fit =
      let l = all_limited (Unary Neg) (given_params c.params) c.pins (A ∷ Y ∷ []) (widths_fit (Cells.Word (Unary Neg)) c fit) (not_wide (Cells.Word (Unary Neg)) c fit) in
      let x = l.0.signal in
      let z = l.1.0.width in
      (omega arith, omega arith)
  computed (Fold kind) fit = tt
  computed (Bitwise kind) fit = tt
  computed (Logic kind) fit = tt
  computed (Equal kind) fit = tt
  computed (Order kind) fit =
      let l = all_limited (Order kind) (given_params c.params) c.pins (A ∷ B ∷ Y ∷ []) (widths_fit (Cells.Word (Order kind)) c fit) (not_wide (Cells.Word (Order kind)) c fit) in
      let x = l.0.signal in
      let y = l.1.0.signal in
      (omega arith, omega arith)
  computed (Arith kind) fit =
      let l = all_limited (Arith kind) (given_params c.params) c.pins (A ∷ B ∷ Y ∷ []) (widths_fit (Cells.Word (Arith kind)) c fit) (not_wide (Cells.Word (Arith kind)) c fit) in
      three (Arith kind) refl l.0 l.1.0 l.1.1.0
  computed (Division kind) fit =
      let l = all_limited (Division kind) (given_params c.params) c.pins (A ∷ B ∷ Y ∷ []) (widths_fit (Cells.Word (Division kind)) c fit) (not_wide (Cells.Word (Division kind)) c fit) in
      three (Division kind) refl l.0 l.1.0 l.1.1.0
  computed (Shift kind) fit =
      let l = all_limited (Shift kind) (given_params c.params) c.pins (A ∷ B ∷ Y ∷ []) (widths_fit (Cells.Word (Shift kind)) c fit) (not_wide (Cells.Word (Shift kind)) c fit) in
      let x = l.0.signal in
      omega arith
  computed Mux fit = tt
  computed Pmux fit =
      let l = all_limited Pmux (given_params c.params) c.pins (A ∷ B ∷ S ∷ Y ∷ []) (widths_fit (Cells.Word Pmux) c fit) (not_wide (Cells.Word Pmux) c fit) in
      let x = l.1.1.0.signal in
      omega arith
  computed Slice fit = tt
  computed Concat fit = tt
  computed Buf fit = tt
  computed Bwmux fit = tt
  computed Bmux fit =
      few Bmux (widths_fit (Cells.Word Bmux) c fit) (not_wide (Cells.Word Bmux) c fit) refl refl (made_bounds (Cells.Word Bmux) (given_params c.params) (pin_widths c.pins) fit).1.1
  computed Demux fit =
      few Demux (widths_fit (Cells.Word Demux) c fit) (not_wide (Cells.Word Demux) c fit) refl refl (made_bounds (Cells.Word Demux) (given_params c.params) (pin_widths c.pins) fit).1.1

lacks_none : (kind : CellKind) → combinational (Some kind) ≡ Some kind → (name : PinName) → may_lack kind name ≡ false
lacks_none (Cells.Word kind) word name = refl
lacks_none (Cells.Gate kind) word name = refl
lacks_none (Cells.Storage kind) word name = absurd (cc)
lacks_none (Cells.StorageGate kind) word name = absurd (cc)
lacks_none (Cells.Memory kind) word name = absurd (cc)

-- and has its width
pub pin_fits : (kind : CellKind) (c : Cell) (name : PinName) → combinational (Some kind) ≡ Some kind → misfit kind c ≡ None → In name (pins_of kind) → length (signal_at c.pins (pin_text name)) ≡ pin_width kind (given_params c.params) name
pin_fits kind c name word fit i = widths.pin_fits kind c name fit (lacks_none kind word name) i
