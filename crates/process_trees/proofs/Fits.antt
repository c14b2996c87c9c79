-- The words at the inputs of a cell without fault are within the limits of its kind.
use Rattle.std.proofs.Common.{◌≡◌, ℕ, zero, suc, ◌≤◌, Bool, true, false, not, ◌||◌, List, [], ◌∷◌, length, map, Some, None, slice_index_or, refl, sym, ◌∙◌, ap, subst, arith, lit≤}
use Rattle.std.specs.Prelude.{if◌then◌else◌, Ok, ◌==◌, find}
use Rattle.std.specs.List.{AllByRecursion, list_all, list_any}
use Rattle.std.specs.Option.{option_map_or}
use Rattle.std.specs.Str.{bytes_eq}
use Rattle.std.proofs.lemmas.Slice.Eq.{bytes_eq-Decides}
use Rattle.std.proofs.lemmas.Bool.{true≢false, and_parts, ltb-false, eqb-true}
use Rattle.rtl_bits.specs.declared.bit.Bit.{Bit}
use Rattle.cell_types.specs.declared.given.Param.{Param}
use Rattle.cell_types.specs.declared.given.PinWidth.{PinWidth}
use Rattle.cell_types.specs.declared.kind.CellKind.{CellKind}
use Rattle.cell_types.specs.declared.kind.CellKind.TheVariants as Cells
use Rattle.cell_types.specs.declared.pin_name.PinName.{PinName}
use Rattle.cell_types.specs.declared.pin_name.PinName.TheVariants.{A, B, S}
use Rattle.cell_types.specs.declared.shape.Shape.{Shape}
use Rattle.cell_types.specs.declared.word.UnaryKind.{UnaryKind}
use Rattle.cell_types.specs.declared.word.UnaryKind.TheVariants.{Not, Pos, Neg}
use Rattle.cell_types.specs.declared.word.WordKind.{WordKind}
use Rattle.cell_types.specs.declared.word.WordKind.TheVariants as Word
use Rattle.cell_types.specs.Fault.{are_params_good, are_pins_good, fault_of, fits, has_no_meaning, has_other_width, has_pin, has_width, is_bad, is_joined, is_wide, is_wide_pin, limit_of}
use Rattle.cell_types.specs.PinName.{pin_text}
use Rattle.cell_types.specs.Pins.{pins_of}
use Rattle.cell_types.specs.Shape.{made_shape, shape_of, small, unless}
use Rattle.cell_types.specs.Widths.{pin_width}
use Rattle.cell_word.specs.Values.{HasInputs, input_count, input_of}
use Rattle.cell_word.proofs.Limits.{shaped_within}
use Rattle.rtl_ir.specs.declared.cell.Cell.{Cell}
use Rattle.rtl_ir.specs.declared.cell.Pin.{Pin}
use Rattle.rtl_ir.specs.EventTests.{input_signals}
use Rattle.rtl_ir.specs.Faults.Cells.{misfit, pin_widths}
use Rattle.rtl_ir.specs.Flat.Cell.{cell_shape}
use Rattle.rtl_ir.specs.Parameters.{given_params, signal_at}

or_false : (a b : Bool) → (a || b) ≡ false → (a ≡ false) × (b ≡ false)
or_false true b e = absurd (true≢false e)
or_false false b e = (refl, e)

not_false : (a : Bool) → not a ≡ false → a ≡ true
not_false true e = refl
not_false false e = absurd (true≢false e)

-- a cell without fault is not too wide, each pin has its width, and there is no other pin
faultless : (kind : CellKind) (params : List Param) (pins : List PinWidth) → fault_of kind params pins ≡ None → (is_wide kind params ≡ false) × (list_all (has_width kind params pins) (pins_of kind) ≡ true) × (list_all (has_pin kind) pins ≡ true)
faultless kind params pins e =
    by (is_bad kind params pins) (is_wide kind params) (has_other_width kind params pins) refl refl refl
  where
    by : (bad wide other : Bool) → is_bad kind params pins ≡ bad → is_wide kind params ≡ wide → has_other_width kind params pins ≡ other → (is_wide kind params ≡ false) × (list_all (has_width kind params pins) (pins_of kind) ≡ true) × (list_all (has_pin kind) pins ≡ true)
    by true wide other b w o = absurd (let none : fault_of kind params pins ≡ None = e in cc)
    by false true other b w o = absurd (let none : fault_of kind params pins ≡ None = e in cc)
    by false false true b w o = absurd (let none : fault_of kind params pins ≡ None = e in cc)
    by false false false b w o =
        let good = or_false (not (are_params_good kind params) || not (are_pins_good kind pins)) (has_no_meaning kind params) b in
        let own = not_false (are_pins_good kind pins) (or_false (not (are_params_good kind params)) (not (are_pins_good kind pins)) good.0).1 in
        (w, not_false (list_all (has_width kind params pins) (pins_of kind)) o, (and_parts (list_all (is_joined kind pins) (pins_of kind)) (list_all (has_pin kind) pins) own).1)

-- the signal at a pin is no wider than the pin of that name
signal_width : (kind : CellKind) (params : List Param) (pins : List Pin) (name : PinName) → has_width kind params (pin_widths pins) name ≡ true → length (signal_at pins (pin_text name)) ≤ pin_width kind params name
signal_width kind params [] name e = omega arith
signal_width kind params (p ∷ pins) name e =
    let both = and_parts (fits kind params name (record { name = p.name; width = length p.sig })) (has_width kind params (pin_widths pins) name) e in
    by (signal_width kind params pins name both.1) both.0 (bytes_eq p.name (pin_text name)) refl
  where
    by : length (signal_at pins (pin_text name)) ≤ pin_width kind params name → fits kind params name (record { name = p.name; width = length p.sig }) ≡ true → (t : Bool) → bytes_eq p.name (pin_text name) ≡ t → length (signal_at (p ∷ pins) (pin_text name)) ≤ pin_width kind params name
    by rest h true f =
        let here : (length p.sig == pin_width kind params name) ≡ true = subst (λ z. (not z || (length p.sig == pin_width kind params name)) ≡ true) f h in
        let same : length p.sig ≡ pin_width kind params name = eqb-true (length p.sig) (pin_width kind params name) here in
        subst (λ z. length (option_map_or (λ (q : Pin). q.sig) (if z then Some p else find (λ (q : Pin). bytes_eq q.name (pin_text name)) pins) []) ≤ pin_width kind params name) (sym f) (omega (arith, same))
    by rest h false f =
        subst (λ z. length (option_map_or (λ (q : Pin). q.sig) (if z then Some p else find (λ (q : Pin). bytes_eq q.name (pin_text name)) pins) []) ≤ pin_width kind params name) (sym f) rest

-- there is no signal at a pin that the kind lacks
no_signal : (kind : CellKind) (pins : List Pin) (name : PinName) → list_all (has_pin kind) (pin_widths pins) ≡ true → list_any (λ n. bytes_eq (pin_text name) (pin_text n)) (pins_of kind) ≡ false → length (signal_at pins (pin_text name)) ≡ 0
no_signal kind [] name h e = refl
no_signal kind (p ∷ pins) name h e =
    let both = and_parts (has_pin kind (record { name = p.name; width = length p.sig })) (list_all (has_pin kind) (pin_widths pins)) h in
    by (no_signal kind pins name both.1 e) both.0 (bytes_eq p.name (pin_text name)) refl
  where
    by : length (signal_at pins (pin_text name)) ≡ 0 → has_pin kind (record { name = p.name; width = length p.sig }) ≡ true → (t : Bool) → bytes_eq p.name (pin_text name) ≡ t → length (option_map_or (λ (q : Pin). q.sig) (if t then Some p else find (λ (q : Pin). bytes_eq q.name (pin_text name)) pins) []) ≡ 0
    by rest own true f =
        let same : p.name ≡ pin_text name = (bytes_eq-Decides p.name (pin_text name)).0 f in
        absurd (true≢false (sym (subst (λ z. list_any (λ n. bytes_eq z (pin_text n)) (pins_of kind) ≡ true) same own) ∙ e))
    by rest own false f = rest

limit_small : (kind : WordKind) → limit_of kind ≤ 4096
limit_small (Word.Unary kind) = by kind
  where
    by : (kind : UnaryKind) → limit_of (Word.Unary kind) ≤ 4096
    by Not = lit≤ tt
    by Pos = lit≤ tt
    by Neg = lit≤ tt
limit_small (Word.Order kind) = lit≤ tt
limit_small (Word.Arith kind) = lit≤ tt
limit_small (Word.Division kind) = lit≤ tt
limit_small kind = lit≤ tt

-- each signal is no wider than its pin
abbrev Narrow : WordKind → Cell → PinName → Type 0
Narrow kind c name = length (signal_at c.pins (pin_text name)) ≤ small (pin_width (Cells.Word kind) (given_params c.params) name)

narrow : (kind : WordKind) (c : Cell) (names : List PinName) → list_all (has_width (Cells.Word kind) (given_params c.params) (pin_widths c.pins)) names ≡ true
    → list_any (is_wide_pin kind (given_params c.params)) names ≡ false → AllByRecursion (Narrow kind c) names
narrow kind c [] h w = tt
narrow kind c (name ∷ names) h w =
    let hs = and_parts (has_width (Cells.Word kind) (given_params c.params) (pin_widths c.pins) name) (list_all (has_width (Cells.Word kind) (given_params c.params) (pin_widths c.pins)) names) h in
    let ws = or_false (is_wide_pin kind (given_params c.params) name) (list_any (is_wide_pin kind (given_params c.params)) names) w in
    let long = signal_width (Cells.Word kind) (given_params c.params) c.pins name hs.0 in
    let most : pin_width (Cells.Word kind) (given_params c.params) name ≤ limit_of kind = ltb-false (limit_of kind) (pin_width (Cells.Word kind) (given_params c.params) name) ws.0 in
    let limit = limit_small kind in
    (omega arith, narrow kind c names hs.1 ws.1)

-- as many words as there are signals, each as long
lengths_at : (words : List (List Bit)) (ns : List ℕ) → map length words ≡ ns → (at : ℕ) → length (input_of words at) ≡ slice_index_or ns at 0
lengths_at [] [] e at = refl
lengths_at [] (n ∷ ns) e at = absurd (cc)
lengths_at (w ∷ ws) [] e at = absurd (cc)
lengths_at (w ∷ ws) (n ∷ ns) e zero = cc
lengths_at (w ∷ ws) (n ∷ ns) e (suc at) = lengths_at ws ns (cc) at

count_same : (words : List (List Bit)) (ns : List ℕ) → map length words ≡ ns → length words ≡ length ns
count_same [] [] e = refl
count_same [] (n ∷ ns) e = absurd (cc)
count_same (w ∷ ws) [] e = absurd (cc)
count_same (w ∷ ws) (n ∷ ns) e = ap suc (count_same ws ns (cc))

abbrev widths : WordKind → Cell → List ℕ
widths kind c = map length (input_signals (Cells.Word kind) c)

abbrev IsNarrow : WordKind → Cell → Type 0
IsNarrow kind c =
    (input_count kind ≤ length (widths kind c))
    × (slice_index_or (widths kind c) 0 0 ≤ small (pin_width (Cells.Word kind) (given_params c.params) A))
    × (slice_index_or (widths kind c) 1 0 ≤ small (pin_width (Cells.Word kind) (given_params c.params) B))
    × (slice_index_or (widths kind c) 2 0 ≤ small (pin_width (Cells.Word kind) (given_params c.params) S))

is_narrow : (kind : WordKind) (c : Cell) → list_all (has_pin (Cells.Word kind)) (pin_widths c.pins) ≡ true → AllByRecursion (Narrow kind c) (pins_of (Cells.Word kind)) → IsNarrow kind c
is_narrow (Word.Unary kind) c own h = (lit≤ tt, h.0, omega arith, omega arith)
is_narrow (Word.Fold kind) c own h = (lit≤ tt, h.0, omega arith, omega arith)
is_narrow (Word.Bitwise kind) c own h = (lit≤ tt, h.0, h.1.0, omega arith)
is_narrow (Word.Logic kind) c own h = (lit≤ tt, h.0, h.1.0, omega arith)
is_narrow (Word.Equal kind) c own h = (lit≤ tt, h.0, h.1.0, omega arith)
is_narrow (Word.Order kind) c own h = (lit≤ tt, h.0, h.1.0, omega arith)
is_narrow (Word.Arith kind) c own h = (lit≤ tt, h.0, h.1.0, omega arith)
is_narrow (Word.Division kind) c own h = (lit≤ tt, h.0, h.1.0, omega arith)
is_narrow (Word.Shift kind) c own h = (lit≤ tt, h.0, h.1.0, omega arith)
is_narrow Word.Mux c own h = (lit≤ tt, h.0, h.1.0, h.1.1.0)
is_narrow Word.Pmux c own h = (lit≤ tt, h.0, h.1.0, h.1.1.0)
is_narrow Word.Slice c own h = (lit≤ tt, h.0, omega arith, omega arith)
is_narrow Word.Concat c own h = (lit≤ tt, h.0, h.1.0, omega arith)
is_narrow Word.Buf c own h = (lit≤ tt, h.0, omega arith, omega arith)
is_narrow Word.Bwmux c own h = (lit≤ tt, h.0, h.1.0, h.1.1.0)
is_narrow Word.Bmux c own h =
    let none = no_signal (Cells.Word Word.Bmux) c.pins B own refl in
    (lit≤ tt, h.0, omega (arith, none), h.1.0)
is_narrow Word.Demux c own h =
    let none = no_signal (Cells.Word Word.Demux) c.pins B own refl in
    (lit≤ tt, h.0, omega (arith, none), h.1.0)

-- the words at the inputs of a cell without fault
pub inputs_there : (kind : WordKind) (c : Cell) (shape : Shape) (words : List (List Bit)) → misfit (Cells.Word kind) c ≡ None → shape ≡ cell_shape (Cells.Word kind) c.params
    → map length words ≡ map length (input_signals (Cells.Word kind) c) → HasInputs shape.kind shape words
unfolding misfit cell_shape
inputs_there kind c shape words e is same =
    let params = given_params c.params in
    let good = faultless (Cells.Word kind) params (pin_widths c.pins) e in
    let fit = is_narrow kind c good.2 (narrow kind c (pins_of (Cells.Word kind)) good.1 good.0) in
    let made : shape_of (Cells.Word kind) params (pin_widths c.pins) ≡ Ok (made_shape (Cells.Word kind) params) = ap (λ f. unless f (made_shape (Cells.Word kind) params)) e in
    let count = count_same words (widths kind c) same in
    let a = lengths_at words (widths kind c) same 0 in
    let b = lengths_at words (widths kind c) same 1 in
    let s = lengths_at words (widths kind c) same 2 in
    subst (λ x. HasInputs x.kind x words) (sym is)
    (shaped_within kind params (pin_widths c.pins) (made_shape (Cells.Word kind) params) words made (omega (arith, fit.0, count)) (omega (arith, fit.1, a)) (omega (arith, fit.2, b)) (omega (arith, fit.3, s)))
