-- The inputs of a cell with a shape are within the limits of its kind.
use Rattle.std.proofs.Common.{◌≡◌, refl, subst, ℕ, ◌≤◌, Bool, true, false, ◌||◌, List, length, Option, Some, None, Ok, arith}
use Rattle.std.specs.Prelude.{if◌then◌else◌, nat_lt}
use Rattle.std.proofs.lemmas.Bool.Decides.{nat_tests}
use Rattle.rtl_bits.specs.declared.bit.Bit.{Bit}
use Rattle.cell_types.specs.declared.fault.CellFault.{CellFault}
use Rattle.cell_types.specs.declared.fault.CellFault.TheVariants as Fault
use Rattle.cell_types.specs.declared.given.Param.{Param}
use Rattle.cell_types.specs.declared.given.PinWidth.{PinWidth}
use Rattle.cell_types.specs.declared.kind.CellKind.TheVariants as Cell
use Rattle.cell_types.specs.declared.pin_name.PinName.TheVariants.{A, B, S, Y}
use Rattle.cell_types.specs.declared.shape.Shape.{Shape}
use Rattle.cell_types.specs.declared.word.UnaryKind.TheVariants.{Not, Pos, Neg}
use Rattle.cell_types.specs.declared.word.WordKind.{WordKind}
use Rattle.cell_types.specs.declared.word.WordKind.TheVariants as Word
use Rattle.cell_types.proofs.Within.{made_bounds}
use Rattle.cell_types.specs.Bounds.{KindKeeps}
use Rattle.cell_types.specs.Fault.{fault_of, is_bad, is_wide, is_wide_pin, limit_of, has_other_width}
use Rattle.cell_types.specs.Shape.{small, made_shape, shape_of, unless}
use Rattle.cell_types.specs.Widths.{pin_width}
use Rattle.cell_word.specs.Values.{input_count, input_of, IsWithin, HasInputs}

unless_ok : (fault : Option CellFault) (shape given : Shape) → unless fault shape ≡ Ok given → (fault ≡ None) × (shape ≡ given)
unless_ok (Some f) shape given e = absurd (cc)
unless_ok None shape given e = (refl, cc)

not_wide : (bad wide other : Bool) → (if bad then Some Fault.Bad else if wide then Some Fault.Wide else if other then Some Fault.Width else None) ≡ None → wide ≡ false
not_wide true wide other e = absurd (cc)
not_wide false true other e = absurd (cc)
not_wide false false other e = refl

neither : (x y : Bool) → x || y ≡ false → (x ≡ false) × (y ≡ false)
neither true y e = absurd (cc)
neither false y e = (refl, e)

-- a pin that does not pass the limit
within : (limit width : ℕ) → nat_lt limit width ≡ false → width ≤ limit
within limit width e = grind (arith, nat_tests)

two_within : (kind : WordKind) (params : List Param) → is_wide_pin kind params A || (is_wide_pin kind params Y || false) ≡ false → (pin_width (Cell.Word kind) params A ≤ limit_of kind) × (pin_width (Cell.Word kind) params Y ≤ limit_of kind)
two_within kind params e =
    let p = neither (is_wide_pin kind params A) (is_wide_pin kind params Y || false) e in
    let q = neither (is_wide_pin kind params Y) false p.1 in
    (within _ _ p.0, within _ _ q.0)

three_within : (kind : WordKind) (params : List Param) → is_wide_pin kind params A || (is_wide_pin kind params B || (is_wide_pin kind params Y || false)) ≡ false → (pin_width (Cell.Word kind) params A ≤ limit_of kind) × (pin_width (Cell.Word kind) params B ≤ limit_of kind) × (pin_width (Cell.Word kind) params Y ≤ limit_of kind)
three_within kind params e =
    let p = neither (is_wide_pin kind params A) (is_wide_pin kind params B || (is_wide_pin kind params Y || false)) e in
    let q = neither (is_wide_pin kind params B) (is_wide_pin kind params Y || false) p.1 in
    let r = neither (is_wide_pin kind params Y) false q.1 in
    (within _ _ p.0, within _ _ q.0, within _ _ r.0)

four_within : (kind : WordKind) (params : List Param) → is_wide_pin kind params A || (is_wide_pin kind params B || (is_wide_pin kind params S || (is_wide_pin kind params Y || false))) ≡ false → pin_width (Cell.Word kind) params S ≤ limit_of kind
four_within kind params e =
    let p = neither (is_wide_pin kind params A) (is_wide_pin kind params B || (is_wide_pin kind params S || (is_wide_pin kind params Y || false))) e in
    let q = neither (is_wide_pin kind params B) (is_wide_pin kind params S || (is_wide_pin kind params Y || false)) p.1 in
    let r = neither (is_wide_pin kind params S) (is_wide_pin kind params Y || false) q.1 in
    within _ _ r.0

small_within : (n width limit : ℕ) → n ≤ small width → width ≤ limit → n ≤ limit
small_within n width limit h k = omega arith

made_within : (kind : WordKind) (params : List Param) → is_wide (Cell.Word kind) params ≡ false → KindKeeps (Cell.Word kind) (made_shape (Cell.Word kind) params) → (a b s : List Bit) → length a ≤ (made_shape (Cell.Word kind) params).widths.a → length b ≤ (made_shape (Cell.Word kind) params).widths.b → length s ≤ (made_shape (Cell.Word kind) params).widths.s → IsWithin kind a b s (made_shape (Cell.Word kind) params).widths.y
made_within (Word.Unary Not) params e m a b s h i j = tt
made_within (Word.Unary Pos) params e m a b s h i j = tt
made_within (Word.Unary Neg) params e m a b s h i j =
    let p = two_within (Word.Unary Neg) params e in
    (small_within _ _ 128 h p.0, small_within _ _ 128 (omega arith) p.1)
made_within (Word.Order kind) params e m a b s h i j =
    let p = three_within (Word.Order kind) params e in
    (small_within _ _ 128 h p.0, small_within _ _ 128 i p.1)
made_within (Word.Arith kind) params e m a b s h i j =
    let p = three_within (Word.Arith kind) params e in
    (small_within _ _ 128 h p.0, small_within _ _ 128 i p.1, small_within _ _ 128 (omega arith) p.2)
made_within (Word.Division kind) params e m a b s h i j =
    let p = three_within (Word.Division kind) params e in
    (small_within _ _ 128 h p.0, small_within _ _ 128 i p.1, small_within _ _ 128 (omega arith) p.2)
made_within (Word.Shift kind) params e m a b s h i j =
    small_within _ _ 4096 h (three_within (Word.Shift kind) params e).0
made_within Word.Pmux params e m a b s h i j = small_within _ _ 4096 j (four_within Word.Pmux params e)
made_within Word.Bmux params e m a b s h i j = let few = m.1.1 in omega arith
made_within Word.Demux params e m a b s h i j = let few = m.1.1 in omega arith
made_within kind params e m a b s h i j = tt

pub shaped_within : (kind : WordKind) (params : List Param) (pins : List PinWidth) (shape : Shape) (inputs : List (List Bit)) → shape_of (Cell.Word kind) params pins ≡ Ok shape → input_count kind ≤ length inputs → length (input_of inputs 0) ≤ shape.widths.a → length (input_of inputs 1) ≤ shape.widths.b → length (input_of inputs 2) ≤ shape.widths.s → HasInputs shape.kind shape inputs
shaped_within kind params pins shape inputs e n a b s =
    let p = unless_ok (fault_of (Cell.Word kind) params pins) (made_shape (Cell.Word kind) params) shape e in
    let w = not_wide (is_bad (Cell.Word kind) params pins) (is_wide (Cell.Word kind) params) (has_other_width (Cell.Word kind) params pins) p.0 in
    subst (λ z. length (input_of inputs 0) ≤ z.widths.a → length (input_of inputs 1) ≤ z.widths.b → length (input_of inputs 2) ≤ z.widths.s → HasInputs z.kind z inputs) p.1
    (λ a b s. (n, made_within kind params w (made_bounds (Cell.Word kind) params pins p.0) (input_of inputs 0) (input_of inputs 1) (input_of inputs 2) a b s))
    a b s
