-- The widths of the pins of a word cell that fits its kind.
use Rattle.std.proofs.Common.{◌≡◌, ℕ, ◌*◌, ◌≤◌, false, length, None, inl, inr, refl, sym, ◌∙◌, arith}
use Rattle.std.proofs.lemmas.Bool.{ltb-false, or_parts}
use Rattle.cell_types.specs.declared.kind.CellKind.TheVariants.{Word}
use Rattle.cell_types.specs.declared.pin_name.PinName.TheVariants.{A, B, S, Y}
use Rattle.cell_types.specs.declared.word.WordKind.TheVariants.{Pmux}
use Rattle.cell_types.specs.Fault.{is_wide_pin}
use Rattle.cell_types.specs.Given.{number_in}
use Rattle.cell_types.specs.Shape.{small}
use Rattle.cell_types.specs.declared.param_name.ParamName.TheVariants as Params
use Rattle.rtl_ir.specs.declared.cell.Cell.{Cell}
use Rattle.rtl_ir.specs.Faults.Cells.{misfit}
use Rattle.rtl_ir.specs.Flat.Cell.{cell_shape}
use Rattle.rtl_ir.specs.Parameters.{given_params}
use Rattle.map_laws.specs.Operand.{pin_signal}
use Rattle.pass_laws.proofs.PinWidths.{pin_fits, shape_of}

-- the widths of a `$pmux`: A is as wide as Y, and B has a part of that width for each bit of S
pub record AreChosen (c : Cell) (width : ℕ) : Type 0 where
  pub a : length (pin_signal c A) ≡ width
  pub b : length (pin_signal c B) ≡ width * length (pin_signal c S)
  pub y : length (pin_signal c Y) ≡ width

small_is : (n : ℕ) → n ≤ 4096 → small n ≡ n
small_is n low = omega arith

pub are_chosen : (c : Cell) → misfit (Word Pmux) c ≡ None → AreChosen c (cell_shape (Word Pmux) c.params).widths.y
unfolding cell_shape
are_chosen c fit =
    let width : ℕ = number_in (given_params c.params) Params.Width in
    let a : length (pin_signal c A) ≡ width = pin_fits (Word Pmux) c A fit refl (inl refl) in
    let b : length (pin_signal c B) ≡ width * number_in (given_params c.params) Params.SWidth = pin_fits (Word Pmux) c B fit refl (inr (inl refl)) in
    let s : length (pin_signal c S) ≡ number_in (given_params c.params) Params.SWidth = pin_fits (Word Pmux) c S fit refl (inr (inr (inl refl))) in
    let y : length (pin_signal c Y) ≡ width = pin_fits (Word Pmux) c Y fit refl (inr (inr (inr (inl refl)))) in
    let narrow : is_wide_pin Pmux (given_params c.params) A ≡ false = (or_parts (is_wide_pin Pmux (given_params c.params) A) _ (shape_of (Word Pmux) c fit).narrow).0 in
    let low : width ≤ 4096 = ltb-false 4096 width narrow in
    let same : width ≡ small width = sym (small_is width low) in
    record {
      a = a ∙ same;
      b = b ∙ (λ i. same i * sym s i);
      y = y ∙ same;
    }
