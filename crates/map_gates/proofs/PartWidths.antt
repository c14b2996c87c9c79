-- The widths of the cells that know parts by their numbers.
use Rattle.std.proofs.Common.{◌≡◌, ℕ, ◌*◌, ◌^◌, ◌<◌, ◌≤◌, length, None, inl, inr, refl, sym, ◌∙◌, arith}
use Rattle.cell_types.proofs.Within.{made_bounds}
use Rattle.cell_types.specs.Given.{number_in}
use Rattle.cell_types.specs.Shape.{small}
use Rattle.cell_types.specs.Widths.{parts_in}
use Rattle.cell_types.specs.declared.kind.CellKind.TheVariants.{Word}
use Rattle.cell_types.specs.declared.param_name.ParamName.TheVariants as Params
use Rattle.cell_types.specs.declared.pin_name.PinName.TheVariants.{A, S, Y}
use Rattle.cell_types.specs.declared.word.WordKind.TheVariants.{Bmux, Demux}
use Rattle.rtl_ir.specs.Faults.Cells.{misfit, pin_widths}
use Rattle.rtl_ir.specs.Flat.Cell.{cell_shape}
use Rattle.rtl_ir.specs.Parameters.{given_params}
use Rattle.rtl_ir.specs.declared.cell.Cell.{Cell}
use Rattle.map_laws.specs.Operand.{pin_signal}
use Rattle.pass_laws.proofs.PinWidths.{pin_fits}

-- the widths of a `$bmux`: Y has a part's, and A has as many parts as S has numbers
pub record ArePartsOf (c : Cell) (width : ℕ) : Type 0 where
  pub a : length (pin_signal c A) ≡ width * 2 ^ length (pin_signal c S)
  pub y : length (pin_signal c Y) ≡ width

cut_is : (n most : ℕ) → small n ≤ most → most < 4097 → small n ≡ n
cut_is n most le low = omega arith

pub are_parts : (c : Cell) → misfit (Word Bmux) c ≡ None → ArePartsOf c (cell_shape (Word Bmux) c.params).widths.y
unfolding misfit cell_shape
are_parts c fit =
    let params = given_params c.params in
    let keeps = made_bounds (Word Bmux) params (pin_widths c.pins) fit in
    let w : ℕ = number_in params Params.Width in
    let k : ℕ = number_in params Params.SWidth in
    let a : length (pin_signal c A) ≡ parts_in params = pin_fits (Word Bmux) c A fit refl (inl refl) in
    let s : length (pin_signal c S) ≡ k = pin_fits (Word Bmux) c S fit refl (inr (inl refl)) in
    let y : length (pin_signal c Y) ≡ w = pin_fits (Word Bmux) c Y fit refl (inr (inr (inl refl))) in
    let same : w ≡ small w = sym (cut_is w 4096 keeps.0.1 (omega arith)) in
    record {
      a = a ∙ (λ i. same i * 2 ^ sym s i);
      y = y ∙ same;
    }

-- the widths of a `$demux`: Y has as many parts as S has numbers, each as wide as A
pub placed_widths : (c : Cell) → misfit (Word Demux) c ≡ None → length (pin_signal c Y) ≡ length (pin_signal c A) * 2 ^ length (pin_signal c S)
placed_widths c fit =
    let a : length (pin_signal c A) ≡ number_in (given_params c.params) Params.Width = pin_fits (Word Demux) c A fit refl (inl refl) in
    let s : length (pin_signal c S) ≡ number_in (given_params c.params) Params.SWidth = pin_fits (Word Demux) c S fit refl (inr (inl refl)) in
    let y : length (pin_signal c Y) ≡ parts_in (given_params c.params) = pin_fits (Word Demux) c Y fit refl (inr (inr (inl refl))) in
    y ∙ (λ i. sym a i * 2 ^ sym s i)
