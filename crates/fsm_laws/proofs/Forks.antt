-- What the cells of a tree give with the code, place by place.
use Rattle.std.proofs.Common.{◌≡◌, ◌<◌, ◌≤◌, ℕ, zero, suc, ◌+◌, ◌*◌, List, [], ◌∷◌, refl, ◌∙◌, ap, arith}
use Rattle.std.specs.Prelude.{slice_index_or}
use Rattle.std.proofs.Math.Nat.{mod-eq_of_lt}
use Rattle.cell_types.specs.Shape.{small}
use Rattle.cell_types.specs.declared.kind.CellKind.TheVariants.{Word}
use Rattle.cell_types.specs.declared.word.WordKind.TheVariants.{Mux, Pmux}
use Rattle.rtl_bits.proofs.NumberLemmas.{number_of_bits_of}
use Rattle.rtl_bits.specs.Numbers.{bits_of, number_of}
use Rattle.rtl_bits.specs.Tables.{mux_of}
use Rattle.rtl_bits.specs.declared.bit.Bit.{Bit}
use Rattle.rtl_bits.specs.declared.bit.Bit.TheVariants.{X}
use Rattle.rtl_sig.specs.declared.sig.SigBit.{SigBit}
use Rattle.rtl_sig.specs.declared.sig.WireBit.{WireBit}
use Rattle.rtl_ir.specs.Constants.{low_bits}
use Rattle.rtl_ir.specs.Flat.Cell.{cell_shape}
use Rattle.rtl_ir.specs.Flat.Point.{Point, point_at, points}
use Rattle.rtl_ir.specs.declared.cell.Cell.{Cell}
use Rattle.rtl_ir.specs.declared.wire.Wire.{Wire}
use Rattle.rtl_ir.specs.Flat.Place.{Path, Place}
use Rattle.net_model.specs.Run.{Time}
use Rattle.net_model.specs.Valuation.{Valuation, read, read_all}
use Rattle.net_model.specs.Value.{value_of}
use Rattle.pass_laws.proofs.Driving.{own_driver}
use Rattle.fsm_laws.specs.Chosen.{chosen}
use Rattle.fsm_laws.specs.Forks.{mux_like, pmux_like}
use Rattle.fsm_laws.proofs.Choices.{muxed_at, picked_at}

-- a bit of a word is the bit at its point
pub read_at : (w : Valuation) (ps : List Point) (k : ℕ) → slice_index_or (read_all w ps) k X ≡ read w (point_at ps k)
read_at w [] k = refl
read_at w (q ∷ ps) zero = refl
read_at w (q ∷ ps) (suc k) = read_at w ps k

-- the number of a width
pub width_number : (n : ℕ) → n ≤ 65536 → small (number_of (low_bits n 32)) ≡ n
unfolding low_bits
width_number n few =
    let under : n < 4294967296 = omega (arith, few) in
    let same : number_of (bits_of n 32) ≡ n = number_of_bits_of n 32 ∙ mod-eq_of_lt under in
    ap small same ∙ omega (arith, few)

module _ (start : SigBit → Bit) (p : Path) (wires : List Wire) where
  abbrev at : Valuation → List SigBit → ℕ → Bit
  at w signal k = slice_index_or (read_all w (points p wires signal)) k X

  pub mux_like_gives : (c : Cell) (width : ℕ) (a b s y : List SigBit) → width ≤ 65536 → (i : ℕ) (q : WireBit) → i < width → (t : Time Place) (w : Valuation) → value_of (own_driver start p wires (mux_like c width a b s y) (Word Mux) i q) t w ≡ mux_of (at w a i) (at w b i) (at w s 0)
  unfolding cell_shape
  mux_like_gives c width a b s y few i q lt t w =
      let wide : small (number_of (low_bits width 32)) ≡ width = width_number width few in
      muxed_at (read_all w (points p wires a)) (read_all w (points p wires b)) (at w s 0) (small (number_of (low_bits width 32))) i (omega (arith, wide, lt))

  pub pmux_like_gives : (c : Cell) (width selects : ℕ) (a b s y : List SigBit) → width ≤ 65536 → (i : ℕ) (q : WireBit) → i < width → (t : Time Place) (w : Valuation) → value_of (own_driver start p wires (pmux_like c width selects a b s y) (Word Pmux) i q) t w ≡ chosen (read_all w (points p wires s)) (at w a i) (λ j. at w b (j * width + i))
  unfolding cell_shape
  pmux_like_gives c width selects a b s y few i q lt t w =
      let wide : small (number_of (low_bits width 32)) ≡ width = width_number width few in
      picked_at (read_all w (points p wires a)) (read_all w (points p wires b)) (read_all w (points p wires s)) (small (number_of (low_bits width 32))) i (omega (arith, wide, lt))
      ∙ ap (λ n. chosen (read_all w (points p wires s)) (at w a i) (λ j. at w b (j * n + i))) wide
