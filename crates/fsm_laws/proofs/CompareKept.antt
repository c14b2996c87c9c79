-- What a cell that compares the state with a constant gives is no more than the bit of the state that the constant is.
use Rattle.std.proofs.Common.{◌≡◌, ℕ, zero, suc, false, List, [], ◌∷◌, ◌++◌, length, map, max, inl, inr, refl, ◌∙◌, ap, arith}
use Rattle.std.specs.Prelude.{replicate, slice_index_or}
use Rattle.std.specs.List.{range_with_len}
use Rattle.cell_types.specs.declared.shape.Shape.{Shape}
use Rattle.cell_types.specs.declared.word.EqualKind.TheVariants.{Eq}
use Rattle.cell_types.specs.declared.word.WordKind.TheVariants.{Equal}
use Rattle.cell_word.proofs.Monotone.{value_kept}
use Rattle.cell_word.specs.Folds.{all_of, equal_of}
use Rattle.rtl_bits.proofs.Keeping.{below_kept}
use Rattle.rtl_bits.proofs.Lists.{AreBelow_refl}
use Rattle.rtl_bits.proofs.Orders.{Below_trans}
use Rattle.rtl_bits.specs.Knowledge.{AreBelow, AreKnown, Below}
use Rattle.rtl_bits.specs.Numbers.{number_of}
use Rattle.rtl_bits.specs.Tables.{not_of, xor_of}
use Rattle.rtl_bits.specs.declared.bit.Bit.{Bit}
use Rattle.rtl_bits.specs.declared.bit.Bit.TheVariants.{S0, S1, X}
use Rattle.rtl_sig.specs.declared.sig.SigBit.{SigBit}
use Rattle.rtl_ir.specs.declared.module.Link.{Link}
use Rattle.rtl_ir.specs.declared.wire.Wire.{Wire}
use Rattle.rtl_ir.specs.Flat.Cell.{Ports}
use Rattle.rtl_ir.specs.Flat.Place.{Frame, Path}
use Rattle.rtl_ir.specs.Flat.Point.{point, points}
use Rattle.rtl_ir.specs.Follow.{follow}
use Rattle.net_model.specs.Fsm.Code.{Output}
use Rattle.net_model.specs.Lists.{Distinct}
use Rattle.net_model.specs.Relate.{Related}
use Rattle.net_model.specs.Valuation.{Valuation, read_all}
use Rattle.net_model.specs.Within.{Each}
use Rattle.follow_laws.specs.Alike.{Alike}
use Rattle.fsm_laws.specs.Arms.{StandsFor}
use Rattle.fsm_laws.specs.Carried.{code_says}
use Rattle.fsm_laws.specs.Codes.{OneHot}
use Rattle.fsm_laws.specs.Recodes.{LeadsTo}
use Rattle.fsm_laws.specs.States.{AreStates, bit_or_zero, state_place}
use Rattle.fsm_laws.proofs.Arms.{arm_apart, has}
use Rattle.fsm_laws.proofs.Carrying.{IsOwn, fixed_below}
use Rattle.fsm_laws.proofs.States.{compare_coded, filled}

xor_turned : (a b : Bit) → xor_of a b ≡ xor_of b a
xor_turned S0 S0 = refl
xor_turned S0 S1 = refl
xor_turned S1 S0 = refl
xor_turned S1 S1 = refl
xor_turned S0 b = refl
xor_turned S1 b = refl
xor_turned a S0 = refl
xor_turned a S1 = refl
xor_turned a b = refl

-- the order of the operands does not matter
pub equal_turned : (as' bs : List Bit) → equal_of false as' bs ≡ equal_of false bs as'
equal_turned as' bs =
    let n : max (length as') (length bs) ≡ max (length bs) (length as') = omega arith in
    λ i. all_of (map (λ k. not_of (xor_turned (filled as' k) (filled bs k) i)) (range_with_len 0 (n i)))

-- better known operands
pub equal_below : (shape : Shape) (as' bs cs ds : List Bit) → AreBelow as' cs → AreBelow bs ds → Below (equal_of false as' bs) (equal_of false cs ds)
equal_below shape as' bs cs ds h k =
    (value_kept Below below_kept (Equal Eq) (record shape { signs = record { a = false; b = false } }) as' cs bs ds [] [] h k tt).0

-- the bits of a one-bit result above the lowest
pub above_lowest : (width k : ℕ) → Below (slice_index_or (replicate width S0) k X) S0
above_lowest zero k = tt
above_lowest (suc n) zero = refl
above_lowest (suc n) (suc k) = above_lowest n k

words_long : (p : Path) (wires : List Wire) (w : Valuation) (signal : List SigBit) → length (read_all w (points p wires signal)) ≡ length signal
words_long p wires w [] = refl
words_long p wires w (s ∷ signal) = ap suc (words_long p wires w signal)

module _ (links : List Link) (wires fresh : List Wire) (named : Distinct (map (λ (w : Wire). w.name) wires)) (outputs : List Output) (width : ℕ) (states : List (List Bit)) (are : AreStates width states) (over : Ports) (frames : List Frame) (p : Path) (v w : Valuation) (rel : Related over frames (code_says states links wires (wires ++ fresh) outputs) p v w) (alike : (s : SigBit) → Alike w (point p (wires ++ fresh) s) (point p (wires ++ fresh) (follow links s))) where
  abbrev grown : List Wire
  grown = wires ++ fresh

  constant_below : (signal : List SigBit) (bits : List Bit) → Each (IsOwn links wires fresh named outputs) signal → LeadsTo links signal bits → AreBelow (read_all v (points p grown signal)) bits
  constant_below [] [] own h = tt
  constant_below (s ∷ signal) (c ∷ bits) own h =
      (fixed_below links wires fresh named outputs states over frames p v w rel alike s (own s (inl refl)) c h.0, constant_below signal bits (λ r i. own r (inr i)) h.1)
  constant_below [] (c ∷ bits) own h = absurd h
  constant_below (s ∷ signal) [] own h = absurd h

  -- the state beside a constant
  pub compared_below : (shape : Shape) (state other code : List SigBit) (bits : List Bit) → length state ≡ width → Each (IsOwn links wires fresh named outputs) state → Each (IsOwn links wires fresh named outputs) other
      → StandsFor width states links outputs state code → LeadsTo links other bits → AreKnown bits → OneHot (length states) (λ i. has p grown w code i)
      → Below (equal_of false (read_all v (points p grown state)) (read_all v (points p grown other))) (bit_or_zero (λ i. has p grown w code i) (state_place states 0 (number_of bits)))
  compared_below shape state other code bits long own own_other stands leads known hot =
      Below_trans _ _ _
      (equal_below shape (read_all v (points p grown state)) (read_all v (points p grown other)) (read_all v (points p grown state)) bits (AreBelow_refl (read_all v (points p grown state))) (constant_below other bits own_other leads))
      (compare_coded width states are (read_all v (points p grown state)) (words_long p grown v state ∙ long) (λ i. has p grown w code i)
      (λ k lt i r at. arm_apart links wires fresh named outputs width states are over frames p v w rel alike state code own stands k lt i r at) hot bits known)
