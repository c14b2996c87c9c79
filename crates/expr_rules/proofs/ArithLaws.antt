-- The rules for sums and products say no less.
use Rattle.std.proofs.Common.{◌≡◌, ⊎_elim, ℕ, zero, ◌+◌, ◌-◌, ◌*◌, ◌/◌, ◌%◌, ◌^◌, ◌<◌, ◌≤◌, Bool, true, false, List, length, map, Option, Some, refl, sym, ◌∙◌, ap, subst, arith, ℤ, pos, ◌+ℤ◌, ◌-ℤ◌, ◌*ℤ◌}
use Rattle.std.specs.Prelude.{slice_index_or, ◌&&◌, if◌then◌else◌}
use Rattle.std.specs.Option.{option_map}
use Rattle.std.specs.List.{list_all}
use Rattle.std.proofs.lemmas.Bool.{and_parts, cases_lt}
use Rattle.std.proofs.lemmas.Int.{ints}
use Rattle.std.proofs.lemmas.List.{get_or-append_right, get_or-replicate, length-replicate}
use Rattle.std.proofs.Math.IntN.{one, *ℤ-one, *ℤ-zero, *ℤ_comm, +ℤ_idl, +ℤ_idr}
use Rattle.std.proofs.Math.ListN.{get_or-append}
use Rattle.std.proofs.Math.Nat.{mul-mod_left, zero-div, zero-mod}
use Rattle.std.proofs.Math.Pow.{shl-shr, shr-shr}
use Rattle.rtl_bits.specs.Knowledge.{AreKnown, Below, all_known}
use Rattle.rtl_bits.specs.Numbers.{bits_of, low_bit_of}
use Rattle.rtl_bits.specs.declared.bit.Bit.{Bit}
use Rattle.rtl_bits.specs.declared.bit.Bit.TheVariants.{S0, X}
use Rattle.rtl_bits.proofs.Lists.{all_known_true}
use Rattle.rtl_bits.proofs.Orders.{Below_from_equal}
use Rattle.rtl_sig.specs.declared.sig.SigBit.{SigBit}
use Rattle.rtl_sig.specs.declared.sig.SigBit.TheVariants.{Fixed}
use Rattle.cell_types.specs.declared.shape.Shape.{Shape}
use Rattle.cell_types.specs.declared.word.ArithKind.{ArithKind}
use Rattle.cell_types.specs.declared.word.ArithKind.TheVariants.{Add, Sub, Mul}
use Rattle.cell_types.specs.declared.word.WordKind.TheVariants.{Arith}
use Rattle.cell_word.specs.Arithmetic.{result_of}
use Rattle.cell_word.specs.Integers.{integer_bits, integer_in}
use Rattle.cell_word.specs.Values.{both_signed}
use Rattle.cell_word.specs.Words.{unknown_of}
use Rattle.cell_word.proofs.Residues.{bits_of_wrapped}
use Rattle.expr_rules.specs.Change.{when}
use Rattle.expr_rules.specs.Laws.{IsReading}
use Rattle.expr_rules.specs.Rules.Arith.{add_zero, equal_difference, moved_up, mul_by_bit, mul_by_power, power_of, times_small}
use Rattle.expr_rules.specs.Rules.Logic.{beside_zeros}
use Rattle.rtl_ir.specs.Signals.{same_signal}
use Rattle.expr_rules.specs.Signals.{filled, is_zero}
use Rattle.expr_rules.specs.declared.change.Change.{Change}
use Rattle.expr_rules.specs.declared.change.Change.TheVariants.{Gives}
use Rattle.expr_rules.specs.declared.operands.Operands.{Operands}
use Rattle.expr_rules.proofs.Cases.{first_case, map_case, some_case, when_case}
use Rattle.expr_rules.proofs.ConstantWords.{IsPower, filled_bits, meant_bits, power_bits, zero_bits}
use Rattle.expr_rules.proofs.Digits.{bits_at}
use Rattle.expr_rules.proofs.Integers.{AreCongruent, bits_congruent, congruent_bits, congruent_difference, congruent_product, congruent_refl, congruent_sum, congruent_trans, has_residue}
use Rattle.expr_rules.proofs.LogicLaws.{beside_case, filled_at}
use Rattle.expr_rules.proofs.Reading.{default_at, extended_length, read_below, read_word}
use Rattle.rtl_ir.proofs.SamePlaces.{signal_is}
use Rattle.expr_rules.proofs.Says.{IsMeantAs, RuleSays, WordSays, bit_of}

less_zero : (a : ℤ) → a -ℤ pos 0 ≡ a
less_zero a = omega (arith, ints)

less_itself : (a : ℤ) → a -ℤ a ≡ pos 0
less_itself a = omega (arith, ints)

times_one : (a : ℤ) → a *ℤ pos 1 ≡ a
unfolding one
times_one a = *ℤ-one a

-- a bit of a number that is moved up
moved_low : (n places at : ℕ) → at < places → low_bit_of (n * 2 ^ places / 2 ^ at) ≡ S0
moved_low n places at h =
    let e : (n * 2 ^ places) % 2 ^ places ≡ 0 % 2 ^ places = mul-mod_left n (2 ^ places) ∙ sym (zero-mod (2 ^ places)) in
    sym (bits_at (n * 2 ^ places) places at h)
    ∙ ap (λ w. slice_index_or w at X) (bits_of_wrapped (n * 2 ^ places) 0 places places e (omega arith))
    ∙ bits_at 0 places at h ∙ ap low_bit_of (zero-div (2 ^ at))

moved_high : (n places at : ℕ) → places ≤ at → low_bit_of (n * 2 ^ places / 2 ^ at) ≡ low_bit_of (n / 2 ^ (at - places))
moved_high n places at h =
    let e : at ≡ places + (at - places) = omega arith in
    ap low_bit_of (ap (λ k. n * 2 ^ places / 2 ^ k) e ∙ sym (shr-shr (n * 2 ^ places) places (at - places)) ∙ ap (λ m. m / 2 ^ (at - places)) (shl-shr n places))

module _ (f : SigBit → Bit) (fixed : IsReading f) (shape : Shape) (o : Operands) where
  -- the integers of the operands
  abbrev left_integer : ℤ
  left_integer = integer_in (both_signed shape) (map f o.a)

  abbrev right_integer : ℤ
  right_integer = integer_in (both_signed shape) (map f o.b)

  -- a bit is x where an operand is not known
  arith_below : (kind : ArithKind) (at : ℕ) → at < shape.widths.y → (r : Bit) → (AreKnown (map f o.a) → AreKnown (map f o.b) → Below (slice_index_or (integer_bits (result_of kind left_integer right_integer) shape.widths.y) at X) r) → Below (bit_of f shape o (Arith kind) at) r
  arith_below kind at h r below = by (all_known (map f o.a) && all_known (map f o.b)) refl
    where
      by : (t : Bool) → (all_known (map f o.a) && all_known (map f o.b)) ≡ t → Below (slice_index_or (if t then integer_bits (result_of kind left_integer right_integer) shape.widths.y else unknown_of shape.widths.y) at X) r
      by true e =
          let p = and_parts (all_known (map f o.a)) (all_known (map f o.b)) e in
          below (all_known_true (map f o.a) p.0) (all_known_true (map f o.b) p.1)
      by false e = subst (λ z. Below z r) (sym (get_or-replicate shape.widths.y at X X h)) tt

  -- a word whose bits the result has
  arith_gives : (kind : ArithKind) (word : List SigBit) → (AreKnown (map f o.a) → AreKnown (map f o.b) → integer_bits (result_of kind left_integer right_integer) shape.widths.y ≡ map f word) → WordSays f shape o (Arith kind) (Gives word)
  arith_gives kind word same at h =
      arith_below kind at h (f (slice_index_or word at (Fixed S0))) (λ ka kb.
      subst (λ w. Below (slice_index_or w at X) (f (slice_index_or word at (Fixed S0)))) (sym (same ka kb))
      (subst (λ z. Below z (f (slice_index_or word at (Fixed S0)))) (sym (read_word f fixed word at)) (read_below f fixed word at (Fixed S0))))

  module _ (kind : ArithKind) (m : IsMeantAs (Arith kind) shape o) where
    left_length : length o.left ≡ shape.widths.y
    left_length = ap length m.left ∙ extended_length o.a shape.widths.y (both_signed shape)

    right_length : length o.right ≡ shape.widths.y
    right_length = ap length m.right ∙ extended_length o.b shape.widths.y (both_signed shape)

    left_bits : AreKnown (map f o.a) → integer_bits left_integer shape.widths.y ≡ map f o.left
    left_bits k = meant_bits f fixed (both_signed shape) o.a shape.widths.y k ∙ ap (map f) (sym m.left)

    right_bits : AreKnown (map f o.b) → integer_bits right_integer shape.widths.y ≡ map f o.right
    right_bits k = meant_bits f fixed (both_signed shape) o.b shape.widths.y k ∙ ap (map f) (sym m.right)

  -- an integer whose low bits are zeros
  zero_congruent : (z : ℤ) (word : List SigBit) → integer_bits z shape.widths.y ≡ map f word → length word ≡ shape.widths.y → list_all is_zero word ≡ true → AreCongruent shape.widths.y z (pos 0)
  zero_congruent z word e n t = bits_congruent shape.widths.y z (pos 0) (e ∙ zero_bits f fixed word t ∙ ap (bits_of 0) n)

  -- a power of two
  power_congruent : (z : ℤ) (word : List SigBit) (places : ℕ) → integer_bits z shape.widths.y ≡ map f word → length word ≡ shape.widths.y → power_of word ≡ Some places → AreCongruent shape.widths.y z (pos (2 ^ places))
  power_congruent z word places e n p = bits_congruent shape.widths.y z (pos (2 ^ places)) (e ∙ IsPower.bits (power_bits f fixed word places p) ∙ ap (bits_of (2 ^ places)) n)

  pub add_zero_says : RuleSays f shape o (λ kind. add_zero kind o)
  add_zero_says (Arith Add) m change e =
      map_case (WordSays f shape o (Arith Add)) change Gives (beside_zeros o) e (λ word b.
      beside_case (λ word. WordSays f shape o (Arith Add) (Gives word)) is_zero o.left o.right word b
      (λ t. arith_gives Add o.left (λ ka kb.
      congruent_bits shape.widths.y (left_integer +ℤ right_integer) (left_integer +ℤ pos 0)
      (congruent_sum shape.widths.y left_integer right_integer left_integer (pos 0) (congruent_refl shape.widths.y left_integer) (zero_congruent right_integer o.right (right_bits Add m kb) (right_length Add m) t))
      ∙ ap (λ z. integer_bits z shape.widths.y) (+ℤ_idr left_integer) ∙ left_bits Add m ka))
      (λ t. arith_gives Add o.right (λ ka kb.
      congruent_bits shape.widths.y (left_integer +ℤ right_integer) (pos 0 +ℤ right_integer)
      (congruent_sum shape.widths.y left_integer right_integer (pos 0) right_integer (zero_congruent left_integer o.left (left_bits Add m ka) (left_length Add m) t) (congruent_refl shape.widths.y right_integer))
      ∙ ap (λ z. integer_bits z shape.widths.y) (+ℤ_idl right_integer) ∙ right_bits Add m kb)))
  add_zero_says (Arith Sub) m change e =
      when_case (WordSays f shape o (Arith Sub)) change (list_all is_zero o.right) (Gives o.left) e (λ t.
      arith_gives Sub o.left (λ ka kb.
      congruent_bits shape.widths.y (left_integer -ℤ right_integer) (left_integer -ℤ pos 0)
      (congruent_difference shape.widths.y left_integer right_integer left_integer (pos 0) (congruent_refl shape.widths.y left_integer) (zero_congruent right_integer o.right (right_bits Sub m kb) (right_length Sub m) t))
      ∙ ap (λ z. integer_bits z shape.widths.y) (less_zero left_integer) ∙ left_bits Sub m ka))
  add_zero_says kind m change e = absurd (cc)

  pub equal_difference_says : RuleSays f shape o (λ kind. equal_difference kind shape o)
  equal_difference_says (Arith Sub) m change e =
      when_case (WordSays f shape o (Arith Sub)) change (same_signal o.left o.right) (Gives (filled shape.widths.y S0)) e (λ t.
      arith_gives Sub (filled shape.widths.y S0) (λ ka kb.
      let same : o.left ≡ o.right = signal_is o.left o.right t in
      let c : AreCongruent shape.widths.y left_integer right_integer = bits_congruent shape.widths.y left_integer right_integer (left_bits Sub m ka ∙ ap (map f) same ∙ sym (right_bits Sub m kb)) in
      congruent_bits shape.widths.y (left_integer -ℤ right_integer) (right_integer -ℤ right_integer)
      (congruent_difference shape.widths.y left_integer right_integer right_integer right_integer c (congruent_refl shape.widths.y right_integer))
      ∙ ap (λ z. integer_bits z shape.widths.y) (less_itself right_integer) ∙ sym (filled_bits f fixed shape.widths.y)))
  equal_difference_says kind m change e = absurd (cc)

  -- a factor of the product, and the other one
  record AreFactors (factor other : List SigBit) : Type 0 where
    factor_value : ℤ
    rest : ℤ
    bits : integer_bits factor_value shape.widths.y ≡ map f factor
    others : integer_bits rest shape.widths.y ≡ map f other
    product : (x : ℤ) → AreCongruent shape.widths.y factor_value x → AreCongruent shape.widths.y (left_integer *ℤ right_integer) (rest *ℤ x)

  right_factor : IsMeantAs (Arith Mul) shape o → AreKnown (map f o.a) → AreKnown (map f o.b) → AreFactors o.right o.left
  right_factor m ka kb = record {
    factor_value = right_integer;
    rest = left_integer;
    bits = right_bits Mul m kb;
    others = left_bits Mul m ka;
    product = λ x c. congruent_product shape.widths.y left_integer right_integer left_integer x (congruent_refl shape.widths.y left_integer) c;
  }

  left_factor : IsMeantAs (Arith Mul) shape o → AreKnown (map f o.a) → AreKnown (map f o.b) → AreFactors o.left o.right
  left_factor m ka kb = record {
    factor_value = left_integer;
    rest = right_integer;
    bits = left_bits Mul m ka;
    others = right_bits Mul m kb;
    product = λ x c. subst (AreCongruent shape.widths.y (left_integer *ℤ right_integer)) (*ℤ_comm x right_integer)
        (congruent_product shape.widths.y left_integer right_integer x right_integer c (congruent_refl shape.widths.y right_integer));
  }

  -- a factor of 0 or 1
  times_says : (factor other : List SigBit) → length factor ≡ shape.widths.y → (AreKnown (map f o.a) → AreKnown (map f o.b) → AreFactors factor other) → (power : Option ℕ) → power_of factor ≡ power → (change : Change) → times_small shape factor power other ≡ Some change → WordSays f shape o (Arith Mul) change
  times_says factor other n factors (Some zero) p change e =
      some_case (WordSays f shape o (Arith Mul)) change (Gives other) e
      (arith_gives Mul other (λ ka kb.
      let s = factors ka kb in
      congruent_bits shape.widths.y (left_integer *ℤ right_integer) (s.rest *ℤ pos 1) (s.product (pos 1) (power_congruent s.factor_value factor 0 s.bits n p))
      ∙ ap (λ z. integer_bits z shape.widths.y) (times_one s.rest) ∙ s.others))
  times_says factor other n factors power p change e = zeros change e
    where
      zeros : (change : Change) → when (list_all is_zero factor) (Gives (filled shape.widths.y S0)) ≡ Some change → WordSays f shape o (Arith Mul) change
      zeros change e =
          when_case (WordSays f shape o (Arith Mul)) change (list_all is_zero factor) (Gives (filled shape.widths.y S0)) e (λ t.
          arith_gives Mul (filled shape.widths.y S0) (λ ka kb.
          let s = factors ka kb in
          congruent_bits shape.widths.y (left_integer *ℤ right_integer) (s.rest *ℤ pos 0) (s.product (pos 0) (zero_congruent s.factor_value factor s.bits n t))
          ∙ ap (λ z. integer_bits z shape.widths.y) (*ℤ-zero s.rest) ∙ sym (filled_bits f fixed shape.widths.y)))

  pub mul_by_bit_says : RuleSays f shape o (λ kind. mul_by_bit kind shape o)
  mul_by_bit_says (Arith Mul) m change e =
      first_case (WordSays f shape o (Arith Mul)) change (times_small shape o.right (power_of o.right) o.left) (times_small shape o.left (power_of o.left) o.right) e
      (times_says o.right o.left (right_length Mul m) (right_factor m) (power_of o.right) refl change)
      (times_says o.left o.right (left_length Mul m) (left_factor m) (power_of o.left) refl change)
  mul_by_bit_says kind m change e = absurd (cc)

  -- a bit of a word that is moved up
  moved_read : (n places : ℕ) (other : List SigBit) → length other ≡ shape.widths.y → map f other ≡ bits_of n shape.widths.y → (at : ℕ) → at < shape.widths.y → low_bit_of (n * 2 ^ places / 2 ^ at) ≡ f (slice_index_or (moved_up places other) at (Fixed S0))
  moved_read n places other l e at h = ⊎_elim
      (λ lt. moved_low n places at lt ∙ sym (ap f (get_or-append (filled places S0) other (Fixed S0) at (omega (arith, length-replicate places (Fixed S0))) ∙ filled_at places S0 at (Fixed S0) lt) ∙ fixed S0))
      (λ ge.
      let below : at - places < shape.widths.y = omega arith in
      moved_high n places at ge
      ∙ sym (bits_at n shape.widths.y (at - places) below)
      ∙ ap (λ w. slice_index_or w (at - places) X) (sym e)
      ∙ read_word f fixed other (at - places)
      ∙ ap f (default_at other (at - places) (Fixed X) (Fixed S0) (subst (λ n. at - places < n) (sym l) below)
      ∙ sym (get_or-append_right (filled places S0) other places at (Fixed S0) (length-replicate places (Fixed S0)) ge)))
      (cases_lt at places)

  power_says : (factor other : List SigBit) → length factor ≡ shape.widths.y → length other ≡ shape.widths.y → (AreKnown (map f o.a) → AreKnown (map f o.b) → AreFactors factor other) → (change : Change) → option_map (λ places. Gives (moved_up places other)) (power_of factor) ≡ Some change → WordSays f shape o (Arith Mul) change
  power_says factor other n l factors change e =
      map_case (WordSays f shape o (Arith Mul)) change (λ places. Gives (moved_up places other)) (power_of factor) e (λ places p at h.
      arith_below Mul at h (f (slice_index_or (moved_up places other) at (Fixed S0))) (λ ka kb.
      let s = factors ka kb in
      let r = has_residue shape.widths.y s.rest in
      let c : AreCongruent shape.widths.y (left_integer *ℤ right_integer) (pos (r.residue * 2 ^ places)) =
      congruent_trans shape.widths.y (left_integer *ℤ right_integer) (s.rest *ℤ pos (2 ^ places)) (pos (r.residue * 2 ^ places))
      (s.product (pos (2 ^ places)) (power_congruent s.factor_value factor places s.bits n p))
      (congruent_product shape.widths.y s.rest (pos (2 ^ places)) (pos r.residue) (pos (2 ^ places)) r.congruent (congruent_refl shape.widths.y (pos (2 ^ places)))) in
      Below_from_equal _ _ (
      ap (λ w. slice_index_or w at X) (congruent_bits shape.widths.y (left_integer *ℤ right_integer) (pos (r.residue * 2 ^ places)) c)
      ∙ bits_at (r.residue * 2 ^ places) shape.widths.y at h
      ∙ moved_read r.residue places other l (sym s.others ∙ r.bits) at h)))

  pub mul_by_power_says : RuleSays f shape o (λ kind. mul_by_power kind o)
  mul_by_power_says (Arith Mul) m change e =
      first_case (WordSays f shape o (Arith Mul)) change (option_map (λ places. Gives (moved_up places o.left)) (power_of o.right)) (option_map (λ places. Gives (moved_up places o.right)) (power_of o.left)) e
      (power_says o.right o.left (right_length Mul m) (left_length Mul m) (right_factor m) change)
      (power_says o.left o.right (left_length Mul m) (right_length Mul m) (left_factor m) change)
  mul_by_power_says kind m change e = absurd (cc)
