-- What the bits of operands have, cut or filled up to a width, whatever is said of bits.
use Rattle.std.proofs.Common.{◌≡◌, ℕ, zero, suc, ◌-◌, Bool, true, false, List, [], ◌∷◌, ◌++◌, length, inl, inr, refl, sym, ap, subst, arith}
use Rattle.std.specs.Prelude.{map, replicate, slice_get, slice_index_or, take, unwrap_or}
use Rattle.cell_word.specs.Words as words
use Rattle.cell_word.specs.Words.{extended_at}
use Rattle.rtl_bits.specs.Numbers.{top_of}
use Rattle.rtl_bits.specs.declared.bit.Bit.{Bit}
use Rattle.rtl_bits.specs.declared.bit.Bit.TheVariants.{S0}
use Rattle.rtl_sig.specs.Signal.{extended, fill_of}
use Rattle.rtl_sig.specs.declared.sig.SigBit.{SigBit}
use Rattle.rtl_sig.specs.declared.sig.SigBit.TheVariants.{Fixed}
use Rattle.net_model.specs.Lists.{In}
use Rattle.net_model.specs.Within.{BitIn, SigIn}
use Rattle.gate_nets.proofs.Nets.{Goods, Logic}
use Rattle.gate_nets.proofs.Wholes.{names}

pub length_map : (f : SigBit → Bit) (bits : List SigBit) → length (map f bits) ≡ length bits
length_map f [] = refl
length_map f (b ∷ bits) = ap suc (length_map f bits)

-- bits that are said to name wires do
pub goods_in : (count : ℕ) (v : ℕ → Bit) (bits : List SigBit) → Goods (names count) v bits → SigIn count bits
goods_in count v [] h s i = absurd i
goods_in count v (b ∷ bits) h s (inl e) = subst (BitIn count) (sym e) h.0
goods_in count v (b ∷ bits) h s (inr i) = goods_in count (λ k. v (suc k)) bits h.1 s i

module _ (l : Logic) where
  -- a word has its own bits
  pub goods_own : (g : SigBit → Bit) (d : Bit) (bits : List SigBit) → ((x : SigBit) → In x bits → l.Has (g x) x) → Goods l (λ at. slice_index_or (map g bits) at d) bits
  goods_own g d [] k = tt
  goods_own g d (b ∷ bits) k = (k b (inl refl), goods_own g d bits (λ x i. k x (inr i)))

  -- a word that goes on with a last bit has that bit's value from its end on
  pub goods_filled : (g : SigBit → Bit) (d : Bit) (s : SigBit) → l.Has d s → (n : ℕ) (bits : List SigBit) → ((x : SigBit) → In x bits → l.Has (g x) x)
      → Goods l (λ at. slice_index_or (map g bits) at d) (take n bits ++ replicate (n - length bits) s)
  goods_filled g d s h zero [] k = tt
  goods_filled g d s h zero (b ∷ bits) k =
      let e : 0 ≡ 0 - suc (length bits) = omega arith in
      subst (λ z. Goods l (λ at. slice_index_or (map g (b ∷ bits)) at d) (replicate z s)) e tt
  goods_filled g d s h (suc n) [] k =
      let e : suc n ≡ suc n - 0 = omega arith in subst (λ z. Goods l (λ at. d) (replicate z s)) e (all (suc n))
    where
      all : (n : ℕ) → Goods l (λ at. d) (replicate n s)
      all zero = tt
      all (suc n) = (h, all n)
  goods_filled g d s h (suc n) (b ∷ bits) k =
      let e : n - length bits ≡ suc n - suc (length bits) = omega arith in (
        k b (inl refl),
        subst (λ z. Goods l (λ at. slice_index_or (map g bits) at d) (take n bits ++ replicate z s)) e (goods_filled g d s h n bits (λ x i. k x (inr i))),
      )

  top_has : (g : SigBit → Bit) (bits : List SigBit) → ((x : SigBit) → In x bits → l.Has (g x) x) → l.Has (top_of (map g bits)) (fill_of bits true)
  top_has g [] k = l.constant S0
  top_has g (b ∷ []) k = k b (inl refl)
  top_has g (b ∷ c ∷ bits) k =
      let e : length (c ∷ bits) - 1 ≡ length bits = omega arith in
      let f : length (b ∷ c ∷ bits) - 1 ≡ suc (length bits) = omega arith in
      let rest : l.Has (top_of (map g (c ∷ bits))) (unwrap_or (slice_get (c ∷ bits) (length bits)) (Fixed S0)) = subst (λ z. l.Has (top_of (map g (c ∷ bits))) (unwrap_or (slice_get (c ∷ bits) z) (Fixed S0))) e (top_has g (c ∷ bits) (λ x i. k x (inr i))) in
      subst (λ z. l.Has (top_of (map g (c ∷ bits))) (unwrap_or (slice_get (b ∷ c ∷ bits) z) (Fixed S0))) (sym f) rest

  -- what a word goes on with has its value
  pub fill_has : (g : SigBit → Bit) (signed : Bool) (bits : List SigBit) → ((x : SigBit) → In x bits → l.Has (g x) x) → l.Has (words.fill_of signed (map g bits)) (fill_of bits signed)
  fill_has g true bits k = top_has g bits k
  fill_has g false bits k = l.constant S0

  -- an operand at a width has the bits of the extended word
  pub goods_extended : (g : SigBit → Bit) (signed : Bool) (n : ℕ) (bits : List SigBit) → ((x : SigBit) → In x bits → l.Has (g x) x) → Goods l (extended_at signed (map g bits)) (extended bits n signed)
  goods_extended g signed n bits k =
      goods_filled g (words.fill_of signed (map g bits)) (fill_of bits signed) (fill_has g signed bits k) n bits k
