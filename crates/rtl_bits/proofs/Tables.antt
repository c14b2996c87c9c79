-- Each function of bits keeps both orders of knowledge.
use Rattle.std.proofs.Common.{◌≡◌, refl, sym, ◌∙◌, ap, subst}
use Rattle.rtl_bits.specs.declared.bit.Bit.{Bit}
use Rattle.rtl_bits.specs.declared.bit.Bit.TheVariants.{S0, S1, X}
use Rattle.rtl_bits.specs.Knowledge.{Below, FlatBelow, IsMonotone, IsMonotone2, IsMonotone3}
use Rattle.rtl_bits.specs.Tables.{seen_of, merge_of, not_of, and_of, or_of, xor_of, mux_of, IsPlain}
use Rattle.rtl_bits.proofs.Orders.{Below_trans, Below_from_flat, merge_left, merge_right, merge_greatest}

pub seen_of_mono : IsMonotone Below seen_of
seen_of_mono S0 b h = ap seen_of h
seen_of_mono S1 b h = ap seen_of h
seen_of_mono a b h = tt

pub not_of_mono : IsMonotone Below not_of
not_of_mono S0 b h = ap not_of h
not_of_mono S1 b h = ap not_of h
not_of_mono a b h = tt

pub merge_of_mono : IsMonotone2 Below merge_of
merge_of_mono a a' b b' h k =
    merge_greatest a' b' (merge_of a b) (Below_trans _ _ _ (merge_left a b) h)
    (Below_trans _ _ _ (merge_right a b) k)

-- and with 0 is 0
and_zero : (b : Bit) → and_of b S0 ≡ S0
and_zero S0 = refl
and_zero b = refl

pub and_of_mono : IsMonotone2 Below and_of
and_of_mono S0 a' b b' h k = ap (λ z. and_of z b') h
and_of_mono S1 a' S0 b' h k = ap (λ z. and_of a' z) k ∙ and_zero a'
and_of_mono S1 a' S1 b' h k = ap (λ z. and_of z b') h ∙ ap (λ z. and_of S1 z) k
and_of_mono S1 a' b b' h k = tt
and_of_mono a a' S0 b' h k = ap (λ z. and_of a' z) k ∙ and_zero a'
and_of_mono a a' b b' h k = tt

-- or with 1 is 1
or_one : (b : Bit) → or_of b S1 ≡ S1
or_one S1 = refl
or_one b = refl

pub or_of_mono : IsMonotone2 Below or_of
or_of_mono S1 a' b b' h k = ap (λ z. or_of z b') h
or_of_mono S0 a' S1 b' h k = ap (λ z. or_of a' z) k ∙ or_one a'
or_of_mono S0 a' S0 b' h k = ap (λ z. or_of z b') h ∙ ap (λ z. or_of S0 z) k
or_of_mono S0 a' b b' h k = tt
or_of_mono a a' S1 b' h k = ap (λ z. or_of a' z) k ∙ or_one a'
or_of_mono a a' b b' h k = tt

pub xor_of_mono : IsMonotone2 Below xor_of
xor_of_mono S0 a' S0 b' h k = ap (λ z. xor_of z b') h ∙ ap (λ z. xor_of S0 z) k
xor_of_mono S0 a' S1 b' h k = ap (λ z. xor_of z b') h ∙ ap (λ z. xor_of S0 z) k
xor_of_mono S1 a' S0 b' h k = ap (λ z. xor_of z b') h ∙ ap (λ z. xor_of S1 z) k
xor_of_mono S1 a' S1 b' h k = ap (λ z. xor_of z b') h ∙ ap (λ z. xor_of S1 z) k
xor_of_mono a a' b b' h k = tt

-- the merge is below either input as a cell reads it
merge_below_left : (a b : Bit) → Below (merge_of a b) (seen_of a)
merge_below_left S0 S0 = refl
merge_below_left S1 S1 = refl
merge_below_left a b = tt

merge_below_right : (a b : Bit) → Below (merge_of a b) (seen_of b)
merge_below_right S0 S0 = refl
merge_below_right S1 S1 = refl
merge_below_right a b = tt

-- the merge is below what a multiplexer gives, whatever selects
merge_below_mux : (a b s : Bit) → Below (merge_of a b) (mux_of a b s)
merge_below_mux a b S0 = merge_below_left a b
merge_below_mux a b S1 = merge_below_right a b
merge_below_mux S0 S0 s = refl
merge_below_mux S1 S1 s = refl
merge_below_mux a b s = tt

pub mux_of_mono : IsMonotone3 Below mux_of
mux_of_mono a a' b b' S0 s' h k l =
    subst (λ z. Below (seen_of a) (mux_of a' b' z)) (sym l) (seen_of_mono a a' h)
mux_of_mono a a' b b' S1 s' h k l =
    subst (λ z. Below (seen_of b) (mux_of a' b' z)) (sym l) (seen_of_mono b b' k)
mux_of_mono a a' b b' s s' h k l =
    Below_trans _ _ _ (merge_of_mono a a' b b' h k) (merge_below_mux a' b' s')

-- under a plain bit the two orders are one
pub flat_from_below : (r b : Bit) → IsPlain r → Below r b → FlatBelow r b
flat_from_below S0 b g h = h
flat_from_below S1 b g h = h
flat_from_below X b g h = tt
flat_from_below r b g h = subst (λ z. FlatBelow z b) g tt

pub seen_of_plain : (a : Bit) → IsPlain (seen_of a)
seen_of_plain S0 = refl
seen_of_plain S1 = refl
seen_of_plain a = refl

pub not_of_plain : (a : Bit) → IsPlain (not_of a)
not_of_plain S0 = refl
not_of_plain S1 = refl
not_of_plain a = refl

pub merge_of_plain : (a b : Bit) → IsPlain (merge_of a b)
merge_of_plain S0 S0 = refl
merge_of_plain S1 S1 = refl
merge_of_plain a b = refl

pub and_of_plain : (a b : Bit) → IsPlain (and_of a b)
and_of_plain S0 b = refl
and_of_plain S1 S0 = refl
and_of_plain S1 S1 = refl
and_of_plain S1 b = refl
and_of_plain a S0 = refl
and_of_plain a b = refl

pub or_of_plain : (a b : Bit) → IsPlain (or_of a b)
or_of_plain S1 b = refl
or_of_plain S0 S1 = refl
or_of_plain S0 S0 = refl
or_of_plain S0 b = refl
or_of_plain a S1 = refl
or_of_plain a b = refl

pub xor_of_plain : (a b : Bit) → IsPlain (xor_of a b)
xor_of_plain S0 S0 = refl
xor_of_plain S0 S1 = refl
xor_of_plain S1 S0 = refl
xor_of_plain S1 S1 = refl
xor_of_plain a b = refl

pub mux_of_plain : (a b s : Bit) → IsPlain (mux_of a b s)
mux_of_plain a b S0 = seen_of_plain a
mux_of_plain a b S1 = seen_of_plain b
mux_of_plain a b s = merge_of_plain a b

-- a function that gives plain bits and keeps the order of knowledge keeps the flat order
pub flat_monotone : (f : Bit → Bit) → ((a : Bit) → IsPlain (f a)) → IsMonotone Below f → IsMonotone FlatBelow f
flat_monotone f g m a b h = flat_from_below _ _ (g a) (m a b (Below_from_flat a b h))

pub flat_monotone2 : (f : Bit → Bit → Bit) → ((a b : Bit) → IsPlain (f a b)) → IsMonotone2 Below f → IsMonotone2 FlatBelow f
flat_monotone2 f g m a a' b b' h k =
    flat_from_below _ _ (g a b) (m a a' b b' (Below_from_flat a a' h) (Below_from_flat b b' k))

pub flat_monotone3 : (f : Bit → Bit → Bit → Bit) → ((a b c : Bit) → IsPlain (f a b c)) → IsMonotone3 Below f → IsMonotone3 FlatBelow f
flat_monotone3 f g m a a' b b' c c' h k l =
    flat_from_below _ _ (g a b c)
    (m a a' b b' c c' (Below_from_flat a a' h) (Below_from_flat b b' k) (Below_from_flat c c' l))

pub seen_of_flat : IsMonotone FlatBelow seen_of
seen_of_flat = flat_monotone seen_of seen_of_plain seen_of_mono

pub not_of_flat : IsMonotone FlatBelow not_of
not_of_flat = flat_monotone not_of not_of_plain not_of_mono

pub merge_of_flat : IsMonotone2 FlatBelow merge_of
merge_of_flat = flat_monotone2 merge_of merge_of_plain merge_of_mono

pub and_of_flat : IsMonotone2 FlatBelow and_of
and_of_flat = flat_monotone2 and_of and_of_plain and_of_mono

pub or_of_flat : IsMonotone2 FlatBelow or_of
or_of_flat = flat_monotone2 or_of or_of_plain or_of_mono

pub xor_of_flat : IsMonotone2 FlatBelow xor_of
xor_of_flat = flat_monotone2 xor_of xor_of_plain xor_of_mono

pub mux_of_flat : IsMonotone3 FlatBelow mux_of
mux_of_flat = flat_monotone3 mux_of mux_of_plain mux_of_mono

-- for `functions_are_monotone`
pub ruleset keep_knowledge = (seen_of_mono, merge_of_mono, not_of_mono, and_of_mono, or_of_mono, xor_of_mono, mux_of_mono)

-- for `functions_are_flat_monotone`
pub ruleset keep_flat_order = (seen_of_flat, merge_of_flat, not_of_flat, and_of_flat, or_of_flat, xor_of_flat, mux_of_flat)

-- for `functions_give_plain_bits`
pub ruleset give_plain_bits = (seen_of_plain, merge_of_plain, not_of_plain, and_of_plain, or_of_plain, xor_of_plain, mux_of_plain)
