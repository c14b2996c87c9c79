-- What the functions of bits give where an argument is known.
use Rattle.std.proofs.Common.{◌≡◌, false, refl, sym, subst}
use Rattle.rtl_bits.proofs.Orders.{Below_refl, Below_trans}
use Rattle.rtl_bits.proofs.Tables.{not_of_mono}
use Rattle.rtl_bits.specs.Knowledge.{Below, is_known}
use Rattle.rtl_bits.specs.Tables.{and_of, merge_of, mux_of, not_of, or_of, seen_of, xor_of}
use Rattle.rtl_bits.specs.declared.bit.Bit.{Bit}
use Rattle.rtl_bits.specs.declared.bit.Bit.TheVariants.{S0, S1, X}

pub seen_below : (a : Bit) → Below (seen_of a) a
seen_below S0 = refl
seen_below S1 = refl
seen_below a = tt

pub and_one : (a : Bit) → Below (and_of a S1) a
and_one S0 = refl
and_one S1 = refl
and_one a = tt

pub one_and : (a : Bit) → Below (and_of S1 a) a
one_and S0 = refl
one_and S1 = refl
one_and a = tt

pub or_zero : (a : Bit) → Below (or_of a S0) a
or_zero S0 = refl
or_zero S1 = refl
or_zero a = tt

pub zero_or : (a : Bit) → Below (or_of S0 a) a
zero_or S0 = refl
zero_or S1 = refl
zero_or a = tt

pub xor_zero : (a : Bit) → Below (xor_of a S0) a
xor_zero S0 = refl
xor_zero S1 = refl
xor_zero a = tt

pub zero_xor : (a : Bit) → Below (xor_of S0 a) a
zero_xor S0 = refl
zero_xor S1 = refl
zero_xor a = tt

pub xor_one : (a : Bit) → Below (xor_of a S1) (not_of a)
xor_one S0 = refl
xor_one S1 = refl
xor_one a = tt

pub one_xor : (a : Bit) → Below (xor_of S1 a) (not_of a)
one_xor S0 = refl
one_xor S1 = refl
one_xor a = tt

pub and_same : (a : Bit) → Below (and_of a a) a
and_same S0 = refl
and_same S1 = refl
and_same a = tt

pub or_same : (a : Bit) → Below (or_of a a) a
or_same S0 = refl
or_same S1 = refl
or_same a = tt

pub xor_same : (a : Bit) → Below (xor_of a a) S0
xor_same S0 = refl
xor_same S1 = refl
xor_same a = tt

pub xnor_same : (a : Bit) → Below (not_of (xor_of a a)) S1
xnor_same S0 = refl
xnor_same S1 = refl
xnor_same a = tt

not_not : (a : Bit) → Below (not_of (not_of a)) a
not_not S0 = refl
not_not S1 = refl
not_not a = tt

-- the inverse of what is below an inverse
pub not_below : (a b : Bit) → Below a (not_of b) → Below (not_of a) b
not_below a b h = Below_trans _ _ _ (not_of_mono a (not_of b) h) (not_not b)

merge_same : (a : Bit) → Below (merge_of a a) a
merge_same S0 = refl
merge_same S1 = refl
merge_same a = tt

pub mux_same : (a s : Bit) → Below (mux_of a a s) a
mux_same a S0 = seen_below a
mux_same a S1 = seen_below a
mux_same a s = merge_same a

merge_unknown : (a b c : Bit) → is_known a ≡ false → Below (merge_of a b) c
merge_unknown S0 b c e = absurd (cc)
merge_unknown S1 b c e = absurd (cc)
merge_unknown a b c e = tt

unknown_merge : (a b c : Bit) → is_known b ≡ false → Below (merge_of a b) c
unknown_merge a S0 c e = absurd (cc)
unknown_merge a S1 c e = absurd (cc)
unknown_merge S0 b c e = tt
unknown_merge S1 b c e = tt
unknown_merge a b c e = tt

seen_unknown : (a c : Bit) → is_known a ≡ false → Below (seen_of a) c
seen_unknown S0 c e = absurd (cc)
seen_unknown S1 c e = absurd (cc)
seen_unknown a c e = tt

pub mux_left : (a b s : Bit) → is_known a ≡ false → Below (mux_of a b s) b
mux_left a b S0 e = seen_unknown a b e
mux_left a b S1 e = seen_below b
mux_left a b s e = merge_unknown a b b e

pub mux_right : (a b s : Bit) → is_known b ≡ false → Below (mux_of a b s) a
mux_right a b S0 e = seen_below a
mux_right a b S1 e = seen_unknown b a e
mux_right a b s e = unknown_merge a b a e

pub mux_itself : (s : Bit) → Below (mux_of S0 S1 s) s
mux_itself S0 = refl
mux_itself S1 = refl
mux_itself s = tt

pub mux_inverse : (s : Bit) → Below (mux_of S1 S0 s) (not_of s)
mux_inverse S0 = refl
mux_inverse S1 = refl
mux_inverse s = tt

-- past the ends of the arms
pub mux_none : (s c : Bit) → Below (mux_of X X s) c
mux_none S0 c = tt
mux_none S1 c = tt
mux_none s c = tt

merge_turned : (a b i : Bit) → Below (merge_of a b) (mux_of b a i)
merge_turned S0 S0 S0 = refl
merge_turned S0 S0 S1 = refl
merge_turned S0 S0 i = refl
merge_turned S1 S1 S0 = refl
merge_turned S1 S1 S1 = refl
merge_turned S1 S1 i = refl
merge_turned a b i = tt

turned_zero : (i : Bit) → not_of i ≡ S0 → i ≡ S1
turned_zero S1 e = refl
turned_zero i e = absurd (cc)

turned_one : (i : Bit) → not_of i ≡ S1 → i ≡ S0
turned_one S0 e = refl
turned_one i e = absurd (cc)

-- what chooses is below an inverse: the arms change places
pub mux_turned : (a b s i : Bit) → Below s (not_of i) → Below (mux_of a b s) (mux_of b a i)
mux_turned a b S0 i h = subst (λ z. Below (seen_of a) (mux_of b a z)) (sym (turned_zero i h)) (Below_refl (seen_of a))
mux_turned a b S1 i h = subst (λ z. Below (seen_of b) (mux_of b a z)) (sym (turned_one i h)) (Below_refl (seen_of b))
mux_turned a b s i h = merge_turned a b i

-- what two bits have in common is no more than the first
pub merge_left : (a b : Bit) → Below (merge_of a b) a
merge_left S0 S0 = refl
merge_left S0 b = tt
merge_left S1 S1 = refl
merge_left S1 b = tt
merge_left a b = tt
