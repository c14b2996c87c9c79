-- The two orders of knowledge are preorders, and the merge is a greatest lower bound.
use Rattle.std.proofs.Common.{◌≡◌, refl, sym, ◌∙◌, ap, subst}
use Rattle.rtl_bits.specs.declared.bit.Bit.{Bit}
use Rattle.rtl_bits.specs.declared.bit.Bit.TheVariants.{S0, S1, X, Z, M, Dash}
use Rattle.rtl_bits.specs.Knowledge.{IsKnown, Below, FlatBelow}
use Rattle.rtl_bits.specs.Tables.{merge_of}

pub Below_refl : (a : Bit) → Below a a
Below_refl S0 = refl
Below_refl S1 = refl
Below_refl a = tt

pub Below_trans : (a b c : Bit) → Below a b → Below b c → Below a c
Below_trans S0 b c h k = subst (λ z. Below z c) h k
Below_trans S1 b c h k = subst (λ z. Below z c) h k
Below_trans a b c h k = tt

pub Below_from_equal : (a b : Bit) → a ≡ b → Below a b
Below_from_equal a b e = subst (λ z. Below a z) e (Below_refl a)

-- what is above a known bit equals it
pub Below_known : (a b : Bit) → IsKnown a → Below a b → b ≡ a
Below_known S0 b k h = h
Below_known S1 b k h = h
Below_known X b k h = absurd k
Below_known Z b k h = absurd k
Below_known M b k h = absurd k
Below_known Dash b k h = absurd k

pub FlatBelow_refl : (a : Bit) → FlatBelow a a
FlatBelow_refl X = tt
FlatBelow_refl a = refl

pub FlatBelow_trans : (a b c : Bit) → FlatBelow a b → FlatBelow b c → FlatBelow a c
FlatBelow_trans X b c h k = tt
FlatBelow_trans S0 b c h k = subst (λ z. FlatBelow z c) h k
FlatBelow_trans S1 b c h k = subst (λ z. FlatBelow z c) h k
FlatBelow_trans Z b c h k = subst (λ z. FlatBelow z c) h k
FlatBelow_trans M b c h k = subst (λ z. FlatBelow z c) h k
FlatBelow_trans Dash b c h k = subst (λ z. FlatBelow z c) h k

pub FlatBelow_from_equal : (a b : Bit) → a ≡ b → FlatBelow a b
FlatBelow_from_equal a b e = subst (λ z. FlatBelow a z) e (FlatBelow_refl a)

-- in the flat order, bits that are below each other are equal
pub FlatBelow_antisym : (a b : Bit) → FlatBelow a b → FlatBelow b a → a ≡ b
FlatBelow_antisym S0 b h k = sym h
FlatBelow_antisym S1 b h k = sym h
FlatBelow_antisym Z b h k = sym h
FlatBelow_antisym M b h k = sym h
FlatBelow_antisym Dash b h k = sym h
FlatBelow_antisym X X h k = refl
FlatBelow_antisym X b h k = k

-- the flat order is the finer one
pub Below_from_flat : (a b : Bit) → FlatBelow a b → Below a b
Below_from_flat S0 b h = h
Below_from_flat S1 b h = h
Below_from_flat a b h = tt

pub merge_left : (a b : Bit) → Below (merge_of a b) a
merge_left S0 S0 = refl
merge_left S1 S1 = refl
merge_left a b = tt

pub merge_right : (a b : Bit) → Below (merge_of a b) b
merge_right S0 S0 = refl
merge_right S1 S1 = refl
merge_right a b = tt

pub merge_greatest : (a b c : Bit) → Below c a → Below c b → Below c (merge_of a b)
merge_greatest a b S0 h k = ap (λ z. merge_of z b) h ∙ ap (λ z. merge_of S0 z) k
merge_greatest a b S1 h k = ap (λ z. merge_of z b) h ∙ ap (λ z. merge_of S1 z) k
merge_greatest a b c h k = tt

pub merge_flat_left : (a b : Bit) → FlatBelow (merge_of a b) a
merge_flat_left S0 S0 = refl
merge_flat_left S1 S1 = refl
merge_flat_left a b = tt

pub merge_flat_right : (a b : Bit) → FlatBelow (merge_of a b) b
merge_flat_right S0 S0 = refl
merge_flat_right S1 S1 = refl
merge_flat_right a b = tt

-- for `below_is_a_preorder`
pub ruleset preorder = (Below_refl, Below_trans, Below_known)

-- for `flat_below_is_an_order`
pub ruleset flat_order = (FlatBelow_refl, FlatBelow_trans, FlatBelow_antisym, Below_from_flat)

-- for `merge_is_greatest_below_both`
pub ruleset merge_bounds = (merge_left, merge_right, merge_greatest, merge_flat_left, merge_flat_right)
