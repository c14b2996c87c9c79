-- The orders of knowledge on lists of bits.
use Rattle.std.proofs.Common.{◌≡◌, refl, ◌∙◌, ap, ℕ, zero, suc, ◌<◌, true, List, [], ◌∷◌, length, get_or, arith, ◌↔◌, IsTrue}
use Rattle.rtl_bits.specs.declared.bit.Bit.{Bit}
use Rattle.rtl_bits.specs.declared.bit.Bit.TheVariants.{S0, S1, X, Z, M, Dash}
use Rattle.rtl_bits.specs.Knowledge.{IsKnown, is_known, AreKnown, all_known, Below, FlatBelow, Placewise, AreBelow, AreFlatBelow}
use Rattle.rtl_bits.proofs.Orders.{Below_refl, Below_trans, Below_known, Below_from_flat, FlatBelow_refl, FlatBelow_trans, FlatBelow_antisym}

pub placewise_refl : (order : Bit → Bit → Type 0) → ((a : Bit) → order a a) → (bits : List Bit) → Placewise order bits bits
placewise_refl order r [] = tt
placewise_refl order r (b ∷ bits) = (r b, placewise_refl order r bits)

pub placewise_trans : (order : Bit → Bit → Type 0) → ((a b c : Bit) → order a b → order b c → order a c) → (as' bs cs : List Bit) → Placewise order as' bs → Placewise order bs cs → Placewise order as' cs
placewise_trans order t [] [] [] h k = tt
placewise_trans order t [] [] (c ∷ cs) h k = k
placewise_trans order t [] (b ∷ bs) cs h k = absurd h
placewise_trans order t (a ∷ as') [] cs h k = absurd h
placewise_trans order t (a ∷ as') (b ∷ bs) [] h k = k
placewise_trans order t (a ∷ as') (b ∷ bs) (c ∷ cs) h k =
    (t a b c h.0 k.0, placewise_trans order t as' bs cs h.1 k.1)

pub AreBelow_refl : (bits : List Bit) → AreBelow bits bits
AreBelow_refl = placewise_refl Below Below_refl

pub AreBelow_trans : (as' bs cs : List Bit) → AreBelow as' bs → AreBelow bs cs → AreBelow as' cs
AreBelow_trans = placewise_trans Below Below_trans

pub AreFlatBelow_refl : (bits : List Bit) → AreFlatBelow bits bits
AreFlatBelow_refl = placewise_refl FlatBelow FlatBelow_refl

pub AreFlatBelow_trans : (as' bs cs : List Bit) → AreFlatBelow as' bs → AreFlatBelow bs cs → AreFlatBelow as' cs
AreFlatBelow_trans = placewise_trans FlatBelow FlatBelow_trans

pub AreBelow_from_flat : (as' bs : List Bit) → AreFlatBelow as' bs → AreBelow as' bs
AreBelow_from_flat [] [] h = tt
AreBelow_from_flat [] (b ∷ bs) h = h
AreBelow_from_flat (a ∷ as') [] h = h
AreBelow_from_flat (a ∷ as') (b ∷ bs) h = (Below_from_flat a b h.0, AreBelow_from_flat as' bs h.1)

-- lists that stand in an order are equally long
pub placewise_length : (order : Bit → Bit → Type 0) (as' bs : List Bit) → Placewise order as' bs → length as' ≡ length bs
placewise_length order [] [] h = refl
placewise_length order [] (b ∷ bs) h = absurd h
placewise_length order (a ∷ as') [] h = absurd h
placewise_length order (a ∷ as') (b ∷ bs) h = ap suc (placewise_length order as' bs h.1)

-- what is above a list of known bits equals it
pub AreBelow_known : (as' bs : List Bit) → AreKnown as' → AreBelow as' bs → bs ≡ as'
AreBelow_known [] [] k h = refl
AreBelow_known [] (b ∷ bs) k h = absurd h
AreBelow_known (a ∷ as') [] k h = absurd h
AreBelow_known (a ∷ as') (b ∷ bs) k h =
    ap (λ z. z ∷ bs) (Below_known a b k.0 h.0) ∙ ap (λ zs. a ∷ zs) (AreBelow_known as' bs k.1 h.1)

-- the tests mean what they say
pub is_known_true : (a : Bit) → is_known a ≡ true → IsKnown a
is_known_true S0 e = tt
is_known_true S1 e = tt
is_known_true X e = absurd (cc)
is_known_true Z e = absurd (cc)
is_known_true M e = absurd (cc)
is_known_true Dash e = absurd (cc)

pub true_is_known : (a : Bit) → IsKnown a → is_known a ≡ true
true_is_known S0 k = refl
true_is_known S1 k = refl
true_is_known X k = absurd k
true_is_known Z k = absurd k
true_is_known M k = absurd k
true_is_known Dash k = absurd k

pub all_known_true : (bits : List Bit) → all_known bits ≡ true → AreKnown bits
all_known_true [] e = tt
all_known_true (S0 ∷ bits) e = (tt, all_known_true bits e)
all_known_true (S1 ∷ bits) e = (tt, all_known_true bits e)
all_known_true (b ∷ bits) e = absurd (cc)

pub true_all_known : (bits : List Bit) → AreKnown bits → all_known bits ≡ true
true_all_known [] k = refl
true_all_known (S0 ∷ bits) k = true_all_known bits k.1
true_all_known (S1 ∷ bits) k = true_all_known bits k.1
true_all_known (b ∷ bits) k = absurd k.0

-- a bit of a known list is known
pub known_at : (bits : List Bit) (i : ℕ) (d : Bit) → AreKnown bits → i < length bits → IsKnown (get_or bits i d)
known_at [] i d k h = absurd (omega arith)
known_at (b ∷ bits) zero d k h = k.0
known_at (b ∷ bits) (suc i) d k h = known_at bits i d k.1 (omega arith)

pub AreBelow_length : (as' bs : List Bit) → AreBelow as' bs → length as' ≡ length bs
AreBelow_length = placewise_length Below

pub AreFlatBelow_antisym : (as' bs : List Bit) → AreFlatBelow as' bs → AreFlatBelow bs as' → as' ≡ bs
AreFlatBelow_antisym [] [] h k = refl
AreFlatBelow_antisym [] (b ∷ bs) h k = absurd h
AreFlatBelow_antisym (a ∷ as') [] h k = absurd h
AreFlatBelow_antisym (a ∷ as') (b ∷ bs) h k =
    ap (λ z. z ∷ as') (FlatBelow_antisym a b h.0 k.0)
    ∙ ap (λ zs. b ∷ zs) (AreFlatBelow_antisym as' bs h.1 k.1)

pub is_known_iff : (a : Bit) → IsTrue (is_known a) ↔ IsKnown a
is_known_iff a = (is_known_true a, true_is_known a)

pub all_known_iff : (bits : List Bit) → IsTrue (all_known bits) ↔ AreKnown bits
all_known_iff bits = (all_known_true bits, true_all_known bits)

-- for `lists_below_are_a_preorder`
pub ruleset lists_below_are_a_preorder_laws = (AreBelow_refl, AreBelow_trans, AreBelow_known, AreBelow_length)

-- for `lists_flat_below_are_an_order`
pub ruleset lists_flat_below_are_an_order_laws = (AreFlatBelow_refl, AreFlatBelow_trans, AreFlatBelow_antisym, AreBelow_from_flat)
