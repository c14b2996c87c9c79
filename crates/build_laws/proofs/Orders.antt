-- What is below the choices, matches and folds that cells make.
use Rattle.std.proofs.Common.{List, [], ◌∷◌, refl, sym, ap, subst}
use Rattle.std.specs.List.{fold}
use Rattle.rtl_bits.proofs.Orders.{Below_trans, merge_left}
use Rattle.rtl_bits.proofs.Tables.{mux_of_mono}
use Rattle.rtl_bits.specs.Knowledge.{Below}
use Rattle.rtl_bits.specs.Tables.{and_of, merge_of, mux_of, or_of, seen_of}
use Rattle.rtl_bits.specs.declared.bit.Bit.{Bit}
use Rattle.rtl_bits.specs.declared.bit.Bit.TheVariants.{S0, S1, X}
use Rattle.net_model.specs.Picked.{chosen_of, equal_of}

-- what is below a bit is below what a cell reads of it
pub seen_on : (a b : Bit) → Below a b → Below a (seen_of b)
seen_on S0 b h = ap seen_of h
seen_on S1 b h = ap seen_of h
seen_on a b h = tt

-- a choice of two bits that are below one bit is below it
pub chosen_both : (c a b r : Bit) → Below a r → Below b r → Below (chosen_of c a b) r
chosen_both S1 a b r h k = h
chosen_both S0 a b r h k = k
chosen_both c a b r h k = Below_trans (merge_of a b) a r (merge_left a b) h

merge_turned : (a b : Bit) → Below (merge_of a b) (merge_of b a)
merge_turned S0 S0 = refl
merge_turned S1 S1 = refl
merge_turned a b = tt

-- a choice is below a multiplexer of what is no less
pub chosen_mux : (c a b c' a' b' : Bit) → Below c c' → Below a a' → Below b b' → Below (chosen_of c a b) (mux_of b' a' c')
chosen_mux S1 a b c' a' b' h k l = subst (λ z. Below a (mux_of b' a' z)) (sym h) (seen_on a a' k)
chosen_mux S0 a b c' a' b' h k l = subst (λ z. Below b (mux_of b' a' z)) (sym h) (seen_on b b' l)
chosen_mux c a b c' a' b' h k l =
    Below_trans (merge_of a b) (merge_of b a) (mux_of b' a' c') (merge_turned a b) (mux_of_mono b b' a a' X c' l k tt)

-- bits joined from the last one down
abbrev pub all_right : List Bit → Bit
all_right [] = S1
all_right (b ∷ bits) = and_of b (all_right bits)

abbrev pub any_right : List Bit → Bit
any_right [] = S0
any_right (b ∷ bits) = or_of b (any_right bits)

and_turned : (a b c : Bit) → Below (and_of a (and_of b c)) (and_of (and_of a b) c)
and_turned S0 b c = refl
and_turned S1 S0 c = refl
and_turned S1 S1 S0 = refl
and_turned S1 S1 S1 = refl
and_turned S1 S1 c = tt
and_turned S1 b S0 = refl
and_turned S1 b c = tt
and_turned a S0 c = refl
and_turned a S1 S0 = refl
and_turned a b S0 = refl
and_turned a S1 c = tt
and_turned a b c = tt

or_turned : (a b c : Bit) → Below (or_of a (or_of b c)) (or_of (or_of a b) c)
or_turned S1 b c = refl
or_turned S0 S1 c = refl
or_turned S0 S0 S0 = refl
or_turned S0 S0 S1 = refl
or_turned S0 S0 c = tt
or_turned S0 b S1 = refl
or_turned S0 b c = tt
or_turned a S1 c = refl
or_turned a S0 S1 = refl
or_turned a b S1 = refl
or_turned a S0 c = tt
or_turned a b c = tt

and_one : (a : Bit) → Below (and_of a S1) a
and_one S0 = refl
and_one S1 = refl
and_one a = tt

pub one_and : (a : Bit) → Below a (and_of S1 a)
one_and S0 = refl
one_and S1 = refl
one_and a = tt

pub and_below : (a : Bit) → Below (and_of S1 a) a
and_below S0 = refl
and_below S1 = refl
and_below a = tt

or_zero : (a : Bit) → Below (or_of a S0) a
or_zero S0 = refl
or_zero S1 = refl
or_zero a = tt

zero_or : (a : Bit) → Below a (or_of S0 a)
zero_or S0 = refl
zero_or S1 = refl
zero_or a = tt

-- the one bit of a list
pub any_one : (a : Bit) → Below (any_right (a ∷ [])) a
any_one a = or_zero a

and_folded : (c : Bit) (bits : List Bit) → Below (and_of c (all_right bits)) (fold and_of c bits)
and_folded c [] = and_one c
and_folded c (b ∷ bits) = Below_trans _ _ _ (and_turned c b (all_right bits)) (and_folded (and_of c b) bits)

or_folded : (c : Bit) (bits : List Bit) → Below (or_of c (any_right bits)) (fold or_of c bits)
or_folded c [] = or_zero c
or_folded c (b ∷ bits) = Below_trans _ _ _ (or_turned c b (any_right bits)) (or_folded (or_of c b) bits)

-- and so they are below what is joined from the first one up
pub all_folded : (bits : List Bit) → Below (all_right bits) (fold and_of S1 bits)
all_folded bits = Below_trans _ _ _ (one_and (all_right bits)) (and_folded S1 bits)

pub any_folded : (bits : List Bit) → Below (any_right bits) (fold or_of S0 bits)
any_folded bits = Below_trans _ _ _ (zero_or (any_right bits)) (or_folded S0 bits)

-- a bit that is compared with 1 alone
pub equal_one : (a : Bit) → Below (all_right (equal_of a S1 ∷ [])) a
equal_one S0 = refl
equal_one S1 = refl
equal_one a = tt
