-- Places among others.
use Rattle.std.proofs.Common.{◌≡◌, ℕ, ◌+◌, ◌<◌, ◌≤◌, Bool, true, false, ◌||◌, cond, eqb, List, [], ◌∷◌, ◌++◌, length, get_or, take, inl, inr, refl, sym, ◌∙◌, ap, subst, ⊎_elim}
use Rattle.std.specs.List.{list_any}
use Rattle.std.proofs.lemmas.Bool.{eqb-true}
use Rattle.std.proofs.lemmas.Grind.{flat_map-append}
use Rattle.std.proofs.lemmas.List.{append-nil, take_all}
use Rattle.indexmap.specs.IndexSet.{insert_key}
use Rattle.rtl_sig.specs.declared.sig.SigBit.{SigBit}
use Rattle.net_model.specs.Lists.{In}
use Rattle.net_model.proofs.Members.{In-cases, In-left, In-right}
use Rattle.opt_merge.specs.declared.readers.Readers.{Readers}
use Rattle.opt_merge.specs.Among.{AreAmong}
use Rattle.opt_merge.specs.Readers.{readers_of_bit, readers_of_signal}
use Rattle.opt_merge.proofs.Sofar.{each_all, each_next, take_next}

-- a key that passes the test is there
found : (k : ℕ) (ks : List ℕ) → list_any (eqb k) ks ≡ true → In k ks
found k [] e = absurd cc
found k (x ∷ xs) e = by (eqb k x) refl (found k xs) e
  where
    by : (t : Bool) → eqb k x ≡ t → (list_any (eqb k) xs ≡ true → In k xs) → (t || list_any (eqb k) xs) ≡ true → In k (x ∷ xs)
    by true f later g = inl (eqb-true k x f)
    by false f later g = inr (later g)

-- a set with a key more
pub record HasMore (old new : List ℕ) (k : ℕ) : Type 0 where
  pub stays : AreAmong old new
  pub own : In k new

pub has_more : (old new : List ℕ) (k : ℕ) → new ≡ insert_key eqb old k → HasMore old new k
has_more old new k e = by (list_any (eqb k) old) refl e
  where
    by : (t : Bool) → list_any (eqb k) old ≡ t → new ≡ cond t old (old ++ k ∷ []) → HasMore old new k
    by true f g = record { stays = λ at i. subst (In at) (sym g) i; own = subst (In k) (sym g) (found k old f) }
    by false f g = record { stays = λ at i. subst (In at) (sym g) (In-left at old (k ∷ []) i); own = subst (In k) (sym g) (In-right k old (k ∷ []) (inl refl)) }

pub among_on : (xs ys zs : List ℕ) → AreAmong xs ys → AreAmong ys zs → AreAmong xs zs
among_on xs ys zs h k at i = k at (h at i)

-- all of a list
pub among_all : (xs ys : List ℕ) (at : ℕ) → length xs ≤ at → AreAmong (take at xs) ys → AreAmong xs ys
among_all xs ys at h among = each_all (λ (k : ℕ). In k ys) xs at h among

pub readers_all : (readers : Readers) (signal : List SigBit) (ys : List ℕ) (at : ℕ) → length signal ≤ at → AreAmong (readers_of_signal readers (take at signal)) ys → AreAmong (readers_of_signal readers signal) ys
readers_all readers signal ys at h among = subst (λ (bits : List SigBit). AreAmong (readers_of_signal readers bits) ys) (take_all at signal h) among

-- one place more
pub among_next : (xs old new : List ℕ) (at d item : ℕ) → at < length xs → item ≡ get_or xs at d → AreAmong (take at xs) old → AreAmong old new → In item new → AreAmong (take (at + 1) xs) new
among_next xs old new at d item lt is before more here =
    each_next (λ (k : ℕ). In k new) xs at d item lt is (among_on (take at xs) old new before more) here

-- the readers of one bit more
pub among_bit : (readers : Readers) (signal : List SigBit) (old new : List ℕ) (i : ℕ) (d item : SigBit) → i < length signal → item ≡ get_or signal i d → AreAmong (readers_of_signal readers (take i signal)) old → AreAmong old new
    → AreAmong (readers_of_bit readers item) new → AreAmong (readers_of_signal readers (take (i + 1) signal)) new
among_bit readers signal old new i d item lt is before more here =
    subst (λ (places : List ℕ). AreAmong places new)
    (sym (ap (readers_of_signal readers) (take_next signal i d item lt is) ∙ flat_map-append (readers_of_bit readers) (take i signal) (item ∷ []) ∙ ap (λ z. readers_of_signal readers (take i signal) ++ z) (append-nil (readers_of_bit readers item))))
    (λ at j. ⊎_elim (λ k. more at (before at k)) (here at) (In-cases at (readers_of_signal readers (take i signal)) (readers_of_bit readers item) j))
