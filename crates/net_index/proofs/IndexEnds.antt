-- Where connections lead back to: an end that any number of connections reaches is reached by as many as there are.
use Rattle.std.proofs.Common.{◌≡◌, ℕ, zero, suc, ◌+◌, ◌-◌, ◌<◌, ◌≤◌, Bool, true, false, cond, eqb, ◌||◌, List, [], ◌∷◌, length, map, Option, Some, None, unwrap_or, refl, sym, ◌∙◌, ap, subst, arith}
use Rattle.std.specs.List.{list_any}
use Rattle.std.specs.Option.{option_map_or}
use Rattle.std.proofs.lemmas.Bool.{eq-eqb, eqb-true, eqb-false}
use Rattle.std.proofs.lemmas.List.{length-map}
use Rattle.std.proofs.lemmas.Map.Steps.{le-length_from_below}
use Rattle.rtl_bits.specs.declared.bit.Bit.{Bit}
use Rattle.rtl_sig.specs.declared.sig.SigBit.{SigBit}
use Rattle.rtl_sig.specs.declared.sig.SigBit.TheVariants as sig
use Rattle.rtl_sig.specs.declared.sig.WireBit.{WireBit}
use Rattle.rtl_ir.specs.Follow.{back, end_within, follow_joins, source_at}
use Rattle.rtl_ir.specs.declared.follow.Join.{Join}
use Rattle.rtl_ir.specs.Signals.{same_bit}
use Rattle.net_index.specs.IndexWays.{IsEnd}
use Rattle.net_index.proofs.IndexTables.{same_bit-true}

-- what no connection drives is its own end
pub ends_here : (js : List Join) (n : ℕ) (s : SigBit) → back js s ≡ None → end_within js n s ≡ Some s
ends_here js zero s e = rw e refl
ends_here js (suc n) s e = rw e refl

-- what one drives is no end
pub ends_not : (js : List Join) (s r : SigBit) → back js s ≡ Some r → end_within js 0 s ≡ None
ends_not js s r e = rw e refl

-- and ends where that leads
pub ends_on : (js : List Join) (n : ℕ) (s r : SigBit) → back js s ≡ Some r → end_within js (suc n) s ≡ end_within js n r
ends_on js n s r e = rw e refl

-- an end stays an end with more connections
ends_more : (js : List Join) (n : ℕ) (s e : SigBit) → end_within js n s ≡ Some e → end_within js (suc n) s ≡ Some e
ends_more js zero s e h = by (back js s) refl
  where
    by : (o : Option SigBit) → back js s ≡ o → end_within js 1 s ≡ Some e
    by None eq = ends_here js 1 s eq ∙ sym (ends_here js 0 s eq) ∙ h
    by (Some r) eq = absurd (let f : end_within js 0 s ≡ None = ends_not js s r eq in cc)
ends_more js (suc n) s e h = by (λ r. ends_more js n r e) (back js s) refl
  where
    by : ((r : SigBit) → end_within js n r ≡ Some e → end_within js (suc n) r ≡ Some e) → (o : Option SigBit) → back js s ≡ o → end_within js (suc (suc n)) s ≡ Some e
    by more None eq = ends_here js (suc (suc n)) s eq ∙ sym (ends_here js (suc n) s eq) ∙ h
    by more (Some r) eq = ends_on js (suc n) s r eq ∙ more r (sym (ends_on js n s r eq) ∙ h)

ends_plus : (js : List Join) (k n : ℕ) (s e : SigBit) → end_within js n s ≡ Some e → end_within js (k + n) s ≡ Some e
ends_plus js zero n s e h = let z : n ≡ 0 + n = omega arith in subst (λ k. end_within js k s ≡ Some e) z h
ends_plus js (suc k) n s e h =
    let z : suc (k + n) ≡ suc k + n = omega arith in
    subst (λ m. end_within js m s ≡ Some e) z (ends_more js (k + n) s e (ends_plus js k n s e h))

pub ends_later : (js : List Join) (n m : ℕ) (s e : SigBit) → n ≤ m → end_within js n s ≡ Some e → end_within js m s ≡ Some e
ends_later js n m s e le h = let z : m - n + n ≡ m = omega arith in subst (λ k. end_within js k s ≡ Some e) z (ends_plus js (m - n) n s e h)

-- how many connections lead back from a bit, up to a number
abbrev steps_of : List Join → ℕ → SigBit → ℕ
steps_of js zero s = 0
steps_of js (suc n) s = option_map_or (λ r. suc (steps_of js n r)) (back js s) 0

no_steps : (js : List Join) (n : ℕ) (s : SigBit) → back js s ≡ None → steps_of js n s ≡ 0
no_steps js zero s e = refl
no_steps js (suc n) s e = rw e refl

more_steps : (js : List Join) (n : ℕ) (s r : SigBit) → back js s ≡ Some r → steps_of js (suc n) s ≡ suc (steps_of js n r)
more_steps js n s r e = rw e refl

-- so many lead to the end
steps_end : (js : List Join) (n : ℕ) (s e : SigBit) → end_within js n s ≡ Some e → end_within js (steps_of js n s) s ≡ Some e
steps_end js zero s e h = h
steps_end js (suc n) s e h = by (λ r. steps_end js n r e) (back js s) refl
  where
    by : ((r : SigBit) → end_within js n r ≡ Some e → end_within js (steps_of js n r) r ≡ Some e) → (o : Option SigBit) → back js s ≡ o
        → end_within js (steps_of js (suc n) s) s ≡ Some e
    by more None eq = ends_here js (steps_of js (suc n) s) s eq ∙ sym (ends_here js (suc n) s eq) ∙ h
    by more (Some r) eq =
        ap (λ k. end_within js k s) (more_steps js n s r eq) ∙ ends_on js (steps_of js n r) s r eq ∙ more r (sym (ends_on js n s r eq) ∙ h)

-- where they lead to an end, the number does not matter
steps_same : (js : List Join) (n : ℕ) (s e : SigBit) → end_within js n s ≡ Some e → steps_of js (suc n) s ≡ steps_of js n s
steps_same js zero s e h = by (back js s) refl
  where
    by : (o : Option SigBit) → back js s ≡ o → steps_of js 1 s ≡ 0
    by None eq = no_steps js 1 s eq
    by (Some r) eq = absurd (let f : end_within js 0 s ≡ None = ends_not js s r eq in cc)
steps_same js (suc n) s e h = by (λ r. steps_same js n r e) (back js s) refl
  where
    by : ((r : SigBit) → end_within js n r ≡ Some e → steps_of js (suc n) r ≡ steps_of js n r) → (o : Option SigBit) → back js s ≡ o
        → steps_of js (suc (suc n)) s ≡ steps_of js (suc n) s
    by more None eq = no_steps js (suc (suc n)) s eq ∙ sym (no_steps js (suc n) s eq)
    by more (Some r) eq =
        more_steps js (suc n) s r eq ∙ ap suc (more r (sym (ends_on js n s r eq) ∙ h)) ∙ sym (more_steps js n s r eq)

-- a driven bit is among the bits of the connections
among : (f : WireBit → ℕ) (js : List Join) (b : WireBit) (r : SigBit) (q : ℕ) → source_at js b ≡ Some r → q ≡ f b → list_any (eqb q) (map (λ (j : Join). f j.bit) js) ≡ true
among f [] b r q e is = absurd (cc)
among f (j ∷ js) b r q e is = by (λ h. among f js b r q h is) (same_bit j.bit b) refl e
  where
    or_true : (x : Bool) → (x || true) ≡ true
    or_true true = refl
    or_true false = refl

    by : (source_at js b ≡ Some r → list_any (eqb q) (map (λ (k : Join). f k.bit) js) ≡ true) → (t : Bool) → same_bit j.bit b ≡ t → cond t (Some j.source) (source_at js b) ≡ Some r → list_any (eqb q) (map (λ (k : Join). f k.bit) (j ∷ js)) ≡ true
    by rest true same h = rw (eq-eqb q (f j.bit) (is ∙ ap f (sym (same_bit-true j.bit b same)))) refl
    by rest false same h = rw (rest h) (or_true (eqb q (f j.bit)))

-- each smaller number is that of a bit on the way
passes_all : (js : List Join) (n m : ℕ) (s e : SigBit) → m ≤ n → end_within js m s ≡ Some e → (q : ℕ) → q < steps_of js n s
    → list_any (eqb q) (map (λ (j : Join). steps_of js n (sig.Wire j.bit) - 1) js) ≡ true
passes_all js n m (sig.Fixed c) e le h q lt = absurd (let z : steps_of js n (sig.Fixed c) ≡ 0 = no_steps js n (sig.Fixed c) refl in omega arith)
passes_all js n zero (sig.Wire b) e le h q lt = by (source_at js b) refl
  where
    by : (o : Option SigBit) → source_at js b ≡ o → list_any (eqb q) (map (λ (j : Join). steps_of js n (sig.Wire j.bit) - 1) js) ≡ true
    by None eq = absurd (let z : steps_of js n (sig.Wire b) ≡ 0 = no_steps js n (sig.Wire b) eq in omega arith)
    by (Some r) eq = absurd (let f : end_within js 0 (sig.Wire b) ≡ None = ends_not js (sig.Wire b) r eq in cc)
passes_all js zero (suc m) (sig.Wire b) e le h q lt = absurd (omega arith)
passes_all js (suc n) (suc m) (sig.Wire b) e le h q lt = by (λ r next. passes_all js (suc n) m r e (omega arith) next q) (source_at js b) refl
  where
    by : ((r : SigBit) → end_within js m r ≡ Some e → q < steps_of js (suc n) r → list_any (eqb q) (map (λ (j : Join). steps_of js (suc n) (sig.Wire j.bit) - 1) js) ≡ true)
        → (o : Option SigBit) → source_at js b ≡ o → list_any (eqb q) (map (λ (j : Join). steps_of js (suc n) (sig.Wire j.bit) - 1) js) ≡ true
    by more None eq = absurd (let z : steps_of js (suc n) (sig.Wire b) ≡ 0 = no_steps js (suc n) (sig.Wire b) eq in omega arith)
    by more (Some r) eq =
        let next : end_within js m r ≡ Some e = sym (ends_on js m (sig.Wire b) r eq) ∙ h in
        let same : steps_of js (suc n) r ≡ steps_of js n r = steps_same js n r e (ends_later js m n r e (omega arith) next) in
        let here : steps_of js (suc n) (sig.Wire b) ≡ suc (steps_of js n r) = more_steps js n (sig.Wire b) r eq in
        at next same here (eqb q (steps_of js (suc n) r)) refl
      where
        at : end_within js m r ≡ Some e → steps_of js (suc n) r ≡ steps_of js n r → steps_of js (suc n) (sig.Wire b) ≡ suc (steps_of js n r)
            → (t : Bool) → eqb q (steps_of js (suc n) r) ≡ t → list_any (eqb q) (map (λ (j : Join). steps_of js (suc n) (sig.Wire j.bit) - 1) js) ≡ true
        at next same here true is = among (λ c. steps_of js (suc n) (sig.Wire c) - 1) js b r q eq (let i : q ≡ steps_of js (suc n) r = eqb-true q (steps_of js (suc n) r) is in omega arith)
        at next same here false is = more r next (let i = eqb-false q (steps_of js (suc n) r) is in omega arith)

-- an end that any number of connections reaches is reached by as many as there are
pub ends_all : (js : List Join) (n : ℕ) (s e : SigBit) → end_within js n s ≡ Some e → end_within js (length js) s ≡ Some e
ends_all js n s e h =
    let few = le-length_from_below (map (λ (j : Join). steps_of js n (sig.Wire j.bit) - 1) js) (steps_of js n s) (passes_all js n n s e (omega arith) h) in
    let count : length (map (λ (j : Join). steps_of js n (sig.Wire j.bit) - 1) js) ≡ length js = length-map js (λ (j : Join). steps_of js n (sig.Wire j.bit) - 1) in
    ends_later js (steps_of js n s) (length js) s e (omega arith) (steps_end js n s e h)

-- where the way ends is what a bit is followed to; a bit whose way does not end stays
pub end_follows : (js : List Join) (s : SigBit) (o : Option SigBit) → IsEnd js s o → unwrap_or o s ≡ follow_joins js s
unfolding follow_joins
end_follows js s (Some e) leads = ap (λ o. unwrap_or o s) (sym (ends_all js leads.0 s e leads.1))
end_follows js s None runs = ap (λ o. unwrap_or o s) (sym (runs (length js)))

-- a constant stays
pub fixed_follows : (js : List Join) (c : Bit) → sig.Fixed c ≡ follow_joins js (sig.Fixed c)
unfolding follow_joins
fixed_follows js c = ap (λ o. unwrap_or o (sig.Fixed c)) (sym (ends_here js (length js) (sig.Fixed c) refl))
