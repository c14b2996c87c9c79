-- Each move keeps the rule of a deque.
use Rattle.std.proofs.Common.{◌≡◌, ◌≢◌, ℕ, zero, suc, ◌+◌, ◌≤◌, List, [], ◌∷◌, ◌++◌, set, Bool, true, false, sym, refl, ap, ◌∙◌, subst, arith}
use mathlib.Core.Option.{Option, some, none, some-ne-none}
use lib.ListN.{get_elem?}
use Rattle.crossbeam_deque.specs.Tasks.{Pushes, Takes, Forks, Merges, Learns}
use Rattle.work_crew.specs.declared.deque.Hand.{Hand}
use Rattle.work_crew.specs.Times.{times}
use Rattle.work_crew.specs.Hands.{hand, total, owner_of, Knows, AllKnow, AtMostOnce, Took}
use Rattle.work_crew.proofs.Counting.{times_append}

abbrev or_hand : Hand → Option Hand → Hand
or_hand d none = d
or_hand d (some x) = x

some_same : (a b : Hand) → some a ≡ some b → a ≡ b
some_same a b e = ap (or_hand a) e

abbrev on_true : Bool → Type 0
on_true true = Unit {0}
on_true false = ⊥

pub not_both : (b : Bool) → b ≡ false → b ≡ true → ⊥
not_both b f t = subst on_true (sym t ∙ f) tt

total_set : (k : ℕ) (views : List Hand) (port : ℕ) (v w : Hand) → get_elem? views port ≡ some v → total k (set views port w) + times k v.taken ≡ total k views + times k w.taken
total_set k [] port v w at = absurd (some-ne-none v (sym at))
total_set k (x ∷ views) zero v w at = let e = ap (λ z. times k z.taken) (some_same x v at) in omega arith
total_set k (x ∷ views) (suc port) v w at = let e = total_set k views port v w at in omega arith

total_snoc : (k : ℕ) (views : List Hand) (w : Hand) → w.taken ≡ [] → total k (views ++ w ∷ []) ≡ total k views
total_snoc k [] w e = let t = ap (times k) e in omega arith
total_snoc k (v ∷ views) w e = let t = total_snoc k views w e in omega arith

-- the owner's hand where another hand, or its own, is replaced by one with the same jobs put
owner_put : (views : List Hand) (port : ℕ) (v w : Hand) → get_elem? views port ≡ some v → w.put ≡ v.put → (owner_of (set views port w)).put ≡ (owner_of views).put
owner_put [] port v w at e = refl
owner_put (x ∷ views) zero v w at e = e ∙ ap (λ z. z.put) (sym (some_same x v at))
owner_put (x ∷ views) (suc port) v w at e = refl

owner_fixed : (views : List Hand) (port : ℕ) (v w : Hand) → get_elem? views port ≡ some v → w.fixed ≡ v.fixed → (owner_of (set views port w)).fixed ≡ (owner_of views).fixed
owner_fixed [] port v w at e = refl
owner_fixed (x ∷ views) zero v w at e = e ∙ ap (λ z. z.fixed) (sym (some_same x v at))
owner_fixed (x ∷ views) (suc port) v w at e = refl

owner_else : (views : List Hand) (port : ℕ) (w : Hand) → port ≢ 0 → owner_of (set views port w) ≡ owner_of views
owner_else [] port w n = refl
owner_else (x ∷ views) zero w n = absurd (n refl)
owner_else (x ∷ views) (suc port) w n = refl

knows_at : (o : Hand) (views : List Hand) (port : ℕ) (v : Hand) → AllKnow o views → get_elem? views port ≡ some v → Knows o v
knows_at o [] port v h at = absurd (some-ne-none v (sym at))
knows_at o (x ∷ views) zero v h at = subst (Knows o) (some_same x v at) h.0
knows_at o (x ∷ views) (suc port) v h at = knows_at o views port v h.1 at

know_set : (o : Hand) (views : List Hand) (port : ℕ) (w : Hand) → Knows o w → AllKnow o views → AllKnow o (set views port w)
know_set o [] port w k h = tt
know_set o (x ∷ views) zero w k h = (k, h.1)
know_set o (x ∷ views) (suc port) w k h = (h.0, know_set o views port w k h.1)

know_snoc : (o : Hand) (views : List Hand) (w : Hand) → Knows o w → AllKnow o views → AllKnow o (views ++ w ∷ [])
know_snoc o [] w k h = (k, tt)
know_snoc o (x ∷ views) w k h = (h.0, know_snoc o views w k h.1)

-- an owner that is as fixed, or now fixed, with the same jobs put
know_owner : (o p : Hand) (views : List Hand) → (o.fixed ≡ true → p.fixed ≡ true) → p.put ≡ o.put → AllKnow o views → AllKnow p views
know_owner o p [] f e h = tt
know_owner o p (x ∷ views) f e h = (λ t. (f (h.0 t).0, (h.0 t).1 ∙ sym e), know_owner o p views f e h.1)

-- beside an owner that is not fixed no hand is
know_open : (o p : Hand) (views : List Hand) → o.fixed ≡ false → AllKnow o views → AllKnow p views
know_open o p [] f h = tt
know_open o p (x ∷ views) f h = (λ t. absurd (not_both o.fixed f (h.0 t).0), know_open o p views f h.1)

pub puts : (v : Hand) (xs : List ℕ) → v.fixed ≡ false → Pushes AtMostOnce 0 v xs (λ w. w ≡ hand false (v.put ++ xs) v.taken)
puts v xs unfixed items [] h at = absurd (some-ne-none v (sym at))
puts v xs unfixed items (x ∷ views) h at =
    let e = some_same x v at in
    let w : Hand = hand false (v.put ++ xs) v.taken in (
      w,
      record {
        counted = λ k.
            let a = times_append k items xs in
            let b = times_append k v.put xs in
            let c = ap (λ z. times k z.taken) e in
            let d = ap (λ z. times k z.put) e in
            let q = h.counted k in
            omega arith;
        known = (λ t. (t, refl), know_open x w views (ap (λ z. z.fixed) e ∙ unfixed) h.known.1);
      },
      refl,
    )

pub takes : (port : ℕ) (v : Hand) → Takes AtMostOnce port v 1 (Took v)
takes port v xs items views some_x one h at =
    let w : Hand = hand v.fixed v.put (v.taken ++ xs) in
    let p = owner_put views port v w at refl in
    let f = owner_fixed views port v w at refl in
    let mine = knows_at (owner_of views) views port v h.known at in (
      w,
      record {
        counted = λ k.
            let t = total_set k views port v w at in
            let e = ap (times k) p in
            let a = times_append k v.taken xs in
            let b = times_append k xs items in
            let q = h.counted k in
            omega arith;
        known = know_set (owner_of (set views port w)) views port w (λ t. (f ∙ (mine t).0, (mine t).1 ∙ sym p)) (know_owner (owner_of views) (owner_of (set views port w)) views (λ t. f ∙ t) p h.known);
      },
      record {
        after = refl;
        among = λ t k.
            let e = ap (times k) (mine t).1 in
            let b = times_append k xs items in
            let q = h.counted k in
            omega arith;
      },
    )

pub forks : (v : Hand) → Forks AtMostOnce 0 v (hand true v.put v.taken) (hand true v.put [])
forks v items [] h at = absurd (some-ne-none v (sym at))
forks v items (x ∷ views) h at =
    let e = some_same x v at in
    let left : Hand = hand true v.put v.taken in
    let right : Hand = hand true v.put [] in
    record {
      counted = λ k.
          let c = ap (λ z. times k z.taken) e in
          let d = ap (λ z. times k z.put) e in
          let s = total_snoc k views right refl in
          let q = h.counted k in
          omega arith;
      known = (λ t. (refl, refl), know_snoc left views right (λ t. (refl, refl)) (know_owner x left views (λ t. refl) (ap (λ z. z.put) (sym e)) h.known.1));
    }

pub merges : (v : Hand) (other : ℕ) (w : Hand) → Merges AtMostOnce 0 v other w (hand v.fixed v.put (v.taken ++ w.taken)) (hand false [] [])
merges v other w items [] h at apart at' = absurd (some-ne-none v (sym at))
merges v other w items (x ∷ views) h at apart at' =
    let e = some_same x v at in
    let both : Hand = hand v.fixed v.put (v.taken ++ w.taken) in
    let spent : Hand = hand false [] [] in
    let vs : List Hand = both ∷ views in
    let o = owner_else vs other spent apart in
    let all : AllKnow both vs = (λ t. (t, refl), know_owner x both views (λ t. ap (λ z. z.fixed) (sym e) ∙ t) (ap (λ z. z.put) (sym e)) h.known.1) in
    record {
      counted = λ k.
          let c = ap (λ z. times k z.taken) e in
          let d = ap (λ z. times k z.put) e in
          let u = total_set k vs other w spent at' in
          let r = ap (λ z. times k z.put) o in
          let a = times_append k v.taken w.taken in
          let q = h.counted k in
          omega arith;
      known = subst (λ p. AllKnow p (set vs other spent)) (sym o) (know_set both vs other spent (λ t. absurd (not_both false refl t)) all);
    }

pub learns : (v : Hand) → Learns AtMostOnce 0 v (λ items. (k : ℕ) → times k v.taken ≤ times k v.put)
learns v items [] h at k = absurd (some-ne-none v (sym at))
learns v items (x ∷ views) h at k =
    let e = some_same x v at in
    let c = ap (λ z. times k z.taken) e in
    let d = ap (λ z. times k z.put) e in
    let q = h.counted k in
    omega arith
