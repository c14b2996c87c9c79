-- Passes beside their deques.
use Rattle.std.proofs.Common.{◌≡◌, ℕ, zero, suc, ◌+◌, ◌<◌, ◌≤◌, ◌⊎◌, inl, inr, List, [], ◌∷◌, length, get_or, slice_set, refl, sym, ap, ◌∙◌, subst, arith}
use Rattle.crossbeam_deque.specs.Handles.{Pass, view, IsPassOf, stealer_deque}
use Rattle.crossbeam_deque.specs.Steals.{MatchSteal}
use Rattle.crossbeam_deque.specs.declared.handles.Stealer.{Stealer}
use Rattle.crossbeam_deque.specs.declared.steal.Steal.{Steal}
use Rattle.crossbeam_deque.specs.declared.steal.Steal.TheVariants.{Empty, Success, Retry}
use Rattle.work_crew.specs.declared.deque.Hand.{Hand}
use Rattle.work_crew.specs.declared.reach.Reach.{Reach}
use Rattle.work_crew.specs.Times.{hit, times}
use Rattle.work_crew.specs.Hands.{IsBelow, Took}
use Rattle.work_crew.specs.Reach.{Paired, tally, puts_of, AreBelow, SameReach, IsReachBelow}
use Rattle.work_crew.proofs.Counting.{times_append, eq_one, below_or}

module _ {T A V P : Type 0} where
  pub paired_length : (ss : List (Stealer T A V P)) (ns : List (Pass T V A)) → Paired ss ns → length ss ≡ length ns
  paired_length [] [] h = refl
  paired_length (s ∷ ss) (n ∷ ns) h = ap suc (paired_length ss ns h.1)
  paired_length [] (n ∷ ns) h = absurd h
  paired_length (s ∷ ss) [] h = absurd h

  pub paired_at : (ss : List (Stealer T A V P)) (ns : List (Pass T V A)) (at : ℕ) (d : Stealer T A V P) (e : Pass T V A) → Paired ss ns → at < length ss → IsPassOf (stealer_deque (get_or ss at d)) (get_or ns at e)
  paired_at [] ns at d e h l = absurd (omega arith)
  paired_at (s ∷ ss) [] at d e h l = absurd h
  paired_at (s ∷ ss) (n ∷ ns) zero d e h l = h.0
  paired_at (s ∷ ss) (n ∷ ns) (suc at) d e h l = paired_at ss ns at d e h.1 (omega arith)

  pub paired_set : (ss : List (Stealer T A V P)) (ns : List (Pass T V A)) (at : ℕ) (d : Stealer T A V P) (m : Pass T V A) → Paired ss ns → at < length ss → IsPassOf (stealer_deque (get_or ss at d)) m → Paired ss (slice_set ns at m)
  paired_set [] ns at d m h l i = absurd (omega arith)
  paired_set (s ∷ ss) [] at d m h l i = absurd h
  paired_set (s ∷ ss) (n ∷ ns) zero d m h l i = (i, h.1)
  paired_set (s ∷ ss) (n ∷ ns) (suc at) d m h l i = (h.0, paired_set ss ns at d m h.1 (omega arith) i)

module _ {T A : Type 0} where
  pub tally_set : (k : ℕ) (ns : List (Pass T Hand A)) (at : ℕ) (e m : Pass T Hand A) → at < length ns → tally k (slice_set ns at m) + times k (view (get_or ns at e)).taken ≡ tally k ns + times k (view m).taken
  tally_set k [] at e m l = absurd (omega arith)
  tally_set k (n ∷ ns) zero e m l = omega arith
  tally_set k (n ∷ ns) (suc at) e m l = let i = tally_set k ns at e m (omega arith) in omega arith

  pub puts_set : (ns : List (Pass T Hand A)) (at : ℕ) (e m : Pass T Hand A) → at < length ns → (view m).fixed ≡ (view (get_or ns at e)).fixed → (view m).put ≡ (view (get_or ns at e)).put → puts_of (slice_set ns at m) ≡ puts_of ns
  puts_set [] at e m l f p = absurd (omega arith)
  puts_set (x ∷ ns) zero e m l f p = ap (λ b. (b, (view m).put) ∷ puts_of ns) f ∙ ap (λ jobs. ((view x).fixed, jobs) ∷ puts_of ns) p
  puts_set (x ∷ ns) (suc at) e m l f p = ap (λ r. ((view x).fixed, (view x).put) ∷ r) (puts_set ns at e m (omega arith) f p)

  pub below_at : (n : ℕ) (ns : List (Pass T Hand A)) (at : ℕ) (e : Pass T Hand A) → AreBelow n (puts_of ns) → at < length ns → IsBelow n (view (get_or ns at e)).fixed (view (get_or ns at e)).put
  below_at n [] at e h l = absurd (omega arith)
  below_at n (x ∷ ns) zero e h l = h.0
  below_at n (x ∷ ns) (suc at) e h l = below_at n ns at e h.1 (omega arith)

-- what taking a job keeps and tells
pub took_below : (n x : ℕ) (v w : Hand) → Took v (x ∷ []) w → IsBelow n v.fixed v.put → x < n
took_below n x v w h b = by (below_or x n)
  where
    by : (x < n) ⊎ (n ≤ x) → x < n
    by (inl l) = l
    by (inr l) =
        let a = h.among b.is_fixed x in
        let o = eq_one x x refl in
        let z = b.below x l in
        absurd (omega arith)

pub took_times : (k x : ℕ) (v w : Hand) → Took v (x ∷ []) w → times k w.taken ≡ times k v.taken + hit x k
took_times k x v w h =
    let e = ap (λ z. times k z.taken) h.after in
    let a = times_append k v.taken (x ∷ []) in
    omega arith

module _ (v w : Hand) where
  -- what a steal tells of the passes of which it changes one
  pub steal_counts : (r : Steal ℕ) (old new : ℕ → ℕ) → ((k : ℕ) → new k + times k v.taken ≡ old k + times k w.taken)
      → MatchSteal r (w ≡ v) (w ≡ v) (λ x. Took v (x ∷ []) w)
      → MatchSteal r ((k : ℕ) → new k ≡ old k) ((k : ℕ) → new k ≡ old k) (λ x. (k : ℕ) → new k ≡ old k + hit x k)
  steal_counts Empty old new s h = λ k. let a = s k in let e = ap (λ z. times k z.taken) h in omega arith
  steal_counts (Success x) old new s h = λ k. let a = s k in let e = took_times k x v w h in omega arith
  steal_counts Retry old new s h = λ k. let a = s k in let e = ap (λ z. times k z.taken) h in omega arith

  pub steal_keeps_fixed : (r : Steal ℕ) → MatchSteal r (w ≡ v) (w ≡ v) (λ x. Took v (x ∷ []) w) → w.fixed ≡ v.fixed
  steal_keeps_fixed Empty h = ap (λ z. z.fixed) h
  steal_keeps_fixed (Success x) h = ap (λ z. z.fixed) h.after
  steal_keeps_fixed Retry h = ap (λ z. z.fixed) h

  pub steal_keeps_put : (r : Steal ℕ) → MatchSteal r (w ≡ v) (w ≡ v) (λ x. Took v (x ∷ []) w) → w.put ≡ v.put
  steal_keeps_put Empty h = ap (λ z. z.put) h
  steal_keeps_put (Success x) h = ap (λ z. z.put) h.after
  steal_keeps_put Retry h = ap (λ z. z.put) h

  pub stolen_is_below : (r : Steal ℕ) (Below : ℕ → Type 0) → ((n : ℕ) → Below n → IsBelow n v.fixed v.put) → MatchSteal r (w ≡ v) (w ≡ v) (λ x. Took v (x ∷ []) w)
      → MatchSteal r (Unit {0}) (Unit {0}) (λ x. (n : ℕ) → Below n → x < n)
  stolen_is_below Empty Below f h = tt
  stolen_is_below (Success x) Below f h = λ n b. took_below n x v w h (f n b)
  stolen_is_below Retry Below f h = tt

-- what was put on the deques of a worker is below count still
pub same_below : (n : ℕ) (r s : Reach) → SameReach r s → IsReachBelow n r → IsReachBelow n s
same_below n r s same h = (
  record { is_fixed = same.fixed ∙ h.0.is_fixed; below = λ k l. ap (times k) same.put ∙ h.0.below k l },
  subst (AreBelow n) (sym same.notes) h.1,
)

pub same_trans : (r s t : Reach) → SameReach r s → SameReach s t → SameReach r t
same_trans r s t h k = record {
  number = k.number ∙ h.number;
  owner = (k.owner.0 ∙ h.owner.0, k.owner.1 ∙ h.owner.1, k.owner.2 ∙ h.owner.2, (let a = h.owner.3 in let b = k.owner.3 in omega arith));
  fixed = k.fixed ∙ h.fixed;
  put = k.put ∙ h.put;
  notes = k.notes ∙ h.notes;
}
