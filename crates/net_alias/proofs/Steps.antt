-- Steps back along connections, and where they end.
use Rattle.std.proofs.Common.{◌≡◌, ℕ, zero, suc, ◌+◌, ◌<◌, List, length, Option, Some, None, unwrap_or, refl, sym, ◌∙◌, ap, subst, arith}
use Rattle.rtl_sig.specs.declared.sig.SigBit.{SigBit}
use Rattle.rtl_ir.specs.Follow.{back, end_within, follow_joins}
use Rattle.rtl_ir.specs.declared.follow.Join.{Join}
use Rattle.net_index.specs.IndexWays.{RunsOn}
use Rattle.net_index.proofs.IndexEnds.{ends_all, ends_here, ends_later, ends_not, ends_on, end_follows}
use Rattle.net_alias.specs.Aliases.{IsStep, Reaches}
use Rattle.net_alias.specs.declared.step_table.Step.{Step}
use Rattle.net_alias.specs.declared.step_table.Step.TheVariants.{To, Loop}

-- the way runs on where no number of connections leads to an end
pub runs_unless : (js : List Join) (s : SigBit) → ((n : ℕ) (e : SigBit) → end_within js n s ≡ Some e → ⊥) → RunsOn js s
runs_unless js s h n = by (end_within js n s) refl
  where
    by : (o : Option SigBit) → end_within js n s ≡ o → o ≡ None
    by None e = refl
    by (Some x) e = absurd (h n x e)

module _ (js : List Join) where
  pub reach_on : (n m : ℕ) (s r e : SigBit) → Reaches js n s r → Reaches js m r e → Reaches js (n + m) s e
  reach_on zero m s r e h k = let z : m ≡ 0 + m = omega arith in subst (λ i. Reaches js i s e) z (subst (λ x. Reaches js m x e) (sym h) k)
  reach_on (suc n) m s r e h k =
      let z : suc (n + m) ≡ suc n + m = omega arith in
      subst (λ i. Reaches js i s e) z (h.0, h.1, reach_on n m h.0 r e h.2 k)

  -- a bit ends so many steps after what it reaches
  pub reach_ends : (n m : ℕ) (s r : SigBit) → Reaches js n s r → end_within js (n + m) s ≡ end_within js m r
  reach_ends zero m s r h = let z : 0 + m ≡ m = omega arith in ap (λ i. end_within js i s) z ∙ ap (end_within js m) h
  reach_ends (suc n) m s r h =
      let z : suc n + m ≡ suc (n + m) = omega arith in
      ap (λ i. end_within js i s) z ∙ ends_on js (n + m) s h.0 h.1 ∙ reach_ends n m h.0 r h.2

  -- and in no fewer
  pub reach_late : (n m : ℕ) (s r : SigBit) → Reaches js n s r → m < n → end_within js m s ≡ None
  reach_late zero m s r h lt = absurd (omega arith)
  reach_late (suc n) zero s r h lt = ends_not js s h.0 h.1
  reach_late (suc n) (suc m) s r h lt = ends_on js m s h.0 h.1 ∙ reach_late n m h.0 r h.2 (omega arith)

  -- the end is reached, and nothing drives it
  abbrev pub IsReached : SigBit → SigBit → Type 0
  IsReached s e = (m : ℕ) × Reaches js m s e × (back js e ≡ None)

  reached_here : (n : ℕ) (s e : SigBit) → back js s ≡ None → end_within js n s ≡ Some e → IsReached s e
  reached_here n s e eq h =
      let f : end_within js n s ≡ Some s = ends_here js n s eq in
      let same : s ≡ e = cc in
      (0, same, subst (λ x. back js x ≡ None) same eq)

  pub end_reached : (n : ℕ) (s e : SigBit) → end_within js n s ≡ Some e → IsReached s e
  end_reached zero s e h = by (back js s) refl
    where
      by : (o : Option SigBit) → back js s ≡ o → IsReached s e
      by None eq = reached_here 0 s e eq h
      by (Some r) eq = absurd (let f : end_within js 0 s ≡ None = ends_not js s r eq in cc)
  end_reached (suc n) s e h = by (λ r. end_reached n r e) (back js s) refl
    where
      by : ((r : SigBit) → end_within js n r ≡ Some e → IsReached r e) → (o : Option SigBit) → back js s ≡ o → IsReached s e
      by more None eq = reached_here (suc n) s e eq h
      by more (Some r) eq = let q = more r (sym (ends_on js n s r eq) ∙ h) in (suc q.0, (r, eq, q.1), q.2)

  -- the end that was reached is where a bit is followed to
  pub reach_follows : (n : ℕ) (s e : SigBit) → Reaches js n s e → back js e ≡ None → e ≡ follow_joins js s
  reach_follows n s e h stop = end_follows js s (Some e) (n + 0, reach_ends n 0 s e h ∙ ends_here js 0 e stop)

  -- what reaches a bit that runs on does so too
  pub reach_runs : (n : ℕ) (s r : SigBit) → Reaches js n s r → RunsOn js r → RunsOn js s
  reach_runs n s r h runs = runs_unless js s (λ m e g.
      let later : end_within js (n + m) s ≡ Some e = ends_later js m (n + m) s e (omega arith) g in
      let none : end_within js (n + m) s ≡ None = reach_ends n m s r h ∙ runs m in
      cc)

  pub runs_follow : (s : SigBit) → RunsOn js s → s ≡ follow_joins js s
  runs_follow s runs = end_follows js s None runs

  -- after more steps than there are connections
  pub far_runs : (n : ℕ) (s r : SigBit) → Reaches js n s r → length js < n → RunsOn js s
  far_runs n s r h far = runs_unless js s (λ m e g.
      let f : end_within js (length js) s ≡ Some e = ends_all js m s e g in
      let none : end_within js (length js) s ≡ None = reach_late n (length js) s r h far in
      cc)

  -- a bit reaches what it is followed to
  pub follow_reached : (s : SigBit) → (m : ℕ) × Reaches js m s (follow_joins js s)
  unfolding follow_joins
  follow_reached s = by (end_within js (length js) s) refl
    where
      by : (o : Option SigBit) → end_within js (length js) s ≡ o → (m : ℕ) × Reaches js m s (unwrap_or o s)
      by None e = (0, refl)
      by (Some x) e = let q = end_reached (length js) s x e in (q.0, q.1)

  -- the step of where a step leads is a step too
  pub step_on : (s r : SigBit) (step : Step) → IsStep js s (Some (To r)) → IsStep js r (Some step) → IsStep js s (Some step)
  step_on s r (To t) h k =
      let z : suc h.0 + suc k.0 ≡ suc (h.0 + suc k.0) = omega arith in
      (h.0 + suc k.0, subst (λ i. Reaches js i s t) z (reach_on (suc h.0) (suc k.0) s r t h.1 k.1))
  step_on s r Loop h k = reach_runs (suc h.0) s r h.1 k

  -- what a step shows of a bit that was reached
  pub stop_follows : (n : ℕ) (s e : SigBit) → Reaches js n s e → IsStep js e None → e ≡ follow_joins js s
  stop_follows n s e h stop = reach_follows n s e h stop

  pub loop_follows : (n : ℕ) (s e : SigBit) → Reaches js n s e → IsStep js e (Some Loop) → s ≡ follow_joins js s
  loop_follows n s e h loop = runs_follow s (reach_runs n s e h loop)
