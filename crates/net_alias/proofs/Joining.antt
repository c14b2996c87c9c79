-- One place of a connection more.
use Rattle.std.proofs.Common.{◌≡◌, ℕ, zero, suc, ◌+◌, ◌-◌, ◌<◌, ◌≤◌, Bool, true, false, cond, ltb, List, [], ◌∷◌, ◌++◌, length, get_or, take, append_assoc, add-one, Option, Some, None, ◌⊎◌, inl, inr, refl, sym, ◌∙◌, ap, subst, arith}
use Rattle.std.specs.Option.{option_or}
use Rattle.std.proofs.lemmas.List.{append-nil, length-append, take_all}
use Rattle.std.proofs.Math.Seq.{take-suc}
use Rattle.std.proofs.lemmas.Grind.{flat_map-append}
use Rattle.std.proofs.lemmas.Bool.{ltb-false, ltb-true}
use Rattle.rtl_sig.specs.declared.sig.SigBit.{SigBit}
use Rattle.rtl_sig.specs.declared.sig.SigBit.TheVariants as sig
use Rattle.rtl_sig.specs.declared.sig.WireBit.{WireBit}
use Rattle.rtl_ir.specs.declared.module.Link.{Link}
use Rattle.rtl_ir.specs.Follow.{all_joins, back, end_within, follow_joins, joins, source_at}
use Rattle.rtl_ir.specs.declared.follow.Join.{Join}
use Rattle.rtl_ir.specs.Signals.{same_bit}
use Rattle.net_index.specs.IndexWays.{RunsOn}
use Rattle.net_index.proofs.IndexEnds.{ends_here, ends_not, ends_on}
use Rattle.net_index.proofs.IndexTables.{same_bit-refl, same_bit-true}
use Rattle.net_alias.specs.Aliases.{AreAliases, IsStep, Reaches, step_to}
use Rattle.net_alias.specs.StepTable.{at_bit, at_sig}
use Rattle.net_alias.specs.declared.aliases.Aliases.{Aliases}
use Rattle.net_alias.specs.declared.step_table.Step.{Step}
use Rattle.net_alias.specs.declared.step_table.Step.TheVariants.{To, Loop}
use Rattle.net_alias.proofs.Steps.{follow_reached, reach_ends, reach_late, runs_unless}

-- the first source counts
source_more : (js ks : List Join) (b : WireBit) → source_at (js ++ ks) b ≡ option_or (source_at js b) (source_at ks b)
source_more [] ks b = refl
source_more (j ∷ js) ks b = by (same_bit j.bit b) (source_more js ks b)
  where
    by : (t : Bool) → source_at (js ++ ks) b ≡ option_or (source_at js b) (source_at ks b)
        → cond t (Some j.source) (source_at (js ++ ks) b) ≡ option_or (cond t (Some j.source) (source_at js b)) (source_at ks b)
    by true e = refl
    by false e = e

-- with more places behind
module _ (js ks : List Join) where
  pub back_more : (s : SigBit) → back (js ++ ks) s ≡ option_or (back js s) (back ks s)
  back_more (sig.Fixed c) = refl
  back_more (sig.Wire b) = source_more js ks b

  -- what is driven keeps its source
  back_kept : (s r : SigBit) → back js s ≡ Some r → back (js ++ ks) s ≡ Some r
  back_kept s r e = back_more s ∙ ap (λ o. option_or o (back ks s)) e

  pub reach_kept : (n : ℕ) (s e : SigBit) → Reaches js n s e → Reaches (js ++ ks) n s e
  reach_kept zero s e h = h
  reach_kept (suc n) s e h = (h.0, back_kept s h.0 h.1, reach_kept n h.0 e h.2)

  runs_end : (s : SigBit) → RunsOn js s → back js s ≡ None → ⊥
  runs_end s runs e = let f : end_within js 0 s ≡ Some s = ends_here js 0 s e in let g : end_within js 0 s ≡ None = runs 0 in cc

  pub runs_kept : (s : SigBit) → RunsOn js s → RunsOn (js ++ ks) s
  runs_kept s runs zero = by (back js s) refl
    where
      by : (o : Option SigBit) → back js s ≡ o → end_within (js ++ ks) 0 s ≡ None
      by None e = absurd (runs_end s runs e)
      by (Some r) e = ends_not (js ++ ks) s r (back_kept s r e)
  runs_kept s runs (suc n) = by (λ r h. runs_kept r h n) (back js s) refl
    where
      by : ((r : SigBit) → RunsOn js r → end_within (js ++ ks) n r ≡ None) → (o : Option SigBit) → back js s ≡ o → end_within (js ++ ks) (suc n) s ≡ None
      by go None e = absurd (runs_end s runs e)
      by go (Some r) e = ends_on (js ++ ks) n s r (back_kept s r e) ∙ go r (λ m. sym (ends_on js m s r e) ∙ runs (suc m))

  -- what is known of a driven bit stays so
  pub step_kept : (s : SigBit) (step : Step) → IsStep js s (Some step) → IsStep (js ++ ks) s (Some step)
  step_kept s (To t) h = (h.0, reach_kept (suc h.0) s t h.1)
  step_kept s Loop h = runs_kept s h

-- with one place more
module _ (js : List Join) (bit : WireBit) (source : SigBit) where
  abbrev pub last : List Join
  last = record { bit = bit; source = source } ∷ []

  abbrev pub more : List Join
  more = js ++ last

  -- other bits get none
  back_other : (s : SigBit) → (s ≡ sig.Wire bit → ⊥) → back more s ≡ back js s
  back_other (sig.Fixed c) h = refl
  back_other (sig.Wire b) h = source_more js last b ∙ by (same_bit bit b) refl (source_at js b)
    where
      by : (t : Bool) → same_bit bit b ≡ t → (o : Option SigBit) → option_or o (cond t (Some source) None) ≡ o
      by true e o = absurd (h (ap sig.Wire (sym (same_bit-true bit b e))))
      by false e None = refl
      by false e (Some r) = refl

  -- the bit gets this one
  back_here : source_at js bit ≡ None → back more (sig.Wire bit) ≡ Some source
  back_here e = source_more js last bit ∙ rw (e, same_bit-refl bit) refl

  pub step_other : (s : SigBit) (o : Option Step) → (s ≡ sig.Wire bit → ⊥) → IsStep js s o → IsStep more s o
  step_other s None h k = back_other s h ∙ k
  step_other s (Some step) h k = step_kept js last s step k

  -- what leads back to itself runs on
  loop_runs : (n : ℕ) (s : SigBit) → Reaches more (suc n) s s → RunsOn more s
  loop_runs n s h = runs_unless more s (λ m e g. never (suc m) m e (omega arith) g)
    where
      never : (bound m : ℕ) (e : SigBit) → m < bound → end_within more m s ≡ Some e → ⊥
      never zero m e lt g = omega arith
      never (suc bound) m e lt g = by (ltb m (suc n)) refl (never bound (m - suc n) e)
        where
          by : (t : Bool) → ltb m (suc n) ≡ t → (m - suc n < bound → end_within more (m - suc n) s ≡ Some e → ⊥) → ⊥
          by true few go =
              let low = ltb-true m (suc n) few in
              let none : end_within more m s ≡ None = reach_late more (suc n) m s s h low in
              cc
          by false many go =
              let high = ltb-false m (suc n) many in
              let z : suc n + (m - suc n) ≡ m = omega arith in
              go (omega arith) (sym (reach_ends more (suc n) (m - suc n) s s h) ∙ ap (λ i. end_within more i s) z ∙ g)

  -- the step of the bit, where the source leads to this end
  pub step_here : source_at js bit ≡ None → IsStep more (sig.Wire bit) (Some (step_to bit (follow_joins js source)))
  step_here none = by (follow_joins js source) (follow_reached js source)
    where
      on : (e : SigBit) → ((m : ℕ) × Reaches js m source e) → (m : ℕ) × Reaches more (suc m) (sig.Wire bit) e
      on e h = (h.0, (source, back_here none, reach_kept js last h.0 source e h.1))

      by : (e : SigBit) → ((m : ℕ) × Reaches js m source e) → IsStep more (sig.Wire bit) (Some (step_to bit e))
      by (sig.Fixed c) h = on (sig.Fixed c) h
      by (sig.Wire e) h = at (same_bit e bit) refl
        where
          at : (t : Bool) → same_bit e bit ≡ t → IsStep more (sig.Wire bit) (Some (cond t Loop (To (sig.Wire e))))
          at true same =
              let r = on (sig.Wire e) h in
              loop_runs r.0 (sig.Wire bit) (subst (λ x. Reaches more (suc r.0) (sig.Wire bit) (sig.Wire x)) (same_bit-true e bit same) r.1)
          at false same = on (sig.Wire e) h

-- what a table knows of a bit is so, after the bit of a place got a step if it had none
module _ (old new : Aliases) (js : List Join) (bit : WireBit) (source : SigBit) (are : AreAliases old js) (steps : new.steps ≡ old.steps + 1) where
  count : length (more js bit source) < new.steps
  count = let z = length-append js (record { bit = bit; source = source } ∷ []) in omega (arith, z, are.steps, steps)

  is_bit : (s : SigBit) → (s ≡ sig.Wire bit) ⊎ (s ≡ sig.Wire bit → ⊥)
  is_bit (sig.Fixed c) = inr (λ e. absurd (cc))
  is_bit (sig.Wire b) = by (same_bit b bit) refl
    where
      by : (t : Bool) → same_bit b bit ≡ t → (sig.Wire b ≡ sig.Wire bit) ⊎ (sig.Wire b ≡ sig.Wire bit → ⊥)
      by true e = inl (ap sig.Wire (same_bit-true b bit e))
      by false e = inr (λ f. let same : b ≡ bit = cc in
          let t : same_bit b bit ≡ true = subst (λ x. same_bit x bit ≡ true) (sym same) (same_bit-refl bit) in absurd (cc))

  pub joined_old : (step : Step) → at_bit old.table bit ≡ Some step → new.table ≡ old.table → AreAliases new (more js bit source)
  joined_old step has same = record { steps = count; known = λ s. subst (λ t. IsStep (more js bit source) s (at_sig t s)) (sym same) (by s (is_bit s)) }
    where
      by : (s : SigBit) → (s ≡ sig.Wire bit) ⊎ (s ≡ sig.Wire bit → ⊥) → IsStep (more js bit source) s (at_sig old.table s)
      by s (inl e) = subst (λ x. IsStep (more js bit source) x (at_sig old.table x)) (sym e) (rw has (step_kept js (last js bit source) (sig.Wire bit) step (subst (IsStep js (sig.Wire bit)) has (are.known (sig.Wire bit)))))
      by s (inr h) = step_other js bit source s (at_sig old.table s) h (are.known s)

  pub joined_new : at_bit old.table bit ≡ None → ((b : WireBit) → at_bit new.table b ≡ cond (same_bit bit b) (Some (step_to bit (follow_joins js source))) (at_bit old.table b)) → AreAliases new (more js bit source)
  joined_new none put = record { steps = count; known = known }
    where
      known : (s : SigBit) → IsStep (more js bit source) s (at_sig new.table s)
      known (sig.Fixed c) = refl
      known (sig.Wire b) = rw (put b) (by (same_bit bit b) refl)
        where
          by : (t : Bool) → same_bit bit b ≡ t → IsStep (more js bit source) (sig.Wire b) (cond t (Some (step_to bit (follow_joins js source))) (at_bit old.table b))
          by true e = subst (λ x. IsStep (more js bit source) (sig.Wire x) (Some (step_to bit (follow_joins js source)))) (same_bit-true bit b e) (step_here js bit source (subst (IsStep js (sig.Wire bit)) none (are.known (sig.Wire bit))))
          by false e = step_other js bit source (sig.Wire b) (at_bit old.table b) (λ f. let same : bit ≡ b = cc in
              let t : same_bit bit b ≡ true = subst (λ x. same_bit bit x ≡ true) same (same_bit-refl bit) in absurd (cc)) (are.known (sig.Wire b))

-- without connections and without steps
pub none_known : (aliases : Aliases) → aliases.steps ≡ 1 → ((b : WireBit) → at_bit aliases.table b ≡ None) → AreAliases aliases []
none_known aliases one none = record { steps = omega (arith, one); known = known }
  where
    known : (s : SigBit) → IsStep [] s (at_sig aliases.table s)
    known (sig.Fixed c) = refl
    known (sig.Wire b) = rw (none b) refl

-- the places of connections with one more
pub link_last : (links : List Link) (link : Link) → all_joins (links ++ link ∷ []) ≡ all_joins links ++ joins link.left link.right
link_last links link = flat_map-append (λ (l : Link). joins l.left l.right) links (link ∷ []) ∙ ap (λ js. all_joins links ++ js) (append-nil (joins link.left link.right))

-- the connections so far, with the next one
pub next_link : (before links : List Link) (at : ℕ) (d link : Link) → at < length links → link ≡ get_or links at d
    → (before ++ take at links) ++ link ∷ [] ≡ before ++ take (at + 1) links
next_link before links at d link lt is =
    append_assoc before (take at links) (link ∷ [])
    ∙ ap (λ l. before ++ (take at links ++ l ∷ [])) is
    ∙ ap (λ ls. before ++ ls) (sym (take-suc links at d lt) ∙ ap (λ n. take n links) (sym (add-one at)))

-- in the end those are all
pub all_links : (before links : List Link) (at : ℕ) → length links ≤ at → before ++ take at links ≡ before ++ links
all_links before links at h = ap (λ ls. before ++ ls) (take_all at links h)
