-- Where bits lead back to when bits that nothing drives are joined to others of these.
use Rattle.std.proofs.Common.{◌≡◌, ℕ, ◌+◌, List, ◌++◌, length, Option, Some, None, unwrap_or, refl, sym, ◌∙◌, ap, subst}
use Rattle.std.specs.Option.{option_or}
use Rattle.rtl_sig.specs.declared.sig.SigBit.{SigBit}
use Rattle.rtl_ir.specs.Follow.{back, end_within, follow_joins}
use Rattle.rtl_ir.specs.declared.follow.Join.{Join}
use Rattle.net_index.specs.IndexWays.{RunsOn}
use Rattle.net_index.proofs.IndexEnds.{ends_all, ends_here}
use Rattle.net_alias.specs.Aliases.{Reaches}
use Rattle.net_alias.proofs.Joining.{back_more, reach_kept, runs_kept}
use Rattle.net_alias.proofs.Steps.{end_reached, reach_follows, reach_on, runs_follow, runs_unless}

-- a bit ends somewhere, or its way runs into a loop
data Led (js : List Join) (s : SigBit) : Type 0 where
  Ends : (m : ℕ) (e : SigBit) → Reaches js m s e → back js e ≡ None → Led js s
  Runs : RunsOn js s → Led js s

led : (js : List Join) (s : SigBit) → Led js s
led js s = by (end_within js (length js) s) refl
  where
    by : (o : Option SigBit) → end_within js (length js) s ≡ o → Led js s
    by (Some x) e = let q = end_reached js (length js) s x e in Ends q.0 x q.1 q.2
    by None e = Runs (runs_unless js s (λ m x g. let f : end_within js (length js) s ≡ Some x = ends_all js m s x g in cc))

-- places that join bits without a source to bits without a source
pub record JoinsEnds (js ks : List Join) : Type 0 where
  pub left : (s r : SigBit) → back ks s ≡ Some r → back js s ≡ None
  pub right : (s r : SigBit) → back ks s ≡ Some r → back js r ≡ None
  pub apart : (s r : SigBit) → back ks s ≡ Some r → back ks r ≡ None

-- where a bit leads to then
abbrev pub moved : List Join → SigBit → SigBit
moved ks e = unwrap_or (back ks e) e

module _ (js ks : List Join) (h : JoinsEnds js ks) where
  stops : (e : SigBit) → back js e ≡ None → back ks e ≡ None → back (js ++ ks) e ≡ None
  stops e f g = back_more js ks e ∙ ap (λ o. option_or o (back ks e)) f ∙ g

  pub follow_more : (s : SigBit) → follow_joins (js ++ ks) s ≡ moved ks (follow_joins js s)
  follow_more s = by (led js s)
    where
      by : Led js s → follow_joins (js ++ ks) s ≡ moved ks (follow_joins js s)
      by (Ends m e way stop) = at (back ks e) refl
        where
          before : e ≡ follow_joins js s
          before = reach_follows js m s e way stop

          at : (o : Option SigBit) → back ks e ≡ o → follow_joins (js ++ ks) s ≡ moved ks (follow_joins js s)
          at None g =
              sym (reach_follows (js ++ ks) m s e (reach_kept js ks m s e way) (stops e stop g))
              ∙ sym (ap (λ o. unwrap_or o e) g) ∙ ap (moved ks) before
          at (Some r) g =
              let on : Reaches (js ++ ks) 1 e r = (r, back_more js ks e ∙ ap (λ o. option_or o (back ks e)) stop ∙ g, refl) in
              sym (reach_follows (js ++ ks) (m + 1) s r (reach_on (js ++ ks) m 1 s e r (reach_kept js ks m s e way) on) (stops r (h.right e r g) (h.apart e r g)))
              ∙ sym (ap (λ o. unwrap_or o e) g) ∙ ap (moved ks) before
      by (Runs runs) =
          let before : s ≡ follow_joins js s = runs_follow js s runs in
          let after : s ≡ follow_joins (js ++ ks) s = runs_follow (js ++ ks) s (runs_kept js ks s runs) in
          sym after ∙ sym (ap (λ o. unwrap_or o s) (none (back ks s) refl)) ∙ ap (moved ks) before
        where
          none : (o : Option SigBit) → back ks s ≡ o → back ks s ≡ None
          none None g = g
          none (Some r) g = absurd (let stop = h.left s r g in
              let f : end_within js 0 s ≡ Some s = ends_here js 0 s stop in
              let k : end_within js 0 s ≡ None = runs 0 in cc)

  -- a bit that is its own end then was so before, and is joined to nothing
  pub ends_before : (s : SigBit) → follow_joins (js ++ ks) s ≡ s → (follow_joins js s ≡ s) × (back ks s ≡ None)
  ends_before s e = by (back ks (follow_joins js s)) refl
    where
      by : (o : Option SigBit) → back ks (follow_joins js s) ≡ o → (follow_joins js s ≡ s) × (back ks s ≡ None)
      by None g =
          let same : follow_joins js s ≡ s = sym (follow_more s ∙ ap (λ o. unwrap_or o (follow_joins js s)) g) ∙ e in
          (same, ap (back ks) (sym same) ∙ g)
      by (Some r) g =
          let here : r ≡ s = sym (follow_more s ∙ ap (λ o. unwrap_or o (follow_joins js s)) g) ∙ e in
          let stop : back js s ≡ None = subst (λ x. back js x ≡ None) here (h.right (follow_joins js s) r g) in
          let own : s ≡ follow_joins js s = reach_follows js 0 s s refl stop in
          let none : back ks s ≡ None = subst (λ x. back ks x ≡ None) here (h.apart (follow_joins js s) r g) in
          (sym own, none)

-- where a bit leads to is its own end
pub follow_twice : (js : List Join) (s : SigBit) → follow_joins js (follow_joins js s) ≡ follow_joins js s
follow_twice js s = by (led js s)
  where
    by : Led js s → follow_joins js (follow_joins js s) ≡ follow_joins js s
    by (Ends m e way stop) =
        let before : e ≡ follow_joins js s = reach_follows js m s e way stop in
        subst (λ x. follow_joins js x ≡ x) before (sym (reach_follows js 0 e e refl stop))
    by (Runs runs) = ap (follow_joins js) (sym (runs_follow js s runs))
