-- Walks from word to word, as long as there is a way on.
use Rattle.std.proofs.Common.{◌≡◌, ℕ, zero, suc, ◌+◌, ◌-◌, ◌<◌, ◌≤◌, arith, List, Option, Some, None, ◌⊎◌, inl, inr, refl, sym, ◌∙◌, ap}
use Rattle.std.specs.Option.{option_map_or}
use Rattle.rtl_sig.specs.declared.sig.SigBit.{SigBit}
use Rattle.opt_more.specs.Ends.{EndsAt, LeadsTo}
use Rattle.opt_more.specs.Muxtree.{walk_by}

module _ (on : List SigBit → Option (List SigBit)) where
  -- where ways end, no walk leads on
  pub stays_at : (n : ℕ) (word : List SigBit) → EndsAt on word → walk_by on n word ≡ word
  stays_at zero word e = refl
  stays_at (suc n) word (inl none) = ap (λ o. option_map_or (walk_by on n) o word) none
  stays_at (suc n) word (inr same) = ap (λ o. option_map_or (walk_by on n) o word) same ∙ stays_at n word (inr same)

  pub one_step : (n : ℕ) (word next : List SigBit) → on word ≡ Some next → walk_by on (suc n) word ≡ walk_by on n next
  one_step n word next e = ap (λ o. option_map_or (walk_by on n) o word) e

  -- a walk, and then another
  pub walk_more : (k m : ℕ) (word : List SigBit) → walk_by on (k + m) word ≡ walk_by on m (walk_by on k word)
  walk_more zero m word = let e : zero + m ≡ m = omega arith in ap (λ n. walk_by on n word) e
  walk_more (suc k) m word =
      let e : suc k + m ≡ suc (k + m) = omega arith in
      ap (λ n. walk_by on n word) e ∙ by (on word) refl (walk_more k m)
    where
      by : (o : Option (List SigBit)) → on word ≡ o → ((next : List SigBit) → walk_by on (k + m) next ≡ walk_by on m (walk_by on k next)) → option_map_or (walk_by on (k + m)) o word ≡ walk_by on m (option_map_or (walk_by on k) o word)
      by None e later = sym (stays_at m word (inl e))
      by (Some next) e later = later next

  -- a longer walk ends there too
  pub leads_by : (k n : ℕ) (from word : List SigBit) → LeadsTo on k from word → k ≤ n → walk_by on n from ≡ word
  leads_by k n from word h le =
      let e : n ≡ k + (n - k) = omega (arith, le) in
      ap (λ z. walk_by on z from) e
      ∙ walk_more k (n - k) from
      ∙ ap (walk_by on (n - k)) h.0
      ∙ stays_at (n - k) word h.1

  pub leads_more : (k n : ℕ) (from word : List SigBit) → LeadsTo on k from word → k ≤ n → LeadsTo on n from word
  leads_more k n from word h le = (leads_by k n from word h le, h.1)

  -- of a walk of so many steps, some of which are gone: one step more
  pub walk_on : (n step : ℕ) (word next end : List SigBit) → on word ≡ Some next → step < n → walk_by on (n - step) word ≡ end → walk_by on (n - (step + 1)) next ≡ end
  walk_on n step word next end e lt so =
      let left : suc (n - (step + 1)) ≡ n - step = omega (arith, lt) in
      sym (one_step (n - (step + 1)) word next e) ∙ ap (λ k. walk_by on k word) left ∙ so

  -- it has come to its end
  pub walk_ended : (n step : ℕ) (word end : List SigBit) → EndsAt on word → walk_by on (n - step) word ≡ end → word ≡ end
  walk_ended n step word end e so = sym (stays_at (n - step) word e) ∙ so

  -- its end is known
  pub walk_known : (n step steps : ℕ) (word last end : List SigBit) → LeadsTo on (suc steps) word last → steps < n - step → walk_by on (n - step) word ≡ end → last ≡ end
  walk_known n step steps word last end h lt so = sym (leads_by (suc steps) (n - step) word last h (omega (arith, lt))) ∙ so

  -- all of its steps are gone
  pub walk_over : (n step : ℕ) (word end : List SigBit) → n ≤ step → walk_by on (n - step) word ≡ end → word ≡ end
  walk_over n step word end le so = let none : n - step ≡ 0 = omega (arith, le) in ap (λ k. walk_by on k word) (sym none) ∙ so

-- ways on where some lead further
module _ (on further : List SigBit → Option (List SigBit)) (most : ℕ) (ahead : (word : List SigBit) → (further word ≡ on word) ⊎ ((next : List SigBit) × (on word ≡ Some next) × (further word ≡ Some (walk_by on most next)))) where
  ends_too : (word : List SigBit) → EndsAt on word → EndsAt further word
  ends_too word e = by (ahead word) e
    where
      by : (further word ≡ on word) ⊎ ((next : List SigBit) × (on word ≡ Some next) × (further word ≡ Some (walk_by on most next))) → EndsAt on word → EndsAt further word
      by (inl same) (inl none) = inl (same ∙ none)
      by (inl same) (inr self) = inr (same ∙ self)
      by (inr k) (inl none) = let some : on word ≡ Some k.0 = k.1 in absurd (cc)
      by (inr k) (inr self) =
          let some : on word ≡ Some k.0 = k.1 in
          let here : k.0 ≡ word = cc in
          inr (k.2 ∙ ap (λ z. Some (walk_by on most z)) here ∙ ap Some (stays_at on most word (inr self)))

  -- lead to the same end, by no more steps
  pub further_leads : (k : ℕ) → k ≤ most → (from word : List SigBit) → LeadsTo on k from word → LeadsTo further k from word
  further_leads k le from word h = (by k le from h.0, ends_too word h.1)
    where
      end : EndsAt on word
      end = h.1

      by : (k : ℕ) → k ≤ most → (from : List SigBit) → walk_by on k from ≡ word → walk_by further k from ≡ word
      by zero le from e = e
      by (suc k) le from e = step (on from) refl (ahead from) e (by k (omega (arith, le)))
        where
          step : (o : Option (List SigBit)) → on from ≡ o → (further from ≡ on from) ⊎ ((next : List SigBit) × (on from ≡ Some next) × (further from ≡ Some (walk_by on most next))) → option_map_or (walk_by on k) o from ≡ word → ((next : List SigBit) → walk_by on k next ≡ word → walk_by further k next ≡ word) → walk_by further (suc k) from ≡ word
          step None f (inl same) e later = ap (λ o. option_map_or (walk_by further k) o from) (same ∙ f) ∙ e
          step None f (inr q) e later = let some : on from ≡ Some q.0 = q.1 in absurd (cc)
          step (Some next) f (inl same) e later = one_step further k from next (same ∙ f) ∙ later next e
          step (Some next) f (inr q) e later =
              let some : on from ≡ Some q.0 = q.1 in
              let here : q.0 ≡ next = cc in
              let there : walk_by on most next ≡ word = leads_by on k most next word (e, end) (omega (arith, le)) in
              one_step further k from word (q.2 ∙ ap (λ z. Some (walk_by on most z)) here ∙ ap Some there)
              ∙ stays_at further k word (ends_too word end)
