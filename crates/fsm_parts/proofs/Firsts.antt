-- A signal that is put where it had no place.
use Rattle.std.proofs.Common.{◌≡◌, ℕ, Bool, true, false, cond, List, Option, Some, None, refl, sym, ◌∙◌, ap}
use Rattle.std.specs.Option.{option_or}
use Rattle.std.specs.Str.{bytes_eq}
use Rattle.std.proofs.lemmas.Slice.Eq.{bytes_eq-Decides}
use Rattle.rtl_sig.specs.declared.sig.SigBit.{SigBit}
use Rattle.rtl_ir.specs.Signals.{same_signal}
use Rattle.fsm_parts.specs.declared.signal_table.SignalTable.{SignalTable}
use Rattle.fsm_parts.specs.SignalTable.{at_key, key_of, place_in}
use Rattle.fsm_parts.proofs.Keys.{key_same}

module _ (signal : List SigBit) (key : List ℕ) (is : key ≡ key_of signal) where
  -- the test of signals is that of keys
  tests : (other : List SigBit) → bytes_eq key (key_of other) ≡ same_signal signal other
  tests other = ap (λ k. bytes_eq k (key_of other)) is ∙ key_same signal other

  -- where the tests say that two signals are one, they have one place
  one_place : (table : SignalTable) (other : List SigBit) → same_signal signal other ≡ true → place_in table other ≡ at_key table key
  one_place table other e = ap (at_key table) (sym ((bytes_eq-Decides key (key_of other)).0 (tests other ∙ e)))

  -- the signal has a place already
  pub had_place : (table : SignalTable) (at p : ℕ) → at_key table key ≡ Some p → (other : List SigBit) → place_in table other ≡ option_or (place_in table other) (cond (same_signal signal other) (Some at) None)
  had_place table at p had other = by (same_signal signal other) refl
    where
      by : (b : Bool) → same_signal signal other ≡ b → place_in table other ≡ option_or (place_in table other) (cond b (Some at) None)
      by false e = none (place_in table other)
        where
          none : (o : Option ℕ) → o ≡ option_or o None
          none None = refl
          none (Some x) = refl
      by true e = let there = one_place table other e ∙ had in there ∙ ap (λ o. option_or o (Some at)) (sym there)

  -- the signal had none
  pub first_place : (old new : SignalTable) (at : ℕ) → at_key old key ≡ None → ((other : List ℕ) → at_key new other ≡ cond (bytes_eq key other) (Some at) (at_key old other))
      → (other : List SigBit) → place_in new other ≡ option_or (place_in old other) (cond (same_signal signal other) (Some at) None)
  first_place old new at none put other = put (key_of other) ∙ ap (λ b. cond b (Some at) (place_in old other)) (tests other) ∙ by (same_signal signal other) refl
    where
      by : (b : Bool) → same_signal signal other ≡ b → cond b (Some at) (place_in old other) ≡ option_or (place_in old other) (cond b (Some at) None)
      by false e = left (place_in old other)
        where
          left : (o : Option ℕ) → o ≡ option_or o None
          left None = refl
          left (Some x) = refl
      by true e = ap (λ o. option_or o (Some at)) (sym (one_place old other e ∙ none))
