-- At the start the rule of the seats holds.
use Rattle.std.proofs.Common.{◌≡◌, ℕ, zero, suc, ◌+◌, ◌<◌, List, [], ◌∷◌, ◌++◌, map, length, true≢false, refl, sym, ap, ◌∙◌, subst, arith}
use mathlib.Core.Option.{some, none, some-injective, some-ne-none}
use lib.ListN.{get_elem?}
use Rattle.atomic_table.specs.Table.{opening}
use Rattle.atomic_table.proofs.Lists.{some_there}
use Rattle.result_cache.specs.declared.view.View.{View}
use Rattle.result_cache.specs.Stored.{Contents}
use Rattle.result_cache.specs.Shared.{newcomers, all_seats, EachSeat, NoneHas, AreApart, Sits, Fits, Keeps, AreUncalled}
use Rattle.result_cache.proofs.Histories.{none_seen, length_none}

none_below : (callers shards m n more : ℕ) → m < n → NoneHas m (newcomers callers shards n more)
none_below callers shards m n zero l = tt
none_below callers shards m n (suc more) l = ((λ e. omega arith), none_below callers shards m (n + 1) more (omega arith))

apart : (callers shards n more : ℕ) → AreApart (newcomers callers shards n more)
apart callers shards n zero = tt
apart callers shards n (suc more) = (none_below callers shards n (n + 1) more (omega arith), apart callers shards (n + 1) more)

sits : (callers shards n more : ℕ) → EachSeat (Sits (λ _. []) (λ _. 0) callers shards 0) (newcomers callers shards n more)
sits callers shards n zero = tt
sits callers shards n (suc more) = (
  record {
    there = refl;
    callers_are = refl;
    shards_are = refl;
    wide = length_none [] shards;
    begins = λ i. ([], sym (ap (λ r. r ++ []) (none_seen [] shards i)));
    own = λ i. refl;
  },
  sits callers shards (n + 1) more,
)

module _ (V : Type 0) where
  uncalled_at : (xs : List (Contents V)) (i : ℕ) (y : Contents V) → AreUncalled xs → get_elem? (map some xs) i ≡ some (some y) → y.history ≡ []
  uncalled_at [] i y h e = absurd (some-ne-none (some y) (sym e))
  uncalled_at (x ∷ xs) zero y h e = ap (λ (z : Contents V). z.history) (sym (some-injective x y (some-injective (some x) (some y) e))) ∙ h.0
  uncalled_at (x ∷ xs) (suc i) y h e = uncalled_at xs i y h.1 e

  length_some : (xs : List (Contents V)) → length (map some xs) ≡ length xs
  length_some [] = refl
  length_some (x ∷ xs) = ap suc (length_some xs)

  pub uncalled_snoc : (xs : List (Contents V)) (y : Contents V) → AreUncalled xs → y.history ≡ [] → AreUncalled (xs ++ y ∷ [])
  uncalled_snoc [] y h e = (e, tt)
  uncalled_snoc (x ∷ xs) y h e = (h.0, uncalled_snoc xs y h.1 e)

  pub length_snoc : (xs : List (Contents V)) (y : Contents V) → length (xs ++ y ∷ []) ≡ length xs + 1
  length_snoc [] y = refl
  length_snoc (x ∷ xs) y = omega (arith, length_snoc xs y)

  first_fits : (callers shards p : ℕ) (out : ℕ → Type 0) (v : View) → get_elem? (all_seats callers shards ∷ []) p ≡ some v → Fits (λ _. []) (λ _. 0) (λ _. 0) out callers shards p v
  first_fits callers shards zero out v e = subst (λ (u : View). Fits (λ _. []) (λ _. 0) (λ _. 0) out callers shards 0 u) (some-injective (all_seats callers shards) v e) (record {
    apart = apart callers shards 0 callers;
    seats = sits callers shards 0 callers;
    locked = λ b. absurd (true≢false (sym b));
  })
  first_fits callers shards (suc p) out v e = absurd (some-ne-none v (sym e))

  pub opens : (callers shards : ℕ) (ws : List ℕ) (xs : List (Contents V)) → length ws ≡ shards + shards → length xs ≡ shards → AreUncalled xs → Keeps V callers shards (opening ws xs (all_seats callers shards))
  opens callers shards ws xs ws_are xs_are new = record {
    logs = λ _. [];
    place = λ _. 0;
    owner = λ _. 0;
    words_are = ws_are;
    homes_are = length_some xs ∙ xs_are;
    legal = λ i. tt;
    numbers = λ i. tt;
    home = λ i i_in zero_is. some_there xs i (omega arith);
    same = λ i y e. uncalled_at xs i y new e;
    fits = λ p v e. first_fits callers shards p (λ i. get_elem? (map some xs) i ≡ some none) v e;
  }
