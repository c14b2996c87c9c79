-- How cases are read: the places of two lists, the values of a signal, and the patterns one after another.
use Rattle.std.proofs.Common.{◌≡◌, ℕ, zero, suc, ◌+◌, ◌-◌, ◌<◌, ◌≤◌, min, Bool, true, false, cond, ◌&&◌, ◌||◌, List, [], ◌∷◌, ◌++◌, length, get_or, drop, filter, zip, append_assoc, refl, sym, ◌∙◌, ap, arith, add-one}
use Rattle.std.specs.List.{list_all, list_any, range_with_len}
use Rattle.std.proofs.Math.Seq.{drop-cons}
use Rattle.rtl_sig.specs.declared.sig.SigBit.{SigBit}
use Rattle.rtl_ir.specs.Rules.{has_item}
use Rattle.rtl_ir.specs.Signals.{is_all_constant}
use Rattle.rtl_ir.specs.SwitchRules.{always_matches, is_dropped, patterns_left, with_pattern}
use Rattle.net_index.specs.declared.driver_rules.Left.{Left}
use Rattle.net_index.specs.DriverRules.{constants_after, left_after, pattern_kept}

no_right : {A B : Type 0} (xs : List A) (ys : List B) → length ys ≡ 0 → zip xs ys ≡ []
no_right [] ys e = refl
no_right (x ∷ xs) [] e = refl
no_right (x ∷ xs) (y ∷ ys) e = absurd (omega arith)

-- behind the end of the shorter list there is no place
no_place : {A B : Type 0} (xs : List A) (ys : List B) (i : ℕ) → min (length xs) (length ys) ≤ i → zip (drop i xs) (drop i ys) ≡ []
no_place [] ys zero h = refl
no_place [] ys (suc i) h = refl
no_place (x ∷ xs) [] zero h = refl
no_place (x ∷ xs) [] (suc i) h = no_right (drop i xs) [] refl
no_place (x ∷ xs) (y ∷ ys) zero h = absurd (omega arith)
no_place (x ∷ xs) (y ∷ ys) (suc i) h = no_place xs ys i (omega arith)

-- no place is left
pub any_end : {A B : Type 0} (f : A × B → Bool) (xs : List A) (ys : List B) (i : ℕ) → min (length xs) (length ys) ≤ i
    → (all : Bool) → list_any f (zip (drop i xs) (drop i ys)) ≡ all → false ≡ all
any_end f xs ys i h all e = sym (ap (list_any f) (no_place xs ys i h)) ∙ e

pub all_end : {A B : Type 0} (f : A × B → Bool) (xs : List A) (ys : List B) (i : ℕ) → min (length xs) (length ys) ≤ i
    → (all : Bool) → list_all f (zip (drop i xs) (drop i ys)) ≡ all → true ≡ all
all_end f xs ys i h all e = sym (ap (list_all f) (no_place xs ys i h)) ∙ e

-- one more value
pub value_next : (p : ℕ → Bool) (n top : ℕ) → n < top → p n ≡ true → (all : Bool) → list_all p (range_with_len n (top - n)) ≡ all
    → list_all p (range_with_len (n + 1) (top - (n + 1))) ≡ all
value_next p n top h holds all e =
    let more : top - n ≡ suc (top - (n + 1)) = omega arith in
    let first : list_all p (range_with_len n (top - n)) ≡ (p n && list_all p (range_with_len (n + 1) (top - (n + 1)))) = ap (λ k. list_all p (range_with_len n k)) more in
    sym (first ∙ ap (λ b. b && list_all p (range_with_len (n + 1) (top - (n + 1)))) holds) ∙ e

-- one more pattern
kept_constants : (signal : List SigBit) (e : List (List SigBit)) (p : List SigBit) (ps : List (List SigBit))
    → constants_after signal (pattern_kept signal e p) ps ≡ constants_after signal e (p ∷ ps)
kept_constants signal e p ps = by (is_dropped signal e p)
  where
    on : (c : Bool) (rest : List (List SigBit)) → cond c (e ++ p ∷ []) e ++ rest ≡ e ++ cond c (p ∷ rest) rest
    on true rest = append_assoc e (p ∷ []) rest
    on false rest = refl

    by : (d : Bool) → constants_after signal (cond d e (with_pattern e p)) ps
        ≡ e ++ filter is_all_constant (cond d (patterns_left signal e ps) (p ∷ patterns_left signal (with_pattern e p) ps))
    by true = refl
    by false = on (is_all_constant p) (filter is_all_constant (patterns_left signal (with_pattern e p) ps))

or_true : (x : Bool) → true ≡ (x || true)
or_true true = refl
or_true false = refl

or_assoc : (x y z : Bool) → ((x || y) || z) ≡ (x || (y || z))
or_assoc true y z = refl
or_assoc false y z = refl

kept_any : (signal : List SigBit) (e : List (List SigBit)) (p : List SigBit) (ps : List (List SigBit)) (left : Left)
    → ((left_after signal e p left).any || has_item (patterns_left signal (pattern_kept signal e p) ps)) ≡ (left.any || has_item (patterns_left signal e (p ∷ ps)))
kept_any signal e p ps left = by (is_dropped signal e p)
  where
    by : (d : Bool)
        → ((cond d left (record { any = true; sure = left.sure || always_matches signal p })).any || has_item (patterns_left signal (cond d e (with_pattern e p)) ps))
        ≡ (left.any || has_item (cond d (patterns_left signal e ps) (p ∷ patterns_left signal (with_pattern e p) ps)))
    by true = refl
    by false = or_true left.any

kept_sure : (signal : List SigBit) (e : List (List SigBit)) (p : List SigBit) (ps : List (List SigBit)) (left : Left)
    → ((left_after signal e p left).sure || list_any (always_matches signal) (patterns_left signal (pattern_kept signal e p) ps)) ≡ (left.sure || list_any (always_matches signal) (patterns_left signal e (p ∷ ps)))
kept_sure signal e p ps left = by (is_dropped signal e p)
  where
    by : (d : Bool)
        → ((cond d left (record { any = true; sure = left.sure || always_matches signal p })).sure || list_any (always_matches signal) (patterns_left signal (cond d e (with_pattern e p)) ps))
        ≡ (left.sure || list_any (always_matches signal) (cond d (patterns_left signal e ps) (p ∷ patterns_left signal (with_pattern e p) ps)))
    by true = refl
    by false = or_assoc left.sure (always_matches signal p) (list_any (always_matches signal) (patterns_left signal (with_pattern e p) ps))

-- what is left so far, with what is left of the patterns behind, is all that is left
pub record ReadSo (signal : List SigBit) (first all : List (List SigBit)) (earlier ps : List (List SigBit)) (left : Left) : Type 0 where
  pub constants : constants_after signal earlier ps ≡ constants_after signal first all
  pub some : (left.any || has_item (patterns_left signal earlier ps)) ≡ has_item (patterns_left signal first all)
  pub certain : (left.sure || list_any (always_matches signal) (patterns_left signal earlier ps)) ≡ list_any (always_matches signal) (patterns_left signal first all)

pub read_next : (signal : List SigBit) (first patterns : List (List SigBit)) (i : ℕ) (p : List SigBit) → i < length patterns → p ≡ get_or patterns i p
    → (earlier after : List (List SigBit)) (left new : Left) → after ≡ pattern_kept signal earlier p → new ≡ left_after signal earlier p left
    → ReadSo signal first patterns earlier (drop i patterns) left → ReadSo signal first patterns after (drop (i + 1) patterns) new
read_next signal first patterns i p h is earlier after left new kept made before =
    let next : suc i ≡ i + 1 = sym (add-one i) in
    let ps = drop (i + 1) patterns in
    let here : drop i patterns ≡ p ∷ ps = drop-cons patterns i p h ∙ (λ j. sym is j ∷ drop (next j) patterns) in
    record {
      constants = ap (λ e. constants_after signal e ps) kept ∙ kept_constants signal earlier p ps ∙ ap (constants_after signal earlier) (sym here) ∙ before.constants;
      some =
          (λ j. (made j).any || has_item (patterns_left signal (kept j) ps)) ∙ kept_any signal earlier p ps left
          ∙ ap (λ xs. left.any || has_item (patterns_left signal earlier xs)) (sym here) ∙ before.some;
      certain =
          (λ j. (made j).sure || list_any (always_matches signal) (patterns_left signal (kept j) ps)) ∙ kept_sure signal earlier p ps left
          ∙ ap (λ xs. left.sure || list_any (always_matches signal) (patterns_left signal earlier xs)) (sym here) ∙ before.certain;
    }
