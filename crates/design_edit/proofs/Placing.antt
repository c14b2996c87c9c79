-- Modules in the places that they take.
use Rattle.std.proofs.Common.{◌≡◌, ℕ, zero, suc, ◌+◌, ◌<◌, ◌≤◌, List, [], ◌∷◌, ◌++◌, Bool, true, false, not, cond, ◌||◌, length, get_or, take, drop, set, Some, None, refl, sym, ap, subst, ◌∙◌, arith}
use Rattle.std.specs.Prelude.{nat_lt, position}
use Rattle.std.specs.List.{list_any, position_or_len}
use Rattle.std.specs.Str.{bytes_eq}
use Rattle.std.proofs.lemmas.Bool.{le-ltb, lt-ltb, ltb-false, ltb-true}
use Rattle.rtl_ir.specs.declared.module.Module.{Module}
use Rattle.rtl_ir.specs.Faults.Recursion.{place_named}
use Rattle.design_edit.specs.Changes.{before_at}
use Rattle.design_edit.specs.Modules.{place_for, places_for, with_module, with_modules}

lt_behind : (m n : ℕ) → nat_lt (suc m) (suc n) ≡ nat_lt m n
lt_behind m n = by (nat_lt m n) refl
  where
    by : (t : Bool) → nat_lt m n ≡ t → nat_lt (suc m) (suc n) ≡ t
    by true e = let h = ltb-true m n e in lt-ltb (suc m) (suc n) (omega arith)
    by false e = let h = ltb-false m n e in le-ltb (suc m) (suc n) (omega arith)

module _ {X : Type 0} (test : X → Bool) where
  placed_any : (xs : List X) → nat_lt (position_or_len test xs) (length xs) ≡ list_any test xs
  placed_any [] = refl
  placed_any (x ∷ xs) = by (placed_any xs) (test x)
    where
      by : nat_lt (position_or_len test xs) (length xs) ≡ list_any test xs → (t : Bool) → nat_lt (cond (not t) (1 + position_or_len test xs) 0) (suc (length xs)) ≡ (t || list_any test xs)
      by rest true = lt-ltb 0 (suc (length xs)) (omega arith)
      by rest false = let next : 1 + position_or_len test xs ≡ suc (position_or_len test xs) = omega arith in rw next (lt_behind (position_or_len test xs) (length xs) ∙ rest)

  pub none_passes : (xs : List X) → position test xs ≡ None → list_any test xs ≡ false
  none_passes xs e = sym (placed_any xs) ∙ by (nat_lt (position_or_len test xs) (length xs)) e
    where
      by : (t : Bool) → cond t (Some (position_or_len test xs)) None ≡ None → t ≡ false
      by true h = absurd cc
      by false h = refl

  -- the position, where there is one
  pub position_is : (xs : List X) (at : ℕ) → position test xs ≡ Some at → at ≡ position_or_len test xs
  position_is xs at e = by (nat_lt (position_or_len test xs) (length xs)) e
    where
      by : (t : Bool) → cond t (Some (position_or_len test xs)) None ≡ Some at → at ≡ position_or_len test xs
      by true h = cc
      by false h = absurd (cc)

  pub position_within : (xs : List X) → position_or_len test xs ≤ length xs
  position_within [] = omega arith
  position_within (x ∷ xs) = by (test x) (position_within xs)
    where
      by : (t : Bool) → position_or_len test xs ≤ length xs → cond (not t) (1 + position_or_len test xs) 0 ≤ suc (length xs)
      by true h = omega arith
      by false h = omega arith

  pub position_none : (xs : List X) → position test xs ≡ None → position_or_len test xs ≡ length xs
  position_none xs e = by (nat_lt (position_or_len test xs) (length xs)) refl e
    where
      by : (t : Bool) → nat_lt (position_or_len test xs) (length xs) ≡ t → cond t (Some (position_or_len test xs)) None ≡ None → position_or_len test xs ≡ length xs
      by true f h = absurd (cc)
      by false f h = let over = ltb-false _ _ f in let within = position_within xs in omega arith

-- the place of a name, where a module has it
pub place_is : (ms : List Module) (name : List ℕ) (at : ℕ) → place_named ms name ≡ Some at → at ≡ place_for ms name
place_is ms name at e = position_is (λ (m : Module). bytes_eq m.id name) ms at e

pub place_last : (ms : List Module) (name : List ℕ) → place_named ms name ≡ None → place_for ms name ≡ length ms
place_last ms name e = position_none (λ (m : Module). bytes_eq m.id name) ms e

pub place_within : (ms : List Module) (name : List ℕ) → place_for ms name ≤ length ms
place_within ms name = position_within (λ (m : Module). bytes_eq m.id name) ms

module _ (new : Module) where
  -- the new module is put in the place of the one of its name
  pub set_is : (ms : List Module) → place_for ms new.id < length ms → set ms (place_for ms new.id) new ≡ with_module ms new
  set_is [] within = absurd (omega arith)
  set_is (m ∷ ms) within = by (bytes_eq m.id new.id) within (set_is ms)
    where
      by : (b : Bool) → cond (not b) (1 + place_for ms new.id) 0 < suc (length ms) → (place_for ms new.id < length ms → set ms (place_for ms new.id) new ≡ with_module ms new)
          → set (m ∷ ms) (cond (not b) (1 + place_for ms new.id) 0) new ≡ cond b (new ∷ ms) (m ∷ with_module ms new)
      by true h rest = refl
      by false h rest =
          let next : 1 + place_for ms new.id ≡ suc (place_for ms new.id) = omega arith in
          rw next (ap (λ (l : List Module). m ∷ l) (rest (omega arith)))

  -- where none has its name it comes last
  pub last_is : (ms : List Module) → length ms ≤ place_for ms new.id → ms ++ new ∷ [] ≡ with_module ms new
  last_is [] over = refl
  last_is (m ∷ ms) over = by (bytes_eq m.id new.id) over (last_is ms)
    where
      by : (b : Bool) → suc (length ms) ≤ cond (not b) (1 + place_for ms new.id) 0 → (length ms ≤ place_for ms new.id → ms ++ new ∷ [] ≡ with_module ms new)
          → (m ∷ (ms ++ new ∷ [])) ≡ cond b (new ∷ ms) (m ∷ with_module ms new)
      by true h rest = absurd (omega arith)
      by false h rest = ap (λ (l : List Module). m ∷ l) (rest (omega arith))

  -- one module more
  pub more : (ms : List Module) → place_for ms new.id ≡ length ms → length (with_module ms new) ≡ length ms + 1
  more [] e = omega arith
  more (m ∷ ms) e = by (bytes_eq m.id new.id) e (more ms)
    where
      by : (b : Bool) → cond (not b) (1 + place_for ms new.id) 0 ≡ suc (length ms) → (place_for ms new.id ≡ length ms → length (with_module ms new) ≡ length ms + 1)
          → length (cond b (new ∷ ms) (m ∷ with_module ms new)) ≡ suc (length ms) + 1
      by true h rest = absurd (omega arith)
      by false h rest = let own : place_for ms new.id ≡ length ms = omega arith in let others = rest own in omega arith

  -- with places by another name
  pub set_at : (ms : List Module) (at : ℕ) → at ≡ place_for ms new.id → at < length ms → set ms at new ≡ with_module ms new
  set_at ms at is within = ap (λ n. set ms n new) is ∙ set_is ms (subst (λ n. n < length ms) is within)

  pub last_at : (ms : List Module) (at : ℕ) → at ≡ place_for ms new.id → length ms ≤ at → ms ++ new ∷ [] ≡ with_module ms new
  last_at ms at is over = last_is ms (subst (λ n. length ms ≤ n) is over)

  pub more_at : (ms : List Module) (at : ℕ) → at ≡ place_for ms new.id → length ms ≤ at → length (with_module ms new) ≡ length ms + 1
  more_at ms at is over = more ms (let within = place_within ms new.id in omega (arith, is, over, within))

  -- as many modules as before
  pub as_many : (ms : List Module) → (place_for ms new.id ≡ length ms → ⊥) → length (with_module ms new) ≡ length ms
  as_many [] ne = absurd (ne refl)
  as_many (m ∷ ms) ne = by (bytes_eq m.id new.id) ne (as_many ms)
    where
      by : (b : Bool) → (cond (not b) (1 + place_for ms new.id) 0 ≡ suc (length ms) → ⊥) → ((place_for ms new.id ≡ length ms → ⊥) → length (with_module ms new) ≡ length ms)
          → length (cond b (new ∷ ms) (m ∷ with_module ms new)) ≡ suc (length ms)
      by true h rest = refl
      by false h rest = ap suc (rest (λ e. h (omega (arith, e))))

  one_more : (ms : List Module) → length (with_module ms new) ≤ length ms + 1
  one_more [] = omega arith
  one_more (m ∷ ms) = by (bytes_eq m.id new.id) (one_more ms)
    where
      by : (b : Bool) → length (with_module ms new) ≤ length ms + 1 → length (cond b (new ∷ ms) (m ∷ with_module ms new)) ≤ suc (length ms) + 1
      by true h = omega arith
      by false h = omega arith

  no_fewer : (ms : List Module) → length ms ≤ length (with_module ms new)
  no_fewer [] = omega arith
  no_fewer (m ∷ ms) = by (bytes_eq m.id new.id) (no_fewer ms)
    where
      by : (b : Bool) → length ms ≤ length (with_module ms new) → suc (length ms) ≤ length (cond b (new ∷ ms) (m ∷ with_module ms new))
      by true h = omega arith
      by false h = omega arith

pub with_modules_snoc : (ms edits : List Module) (new : Module) → with_modules ms (edits ++ new ∷ []) ≡ with_module (with_modules ms edits) new
with_modules_snoc ms [] new = refl
with_modules_snoc ms (m ∷ edits) new = with_modules_snoc (with_module ms m) edits new

pub all_more : (ms edits : List Module) → length ms ≤ length (with_modules ms edits)
all_more ms [] = omega arith
all_more ms (m ∷ edits) = let one = no_fewer m ms in let others = all_more (with_module ms m) edits in omega arith

-- each of the first of these makes at most one module more
pub at_most_more : (ms edits : List Module) (number : ℕ) → length (with_modules ms (take number edits)) ≤ length ms + number
at_most_more ms [] zero = omega arith
at_most_more ms [] (suc number) = omega arith
at_most_more ms (m ∷ edits) zero = omega arith
at_most_more ms (m ∷ edits) (suc number) = let one = one_more m ms in let others = at_most_more (with_module ms m) edits number in omega arith

-- modules with some of these among them are no more than those with all
pub fewer_first : (ms edits : List Module) (number : ℕ) → length (with_modules ms (take number edits)) ≤ length (with_modules ms edits)
fewer_first ms [] number = let none : with_modules ms (take number []) ≡ ms = with_none number in subst (λ (l : List Module). length l ≤ length ms) (sym none) (omega arith)
  where
    with_none : (n : ℕ) → with_modules ms (take n []) ≡ ms
    with_none zero = refl
    with_none (suc n) = refl
fewer_first ms (m ∷ edits) zero = all_more ms (m ∷ edits)
fewer_first ms (m ∷ edits) (suc number) = fewer_first (with_module ms m) edits number

-- the place that one of the modules takes is that of its number
pub place_at : (ms edits : List Module) (number : ℕ) (edit : Module) (rest : List Module) (d : ℕ) → edit ∷ rest ≡ drop number edits → get_or (places_for ms edits) number d ≡ place_for (with_modules ms (take number edits)) edit.id
place_at ms [] zero edit rest d h = absurd cc
place_at ms [] (suc number) edit rest d h = absurd cc
place_at ms (e ∷ edits) zero edit rest d h = let first : edit ≡ e = cc in ap (λ (m : Module). place_for ms m.id) (sym first)
place_at ms (e ∷ edits) (suc number) edit rest d h = place_at (with_module ms e) edits number edit rest d h

pub length_places : (ms edits : List Module) → length (places_for ms edits) ≡ length edits
length_places ms [] = refl
length_places ms (e ∷ edits) = ap suc (length_places (with_module ms e) edits)

-- the places so far, and that of one more
pub places_snoc : (ms edits : List Module) (new : Module) → places_for ms (edits ++ new ∷ []) ≡ places_for ms edits ++ place_for (with_modules ms edits) new.id ∷ []
places_snoc ms [] new = refl
places_snoc ms (e ∷ edits) new = ap (λ (l : List ℕ). place_for ms e.id ∷ l) (places_snoc (with_module ms e) edits new)

-- a module that was put in the place of another one is taken back
pub set_back : (ms : List Module) (at : ℕ) (new old : Module) → at < length ms → old ≡ get_or ms at old → before_at at (Some old) (set ms at new) ≡ ms
set_back [] at new old within is = absurd (omega arith)
set_back (m ∷ ms) zero new old within is = ap (λ (n : Module). n ∷ ms) is
set_back (m ∷ ms) (suc at) new old within is = ap (λ (l : List Module). m ∷ l) (set_back ms at new old (omega arith) is)

-- one that came last is taken back
pub last_back : (ms : List Module) (at : ℕ) (new : Module) → at ≡ length ms → before_at at None (ms ++ new ∷ []) ≡ ms
last_back [] at new is = rw is refl
last_back (m ∷ ms) zero new is = absurd (omega arith)
last_back (m ∷ ms) (suc at) new is = ap (λ (l : List Module). m ∷ l) (last_back ms at new (omega arith))
