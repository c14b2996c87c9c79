-- Lines that write, some and then others.
use Rattle.std.proofs.Common.{◌≡◌, ℕ, ◌+◌, ◌<◌, Bool, true, false, ◌||◌, List, [], ◌∷◌, ◌++◌, append-nil, append_assoc, length, map, get_or, take, drop, flat_map, refl, sym, ◌∙◌, ap, add-one}
use Rattle.std.proofs.Math.Seq.{drop-cons, take-suc}
use Rattle.std.proofs.lemmas.List.Concat.{flat_map-append}
use Rattle.rtl_ir.specs.declared.module.Module.{Module}
use Rattle.rtl_ir.specs.Faults.Processes.{has_bad_line, is_bad_line}
use Rattle.rtl_ir.specs.WritePorts.{EventLine}

-- a fault among some lines, or among those behind them
bad_append : (m : Module) (before xs ys : List EventLine) → has_bad_line true m before (xs ++ ys) ≡ (has_bad_line true m before xs || has_bad_line true m (before ++ xs) ys)
bad_append m before [] ys = ap (λ b. has_bad_line true m b ys) (sym (append-nil before))
bad_append m before (x ∷ xs) ys =
    (λ i. is_bad_line true m before x || (bad_append m (before ++ x ∷ []) xs ys ∙ (λ j. has_bad_line true m (before ++ x ∷ []) xs || has_bad_line true m (append_assoc before (x ∷ []) xs j) ys)) i)
    ∙ assoc (is_bad_line true m before x) (has_bad_line true m (before ++ x ∷ []) xs) (has_bad_line true m (before ++ x ∷ xs) ys)
  where
    assoc : (a b c : Bool) → (a || (b || c)) ≡ ((a || b) || c)
    assoc true b c = refl
    assoc false b c = refl

-- parts of lines that are asked for one after another: each item gives some
module _ {A : Type 0} (f : A → List EventLine) (m : Module) (before : List EventLine) (items : List A) (k : ℕ) (x : A) (lt : k < length items) (is : x ≡ get_or items k x) where
  pub taken : before ++ flat_map f (take (k + 1) items) ≡ (before ++ flat_map f (take k items)) ++ f x
  taken =
      let more : take (k + 1) items ≡ take k items ++ x ∷ [] = ap (λ n. take n items) (add-one k) ∙ take-suc items k x lt ∙ (λ j. take k items ++ sym is j ∷ []) in
      let split : flat_map f (take k items ++ x ∷ []) ≡ flat_map f (take k items) ++ f x = flat_map-append f (take k items) (x ∷ []) ∙ ap (λ ls. flat_map f (take k items) ++ ls) (append-nil (f x)) in
      ap (λ ls. before ++ ls) (ap (flat_map f) more ∙ split) ∙ sym (append_assoc before (flat_map f (take k items)) (f x))

  left : flat_map f (drop k items) ≡ f x ++ flat_map f (drop (k + 1) items)
  left = ap (flat_map f) (drop-cons items k x lt ∙ (λ j. sym is j ∷ drop (sym (add-one k) j) items))

  so_far : has_bad_line true m (before ++ flat_map f (take k items)) (flat_map f (drop k items))
      ≡ (has_bad_line true m (before ++ flat_map f (take k items)) (f x) || has_bad_line true m (before ++ flat_map f (take (k + 1) items)) (flat_map f (drop (k + 1) items)))
  so_far =
      ap (has_bad_line true m (before ++ flat_map f (take k items))) left
      ∙ bad_append m (before ++ flat_map f (take k items)) (f x) (flat_map f (drop (k + 1) items))
      ∙ (λ i. has_bad_line true m (before ++ flat_map f (take k items)) (f x) || has_bad_line true m (sym taken i) (flat_map f (drop (k + 1) items)))

  -- an item with a fault
  pub bad_here : (all : Bool) → has_bad_line true m (before ++ flat_map f (take k items)) (flat_map f (drop k items)) ≡ all → has_bad_line true m (before ++ flat_map f (take k items)) (f x) ≡ true → true ≡ all
  bad_here all h bad = (λ i. sym bad i || has_bad_line true m (before ++ flat_map f (take (k + 1) items)) (flat_map f (drop (k + 1) items))) ∙ sym so_far ∙ h

  -- an item without one
  pub good_here : (all : Bool) → has_bad_line true m (before ++ flat_map f (take k items)) (flat_map f (drop k items)) ≡ all → has_bad_line true m (before ++ flat_map f (take k items)) (f x) ≡ false
      → has_bad_line true m (before ++ flat_map f (take (k + 1) items)) (flat_map f (drop (k + 1) items)) ≡ all
  good_here all h good = (λ i. sym good i || has_bad_line true m (before ++ flat_map f (take (k + 1) items)) (flat_map f (drop (k + 1) items))) ∙ sym so_far ∙ h

-- lines one by one
pub one_by_one : {A B : Type 0} (g : A → B) (xs : List A) → flat_map (λ x. g x ∷ []) xs ≡ map g xs
one_by_one g [] = refl
one_by_one g (x ∷ xs) = (λ i. g x ∷ one_by_one g xs i)

-- a line alone
pub alone : (m : Module) (before : List EventLine) (l : EventLine) (bad : Bool) → is_bad_line true m before l ≡ bad → has_bad_line true m before (l ∷ []) ≡ bad
alone m before l bad e = (λ i. e i || false) ∙ by bad
  where
    by : (b : Bool) → (b || false) ≡ b
    by true = refl
    by false = refl
