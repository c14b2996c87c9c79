-- What is put for one item after another.
use Rattle.std.proofs.Common.{◌≡◌, ℕ, ◌+◌, ◌<◌, Bool, true, false, ◌||◌, List, [], ◌∷◌, ◌++◌, length, get_or, drop, flat_map, append_assoc, refl, sym, ◌∙◌, ap, add-one}
use Rattle.std.specs.List.{list_any}
use Rattle.std.proofs.Math.Seq.{drop-cons}
use Rattle.process_trees.proofs.Fronts.{front}

-- one item more
pub flat_next : {A B : Type 0} (f : A → List B) (items : List A) (k : ℕ) (x : A) → k < length items → x ≡ get_or items k x → (done new all : List B)
    → new ≡ done ++ f x → done ++ flat_map f (drop k items) ≡ all → new ++ flat_map f (drop (k + 1) items) ≡ all
flat_next f items k x h is done new all put so_far =
    ap (λ ys. ys ++ flat_map f (drop (k + 1) items)) put
    ∙ append_assoc done (f x) (flat_map f (drop (k + 1) items))
    ∙ sym (ap (λ xs. done ++ flat_map f xs) (front items k x h is))
    ∙ so_far

module _ {A : Type 0} (f : A → Bool) (items : List A) (k : ℕ) (d : A) (h : k < length items) where
  first : list_any f (drop k items) ≡ (f (get_or items k d) || list_any f (drop (k + 1) items))
  first = ap (list_any f) (drop-cons items k d h ∙ ap (λ n. get_or items k d ∷ drop n items) (sym (add-one k)))

  -- none so far, and none here either
  pub any_next : false ≡ f (get_or items k d) → (all : Bool) → list_any f (drop k items) ≡ all → list_any f (drop (k + 1) items) ≡ all
  any_next out all e = ap (λ t. t || list_any f (drop (k + 1) items)) out ∙ sym first ∙ e

  -- none so far, but one here
  pub any_here : true ≡ f (get_or items k d) → (all : Bool) → list_any f (drop k items) ≡ all → true ≡ all
  any_here among all e = ap (λ t. t || list_any f (drop (k + 1) items)) among ∙ sym first ∙ e

any_more : {A : Type 0} (f : A → Bool) (xs ys : List A) → list_any f (xs ++ ys) ≡ (list_any f xs || list_any f ys)
any_more f [] ys = refl
any_more f (x ∷ xs) ys = by (f x) (any_more f xs ys)
  where
    by : (t : Bool) → list_any f (xs ++ ys) ≡ (list_any f xs || list_any f ys) → (t || list_any f (xs ++ ys)) ≡ ((t || list_any f xs) || list_any f ys)
    by true e = refl
    by false e = e

module _ {A B : Type 0} (g : B → Bool) (f : A → List B) (items : List A) (k : ℕ) (x : A) (h : k < length items) (is : x ≡ get_or items k x) where
  split : list_any g (flat_map f (drop k items)) ≡ (list_any g (f x) || list_any g (flat_map f (drop (k + 1) items)))
  split = ap (λ xs. list_any g (flat_map f xs)) (front items k x h is) ∙ any_more g (f x) (flat_map f (drop (k + 1) items))

  pub flat_passed : false ≡ list_any g (f x) → (all : Bool) → list_any g (flat_map f (drop k items)) ≡ all → list_any g (flat_map f (drop (k + 1) items)) ≡ all
  flat_passed out all e = ap (λ t. t || list_any g (flat_map f (drop (k + 1) items))) out ∙ sym split ∙ e

  pub flat_here : true ≡ list_any g (f x) → (all : Bool) → list_any g (flat_map f (drop k items)) ≡ all → true ≡ all
  flat_here among all e = ap (λ t. t || list_any g (flat_map f (drop (k + 1) items))) among ∙ sym split ∙ e
