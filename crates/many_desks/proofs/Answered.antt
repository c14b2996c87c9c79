-- The replies of all desks, from those of each.
use Rattle.std.proofs.Common.{◌≡◌, ℕ, suc, ◌<◌, List, [], ◌∷◌, Option, Some, None, length, get_or, refl, sym, ap, ◌∙◌, subst, arith}
use Rattle.std.proofs.lemmas.Option.{slice_get_read}
use Rattle.std.specs.List.{AllZip, slice_get}
use Rattle.result_cache.specs.Seats.{Seated}
use Rattle.many_desks.specs.Replies.{Replies}
use Rattle.many_desks.specs.Serving.{Does, DoesDesk, RepliesDesk}

-- the value, where there is one
abbrev value_or : {A : Type 0} → A → Option A → A
value_or d None = d
value_or d (Some x) = x

same_value : {A : Type 0} (x y : A) → Some x ≡ Some y → x ≡ y
same_value x y e = ap (value_or x) e

module _ {S C R : Type 0} (steps : C → S → R → S → Type 0) (first : S) where
  pub all_replies : (lists : List (List C)) (answers : List (List R)) → length answers ≡ length lists
      → ((k : ℕ) (replies : List R) → slice_get answers k ≡ Some replies → RepliesDesk steps first lists k replies) → AllZip (Replies steps first) lists answers
  all_replies [] [] same each = tt
  all_replies [] (replies ∷ answers) same each = absurd (omega (arith, same))
  all_replies (commands ∷ lists) [] same each = absurd (omega (arith, same))
  all_replies (commands ∷ lists) (replies ∷ answers) same each =
      let e = each 0 replies refl in
      (subst (λ (cs : List C). Replies steps first cs replies) (sym (same_value commands e.0 e.1)) e.2, all_replies lists answers (omega (arith, same)) (λ k. each (suc k)))

  module _ (lists : List (List C)) (k : ℕ) (list commands : List C) (within : k < length lists) (is : list ≡ get_or lists k list) (same : commands ≡ list) where
    found : slice_get lists k ≡ Some commands
    found = slice_get_read lists (length lists) k list refl within is ∙ ap Some (sym same)

    -- the desk at a place answered the commands there
    pub replies_at : (replies : List R) → Replies steps first commands replies → RepliesDesk steps first lists k replies
    replies_at replies h = (commands, found, h)

    pub does_at : (does : C → S → Seated → Seated → ℕ → Type 0) (replies : List R) (old new : Seated) (n : ℕ) → Does steps does first commands replies old new n → DoesDesk steps does first lists k replies old new n
    does_at does replies old new n h = (commands, found, h)
