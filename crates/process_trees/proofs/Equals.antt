-- Summaries that are equal by their test are equal.
use Rattle.std.proofs.Common.{◌≡◌, Bool, true, false, List, [], ◌∷◌, refl, rules}
use Rattle.std.specs.Prelude.{◌&&◌}
use Rattle.std.specs.Cmp.Lexicographic.{pointwise}
use Rattle.process_trees.specs.declared.summary.Summary.{Summary}
use Rattle.process_trees.specs.contracts.summary.SummaryPartialEq.TheImpl.{eq-value}

equal_summaries : (a b : Summary) → eq-value.it a b ≡ true → a ≡ b
equal_summaries a b e =
    let only : a.only ≡ b.only = search (rules, e) in
    let asked : a.asked ≡ b.asked = search (rules, e) in
    λ i. record { only = only i; asked = asked i }

pub equal_lists : (xs ys : List Summary) → pointwise eq-value.it xs ys ≡ true → xs ≡ ys
equal_lists [] [] e = refl
equal_lists [] (y ∷ ys) e = absurd cc
equal_lists (x ∷ xs) [] e = absurd cc
equal_lists (x ∷ xs) (y ∷ ys) e = by (eq-value.it x y) (pointwise eq-value.it xs ys) refl refl (equal_lists xs ys) e
  where
    by : (s t : Bool) → eq-value.it x y ≡ s → pointwise eq-value.it xs ys ≡ t → (pointwise eq-value.it xs ys ≡ true → xs ≡ ys) → (s && t) ≡ true → x ∷ xs ≡ y ∷ ys
    by true true k l rest m = (λ i. equal_summaries x y k i ∷ rest l i)
    by true false k l rest m = absurd cc
    by false t k l rest m = absurd cc
