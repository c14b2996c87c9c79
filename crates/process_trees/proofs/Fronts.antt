-- What is left of a list from a place on begins with the item there.
use Rattle.std.proofs.Common.{◌≡◌, ℕ, suc, ◌+◌, ◌<◌, List, ◌∷◌, length, get_or, drop, sym, ◌∙◌, add-one}
use Rattle.std.proofs.Math.Seq.{drop-cons}

pub front : {A : Type 0} (items : List A) (k : ℕ) (x : A) → k < length items → x ≡ get_or items k x → drop k items ≡ x ∷ drop (k + 1) items
front items k x lt is =
    let next : suc k ≡ k + 1 = sym (add-one k) in
    drop-cons items k x lt ∙ (λ j. sym is j ∷ drop (next j) items)
