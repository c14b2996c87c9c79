-- One more of the first items of a list, and those behind them.
use Rattle.std.proofs.Common.{◌≡◌, ℕ, zero, suc, ◌+◌, List, [], ◌∷◌, ◌++◌, take, drop, refl, sym, ◌∙◌, ap, append_assoc, add-one}
use Rattle.rtl_ir.specs.declared.cell.Cell.{Cell}

next_taken : (i : ℕ) (cells : List Cell) → take (suc i) cells ≡ take i cells ++ take 1 (drop i cells)
next_taken zero cells = refl
next_taken (suc i) [] = refl
next_taken (suc i) (c ∷ cells) = ap (λ rest. c ∷ rest) (next_taken i cells)

next_dropped : (i : ℕ) (cells : List Cell) → drop (suc i) cells ≡ drop 1 (drop i cells)
next_dropped zero cells = refl
next_dropped (suc i) [] = refl
next_dropped (suc i) (c ∷ cells) = next_dropped i cells

-- after one more move one more has moved, and the rest is left
pub one_more_moved : (i : ℕ) (cells first all all' gates : List Cell) → all ≡ first ++ take i cells → gates ≡ drop i cells → all' ≡ all ++ take 1 gates → all' ≡ first ++ take (i + 1) cells
one_more_moved i cells first all all' gates e g h =
    let next : take (i + 1) cells ≡ take i cells ++ take 1 (drop i cells) = ap (λ n. take n cells) (add-one i) ∙ next_taken i cells in
    h ∙ ap (λ z. z ++ take 1 gates) e ∙ ap (λ z. (first ++ take i cells) ++ take 1 z) g ∙ append_assoc first (take i cells) (take 1 (drop i cells)) ∙ ap (λ z. first ++ z) (sym next)

pub one_less_left : (i : ℕ) (cells gates gates' : List Cell) → gates ≡ drop i cells → gates' ≡ drop 1 gates → gates' ≡ drop (i + 1) cells
one_less_left i cells gates gates' g h = h ∙ ap (drop 1) g ∙ sym (ap (λ n. drop n cells) (add-one i) ∙ next_dropped i cells)
