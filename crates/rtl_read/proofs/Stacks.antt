-- Laws of stacks: lists whose last item is the top.
use Rattle.std.proofs.Common.{◌≡◌, ℕ, suc, ◌+◌, ◌-◌, ◌<◌, ◌≤◌, List, [], ◌∷◌, ◌++◌, length, take, drop, get_or, ap, ◌∙◌, append-nil, arith}
use Rattle.std.specs.Prelude.{reverse}
use Rattle.std.specs.List.{flat_map}
use Rattle.std.proofs.Math.Seq.{drop-cons}
use Rattle.std.proofs.lemmas.List.{reverse-append, take_more}
use Rattle.std.proofs.lemmas.Grind.{flat_map-append}
use Rattle.rtl_read.specs.Constant.{low_bits}

pub reverse_last : {A : Type 0} (below : List A) (top : A) → reverse (below ++ top ∷ []) ≡ top ∷ reverse below
reverse_last below top = reverse-append below (top ∷ [])

-- so many items, and one more
pub reverse_more : {A : Type 0} (items : List A) (i : ℕ) (d : A) → i < length items → reverse (take (i + 1) items) ≡ get_or items i d ∷ reverse (take i items)
reverse_more items i d h = ap reverse (take_more items i d h) ∙ reverse_last (take i items) (get_or items i d)

pub none_left : {A : Type 0} (items left : List A) (n : ℕ) → items ≡ left ++ [] → left ≡ take (n - 1) items → n ≡ 0 → reverse items ≡ []
none_left items left n e f z =
    let empty : left ≡ [] = f ∙ ap (λ (k : ℕ). take (k - 1) items) z in
    ap reverse (e ∙ append-nil left ∙ empty)

-- the items from the one below place i on are that one and those from place i on
pub drop_here : {A : Type 0} (items : List A) (i : ℕ) (d : A) → 0 < i → i ≤ length items → drop (i - 1) items ≡ get_or items (i - 1) d ∷ drop i items
drop_here items i d p h =
    let e : suc (i - 1) ≡ i = omega arith in
    drop-cons items (i - 1) d (omega arith) ∙ ap (λ k. get_or items (i - 1) d ∷ drop k items) e

-- .. and with their bits, the last one's first
pub chars_here : (chars : List ℕ) (i d : ℕ) → 0 < i → i ≤ length chars → flat_map (λ c. low_bits c 8) (reverse (drop (i - 1) chars)) ≡ flat_map (λ c. low_bits c 8) (reverse (drop i chars)) ++ low_bits (get_or chars (i - 1) d) 8
chars_here chars i d p h =
    ap (λ x. flat_map (λ c. low_bits c 8) (reverse x)) (drop_here chars i d p h)
    ∙ ap (flat_map (λ c. low_bits c 8)) (reverse-append (get_or chars (i - 1) d ∷ []) (drop i chars))
    ∙ flat_map-append (λ c. low_bits c 8) (reverse (drop i chars)) (get_or chars (i - 1) d ∷ [])
    ∙ ap (λ x. flat_map (λ c. low_bits c 8) (reverse (drop i chars)) ++ x) (append-nil (low_bits (get_or chars (i - 1) d) 8))
