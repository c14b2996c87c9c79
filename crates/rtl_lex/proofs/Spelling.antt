-- Laws of the characters of a string.
use Rattle.std.proofs.Common.{◌≡◌, ℕ, zero, suc, ◌+◌, ◌-◌, ◌<◌, Bool, true, false, not, cond, List, [], ◌∷◌, ◌++◌, length, take, drop, Option, Some, None, refl, sym, ap, ◌∙◌, arith, append_assoc}
use Rattle.std.specs.Prelude.{◌&&◌, ◌==◌, map, nat_lt}
use Rattle.std.specs.List.{prefix_len}
use Rattle.std.specs.Option.{option_map_or}
use Rattle.std.proofs.lemmas.List.{drop-drop, take_rest}
use Rattle.std.proofs.lemmas.List.Sums.{sum_by-cons}
use Rattle.std.proofs.lemmas.Bool.{and_parts}
use Rattle.rtl_lex.specs.Strings.{char_front, escape, is_own, spelt, spelt_len}

spelt_skip : (k : ℕ) (bs : List ℕ) → spelt k bs ≡ spelt 0 (drop k bs)
spelt_skip zero bs = refl
spelt_skip (suc k) [] = refl
spelt_skip (suc k) (b ∷ bs) = spelt_skip k bs

drop_behind : (n b : ℕ) (bs : List ℕ) → 0 < n → drop (n - 1) bs ≡ drop n (b ∷ bs)
drop_behind zero b bs lt = absurd (omega arith)
drop_behind (suc n) b bs lt = ap (λ (k : ℕ). drop k bs) (omega arith)

spelt_next : (bs : List ℕ) (c : ℕ × ℕ) → char_front bs ≡ Some c → 0 < c.1 → spelt 0 bs ≡ c ∷ spelt 0 (drop c.1 bs)
spelt_next [] c e lt = absurd cc
spelt_next (b ∷ bs) c e lt =
    let one = ap (λ (o : Option (ℕ × ℕ)). option_map_or (λ c. c ∷ spelt (c.1 - 1) bs) o []) e in
    one ∙ ap (λ (cs : List (ℕ × ℕ)). c ∷ cs) (spelt_skip (c.1 - 1) bs ∙ ap (spelt 0) (drop_behind c.1 b bs lt))

-- the bytes of a slice from a place on
abbrev rest_of : List ℕ → ℕ → List ℕ
rest_of bs at = take (length bs - at) (drop at bs)

spelt_more : (bs : List ℕ) (at : ℕ) (c : ℕ × ℕ) → Some c ≡ char_front (rest_of bs at) → 0 < c.1 → spelt 0 (drop at bs) ≡ c ∷ spelt 0 (drop (at + c.1) bs)
spelt_more bs at c e lt =
    spelt_next (drop at bs) c (ap char_front (sym (take_rest bs at)) ∙ sym e) lt ∙ ap (λ (rest : List ℕ). c ∷ spelt 0 rest) (drop-drop c.1 at bs)

-- one more character, and how many bytes there are
pub spelt_len_more : (bs : List ℕ) (at : ℕ) (c : ℕ × ℕ) → Some c ≡ char_front (rest_of bs at) → 0 < c.1 → at + spelt_len (spelt 0 (drop at bs)) ≡ at + c.1 + spelt_len (spelt 0 (drop (at + c.1) bs))
spelt_len_more bs at c e lt =
    let more = ap spelt_len (spelt_more bs at c e lt) ∙ sum_by-cons (λ (c : ℕ × ℕ). c.1) c (spelt 0 (drop (at + c.1) bs)) in
    omega (arith, more)

abbrev chars : List (ℕ × ℕ) → List ℕ
chars cs = map (λ c. c.0) cs

-- one more character, and which they are
pub chars_more : (bs : List ℕ) (at : ℕ) (c : ℕ × ℕ) (had has all : List ℕ) → Some c ≡ char_front (rest_of bs at) → 0 < c.1 → has ≡ had ++ c.0 ∷ [] → had ++ chars (spelt 0 (drop at bs)) ≡ all → has ++ chars (spelt 0 (drop (at + c.1) bs)) ≡ all
chars_more bs at c had has all e lt push is =
    ap (λ (l : List ℕ). l ++ chars (spelt 0 (drop (at + c.1) bs))) push ∙ append_assoc had (c.0 ∷ []) _ ∙ ap (λ (cs : List (ℕ × ℕ)). had ++ chars cs) (sym (spelt_more bs at c e lt)) ∙ is

-- bytes that write themselves
not_is : (t : Bool) → not t ≡ true → t ≡ false
not_is true e = absurd cc
not_is false e = refl

own_front : (b : ℕ) (bs : List ℕ) → is_own b ≡ true → char_front (b ∷ bs) ≡ Some (b, 1)
own_front b bs e =
    let above = and_parts (nat_lt 0 b) (nat_lt b 256 && (not (b == 34) && not (b == 92))) e in
    let below = and_parts (nat_lt b 256) (not (b == 34) && not (b == 92)) above.1 in
    let marks = and_parts (not (b == 34)) (not (b == 92)) below.1 in
    let quote : (b == 34) ≡ false = not_is (b == 34) marks.0 in
    let slash : (b == 92) ≡ false = not_is (b == 92) marks.1 in
    (λ i. cond (quote i) None (cond (slash i) (escape bs) (cond (above.0 i && below.0 i) (Some (b, 1)) None)))

own_spelt : (b : ℕ) (bs : List ℕ) → is_own b ≡ true → spelt 0 (b ∷ bs) ≡ (b, 1) ∷ spelt 0 bs
own_spelt b bs e = spelt_next (b ∷ bs) (b, 1) (own_front b bs e) (omega arith)

pub own_len : (bs : List ℕ) → prefix_len is_own bs + spelt_len (spelt 0 (drop (prefix_len is_own bs) bs)) ≡ spelt_len (spelt 0 bs)
own_len [] = refl
own_len (b ∷ bs) = by (is_own b) refl (own_len bs)
  where
    by : (t : Bool) → is_own b ≡ t → prefix_len is_own bs + spelt_len (spelt 0 (drop (prefix_len is_own bs) bs)) ≡ spelt_len (spelt 0 bs)
        → cond t (1 + prefix_len is_own bs) 0 + spelt_len (spelt 0 (drop (cond t (1 + prefix_len is_own bs) 0) (b ∷ bs))) ≡ spelt_len (spelt 0 (b ∷ bs))
    by true e so =
        let next : 1 + prefix_len is_own bs ≡ suc (prefix_len is_own bs) = omega arith in
        let left = ap (λ n. spelt_len (spelt 0 (drop n (b ∷ bs)))) next in
        let all = ap spelt_len (own_spelt b bs e) ∙ sum_by-cons (λ (c : ℕ × ℕ). c.1) (b, 1) (spelt 0 bs) in
        omega (arith, left, all, so)
    by false e so = omega arith

pub own_chars : (bs : List ℕ) → take (prefix_len is_own bs) bs ++ chars (spelt 0 (drop (prefix_len is_own bs) bs)) ≡ chars (spelt 0 bs)
own_chars [] = refl
own_chars (b ∷ bs) = by (is_own b) refl (own_chars bs)
  where
    by : (t : Bool) → is_own b ≡ t → take (prefix_len is_own bs) bs ++ chars (spelt 0 (drop (prefix_len is_own bs) bs)) ≡ chars (spelt 0 bs)
        → take (cond t (1 + prefix_len is_own bs) 0) (b ∷ bs) ++ chars (spelt 0 (drop (cond t (1 + prefix_len is_own bs) 0) (b ∷ bs))) ≡ chars (spelt 0 (b ∷ bs))
    by true e so =
        let next : 1 + prefix_len is_own bs ≡ suc (prefix_len is_own bs) = omega arith in
        ap (λ n. take n (b ∷ bs) ++ chars (spelt 0 (drop n (b ∷ bs)))) next ∙ ap (λ cs. b ∷ cs) so ∙ sym (ap chars (own_spelt b bs e))
    by false e so = refl
