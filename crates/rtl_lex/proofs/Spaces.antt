-- Spaces at the front of a gap.
use Rattle.std.proofs.Common.{◌≡◌, ℕ, suc, ◌+◌, Bool, true, false, cond, List, [], ◌∷◌, drop, refl, ap, ◌∙◌, arith}
use Rattle.std.specs.List.{prefix_len}
use Rattle.std.proofs.lemmas.Bool.Decides.{nat_tests}
use Rattle.rtl_lex.specs.Bytes.{is_space}
use Rattle.rtl_lex.specs.Gaps.{gap, in_gap, note_after}

-- a gap goes on over a space
over_space : (over : Bool) (b : ℕ) → is_space b ≡ true → in_gap over false b ≡ true
over_space over b e = grind (arith, nat_tests)

no_note : (b : ℕ) → is_space b ≡ true → note_after false b ≡ false
no_note b e = grind (arith, nat_tests)

spaces_first : (over : Bool) (bytes : List ℕ) → prefix_len is_space bytes + gap over false (drop (prefix_len is_space bytes) bytes) ≡ gap over false bytes
spaces_first over [] = refl
spaces_first over (b ∷ bs) = by (is_space b) refl (spaces_first over bs)
  where
    by : (t : Bool) → is_space b ≡ t → prefix_len is_space bs + gap over false (drop (prefix_len is_space bs) bs) ≡ gap over false bs
        → cond t (1 + prefix_len is_space bs) 0 + gap over false (drop (cond t (1 + prefix_len is_space bs) 0) (b ∷ bs)) ≡ gap over false (b ∷ bs)
    by true e so =
        let next : 1 + prefix_len is_space bs ≡ suc (prefix_len is_space bs) = omega arith in
        let left = ap (λ n. gap over false (drop n (b ∷ bs))) next in
        let all = ap (λ t. cond t (gap over (note_after false b) bs + 1) 0) (over_space over b e) ∙ ap (λ note. gap over note bs + 1) (no_note b e) in
        omega (arith, left, all, so)
    by false e so = omega arith

-- the gap behind so many spaces
pub gap_behind : (over : Bool) (bytes : List ℕ) (n : ℕ) → n ≡ prefix_len is_space bytes → n + gap over false (drop n bytes) ≡ gap over false bytes
gap_behind over bytes n e = ap (λ k. k + gap over false (drop k bytes)) e ∙ spaces_first over bytes
