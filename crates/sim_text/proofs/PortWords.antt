-- Words and their ports, one after another.
use Rattle.std.proofs.Common.{◌≡◌, ℕ, suc, ◌+◌, ◌<◌, true, false, List, [], ◌∷◌, Bor, length, map, drop, get_or, refl, sym, ◌∙◌, arith, ◌&&◌}
use Rattle.std.proofs.Math.Seq.{drop-cons}
use Rattle.sim_text.specs.Lines.{are_port_words, is_port_word}

-- as many words as ports are asked
pub other_count : (widths : List ℕ) (words : List (List ℕ)) → (length widths ≡ length words → ⊥) → are_port_words widths words ≡ false
other_count [] [] differ = absurd (differ refl)
other_count [] (word ∷ words) differ = refl
other_count (width ∷ widths) [] differ = refl
other_count (width ∷ widths) (word ∷ words) differ =
    let rest : are_port_words widths words ≡ false = other_count widths words (λ e. differ (omega (arith, e))) in
    elim (is_port_word width word) as (λ b. (b && are_port_words widths words) ≡ false) [ true ↦ rest | false ↦ refl ]

-- the word at a place decides, and those behind it
pub port_words_from :
    (widths : List ℕ) (words : List (Bor (List ℕ))) (at : ℕ) (width : ℕ) (word : Bor (List ℕ)) → at < length widths → at < length words
    → width ≡ get_or widths at width → word ≡ get_or words at word
    → are_port_words (drop at widths) (map (λ w. w.now) (drop at words))
    ≡ (is_port_word width word.now && are_port_words (drop (at + 1) widths) (map (λ w. w.now) (drop (at + 1) words)))
port_words_from widths words at width word inside within is was =
    let next : suc at ≡ at + 1 = omega arith in
    let here : drop at widths ≡ width ∷ drop (at + 1) widths = drop-cons widths at width inside ∙ (λ i. sym is i ∷ drop (next i) widths) in
    let there : drop at words ≡ word ∷ drop (at + 1) words = drop-cons words at word within ∙ (λ i. sym was i ∷ drop (next i) words) in
    rw (here, there) refl
