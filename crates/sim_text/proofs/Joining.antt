-- Words that are joined by blanks.
use Rattle.std.proofs.Common.{◌≡◌, ℕ, List, [], ◌∷◌, ◌++◌, take, drop, sym, ap, ◌∙◌}
use Rattle.std.proofs.lemmas.List.{append-nil, append_assoc}
use Rattle.std.specs.List.{flat_map, join_with_byte}
use Rattle.rtl_bits.specs.declared.bit.Bit.{Bit}
use Rattle.sim_text.specs.Lines.{port_words, step_line, word_of}

-- the first word, and each of the others behind a blank
joined_first : (word : List ℕ) (words : List (List ℕ)) → join_with_byte 32 (word ∷ words) ≡ word ++ flat_map (λ w. 32 ∷ w) words
joined_first word [] = sym (append-nil word)
joined_first word (next ∷ words) = ap (λ rest. word ++ 32 ∷ rest) (joined_first next words)

-- the line of the first port and the others
pub line_first : (width : ℕ) (widths : List ℕ) (bits : List Bit)
    → step_line (width ∷ widths) bits ≡ word_of (take width bits) ++ flat_map (λ w. 32 ∷ w) (port_words widths (drop width bits))
line_first width widths bits = joined_first (word_of (take width bits)) (port_words widths (drop width bits))

-- the first word is written, and then the others
pub put_first :
    (widths : List ℕ) (bits : List Bit) (first : ℕ) (others : List ℕ) (word rest : List Bit) (old mid new : List ℕ)
    → widths ≡ first ∷ others → word ≡ take first bits → rest ≡ drop first bits → mid ≡ old ++ word_of word
    → new ≡ mid ++ flat_map (λ w. 32 ∷ w) (port_words others rest) → new ≡ old ++ step_line widths bits
put_first widths bits first others word rest old mid new whole front back put written =
    let behind = flat_map (λ w. 32 ∷ w) (port_words others rest) in
    let line : word_of word ++ behind ≡ step_line widths bits =
    (λ i. word_of (front i) ++ flat_map (λ w. 32 ∷ w) (port_words others (back i)))
    ∙ sym (line_first first others bits) ∙ ap (λ ws. step_line ws bits) (sym whole) in
    written ∙ ap (λ m. m ++ behind) put ∙ append_assoc old (word_of word) behind ∙ ap (λ l. old ++ l) line
