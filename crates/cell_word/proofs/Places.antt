-- Words made place by place.
use Rattle.std.proofs.Common.{◌≡◌, ◌∙◌, ap, ℕ, ◌+◌, [], ◌∷◌, ◌++◌, arith}
use Rattle.std.specs.List.{fold}
use Rattle.std.proofs.lemmas.List.Sums.{fold-append}
use Rattle.std.proofs.lemmas.List.FromFn.{map-range_with_len_more}
use Rattle.rtl_bits.specs.declared.bit.Bit.{Bit}
use Rattle.cell_word.specs.Words.{word_of}

-- a word of one more place
pub word_of_more : (f : ℕ → Bit) (n : ℕ) → word_of f (n + 1) ≡ word_of f n ++ f n ∷ []
word_of_more f n = map-range_with_len_more f 0 n n (omega arith)

-- a fold over the word of one more place
pub fold_word_next : (g : Bit → Bit → Bit) (a : Bit) (f : ℕ → Bit) (n : ℕ) → fold g a (word_of f (n + 1)) ≡ g (fold g a (word_of f n)) (f n)
fold_word_next g a f n = ap (fold g a) (word_of_more f n) ∙ fold-append g a (word_of f n) (f n ∷ [])
