-- What a line says is told by its first words.
use Rattle.std.proofs.Common.{◌≡◌, ℕ, List, [], ◌∷◌, take, refl}
use Rattle.desk_read.specs.Heads.{head_by}

-- no line needs more than five words
pub five_words : (words : List (List ℕ)) (line : List ℕ) → head_by (take 5 words) line ≡ head_by words line
five_words [] line = refl
five_words (a ∷ []) line = refl
five_words (a ∷ b ∷ []) line = refl
five_words (a ∷ b ∷ c ∷ []) line = refl
five_words (a ∷ b ∷ c ∷ d ∷ []) line = refl
five_words (a ∷ b ∷ c ∷ d ∷ e ∷ words) line = refl
