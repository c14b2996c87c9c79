-- The default script, word by word.
use Rattle.std.proofs.Common.{[], ◌∷◌, refl, arith}
use Rattle.script_core.specs.declared.word.Word.TheVariants.{Proc, Opt, Fsm, Memory, Techmap}
use Rattle.script_core.specs.Words.{IsScript}

-- the default script is one, and so are its fronts
pub one_word : IsScript (Proc ∷ Opt ∷ [])
one_word = record { first = refl; count = omega arith; flat = refl }

pub two_words : IsScript (Proc ∷ Opt ∷ Fsm ∷ [])
two_words = record { first = refl; count = omega arith; flat = refl }

pub three_words : IsScript (Proc ∷ Opt ∷ Fsm ∷ Opt ∷ [])
three_words = record { first = refl; count = omega arith; flat = refl }

pub four_words : IsScript (Proc ∷ Opt ∷ Fsm ∷ Opt ∷ Memory ∷ [])
four_words = record { first = refl; count = omega arith; flat = refl }

pub five_words : IsScript (Proc ∷ Opt ∷ Fsm ∷ Opt ∷ Memory ∷ Opt ∷ [])
five_words = record { first = refl; count = omega arith; flat = refl }

pub six_words : IsScript (Proc ∷ Opt ∷ Fsm ∷ Opt ∷ Memory ∷ Opt ∷ Techmap ∷ [])
six_words = record { first = refl; count = omega arith; flat = refl }

pub is_script : IsScript (Proc ∷ Opt ∷ Fsm ∷ Opt ∷ Memory ∷ Opt ∷ Techmap ∷ Opt ∷ [])
is_script = record { first = refl; count = omega arith; flat = refl }

-- all of these
pub ruleset scripts = (one_word, two_words, three_words, four_words, five_words, six_words, is_script)
