-- Scripts that leave nothing but gates and instances.
use Rattle.std.specs.Prelude.{Bool, true, false, ◌||◌, List, [], ◌∷◌}
use Rattle.std.specs.List.{list_all}
use Rattle.script_core.specs.declared.word.Word.{Word}
use Rattle.script_core.specs.declared.word.Word.TheVariants.{OptExpr, OptMerge, OptClean, Opt, Memory, Techmap}

-- the word `opt`, or one of its parts
abbrev pub is_opt : Word → Bool
is_opt OptExpr = true
is_opt OptMerge = true
is_opt OptClean = true
is_opt Opt = true
is_opt word = false

-- words with a `techmap` behind which only words of `opt` stand
abbrev pub maps_last : List Word → Bool
maps_last [] = false
maps_last (Techmap ∷ words) = list_all is_opt words || maps_last words
maps_last (word ∷ words) = maps_last words

-- a script in which a word `memory` stands before the last `techmap`, and only words of `opt` behind that
abbrev pub maps_all : List Word → Bool
maps_all [] = false
maps_all (Memory ∷ words) = maps_last words
maps_all (word ∷ words) = maps_all words
