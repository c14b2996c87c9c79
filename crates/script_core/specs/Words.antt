-- The words of scripts.
use Rattle.std.specs.Prelude.{◌≡◌, ◌≤◌, ◌+◌, ◌==◌, ℕ, Bool, true, false, not, ◌&&◌, ◌||◌, List, [], ◌∷◌, codes, drop, filter, filter_map, length, slice_get, Option, Some, None, Result, Ok, Err, if◌then◌else◌}
use Rattle.std.specs.List.{list_any, slice_split}
use Rattle.std.specs.Option.{is_some, option_map_or}
use Rattle.std.specs.Str.{bytes_eq}
use Rattle.script_core.specs.declared.word.Word.{Word}
use Rattle.script_core.specs.declared.word.Word.TheVariants.{Proc, OptExpr, OptMerge, OptClean, Opt, Fsm, Memory, Techmap, Muxtree, Reduce, Dff, Flatten}

-- a word is `flatten`
abbrev pub is_flatten : Word → Bool
is_flatten Flatten = true
is_flatten word = false

-- the second word is `flatten`
abbrev pub flattens : List Word → Bool
flattens [] = false
flattens (first ∷ words) = option_map_or is_flatten (slice_get words 0) false

-- a script has at most 64 words, the first is `proc`, and `flatten` is no other word than the second
pub record IsScript (words : List Word) : Type 0 where
  pub first : slice_get words 0 ≡ Some Proc
  pub count : length words ≤ 64
  pub flat : list_any is_flatten (drop 2 words) ≡ false

-- the default script
abbrev pub default_script : List Word
default_script = Proc ∷ Opt ∷ Fsm ∷ Opt ∷ Memory ∷ Opt ∷ Techmap ∷ Opt ∷ []

-- the word of a spelling
abbrev pub word_of : List ℕ → Option Word
word_of spelling =
    if bytes_eq spelling (codes "proc") then Some Proc
    else if bytes_eq spelling (codes "opt_expr") then Some OptExpr
    else if bytes_eq spelling (codes "opt_merge") then Some OptMerge
    else if bytes_eq spelling (codes "opt_clean") then Some OptClean
    else if bytes_eq spelling (codes "clean") then Some OptClean
    else if bytes_eq spelling (codes "opt") then Some Opt
    else if bytes_eq spelling (codes "fsm") then Some Fsm
    else if bytes_eq spelling (codes "memory") then Some Memory
    else if bytes_eq spelling (codes "techmap") then Some Techmap
    else if bytes_eq spelling (codes "opt_muxtree") then Some Muxtree
    else if bytes_eq spelling (codes "opt_reduce") then Some Reduce
    else if bytes_eq spelling (codes "opt_dff") then Some Dff
    else if bytes_eq spelling (codes "flatten") then Some Flatten
    else None

-- a space, a tab or a semicolon
unfoldable pub is_separator : ℕ → Bool
is_separator byte = (byte == 32) || (byte == 9) || (byte == 59)

-- the words of a text: what stands between separators and is not empty
abbrev pub words_of : List ℕ → List (List ℕ)
words_of text = filter (λ word. not (length word == 0)) (slice_split is_separator text)

-- the word with this number, from 1, is at a place that is not its own: it is the first and not `proc`, or `flatten` and not the
-- second, or the 65th
abbrev pub is_misplaced : ℕ → List ℕ → Bool
is_misplaced number word =
    ((number == 1) && not (bytes_eq word (codes "proc"))) || (not (number == 2) && bytes_eq word (codes "flatten")) || (number == 65)

-- the word with this number is bad: it is unknown, or misplaced
abbrev pub is_bad : ℕ → List ℕ → Bool
is_bad number word = not (is_some (word_of word)) || is_misplaced number word

-- the word with this number, where it is not bad
abbrev pub word_at : ℕ → List ℕ → Option Word
word_at number word = if is_bad number word then None else word_of word

-- the number of the first bad one of some words, the first of which has this number
abbrev pub bad_from : ℕ → List (List ℕ) → Option ℕ
bad_from number [] = None
bad_from number (word ∷ words) = if is_bad number word then Some number else bad_from (number + 1) words

-- the number of the first bad word, which is 1 where there is no word
abbrev pub first_bad : List (List ℕ) → Option ℕ
first_bad [] = Some 1
first_bad (word ∷ words) = bad_from 1 (word ∷ words)

-- the script of a text: all its words, or the number of the first bad one
abbrev pub script_of : List ℕ → Result (List Word) ℕ
script_of text = option_map_or Err (first_bad (words_of text)) (Ok (filter_map word_of (words_of text)))

-- how a word is written in scripts
abbrev pub spelling_of : Word → List ℕ
spelling_of Proc = codes "proc"
spelling_of OptExpr = codes "opt_expr"
spelling_of OptMerge = codes "opt_merge"
spelling_of OptClean = codes "opt_clean"
spelling_of Opt = codes "opt"
spelling_of Fsm = codes "fsm"
spelling_of Memory = codes "memory"
spelling_of Techmap = codes "techmap"
spelling_of Muxtree = codes "opt_muxtree"
spelling_of Reduce = codes "opt_reduce"
spelling_of Dff = codes "opt_dff"
spelling_of Flatten = codes "flatten"

-- the letter that stands for a word in the text of a key
abbrev pub letter_of : Word → ℕ
letter_of Proc = 112
letter_of OptExpr = 101
letter_of OptMerge = 109
letter_of OptClean = 99
letter_of Opt = 111
letter_of Fsm = 102
letter_of Memory = 121
letter_of Techmap = 116
letter_of Muxtree = 120
letter_of Reduce = 114
letter_of Dff = 100
letter_of Flatten = 108
