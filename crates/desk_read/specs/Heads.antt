-- What a line says outside a block.
use Rattle.std.specs.Prelude.{ℕ, ◌&&◌, List, [], ◌∷◌, length, codes, if◌then◌else◌}
use Rattle.std.specs.Str.{bytes_eq}
use Rattle.net_model.specs.declared.order.Order.{Order}
use Rattle.net_model.specs.declared.order.Order.TheVariants.{Together, Released}
use Rattle.desk_read.specs.declared.command.Command.TheVariants.{Remove, Script, Run, Print, Show, Version, Modules, Ports, Quit, Bad}
use Rattle.desk_read.specs.declared.head.Head.{Head}
use Rattle.desk_read.specs.declared.head.Head.TheVariants.{Blank, Whole, Opens}
use Rattle.desk_read.specs.declared.head.Opening.TheVariants.{Load, Edit, SimSource, SimNetlist}
use Rattle.desk_read.specs.Words.{text_behind, words_of}

-- what a word alone says
abbrev pub word_alone : List ℕ → Head
word_alone word =
    if bytes_eq word (codes "load") then Opens Load
    else if bytes_eq word (codes "edit") then Opens Edit
    else if bytes_eq word (codes "run") then Whole Run
    else if bytes_eq word (codes "print") then Whole Print
    else if bytes_eq word (codes "version") then Whole Version
    else if bytes_eq word (codes "modules") then Whole Modules
    else if bytes_eq word (codes "quit") then Whole Quit
    else Whole Bad

-- what a word and the name of a module say
abbrev pub word_and_name : List ℕ → List ℕ → Head
word_and_name word name =
    if bytes_eq word (codes "drop") then Whole (Remove name)
    else if bytes_eq word (codes "show") then Whole (Show name)
    else if bytes_eq word (codes "ports") then Whole (Ports name)
    else Whole Bad

-- what `sim`, a word, the name of a module and an order of time say
abbrev pub sim_of : List ℕ → List ℕ → Order → Head
sim_of which name order =
    if bytes_eq which (codes "source") then Opens (SimSource (record { «module» = name; order = order }))
    else if bytes_eq which (codes "netlist") then Opens (SimNetlist (record { «module» = name; order = order }))
    else Whole Bad

-- what three words say: those of a simulation in the first order of time, or nothing
abbrev pub three_words : List ℕ → List ℕ → List ℕ → Head
three_words word which name = if bytes_eq word (codes "sim") then sim_of which name Together else Whole Bad

-- what four words say: those of a simulation in the second order of time, or nothing
abbrev pub four_words : List ℕ → List ℕ → List ℕ → List ℕ → Head
four_words word which name order =
    if bytes_eq word (codes "sim") && bytes_eq order (codes "released") then sim_of which name Released else Whole Bad

-- what the words of a line say, of which the first is not `script`
abbrev pub head_of_words : List (List ℕ) → Head
head_of_words [] = Blank
head_of_words (word ∷ []) = word_alone word
head_of_words (word ∷ name ∷ []) = word_and_name word name
head_of_words (word ∷ which ∷ name ∷ []) = three_words word which name
head_of_words (word ∷ which ∷ name ∷ order ∷ []) = four_words word which name order
head_of_words (word ∷ which ∷ name ∷ order ∷ more ∷ words) = Whole Bad

-- what a line with these words says: behind the word `script` all is its text
abbrev pub head_by : List (List ℕ) → List ℕ → Head
head_by [] line = Blank
head_by (word ∷ words) line =
    if bytes_eq word (codes "script") then Whole (Script (text_behind (length word) line)) else head_of_words (word ∷ words)

-- what a line says outside a block: nothing, a whole command, or how a block is opened
abbrev pub head_of : List ℕ → Head
head_of line = head_by (words_of line) line
