-- Whose the lines of an input of several desks are: of each line that is told by the lines before it.
use Rattle.std.specs.Prelude.{◌≡◌, ℕ, ◌==◌, ◌&&◌, Bool, true, false, not, List, [], ◌∷◌, Option, Some, None, filter, map, if◌then◌else◌}
use Rattle.std.specs.List.{list_all}
use Rattle.std.specs.Option.{is_some}
use Rattle.desk_read.specs.declared.command.Command.{Command}
use Rattle.desk_read.specs.Commands.{is_end}
use Rattle.desk_read.specs.Taking.{answer_to, block_after}
use Rattle.synth_run.specs.Desks.{Aim, aim_of, at, none}
use Rattle.synth_run.specs.Session.{is_quit}

-- a line, and the lines before it, of which the last comes first
pub record Line : Type 0 where
  pub text : List ℕ
  pub before : List (List ℕ)

-- lines, each with those before it: these, and then the first ones of the list
abbrev pub placed : List (List ℕ) → List (List ℕ) → List Line
placed before [] = []
placed before (text ∷ lines) = record { text = text; before = before } ∷ placed (text ∷ before) lines

-- behind these lines, of which the last comes first, a block is open: the last one opened it, or stood inside it and was not its end
abbrev pub is_inside : List (List ℕ) → Bool
is_inside [] = false
is_inside (text ∷ before) = if is_inside before then not (is_end text) else is_some (block_after None text)

-- what a line says of desks, among so many: inside a block nothing
abbrev pub said_of_desks : ℕ → Line → Aim
said_of_desks count line = if is_inside line.before then none else aim_of count line.text

-- a line speaks of desks: it stands between commands, and its first word is `desk`
abbrev pub is_told : Aim → Bool
is_told none = false
is_told (at other) = true

abbrev pub speaks_of_desks : ℕ → Line → Bool
speaks_of_desks count line = is_told (said_of_desks count line)

-- the desk of the lines behind these, of which the last comes first: the one that was named last, or the first
abbrev pub named : Aim → ℕ → ℕ
named (at (Some desk)) earlier = desk
named aim earlier = earlier

abbrev pub desk_behind : ℕ → List (List ℕ) → ℕ
desk_behind count [] = 1
desk_behind count (text ∷ before) = named (said_of_desks count (record { text = text; before = before })) (desk_behind count before)

-- a line is one of this desk: it does not speak of desks, and the desk was named last
abbrev pub is_of : ℕ → ℕ → Line → Bool
is_of count desk line = not (speaks_of_desks count line) && (desk_behind count line.before == desk)

-- a line ends the input: it stands between commands, and its command is `quit`
abbrev pub is_last : Option Command → Bool
is_last None = false
is_last (Some command) = is_quit command

abbrev pub ends : Line → Bool
ends line = not (is_inside line.before) && is_last (answer_to None line.text)

-- the lines up to the first that ends the input, whatever desk it is of
abbrev pub up_to_end : List Line → List Line
up_to_end [] = []
up_to_end (line ∷ lines) = line ∷ (if ends line then [] else up_to_end lines)

-- a desk's own lines among the lines of an input, up to the one that ends it
abbrev pub own_lines : ℕ → ℕ → List (List ℕ) → List (List ℕ)
own_lines count desk lines = map (λ (line : Line). line.text) (filter (is_of count desk) (up_to_end (placed [] lines)))

-- no line of these speaks of desks
abbrev pub IsWithoutDesks : ℕ → List (List ℕ) → Type 0
IsWithoutDesks count lines = list_all (λ line. not (speaks_of_desks count line)) (placed [] lines) ≡ true
