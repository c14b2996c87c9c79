-- Lines that are taken one at a time.
use Rattle.std.specs.Prelude.{◌≡◌, ℕ, false, List, [], ◌∷◌, ◌++◌, Option, Some, None, option_to_list, if◌then◌else◌}
use Rattle.desk_read.specs.declared.command.Command.{Command}
use Rattle.desk_read.specs.declared.head.Head.{Head}
use Rattle.desk_read.specs.declared.head.Head.TheVariants.{Blank, Whole, Opens}
use Rattle.desk_read.specs.declared.head.Opening.{Opening}
use Rattle.desk_read.specs.Heads.{head_of}
use Rattle.desk_read.specs.Commands.{block_command, block_of, commands_closing, commands_of, is_end}

-- a block that is open: how it was opened, and the text of its lines so far
pub record OpenBlock : Type 0 where
  pub opening : Opening
  pub text : List ℕ

-- the commands of the lines that come behind those that were taken: a block is open, or none
abbrev pub commands_from : Option OpenBlock → List (List ℕ) → List Command
commands_from None lines = commands_of lines
commands_from (Some block) lines = commands_closing block.opening block.text (block_of lines)

-- a line is taken with this answer: whatever lines come behind it, the commands from it on are the answer and then those of these lines
abbrev pub Takes : Option OpenBlock → List ℕ → Option Command → Option OpenBlock → Type 0
Takes before line answer after =
    (lines : List (List ℕ)) → commands_from before (line ∷ lines) ≡ option_to_list answer ++ commands_from after lines

-- the command of a line that says this outside a block, where it is whole, and the block that it opens
abbrev pub answer_by : Head → Option Command
answer_by Blank = None
answer_by (Whole command) = Some command
answer_by (Opens how) = None

abbrev pub opened_by : Head → Option OpenBlock
opened_by Blank = None
opened_by (Whole command) = None
opened_by (Opens how) = Some (record { opening = how; text = [] })

-- the command that a line completes, and the block that is open after it
abbrev pub answer_to : Option OpenBlock → List ℕ → Option Command
answer_to None line = answer_by (head_of line)
answer_to (Some block) line = if is_end line then Some (block_command block.opening block.text) else None

abbrev pub block_after : Option OpenBlock → List ℕ → Option OpenBlock
block_after None line = opened_by (head_of line)
block_after (Some block) line = if is_end line then None else Some (record block { text = block.text ++ line ++ 10 ∷ [] })

-- a line that says this outside a block completes no command
abbrev pub IsPartial : Head → Type 0
IsPartial Blank = Unit {0}
IsPartial (Whole command) = ⊥
IsPartial (Opens how) = Unit {0}

-- a line completes no command: it stands inside a block, or opens one, or is blank between commands
abbrev pub CompletesNone : Option OpenBlock → List ℕ → Type 0
CompletesNone None line = IsPartial (head_of line)
CompletesNone (Some block) line = is_end line ≡ false

-- a line that was taken, the answer to it, and the block that is open after it
pub record Taken : Type 0 where
  pub line : List ℕ
  pub answer : Option Command
  pub after : Option OpenBlock

-- these lines are taken in turn, from an open block or none to the last
abbrev pub TakesInTurn : Option OpenBlock → List Taken → Option OpenBlock → Type 0
TakesInTurn before [] last = before ≡ last
TakesInTurn before (taken ∷ more) last =
    Takes before taken.line taken.answer taken.after × TakesInTurn taken.after more last
