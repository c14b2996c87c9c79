-- The commands of a session, from its lines.
use Rattle.std.specs.Prelude.{ℕ, Bool, List, [], ◌∷◌, ◌++◌, codes, Option, Some, None, if◌then◌else◌}
use Rattle.std.specs.Option.{option_map}
use Rattle.std.specs.Str.{bytes_eq}
use Rattle.desk_read.specs.declared.command.Command.{Command}
use Rattle.desk_read.specs.declared.command.Command.TheVariants.{Load, Edit, SimSource, SimNetlist, Unclosed}
use Rattle.desk_read.specs.declared.head.Head.{Head}
use Rattle.desk_read.specs.declared.head.Head.TheVariants.{Blank, Whole, Opens}
use Rattle.desk_read.specs.declared.head.Opening.{Opening}
use Rattle.desk_read.specs.declared.head.Opening.TheVariants as opening
use Rattle.desk_read.specs.Heads.{head_of}

-- a line ends a block: it is `.` alone
abbrev pub is_end : List ℕ → Bool
is_end line = bytes_eq line (codes ".")

-- the command of a block with this text, by how it was opened
abbrev pub block_command : Opening → List ℕ → Command
block_command opening.Load text = Load text
block_command opening.Edit text = Edit text
block_command (opening.SimSource asked) text = SimSource (record { «module» = asked.module; order = asked.order; steps = text })
block_command (opening.SimNetlist asked) text = SimNetlist (record { «module» = asked.module; order = asked.order; steps = text })

-- the lines inside a block up to its end, as a text, and the commands of the lines behind that end
pub record Block : Type 0 where
  pub text : List ℕ
  pub behind : List Command

-- a block with one line more at its front: the line's bytes, ended by LF
abbrev pub with_line : List ℕ → Block → Block
with_line line block = record { text = line ++ 10 ∷ block.text; behind = block.behind }

-- the commands from inside a block on, which was opened so and of which this text was taken before: that of the whole block, then those behind it; where it has no end, `Unclosed` alone
abbrev pub commands_closing : Opening → List ℕ → Option Block → List Command
commands_closing how taken None = Unclosed ∷ []
commands_closing how taken (Some block) = block_command how (taken ++ block.text) ∷ block.behind

-- the commands of a line that says this and of the lines behind it: outside a block those have these commands, inside a block they begin with this one
abbrev pub commands_by : Head → List Command → Option Block → List Command
commands_by Blank rest block = rest
commands_by (Whole command) rest block = command ∷ rest
commands_by (Opens how) rest block = commands_closing how [] block

abbrev mutual
  -- the commands of lines: what each line says, in order, where a block is taken whole with the line that opens it
  pub commands_of : List (List ℕ) → List Command
  commands_of [] = []
  commands_of (line ∷ lines) = commands_by (head_of line) (commands_of lines) (block_of lines)

  -- the block that lines begin with, up to the first line that ends it; none where no line does
  pub block_of : List (List ℕ) → Option Block
  block_of [] = None
  block_of (line ∷ lines) =
      if is_end line then Some (record { text = []; behind = commands_of lines }) else option_map (with_line line) (block_of lines)
