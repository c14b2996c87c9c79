-- The parts of an input of several desks as the code has them: a command is the next one of its desk's list, and its reply the
-- next one that the desk has left.
use Rattle.std.specs.Prelude.{◌≡◌, ◌⊎◌, ℕ, ◌+◌, ◌-◌, ◌<◌, ◌≤◌, ◌==◌, ◌||◌, Bool, true, List, [], ◌∷◌, ◌++◌, All, Option, Some, None, codes, drop, length, map, slice_index_or, slice_set, take, if◌then◌else◌}
use Rattle.std.specs.List.{flat_map, list_all, list_any}
use Rattle.std.specs.Io.KnownBytes.{Appends, Consumes, IsAtEnd}
use Rattle.synth_io.specs.declared.input.TheConstants.{LIMIT}
use Rattle.desk_read.specs.declared.command.Command.{Command}
use Rattle.desk_read.specs.Taking.{OpenBlock}
use Rattle.reply_lines.specs.declared.reply.Reply.{Reply}
use Rattle.reply_lines.specs.Lines.{error_reply}
use Rattle.result_cache.specs.Filled.{new_count}
use Rattle.build_crew.specs.Rises.{RisesUpTo}
use Rattle.script_core.specs.declared.word.Word.{Word}
use Rattle.desk_core.specs.State.{first_state}
use Rattle.synth_run.specs.declared.aims.Aim as aims
use Rattle.synth_run.specs.declared.aims.Aim.TheVariants as aimed
use Rattle.synth_run.specs.declared.desks.Writer.{Writer}
use Rattle.synth_run.specs.declared.routes.Tag.{Tag}
use Rattle.synth_run.specs.declared.routes.Tag.TheVariants as tagged
use Rattle.synth_run.specs.declared.routes.Router.{Router}
use Rattle.synth_run.specs.Lines.{last_line}
use Rattle.synth_run.specs.Desks.{Aim, AreTurns, Part, Turn, at, command, desk_reply, ended_parts, ends_input, input_parts, is_whole_part, keys_in, none, parts_from, parts_in, passes_limit, stray, to, up_to_end}

-- what a line says of desks, as the code has it
abbrev pub aim_as : aims.Aim → Aim
aim_as aimed.Command = none
aim_as (aimed.To desk) = at (Some desk)
aim_as aimed.Stray = at None

-- a part, as the code has it
abbrev pub tag_of : Part → Tag
tag_of (command desk c) = tagged.Command desk
tag_of (to desk) = tagged.To desk
tag_of stray = tagged.Stray

-- the commands of a desk among parts
abbrev pub commands_for : ℕ → List Part → List Command
commands_for desk [] = []
commands_for desk (command other c ∷ parts) =
    if other == desk then c ∷ commands_for desk parts else commands_for desk parts
commands_for desk (to other ∷ parts) = commands_for desk parts
commands_for desk (stray ∷ parts) = commands_for desk parts

-- these are the commands of each desk among parts, from a number on
abbrev pub AreLists : ℕ → List Part → List (List Command) → Type 0
AreLists desk parts [] = Unit {0}
AreLists desk parts (list ∷ lists) = (list ≡ commands_for desk parts) × AreLists (desk + 1) parts lists

-- a command is of one of so many desks
abbrev pub IsOf : ℕ → Tag → Type 0
IsOf count (tagged.Command desk) = (1 ≤ desk) × (desk ≤ count)
IsOf count (tagged.To desk) = Unit {0}
IsOf count tagged.Stray = Unit {0}

-- a router of at most 16 desks, of which its present desk is one, and that of each command
pub record IsRouter (router : Router) : Type 0 where
  pub few : length router.lists.items ≤ 16
  pub desk : (1 ≤ router.desk) × (router.desk ≤ length router.lists.items)
  pub tags : All (IsOf (length router.lists.items)) router.parts.items

-- these are the parts so far
pub record Holds (parts : List Part) (router : Router) : Type 0 where
  pub tags : router.parts.items ≡ map tag_of parts
  pub lists : AreLists 1 parts router.lists.items

-- where commands are for a desk, and a block is open or none, these are the parts of lines, and leave that desk and that block:
-- whatever lines come after them, their parts come first
pub record PartsOf (count desk : ℕ) (block : Option OpenBlock) (lines : List (List ℕ)) (ended : Bool) (parts : List Part) (next : ℕ) (inner : Option OpenBlock) : Type 0 where
  pub whole : list_all is_whole_part parts ≡ true
  pub ends : list_any ends_input parts ≡ ended
  pub up_to : (more : List Part) → up_to_end (parts ++ more) ≡ parts ++ (if ended then [] else up_to_end more)
  pub first : (after : List (List ℕ)) → parts_from count desk block (lines ++ after) ≡ parts ++ parts_from count next inner after

-- a router took lines, and has their parts more
pub record TakesParts (old new : Router) (lines : List (List ℕ)) (ended : Bool) (more : List Part) : Type 0 where
  pub count : length new.lists.items ≡ length old.lists.items
  pub holds : (parts : List Part) → Holds parts old → Holds (parts ++ more) new
  pub takes : PartsOf (length old.lists.items) old.desk old.reader lines ended more new.desk new.reader

-- a router took the last line and the end of an input, and has these parts more
pub record EndsParts (old new : Router) (more : List Part) : Type 0 where
  pub count : length new.lists.items ≡ length old.lists.items
  pub holds : (parts : List Part) → Holds parts old → Holds (parts ++ more) new
  pub all : more ≡ up_to_end (parts_from (length old.lists.items) old.desk old.reader (last_line old.line))

-- an input was read to its end, past its limit or to `quit`, and has these parts
pub record IsRouted (count : ℕ) (past : Bool) (parts : List Part) (left rest : Option (List ℕ)) : Type 0 where
  pub bytes : List ℕ
  pub taken : Consumes left rest bytes
  pub parts_are :
      (more : List ℕ) → rest ≡ Some more →
      (parts ≡ input_parts count (bytes ++ more)) × (passes_limit count (bytes ++ more) ≡ past)
  pub through : IsAtEnd rest ⊎ ((LIMIT < length bytes) ⊎ (list_any ends_input (ended_parts count bytes) ≡ true))

-- a counter has risen by at most the number of different keys that the commands among parts ask for
pub record CountsParts (script : List Word) (parts : List Part) (before after : ℕ) : Type 0 where
  pub turns : List Turn
  pub steps : AreTurns (λ desk. first_state script) turns
  pub all : parts_in turns ≡ parts
  pub builds : RisesUpTo (new_count [] (keys_in turns)) before after

-- ---- the replies

-- the replies that a desk has left
abbrev pub left_to : ℕ → List (List Reply) → List Reply
left_to desk left = slice_index_or left (desk - 1) []

-- the reply to a part, where the desks have these replies left, and what they have left after it
abbrev pub reply_to : Tag → List (List Reply) → List Reply
reply_to (tagged.Command desk) left = take 1 (left_to desk left)
reply_to (tagged.To desk) left = desk_reply desk ∷ []
reply_to tagged.Stray left = error_reply (codes "21") ∷ []

abbrev pub left_after : Tag → List (List Reply) → List (List Reply)
left_after (tagged.Command desk) left = slice_set left (desk - 1) (drop 1 (left_to desk left))
left_after (tagged.To desk) left = left
left_after tagged.Stray left = left

-- the replies to parts, in their order
abbrev pub replies_to : List Tag → List (List Reply) → List Reply
replies_to [] left = []
replies_to (tag ∷ tags) left = reply_to tag left ++ replies_to tags (left_after tag left)

-- the bytes of replies, one after another, and whether one of them is an error
abbrev pub bytes_of : List Reply → List ℕ
bytes_of = flat_map (λ (reply : Reply). reply.text)

abbrev pub any_error : List Reply → Bool
any_error = list_any (λ (reply : Reply). reply.error)

-- the replies that a writer has left
abbrev pub left_of : Writer → List (List Reply)
left_of writer = map (λ replies. replies.now) writer.left.items

-- a writer wrote the reply to a part
pub record Writes (old new : Writer) (tag : Tag) (had has : Option (List ℕ)) : Type 0 where
  pub left : left_of new ≡ left_after tag (left_of old)
  pub refused : new.refused ≡ (old.refused || any_error (reply_to tag (left_of old)))
  pub written : Appends had has (bytes_of (reply_to tag (left_of old)))
