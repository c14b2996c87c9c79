-- Replies that are out.
use Rattle.std.specs.Prelude.{◌≡◌, ℕ, ◌≤◌, false, List, ◌++◌, Option, length}
use Rattle.std.specs.List.{list_any}
use Rattle.std.specs.Io.KnownBytes.{Appends, Consumes}
use Rattle.synth_io.specs.declared.input.TheConstants.{LIMIT}
use Rattle.script_core.specs.declared.word.Word.{Word}
use Rattle.synth_run.specs.Session.{IsSession, Turn, commands_in, ended_commands, is_quit, text_in}

-- bytes of an input were taken, and what was written is the replies to just the commands whose last line is among them, with its LF;
-- as long as no `quit` is among them and the limit is not passed, these are the first turns of the session, however the input goes on
pub record RepliesAreOut (script : List Word) (before after had has : Option (List ℕ)) : Type 0 where
  pub bytes : List ℕ
  pub turns : List Turn
  pub taken : Consumes before after bytes
  pub commands : commands_in turns ≡ ended_commands bytes
  pub written : Appends had has (text_in turns)
  pub first : list_any is_quit (ended_commands bytes) ≡ false → length bytes ≤ LIMIT → (more : List ℕ) (session : List Turn) → IsSession script (bytes ++ more) session → (rest : List Turn) × (session ≡ turns ++ rest)
