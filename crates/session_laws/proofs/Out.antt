-- The replies that are out are those to the first commands of the session, however it goes on.
use Rattle.std.proofs.Common.{◌≡◌, ℕ, List, [], ◌∷◌, ◌++◌, Bool, true, false, Option, Some, None, refl, sym, ap, subst, ◌∙◌, append_assoc, append-nil}
use Rattle.std.specs.Prelude.{◌||◌, ◌==◌, filter, option_to_list, if◌then◌else◌}
use Rattle.std.specs.List.{list_all, list_any}
use Rattle.desk_read.specs.declared.command.Command.{Command}
use Rattle.desk_read.specs.Commands.{commands_of}
use Rattle.desk_read.specs.Taking.{OpenBlock, answer_to, block_after, commands_from}
use Rattle.script_core.specs.declared.word.Word.{Word}
use Rattle.desk_core.specs.State.{State, first_state}
use Rattle.synth_run.specs.Lines.{Lines, lines_of, onto_first, read_lines}
use Rattle.synth_run.specs.Replies.{AnswersTaken}
use Rattle.synth_run.specs.Session.{AreTurns, Turn, commands_in, is_quit, is_whole, up_to_quit}
use Rattle.synth_run.specs.Taking.{BeginsBytes, BeginsLines, Stops, lines_before}
use Rattle.synth_run.proofs.Commanding.{filter_front, input_begins}
use Rattle.synth_run.proofs.Only.{same_turns}
use Rattle.synth_run.proofs.Speaking.{all_both}
use Rattle.synth_run.proofs.Turning.{any_whole}
use Rattle.session_laws.specs.Out.{RepliesAreOut}
use Rattle.session_laws.proofs.Lines.{takes}

-- ---- the lines of bytes, and more

first_byte : (t : Bool) (byte : ℕ) (lines others : Lines)
    → (next : Lines)
    × ((if t then record { ended = [] ∷ (lines.ended ++ others.ended); rest = others.rest } else onto_first byte (lines.ended ++ others.ended) others.rest)
    ≡ lines_before (if t then record { ended = [] ∷ lines.ended; rest = lines.rest } else onto_first byte lines.ended lines.rest).ended next)
first_byte true byte lines others = (others, refl)
first_byte false byte lines others = by lines.ended
  where
    by : (ended : List (List ℕ))
        → (next : Lines) × (onto_first byte (ended ++ others.ended) others.rest ≡ lines_before (onto_first byte ended lines.rest).ended next)
    by [] = (onto_first byte others.ended others.rest, refl)
    by (line ∷ more) = (others, refl)

-- the lines that ended in bytes stay, whatever comes behind these
pub lines_stay : (bytes : List ℕ) → BeginsBytes [] bytes (lines_of bytes).ended
lines_stay [] = λ more. (lines_of more, refl)
lines_stay (byte ∷ bytes) = λ more.
    let rest = lines_stay bytes more in
    let here = first_byte (byte == 10) byte (lines_of bytes) rest.0 in
    (here.0, ap (λ (ls : Lines). if byte == 10 then record { ended = [] ∷ ls.ended; rest = ls.rest } else onto_first byte ls.ended ls.rest) rest.1 ∙ here.1)

-- ---- their commands

-- the commands that lines complete, and the block that is open behind them
record Completes (block : Option OpenBlock) (lines : List (List ℕ)) : Type 0 where
  done : List Command
  after : Option OpenBlock
  whole : list_all is_whole done ≡ true
  first : (more : List (List ℕ)) → commands_from block (lines ++ more) ≡ done ++ commands_from after more

completes : (block : Option OpenBlock) (lines : List (List ℕ)) → Completes block lines
completes block [] = record { done = []; after = block; whole = refl; first = λ more. refl }
completes block (line ∷ lines) =
    let rest = completes (block_after block line) lines in
    let here = option_to_list (answer_to block line) in
    record {
      done = here ++ rest.done;
      after = rest.after;
      whole = all_both is_whole here rest.done (any_whole block line (answer_to block line) (block_after block line) (takes block line)) rest.whole;
      first = λ more.
          takes block line (lines ++ more) ∙ ap (λ (cs : List Command). here ++ cs) (rest.first more)
          ∙ sym (append_assoc here rest.done (commands_from rest.after more));
    }

none_open : (block : Option OpenBlock) → filter is_whole (commands_from block []) ≡ []
none_open None = refl
none_open (Some block) = refl

-- they are those that have their last line
done_is : (lines : List (List ℕ)) → filter is_whole (commands_of lines) ≡ (completes None lines).done
done_is lines =
    let all = completes None lines in
    ap (λ (ls : List (List ℕ)). filter is_whole (commands_of ls)) (sym (append-nil lines)) ∙ ap (filter is_whole) (all.first [])
    ∙ filter_front is_whole all.done (commands_from all.after []) all.whole ∙ ap (λ (cs : List Command). all.done ++ cs) (none_open all.after) ∙ append-nil all.done

begins : (lines : List (List ℕ)) (turns : List Turn) → commands_in turns ≡ filter is_whole (commands_of lines) → BeginsLines None lines turns
begins lines turns e =
    let all = completes None lines in
    let same : all.done ≡ commands_in turns = sym (e ∙ done_is lines) in
    record {
      whole = subst (λ (cs : List Command). list_all is_whole cs ≡ true) same all.whole;
      begins = λ more. (commands_from all.after more, all.first more ∙ ap (λ (cs : List Command). cs ++ commands_from all.after more) same);
    }

-- none of them is `quit`
neither : (a b : Bool) → (a || b) ≡ false → (a ≡ false) × (b ≡ false)
neither true b h = absurd cc
neither false b h = (refl, h)

up_to_all : (cs : List Command) → list_any is_quit cs ≡ false → (more : List Command) → up_to_quit (cs ++ more) ≡ cs ++ up_to_quit more
up_to_all [] h more = refl
up_to_all (c ∷ cs) h more =
    let here = neither (is_quit c) (list_any is_quit cs) h in
    ap (λ (t : Bool). c ∷ (if t then [] else up_to_quit (cs ++ more))) here.0 ∙ ap (λ (l : List Command). c ∷ l) (up_to_all cs here.1 more)

goes_on : (cs : List Command) → list_any is_quit cs ≡ false → Stops false cs
goes_on cs h = record { has = h; up_to = up_to_all cs h }

-- ---- the turns

first_turns : (s : State) (turns session : List Turn) (more : List Command) → AreTurns s turns → AreTurns s session → commands_in session ≡ commands_in turns ++ more
    → (rest : List Turn) × (session ≡ turns ++ rest)
first_turns s [] session more f g e = (session, refl)
first_turns s (t ∷ ts) [] more f g e = absurd cc
first_turns s (t ∷ ts) (u ∷ us) more f g e =
    let command : u.command ≡ t.command = cc in
    let others : commands_in us ≡ commands_in ts ++ more = cc in
    let one : u ∷ [] ≡ t ∷ [] = same_turns s (u ∷ []) (t ∷ []) (g.0, g.1, tt) (f.0, f.1, tt) (ap (λ (c : Command). c ∷ []) command) in
    let turn : u ≡ t = cc in
    let rest = first_turns t.after ts us more f.2 (subst (λ (x : Turn). AreTurns x.after us) turn g.2) others in
    (rest.0, ap (λ (x : Turn). x ∷ us) turn ∙ ap (λ (l : List Turn). t ∷ l) rest.1)

pub are_out : (script : List Word) (before after had has : Option (List ℕ)) → AnswersTaken script before after had has → RepliesAreOut script before after had has
are_out script before after had has h = record {
  bytes = h.bytes;
  turns = h.turns;
  taken = h.taken;
  commands = h.commands;
  written = h.written;
  first = λ unquit within more session is.
      let lines = (lines_of h.bytes).ended in
      let begun =
      input_begins h.bytes lines h.turns false within (lines_stay h.bytes) (begins (read_lines lines) h.turns h.commands)
      (goes_on (commands_in h.turns) (ap (list_any is_quit) h.commands ∙ unquit)) more in
      first_turns (first_state script) h.turns session begun.0 h.steps is.steps (is.commands ∙ begun.1);
}
