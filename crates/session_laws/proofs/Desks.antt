-- The turns of one of several desks are those of a session of its own lines.
use Rattle.std.proofs.Common.{◌≡◌, ℕ, List, [], ◌∷◌, ◌++◌, Bool, true, false, None, take, refl, sym, ap, subst, ◌∙◌, true≢false, arith}
use Rattle.std.specs.Prelude.{◌==◌, ◌||◌, filter, not, if◌then◌else◌}
use Rattle.std.proofs.lemmas.Bool.Decides.{nat_tests}
use Rattle.synth_io.specs.declared.input.TheConstants.{LIMIT}
use Rattle.desk_read.specs.declared.command.Command.{Command}
use Rattle.desk_read.specs.declared.command.Command.TheVariants.{Load, Edit, Remove, Script, Run, Print, Show, Version, Modules, Ports, SimSource, SimNetlist, Quit, Bad, Unclosed}
use Rattle.script_core.specs.declared.word.Word.{Word}
use Rattle.desk_core.specs.State.{State, first_state}
use Rattle.desk_core.specs.Step.{IsStep}
use Rattle.synth_run.specs.Desks as desks
use Rattle.synth_run.specs.Desks.{IsDesks, IsTurn, Part, command, ended_parts, ends_input, input_parts, is_whole_part, parts_from, parts_in, states_after, stray, to}
use Rattle.synth_run.specs.Lines.{all_lines, ended_lines}
use Rattle.synth_run.specs.Routes.{commands_for}
use Rattle.synth_run.specs.Session.{AreTurns, IsSession, Turn, all_commands, commands_in, ended_commands, input_commands, is_long, is_quit, is_whole, up_to_quit}
use Rattle.session_laws.specs.Own.{own_lines}
use Rattle.session_laws.specs.Sessions.{IsSessionOf, input_lines, line_commands, turn_of, turns_of}
use Rattle.session_laws.proofs.Owning.{owned_up_to}

-- ---- the session of an input

lines_either : (long : Bool) (input : List ℕ)
    → up_to_quit (if long then ended_commands (take LIMIT input) else all_commands input)
    ≡ line_commands long (if long then ended_lines (take LIMIT input) else all_lines input)
lines_either true input = refl
lines_either false input = refl

pub lines_are : (input : List ℕ) → input_commands input ≡ line_commands (is_long input) (input_lines input)
lines_are input = lines_either (is_long input) input

pub by_lines : (script : List Word) (input : List ℕ) (turns : List Turn) → IsSession script input turns → IsSessionOf script (is_long input) (input_lines input) turns
by_lines script input turns is = record { steps = is.steps; commands = is.commands ∙ lines_are input }

pub of_lines : (script : List Word) (input : List ℕ) (turns : List Turn) → IsSessionOf script (is_long input) (input_lines input) turns → IsSession script input turns
of_lines script input turns is = record { steps = is.steps; commands = is.commands ∙ sym (lines_are input) }

-- ---- the commands of a desk

-- no `quit` is a block without its end
whole_or_stays : (c : Command) → (is_whole c || not (is_quit c)) ≡ true
whole_or_stays (Load text) = refl
whole_or_stays (Edit text) = refl
whole_or_stays (Remove name) = refl
whole_or_stays (Script text) = refl
whole_or_stays Run = refl
whole_or_stays Print = refl
whole_or_stays (Show name) = refl
whole_or_stays Version = refl
whole_or_stays Modules = refl
whole_or_stays (Ports name) = refl
whole_or_stays (SimSource ask) = refl
whole_or_stays (SimNetlist ask) = refl
whole_or_stays Quit = refl
whole_or_stays Bad = refl
whole_or_stays Unclosed = refl

stays : (whole quit : Bool) → (whole || not quit) ≡ true → whole ≡ false → quit ≡ false
stays true quit h e = absurd (true≢false e)
stays false true h e = absurd (true≢false (sym h))
stays false false h e = refl

part_stays : (part : Part) → is_whole_part part ≡ false → ends_input part ≡ false
part_stays (command desk c) e = stays (is_whole c) (is_quit c) (whole_or_stays c) e
part_stays (to desk) e = refl
part_stays stray e = refl

-- blocks without their ends may go before the parts are cut or after it
pub whole_up_to : (parts : List Part) → desks.up_to_end (filter is_whole_part parts) ≡ filter is_whole_part (desks.up_to_end parts)
whole_up_to [] = refl
whole_up_to (part ∷ parts) = by (is_whole_part part) refl (whole_up_to parts)
  where
    cut : (t : Bool) → desks.up_to_end (filter is_whole_part parts) ≡ filter is_whole_part (desks.up_to_end parts)
        → (if t then [] else desks.up_to_end (filter is_whole_part parts)) ≡ filter is_whole_part (if t then [] else desks.up_to_end parts)
    cut true rest = refl
    cut false rest = rest

    by : (t : Bool) → is_whole_part part ≡ t → desks.up_to_end (filter is_whole_part parts) ≡ filter is_whole_part (desks.up_to_end parts)
        → desks.up_to_end (if t then part ∷ filter is_whole_part parts else filter is_whole_part parts)
        ≡ (if t then part ∷ filter is_whole_part (if ends_input part then [] else desks.up_to_end parts) else filter is_whole_part (if ends_input part then [] else desks.up_to_end parts))
    by true e rest = ap (λ (ps : List Part). part ∷ ps) (cut (ends_input part) rest)
    by false e rest = rest ∙ ap (λ (t : Bool). filter is_whole_part (if t then [] else desks.up_to_end parts)) (sym (part_stays part e))

-- the commands of a desk that have their last line
whole_for : (d : ℕ) (parts : List Part) → commands_for d (filter is_whole_part parts) ≡ filter is_whole (commands_for d parts)
whole_for d [] = refl
whole_for d (command desk c ∷ parts) = push (is_whole c) ∙ by (is_whole c) (desk == d) refl (whole_for d parts)
  where
    push : (t : Bool)
        → commands_for d (if t then command desk c ∷ filter is_whole_part parts else filter is_whole_part parts)
        ≡ (if t then (if desk == d then c ∷ commands_for d (filter is_whole_part parts) else commands_for d (filter is_whole_part parts)) else commands_for d (filter is_whole_part parts))
    push true = refl
    push false = refl

    kept : (t : Bool) → is_whole c ≡ t → filter is_whole (c ∷ commands_for d parts) ≡ (if t then c ∷ filter is_whole (commands_for d parts) else filter is_whole (commands_for d parts))
    kept t e = ap (λ (b : Bool). if b then c ∷ filter is_whole (commands_for d parts) else filter is_whole (commands_for d parts)) e

    by : (t own : Bool) → is_whole c ≡ t → commands_for d (filter is_whole_part parts) ≡ filter is_whole (commands_for d parts)
        → (if t then (if own then c ∷ commands_for d (filter is_whole_part parts) else commands_for d (filter is_whole_part parts)) else commands_for d (filter is_whole_part parts))
        ≡ filter is_whole (if own then c ∷ commands_for d parts else commands_for d parts)
    by true true e rest = ap (λ (cs : List Command). c ∷ cs) rest ∙ sym (kept true e)
    by true false e rest = rest
    by false true e rest = rest ∙ sym (kept false e)
    by false false e rest = rest
whole_for d (to desk ∷ parts) = whole_for d parts
whole_for d (stray ∷ parts) = whole_for d parts

-- the commands of a desk go no further than the parts, which `quit` of any desk ends
cut_for : (d : ℕ) (parts : List Part) → up_to_quit (commands_for d (desks.up_to_end parts)) ≡ commands_for d (desks.up_to_end parts)
cut_for d [] = refl
cut_for d (command desk c ∷ parts) = by (desk == d) (is_quit c) refl (cut_for d parts)
  where
    by : (own quit : Bool) → is_quit c ≡ quit → up_to_quit (commands_for d (desks.up_to_end parts)) ≡ commands_for d (desks.up_to_end parts)
        → up_to_quit (if own then c ∷ commands_for d (if quit then [] else desks.up_to_end parts) else commands_for d (if quit then [] else desks.up_to_end parts))
        ≡ (if own then c ∷ commands_for d (if quit then [] else desks.up_to_end parts) else commands_for d (if quit then [] else desks.up_to_end parts))
    by true true e rest = ap (λ (t : Bool). c ∷ (if t then [] else [])) e
    by true false e rest = ap (λ (t : Bool). c ∷ (if t then [] else up_to_quit (commands_for d (desks.up_to_end parts)))) e ∙ ap (λ (cs : List Command). c ∷ cs) rest
    by false true e rest = refl
    by false false e rest = rest
cut_for d (to desk ∷ parts) = cut_for d parts
cut_for d (stray ∷ parts) = cut_for d parts

-- those among the parts of an input are those of its own lines
pub own_commands : (count d : ℕ) (input : List ℕ) → commands_for d (input_parts count input) ≡ line_commands (is_long input) (own_lines count d (input_lines input))
own_commands count d input = by (is_long input)
  where
    by : (long : Bool)
        → commands_for d (desks.up_to_end (if long then ended_parts count (take LIMIT input) else parts_from count 1 None (all_lines input)))
        ≡ line_commands long (own_lines count d (if long then ended_lines (take LIMIT input) else all_lines input))
    by true =
        sym (cut_for d (filter is_whole_part (parts_from count 1 None (ended_lines (take LIMIT input)))))
        ∙ ap up_to_quit (ap (commands_for d) (whole_up_to (parts_from count 1 None (ended_lines (take LIMIT input))))
        ∙ whole_for d (desks.up_to_end (parts_from count 1 None (ended_lines (take LIMIT input))))
        ∙ ap (filter is_whole) (owned_up_to count d (ended_lines (take LIMIT input))))
    by false = sym (cut_for d (parts_from count 1 None (all_lines input))) ∙ ap up_to_quit (owned_up_to count d (all_lines input))

-- ---- its turns

pub commands_are : (d : ℕ) (turns : List desks.Turn) → commands_in (turns_of d turns) ≡ commands_for d (parts_in turns)
commands_are d [] = refl
commands_are d (turn ∷ turns) = by turn.part (commands_are d turns)
  where
    either : (own : Bool) (c : Command) → commands_in (turns_of d turns) ≡ commands_for d (parts_in turns)
        → commands_in ((if own then record { command = c; before = turn.before; reply = turn.reply; after = turn.after } ∷ [] else []) ++ turns_of d turns)
        ≡ (if own then c ∷ commands_for d (parts_in turns) else commands_for d (parts_in turns))
    either true c rest = ap (λ (cs : List Command). c ∷ cs) rest
    either false c rest = rest

    by : (part : Part) → commands_in (turns_of d turns) ≡ commands_for d (parts_in turns) → commands_in (turn_of d part turn ++ turns_of d turns) ≡ commands_for d (part ∷ parts_in turns)
    by (command desk c) rest = either (desk == d) c rest
    by (to desk) rest = rest
    by stray rest = rest

same_of : (a b : ℕ) → (a == b) ≡ true → a ≡ b
same_of a b e = grind (arith, nat_tests)

test_of : (a b : ℕ) → a ≡ b → (a == b) ≡ true
test_of a b e = grind (arith, nat_tests)

pub turns_are : (d : ℕ) (states : ℕ → State) (turns : List desks.Turn) → desks.AreTurns states turns → AreTurns (states d) (turns_of d turns)
turns_are d states [] h = tt
turns_are d states (turn ∷ turns) h = by turn.part h.0 (turns_are d (states_after states turn.part turn.after) turns h.1)
  where
    own : (desk : ℕ) (c : Command) → desk ≡ d → (turn.before ≡ states desk) × IsStep c turn.before turn.reply turn.after → AreTurns turn.after (turns_of d turns)
        → AreTurns (states d) (record { command = c; before = turn.before; reply = turn.reply; after = turn.after } ∷ turns_of d turns)
    own desk c same is rest =
        let here : turn.before ≡ states d = is.0 ∙ ap states same in
        (here, subst (λ (s : State). IsStep c s turn.reply turn.after) here is.1, rest)

    either : (t u : Bool) (desk : ℕ) (c : Command) → (desk == d) ≡ t → (d == desk) ≡ u → (turn.before ≡ states desk) × IsStep c turn.before turn.reply turn.after
        → AreTurns (if u then turn.after else states d) (turns_of d turns)
        → AreTurns (states d) ((if t then record { command = c; before = turn.before; reply = turn.reply; after = turn.after } ∷ [] else []) ++ turns_of d turns)
    either true true desk c e f is rest = own desk c (same_of desk d e) is rest
    either false false desk c e f is rest = rest
    either true false desk c e f is rest = absurd (true≢false (sym (test_of d desk (sym (same_of desk d e))) ∙ f))
    either false true desk c e f is rest = absurd (true≢false (sym (test_of desk d (sym (same_of d desk f))) ∙ e))

    by : (part : Part) → IsTurn states part turn → AreTurns (states_after states part turn.after d) (turns_of d turns) → AreTurns (states d) (turn_of d part turn ++ turns_of d turns)
    by (command desk c) is rest = either (desk == d) (d == desk) desk c refl refl is rest
    by (to desk) is rest = rest
    by stray is rest = rest

pub own_session : (count d : ℕ) (script : List Word) (input : List ℕ) (turns : List desks.Turn) → IsDesks count script input turns
    → IsSessionOf script (is_long input) (own_lines count d (input_lines input)) (turns_of d turns)
own_session count d script input turns is = record {
  steps = turns_are d (λ desk. first_state script) turns is.steps;
  commands = commands_are d turns ∙ ap (commands_for d) is.parts ∙ own_commands count d input;
}
