-- Where no line speaks of desks, the first desk has the session of the input.
use Rattle.std.proofs.Common.{◌≡◌, ℕ, List, [], ◌∷◌, ◌++◌, Bool, true, false, Option, Some, None, map, take, refl, sym, ap, subst, ◌∙◌, true≢false}
use Rattle.std.specs.Prelude.{◌&&◌, ◌||◌, filter, not, option_to_list, if◌then◌else◌}
use Rattle.std.specs.Option.{is_some}
use Rattle.std.specs.List.{list_all, list_any}
use Rattle.std.proofs.lemmas.List.{map-append}
use Rattle.synth_io.specs.declared.input.TheConstants.{LIMIT}
use Rattle.desk_read.specs.declared.command.Command.{Command}
use Rattle.desk_read.specs.Commands.{commands_of}
use Rattle.desk_read.specs.Taking.{OpenBlock, answer_to, block_after, commands_from}
use Rattle.script_core.specs.declared.word.Word.{Word}
use Rattle.desk_core.specs.State.{State, first_state}
use Rattle.desk_core.specs.Step.{IsStep}
use Rattle.synth_run.specs.Desks as desks
use Rattle.synth_run.specs.Desks.{Aim, IsDesks, IsDesksReply, Part, aim_in, at, command, desks_said, ended_parts, ends_input, input_parts, is_whole_part, none, part_of, parts_by, parts_from, parts_in, passes_limit, unclosed}
use Rattle.synth_run.specs.Lines.{all_lines, ended_lines}
use Rattle.synth_run.specs.Routes.{commands_for}
use Rattle.synth_run.specs.Said.{Said, too_long}
use Rattle.synth_run.specs.Session.{AreTurns, IsSessionReply, Turn, all_commands, commands_in, ended_commands, has_error, input_commands, is_long, is_overlong, is_quit, is_whole, session_said, text_in, up_to_quit}
use Rattle.session_laws.specs.Own.{IsWithoutDesks, is_inside, is_told, placed, speaks_of_desks}
use Rattle.session_laws.specs.Sessions.{input_lines, turn_of, turns_of}
use Rattle.session_laws.proofs.Desks.{commands_are, turns_are}
use Rattle.session_laws.proofs.Lines.{inside_after, said_is, takes}

-- commands of the first desk
abbrev first_parts : List Command → List Part
first_parts = map (command 1)

-- ---- the parts

open_end : (block : Option OpenBlock) → part_of 1 (unclosed block) ≡ first_parts (commands_from block [])
open_end None = refl
open_end (Some block) = refl

answered : (o : Option Command) → part_of 1 o ≡ first_parts (option_to_list o)
answered None = refl
answered (Some c) = refl

both_true : (a b : Bool) → (a && b) ≡ true → (a ≡ true) × (b ≡ true)
both_true true b h = (refl, h)
both_true false b h = absurd (true≢false (sym h))

pub plain : (count : ℕ) (block : Option OpenBlock) (before lines : List (List ℕ)) → is_inside before ≡ is_some block
    → list_all (λ line. not (speaks_of_desks count line)) (placed before lines) ≡ true → parts_from count 1 block lines ≡ first_parts (commands_from block lines)
plain count block before [] e silent = open_end block
plain count block before (line ∷ lines) e silent = by (aim_in count block line) refl (λ inner f g. plain count inner (line ∷ before) lines f g)
  where
    here : (not (speaks_of_desks count (record { text = line; before = before })) ≡ true)
        × (list_all (λ line. not (speaks_of_desks count line)) (placed (line ∷ before) lines) ≡ true)
    here =
        both_true (not (speaks_of_desks count (record { text = line; before = before }))) (list_all (λ line. not (speaks_of_desks count line)) (placed (line ∷ before) lines)) silent

    by : (aim : Aim) → aim_in count block line ≡ aim
        → ((inner : Option OpenBlock) → is_inside (line ∷ before) ≡ is_some inner → list_all (λ line. not (speaks_of_desks count line)) (placed (line ∷ before) lines) ≡ true
        → parts_from count 1 inner lines ≡ first_parts (commands_from inner lines))
        → parts_by 1 block line (aim_in count block line) (λ next inner. parts_from count next inner lines) ≡ first_parts (commands_from block (line ∷ lines))
    by none aim rest =
        ap (λ (a : Aim). parts_by 1 block line a (λ next inner. parts_from count next inner lines)) aim
        ∙ ap (λ (ps : List Part). part_of 1 (answer_to block line) ++ ps)
        (rest (block_after block line) (inside_after block line before e) here.1)
        ∙ ap (λ (ps : List Part). ps ++ first_parts (commands_from (block_after block line) lines)) (answered (answer_to block line))
        ∙ sym (map-append (command 1) (option_to_list (answer_to block line)) (commands_from (block_after block line) lines))
        ∙ ap first_parts (sym (takes block line lines))
    by (at other) aim rest =
        absurd (true≢false (sym here.0 ∙ ap (λ (a : Aim). not (is_told a)) (said_is count block line before e ∙ aim)))

first_whole : (cs : List Command) → filter is_whole_part (first_parts cs) ≡ first_parts (filter is_whole cs)
first_whole [] = refl
first_whole (c ∷ cs) = by (is_whole c) (first_whole cs)
  where
    by : (t : Bool) → filter is_whole_part (first_parts cs) ≡ first_parts (filter is_whole cs)
        → (if t then command 1 c ∷ filter is_whole_part (first_parts cs) else filter is_whole_part (first_parts cs)) ≡ first_parts (if t then c ∷ filter is_whole cs else filter is_whole cs)
    by true rest = ap (λ (ps : List Part). command 1 c ∷ ps) rest
    by false rest = rest

first_cut : (cs : List Command) → desks.up_to_end (first_parts cs) ≡ first_parts (up_to_quit cs)
first_cut [] = refl
first_cut (c ∷ cs) = ap (λ (ps : List Part). command 1 c ∷ ps) (by (is_quit c) (first_cut cs))
  where
    by : (t : Bool) → desks.up_to_end (first_parts cs) ≡ first_parts (up_to_quit cs) → (if t then [] else desks.up_to_end (first_parts cs)) ≡ first_parts (if t then [] else up_to_quit cs)
    by true rest = refl
    by false rest = rest

first_ends : (cs : List Command) → list_any ends_input (first_parts cs) ≡ list_any is_quit cs
first_ends [] = refl
first_ends (c ∷ cs) = ap (λ (t : Bool). is_quit c || t) (first_ends cs)

module _ (count : ℕ) (input : List ℕ) (silent : IsWithoutDesks count (input_lines input)) where
  parts_are : input_parts count input ≡ first_parts (input_commands input)
  parts_are = by (is_long input) silent ∙ first_cut (if is_long input then ended_commands (take LIMIT input) else all_commands input)
    where
      by : (long : Bool) → IsWithoutDesks count (if long then ended_lines (take LIMIT input) else all_lines input)
          → desks.up_to_end (if long then ended_parts count (take LIMIT input) else parts_from count 1 None (all_lines input))
          ≡ desks.up_to_end (first_parts (if long then ended_commands (take LIMIT input) else all_commands input))
      by true silent =
          ap (λ (ps : List Part). desks.up_to_end (filter is_whole_part ps)) (plain count None [] (ended_lines (take LIMIT input)) refl silent)
          ∙ ap desks.up_to_end (first_whole (commands_of (ended_lines (take LIMIT input))))
      by false silent = ap desks.up_to_end (plain count None [] (all_lines input) refl silent)

  over_is : passes_limit count input ≡ is_overlong input
  over_is = ap (λ (ps : List Part). is_long input && not (list_any ends_input ps)) parts_are ∙ ap (λ (t : Bool). is_long input && not t) (first_ends (input_commands input))

-- ---- the turns

-- turns of a session, as turns of the first desk
abbrev first_turn : Turn → desks.Turn
first_turn turn = record { part = command 1 turn.command; before = turn.before; reply = turn.reply; after = turn.after }

abbrev first_turns : List Turn → List desks.Turn
first_turns = map first_turn

first_steps : (states : ℕ → State) (s : State) (turns : List Turn) → states 1 ≡ s → AreTurns s turns → desks.AreTurns states (first_turns turns)
first_steps states s [] e h = tt
first_steps states s (turn ∷ turns) e h = (
  (h.0 ∙ sym e, subst (λ (t : State). IsStep turn.command t turn.reply turn.after) (sym h.0) h.1),
  first_steps (desks.states_after states (command 1 turn.command) turn.after) turn.after turns refl h.2,
)

first_commands : (turns : List Turn) → parts_in (first_turns turns) ≡ first_parts (commands_in turns)
first_commands [] = refl
first_commands (turn ∷ turns) = ap (λ (ps : List Part). command 1 turn.command ∷ ps) (first_commands turns)

first_text : (turns : List Turn) → desks.text_in (first_turns turns) ≡ text_in turns
first_text [] = refl
first_text (turn ∷ turns) = ap (λ (l : List ℕ). turn.reply.text ++ l) (first_text turns)

first_error : (turns : List Turn) → desks.has_error (first_turns turns) ≡ has_error turns
first_error [] = refl
first_error (turn ∷ turns) = ap (λ (t : Bool). turn.reply.error || t) (first_error turns)

-- turns of the first desk, as those of a session
own_commands : (cs : List Command) → commands_for 1 (first_parts cs) ≡ cs
own_commands [] = refl
own_commands (c ∷ cs) = ap (λ (l : List Command). c ∷ l) (own_commands cs)

record SameReplies (all : List desks.Turn) (turns : List Turn) : Type 0 where
  text : desks.text_in all ≡ text_in turns
  error : desks.has_error all ≡ has_error turns

own_replies : (turns : List desks.Turn) (cs : List Command) → parts_in turns ≡ first_parts cs → SameReplies turns (turns_of 1 turns)
own_replies [] cs e = record { text = refl; error = refl }
own_replies (turn ∷ turns) [] e = absurd cc
own_replies (turn ∷ turns) (c ∷ cs) e =
    let part : turn.part ≡ command 1 c = cc in
    let rest : parts_in turns ≡ first_parts cs = cc in
    let more = own_replies turns cs rest in
    subst (λ (p : Part). SameReplies (turn ∷ turns) (turn_of 1 p turn ++ turns_of 1 turns)) (sym part)
    (record {
      text = ap (λ (l : List ℕ). turn.reply.text ++ l) more.text;
      error = ap (λ (t : Bool). turn.reply.error || t) more.error;
    })

said_same : (over : Bool) (all : List desks.Turn) (turns : List Turn) → SameReplies all turns → desks_said over all ≡ session_said over turns
said_same false all turns h = λ i. record { text = h.text i; error = h.error i }
said_same true all turns h = ap (λ (l : List ℕ). record { text = l ++ too_long.text; error = true }) h.text

-- ---- the reply

pub as_session : (count : ℕ) (script : List Word) (input : List ℕ) (said : Said) → IsWithoutDesks count (input_lines input) → IsDesksReply count script input said
    → IsSessionReply script input said
as_session count script input said silent (turns, is, e) =
    let parts : parts_in turns ≡ first_parts (input_commands input) = is.parts ∙ parts_are count input silent in (
      turns_of 1 turns,
      record {
        steps = turns_are 1 (λ desk. first_state script) turns is.steps;
        commands = commands_are 1 turns ∙ ap (commands_for 1) parts ∙ own_commands (input_commands input);
      },
      e ∙ ap (λ (t : Bool). desks_said t turns) (over_is count input silent)
          ∙ said_same (is_overlong input) turns (turns_of 1 turns) (own_replies turns (input_commands input) parts),
    )

pub as_desks : (count : ℕ) (script : List Word) (input : List ℕ) (said : Said) → IsWithoutDesks count (input_lines input) → IsSessionReply script input said
    → IsDesksReply count script input said
as_desks count script input said silent (turns, is, e) = (
  first_turns turns,
  record {
    steps = first_steps (λ desk. first_state script) (first_state script) turns refl is.steps;
    parts = first_commands turns ∙ ap first_parts is.commands ∙ sym (parts_are count input silent);
  },
  e ∙ ap (λ (t : Bool). session_said t turns) (sym (over_is count input silent))
      ∙ sym (said_same (passes_limit count input) (first_turns turns) turns (record { text = first_text turns; error = first_error turns })),
)
