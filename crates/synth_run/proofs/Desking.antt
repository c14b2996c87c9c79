-- Each input of several desks has one reply, and so has each input.
use Rattle.std.proofs.Common.{◌≡◌, ℕ, List, [], ◌∷◌, ◌++◌, Bool, true, false, refl, sym, ap, subst, ◌∙◌}
use Rattle.std.specs.Prelude.{codes, ◌||◌, ◌==◌, if◌then◌else◌}
use Rattle.script_core.specs.declared.word.Word.{Word}
use Rattle.script_core.specs.Words.{IsScript}
use Rattle.reply_lines.specs.declared.reply.Reply.{Reply}
use Rattle.reply_lines.specs.Lines.{error_reply}
use Rattle.desk_core.specs.State.{Answer, State, answer, first_state}
use Rattle.desk_core.specs.Step.{IsStep}
use Rattle.synth_run.specs.Desks.{AreTurns, IsDesksReply, IsTurn, Part, Turn, command, desk_reply, desks_said, has_error, input_parts, parts_in, passes_limit, states_after, stray, text_in, to}
use Rattle.synth_run.specs.declared.words.Mode.{Mode}
use Rattle.synth_run.specs.declared.words.Mode.TheVariants.{Synth, Session, Generate, Desks}
use Rattle.synth_run.specs.Replies.{IsReply}
use Rattle.synth_run.specs.Said.{Said}
use Rattle.synth_run.specs.Session.{is_long, is_overlong, session_said}
use Rattle.synth_run.proofs.Stepping.{IsGood, first_good, some_step, step_good}
use Rattle.synth_run.proofs.Only.{same_answer, same_input}
use Rattle.synth_run.proofs.Only as only

-- ---- there is a reply

pub good_either : (b : Bool) (after before : State) → IsGood after → IsGood before → IsGood (if b then after else before)
good_either true after before f g = f
good_either false after before f g = g

-- a part has an answer, and each desk is in a state of a session after it
some_turn : (states : ℕ → State) (part : Part) → ((desk : ℕ) → IsGood (states desk))
    → (turn : Turn) × (turn.part ≡ part) × IsTurn states part turn × ((desk : ℕ) → IsGood (states_after states part turn.after desk))
some_turn states (command desk c) good =
    let step = some_step c (states desk) (good desk) in (
      record { part = command desk c; before = states desk; reply = step.0.reply; after = step.0.after },
      refl,
      (refl, step.1),
      λ other. good_either (other == desk) step.0.after (states other) (step_good c (states desk) step.0 (good desk) step.1) (good other),
    )
some_turn states (to desk) good = (record { part = to desk; before = states 0; reply = desk_reply desk; after = states 0 }, refl, refl, good)
some_turn states stray good = (record { part = stray; before = states 0; reply = error_reply (codes "21"); after = states 0 }, refl, refl, good)

some_turns : (parts : List Part) (states : ℕ → State) → ((desk : ℕ) → IsGood (states desk)) → (turns : List Turn) × AreTurns states turns × (parts_in turns ≡ parts)
some_turns [] states good = ([], tt, refl)
some_turns (part ∷ parts) states good =
    let one = some_turn states part good in
    let turn = one.0 in
    let is = one.1 in
    let more = some_turns parts (states_after states part turn.after) one.3 in (
      turn ∷ more.0,
      (subst (λ (p : Part). IsTurn states p turn) (sym is) one.2, subst (λ (p : Part). AreTurns (states_after states p turn.after) more.0) (sym is) more.1),
      ap (λ (p : Part). p ∷ parts_in more.0) is ∙ ap (λ (ps : List Part). part ∷ ps) more.2,
    )

pub some_desks : (count : ℕ) (script : List Word) (input : List ℕ) → IsScript script → (said : Said) × IsDesksReply count script input said
some_desks count script input is =
    let found = some_turns (input_parts count input) (λ desk. first_state script) (λ desk. first_good script is) in
    (desks_said (passes_limit count input) found.0, (found.0, record { steps = found.1; parts = found.2 }, refl))

-- ---- and no other

-- two answers to a part are one reply, and leave the desks in one state
same_turn : (states : ℕ → State) (part : Part) (t u : Turn) → IsTurn states part t → IsTurn states part u
    → (t.reply ≡ u.reply) × ((desk : ℕ) → states_after states part t.after desk ≡ states_after states part u.after desk)
same_turn states (command desk c) t u f g =
    let one : answer t.reply t.after ≡ answer u.reply u.after =
    same_answer c (states desk) (answer t.reply t.after) (answer u.reply u.after) (subst (λ (s : State). IsStep c s t.reply t.after) f.0 f.1) (subst (λ (s : State). IsStep c s u.reply u.after) g.0 g.1) in
    (ap (λ (a : Answer). a.reply) one, λ other. ap (λ (a : Answer). if other == desk then a.after else states other) one)
same_turn states (to desk) t u f g = (f ∙ sym g, λ other. refl)
same_turn states stray t u f g = (f ∙ sym g, λ other. refl)

-- a part is answered so by desks that are in the same states
moved : (old new : ℕ → State) → ((desk : ℕ) → old desk ≡ new desk) → (part : Part) (turn : Turn) → IsTurn old part turn → IsTurn new part turn
moved old new same (command desk c) turn f = (f.0 ∙ same desk, f.1)
moved old new same (to desk) turn f = f
moved old new same stray turn f = f

still : (old new : ℕ → State) → ((desk : ℕ) → old desk ≡ new desk) → (part : Part) (after : State) (desk : ℕ) → states_after old part after desk ≡ states_after new part after desk
still old new same (command at c) after desk = ap (λ (s : State). if desk == at then after else s) (same desk)
still old new same (to at) after desk = same desk
still old new same stray after desk = same desk

all_moved : (turns : List Turn) (old new : ℕ → State) → ((desk : ℕ) → old desk ≡ new desk) → AreTurns old turns → AreTurns new turns
all_moved [] old new same h = tt
all_moved (turn ∷ turns) old new same h =
    (moved old new same turn.part turn h.0, all_moved turns (states_after old turn.part turn.after) (states_after new turn.part turn.after) (still old new same turn.part turn.after) h.1)

-- the replies of turns
record SameReplies (ts us : List Turn) : Type 0 where
  text : text_in ts ≡ text_in us
  error : has_error ts ≡ has_error us

same_turns : (states : ℕ → State) (ts us : List Turn) → AreTurns states ts → AreTurns states us → parts_in ts ≡ parts_in us → SameReplies ts us
same_turns states [] [] f g e = record { text = refl; error = refl }
same_turns states [] (u ∷ us) f g e = absurd cc
same_turns states (t ∷ ts) [] f g e = absurd cc
same_turns states (t ∷ ts) (u ∷ us) f g e =
    let part : t.part ≡ u.part = cc in
    let rest : parts_in ts ≡ parts_in us = cc in
    let one = same_turn states u.part t u (subst (λ (p : Part). IsTurn states p t) part f.0) g.0 in
    let others = same_turns (states_after states u.part u.after) ts us (all_moved ts (states_after states u.part t.after) (states_after states u.part u.after) one.1 (subst (λ (p : Part). AreTurns (states_after states p t.after) ts) part f.1)) g.1 rest in
    record {
      text = ap (λ (r : Reply). r.text ++ text_in ts) one.0 ∙ ap (λ (l : List ℕ). u.reply.text ++ l) others.text;
      error = ap (λ (r : Reply). r.error || has_error ts) one.0 ∙ ap (λ (b : Bool). u.reply.error || b) others.error;
    }

said_same : (over : Bool) (ts us : List Turn) → SameReplies ts us → desks_said over ts ≡ desks_said over us
said_same false ts us h = λ i. record { text = h.text i; error = h.error i }
said_same true ts us h = ap (λ (l : List ℕ). record (desks_said true us) { text = l ++ (desks_said true []).text }) h.text

pub same_desks : (count : ℕ) (script : List Word) (input : List ℕ) (said other : Said) → IsDesksReply count script input said → IsDesksReply count script input other → said ≡ other
same_desks count script input said other (ts, f, is) (us, g, is') =
    is ∙ said_same (passes_limit count input) ts us (same_turns (λ desk. first_state script) ts us f.steps g.steps (f.parts ∙ sym g.parts)) ∙ sym is'

pub same_reply : (mode : Mode) (script : List Word) (input : List ℕ) (said other : Said) → IsReply mode script input said → IsReply mode script input other → said ≡ other
same_reply Synth script input said other f g = same_input (is_long input) script input said other f g
same_reply Session script input said other (ts, f, is) (us, g, is') =
    is ∙ ap (session_said (is_overlong input)) (only.same_turns (first_state script) ts us f.steps g.steps (f.commands ∙ sym g.commands)) ∙ sym is'
same_reply (Generate count) script input said other f g = f ∙ sym g
same_reply (Desks count) script input said other f g = same_desks count script input said other f g
