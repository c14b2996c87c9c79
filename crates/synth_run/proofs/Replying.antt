-- What a session wrote is its reply, or a front of it.
use Rattle.std.proofs.Common.{◌≡◌, ◌⊎◌, inl, inr, ℕ, List, [], ◌++◌, Bool, true, false, Option, Some, None, length, min, take, refl, sym, ap, subst, ◌∙◌, append_assoc, append-nil, arith}
use Rattle.std.specs.Prelude.{IfSome}
use Rattle.std.specs.Io.KnownBytes.{Appends, Consumes}
use Rattle.std.proofs.lemmas.List.{take-append-le, take_min}
use Rattle.std.proofs.Math.Seq.{take-length}
use Rattle.rtl_ir.specs.declared.module.Design.{Design}
use Rattle.rtl_read.specs.declared.read_fault.ReadFault.{ReadFault}
use Rattle.rtl_read.specs.Reads.{Reads, IsFirstFault}
use Rattle.rtl_read.proofs.Unique.{some_answer}
use Rattle.script_core.specs.declared.word.Word.{Word}
use Rattle.script_core.specs.Words.{IsScript}
use Rattle.desk_read.specs.declared.command.Command.{Command}
use Rattle.desk_core.specs.State.{State, first_state}
use Rattle.reply_lines.specs.Lines.{error_reply, read_words}
use Rattle.synth_run.specs.declared.words.Mode.{Mode}
use Rattle.synth_run.specs.declared.words.Mode.TheVariants.{Synth, Session, Generate, Desks}
use Rattle.synth_run.specs.declared.session.Stop.{Stop}
use Rattle.synth_run.specs.declared.session.Stop.TheVariants as halts
use Rattle.synth_run.specs.Builds.{CountsTurns}
use Rattle.synth_run.specs.Generated.{generated_said}
use Rattle.synth_run.specs.Replies.{AnswersTaken, HasAnswered, HasBegun, IsPrintedSession, IsReadThrough, IsReply}
use Rattle.synth_run.specs.Said.{Said, said_of, too_long}
use Rattle.synth_run.specs.Session.{AreTurns, IsSession, Turn, commands_in, input_commands, is_long, is_overlong, session_said, state_after, text_in}
use Rattle.synth_run.specs.Synth.{IsInputReply, IsSynthReply, IsTextReply, design_said}
use Rattle.synth_run.specs.Taking.{BeginWith, Broken, Held, IsCut, SpeaksFor}
use Rattle.synth_run.proofs.Desking.{some_desks}
use Rattle.synth_run.proofs.Printing.{turns_print}
use Rattle.synth_run.proofs.Speaking.{appends_nothing, commands_both, text_both, turns_both}
use Rattle.synth_run.proofs.Stepping.{first_good, some_turns, turns_good}

-- ---- each input has a reply

text_said : (script : List Word) (text : List ℕ) → ((design : Design) × Reads text design) ⊎ ((fault : ReadFault) × IsFirstFault text fault) → (said : Said) × IsTextReply script text said
text_said script text (inl (design, reads)) = (design_said script design, inl (design, reads, refl))
text_said script text (inr (fault, first)) = (said_of (error_reply (read_words fault)), inr (fault, first, refl))

input_said : (long : Bool) (script : List Word) (input : List ℕ) → (said : Said) × IsInputReply long script input said
input_said true script input = (too_long, refl)
input_said false script input = text_said script input (some_answer input)

pub synth_said : (script : List Word) (input : List ℕ) → (said : Said) × IsSynthReply script input said
synth_said script input = input_said (is_long input) script input

pub session_turns : (script : List Word) (input : List ℕ) → IsScript script → (turns : List Turn) × IsSession script input turns
session_turns script input is =
    let found = some_turns (input_commands input) (first_state script) (first_good script is) in
    (found.0, record { steps = found.1; commands = found.2 })

pub some_reply : (mode : Mode) (script : List Word) (input : List ℕ) → IsScript script → (said : Said) × IsReply mode script input said
some_reply Synth script input is = synth_said script input
some_reply Session script input is =
    let found = session_turns script input is in
    (session_said (is_overlong input) found.0, (found.0, found.1, refl))
some_reply (Generate count) script input is = (generated_said script count, refl)
some_reply (Desks count) script input is = some_desks count script input is

-- nothing is a front of the reply
front_of : (mode : Mode) (script : List Word) (input : List ℕ) (had : Option (List ℕ)) → IsScript script
    → (said : Said) × IsReply mode script input said × ((n : ℕ) × Appends had had (take n said.text))
front_of mode script input had is =
    let found = some_reply mode script input is in
    (found.0, found.1, (0, appends_nothing had))

pub begun_none : (mode : Mode) (script : List Word) (before had : Option (List ℕ)) → IsScript script → HasBegun mode script before had had
begun_none Synth script None had is = tt
begun_none Session script None had is = tt
begun_none (Desks count) script None had is = tt
begun_none Synth script (Some input) had is = front_of Synth script input had is
begun_none Session script (Some input) had is = front_of Session script input had is
begun_none (Desks count) script (Some input) had is = front_of (Desks count) script input had is
begun_none (Generate count) script before had is = front_of (Generate count) script [] had is

-- ---- a session to its end

pub left_of : (input bytes : List ℕ) (rest : Option (List ℕ)) → Consumes (Some input) rest bytes → (more : List ℕ) × (rest ≡ Some more) × (input ≡ bytes ++ more)
left_of input bytes None taken = absurd taken
left_of input bytes (Some more) taken = (more, refl, taken)

speaks_input : (script : List Word) (input bytes : List ℕ) (rest : Option (List ℕ)) (turns : List Turn) (over : Bool) → Consumes (Some input) rest bytes → AreTurns (first_state script) turns
    → SpeaksFor bytes rest turns over → IsSession script input turns × (is_overlong input ≡ over)
speaks_input script input bytes rest turns over taken steps speaks =
    let left = left_of input bytes rest taken in
    let is = speaks left.0 left.1 in (
      record { steps = steps; commands = is.0 ∙ sym (ap input_commands left.2) },
      ap is_overlong left.2 ∙ is.1,
    )

pub held_answered : (script : List Word) (refused : Bool) (left rest had has : Option (List ℕ)) (m n : ℕ) → Held (first_state script) refused left rest had has m n
    → HasAnswered Session script refused left had has
held_answered script refused None rest had has m n h = tt
held_answered script refused (Some input) rest had has m n h =
    let is = speaks_input script input h.bytes rest h.turns h.over h.taken h.steps h.session in (
      session_said h.over h.turns,
      (h.turns, is.0, ap (λ (t : Bool). session_said t h.turns) (sym is.1)),
      h.written,
      h.error,
    )

pub held_through : (desk : State) (refused : Bool) (left rest had has : Option (List ℕ)) (m n : ℕ) → Held desk refused left rest had has m n → IsReadThrough Session left rest
held_through desk refused left rest had has m n h = record { bytes = h.bytes; taken = h.taken; through = h.through }

pub held_prints : (script : List Word) (refused : Bool) (left rest had has : Option (List ℕ)) (m n : ℕ) → IsScript script → Held (first_state script) refused left rest had has m n
    → IfSome left (λ input. IsPrintedSession script input had has)
held_prints script refused None rest had has m n good h = tt
held_prints script refused (Some input) rest had has m n good h =
    let is = speaks_input script input h.bytes rest h.turns h.over h.taken h.steps h.session in
    record {
      turns = h.turns;
      session = is.0;
      written = subst (λ (t : Bool). Appends had has (session_said t h.turns).text) (sym is.1) h.written;
      netlists = turns_print (first_state script) h.turns (first_good script good) h.steps;
    }

-- the commands of a session that was held to its end are those of its input
speaks_begins : (script : List Word) (bytes : List ℕ) (left rest : Option (List ℕ)) (turns : List Turn) (over : Bool) → Consumes left rest bytes → AreTurns (first_state script) turns
    → SpeaksFor bytes rest turns over → IfSome left (λ input. BeginWith (input_commands input) turns)
speaks_begins script bytes None rest turns over taken steps speaks = tt
speaks_begins script bytes (Some input) rest turns over taken steps speaks =
    let is = speaks_input script input bytes rest turns over taken steps speaks in
    ([], sym is.0.commands ∙ sym (append-nil (commands_in turns)))

pub held_counted : (script : List Word) (refused : Bool) (left rest had has : Option (List ℕ)) (m n : ℕ) → Held (first_state script) refused left rest had has m n
    → (failed : Type 0) → (failed → ⊥) → (bytes : List ℕ) × Consumes left rest bytes × CountsTurns script failed left bytes m n
held_counted script refused left rest had has m n h failed never = (
  h.bytes,
  h.taken,
  record {
    turns = h.turns;
    steps = h.steps;
    taken = h.first;
    told = speaks_begins script h.bytes left rest h.turns h.over h.taken h.steps h.session;
    ended = λ f. absurd (never f);
    builds = h.builds;
  },
)

-- ---- a session that broke off

front_said : (over : Bool) (a b : List Turn) (had has : Option (List ℕ)) (size : ℕ) → Appends had has (take size (text_in a)) → (n : ℕ) × Appends had has (take n (session_said over (a ++ b)).text)
front_said over a b had has size written =
    let n = min size (length (text_in a)) in
    (n, subst (Appends had has) (sym (cut over)) written)
  where
    short : (tail : List ℕ) → take (min size (length (text_in a))) (text_in a ++ tail) ≡ take size (text_in a)
    short tail = take-append-le (min size (length (text_in a))) (text_in a) tail (omega arith) ∙ take_min size (text_in a)

    cut : (t : Bool) → take (min size (length (text_in a))) (session_said t (a ++ b)).text ≡ take size (text_in a)
    cut false = ap (take (min size (length (text_in a)))) (text_both a b) ∙ short (text_in b)
    cut true = ap (λ (l : List ℕ). take (min size (length (text_in a))) (l ++ too_long.text)) (text_both a b) ∙ ap (take (min size (length (text_in a)))) (append_assoc (text_in a) (text_in b) too_long.text) ∙ short (text_in b ++ too_long.text)

cut_begun : (script : List Word) (input bytes : List ℕ) (rest had has : Option (List ℕ)) (turns : List Turn) → IsScript script → Consumes (Some input) rest bytes → AreTurns (first_state script) turns
    → IsCut bytes rest turns had has → (said : Said) × IsReply Session script input said × ((n : ℕ) × Appends had has (take n said.text))
cut_begun script input bytes rest had has turns good taken steps (inl (begins, (size, written))) =
    let left = left_of input bytes rest taken in
    let first = begins left.0 left.1 in
    let more = some_turns first.0 (state_after (first_state script) turns) (turns_good (first_state script) turns (first_good script good) steps) in
    let all = turns ++ more.0 in
    let session : IsSession script input all = record {
      steps = turns_both (first_state script) turns more.0 steps more.1;
      commands =
          commands_both turns more.0 ∙ ap (λ (cs : List Command). commands_in turns ++ cs) more.2 ∙ sym first.1 ∙ sym (ap input_commands left.2);
    } in (
      session_said (is_overlong input) all,
      (all, session, refl),
      front_said (is_overlong input) turns more.0 had has size written,
    )
cut_begun script input bytes rest had has turns good taken steps (inr (speaks, (size, written))) =
    let is = speaks_input script input bytes rest turns true taken steps speaks in (
      session_said true turns,
      (turns, is.0, ap (λ (t : Bool). session_said t turns) (sym is.1)),
      (size, written),
    )

-- the commands of a session that broke off are the first of its input
cut_begins : (script : List Word) (bytes : List ℕ) (left rest had has : Option (List ℕ)) (turns : List Turn) → Consumes left rest bytes → AreTurns (first_state script) turns
    → IsCut bytes rest turns had has → IfSome left (λ input. BeginWith (input_commands input) turns)
cut_begins script bytes None rest had has turns taken steps cut = tt
cut_begins script bytes (Some input) rest had has turns taken steps (inl (begins, written)) =
    let left = left_of input bytes rest taken in
    subst (λ (l : List ℕ). BeginWith (input_commands l) turns) (sym left.2) (begins left.0 left.1)
cut_begins script bytes (Some input) rest had has turns taken steps (inr (speaks, written)) =
    speaks_begins script bytes (Some input) rest turns true taken steps speaks

pub broken_begun : (script : List Word) (stop : Stop) (left rest had has : Option (List ℕ)) (m n : ℕ) → IsScript script → Broken (first_state script) stop left rest had has m n
    → HasBegun Session script left had has
broken_begun script stop None rest had has m n good b = tt
broken_begun script stop (Some input) rest had has m n good b = cut_begun script input b.bytes rest had has b.turns good b.taken b.steps b.cut

pub held_begins : (said : Said) (had has : Option (List ℕ)) → Appends had has said.text → (n : ℕ) × Appends had has (take n said.text)
held_begins said had has written = (length said.text, subst (Appends had has) (sym (take-length said.text)) written)

pub broken_answers : (script : List Word) (left rest had has : Option (List ℕ)) (m n : ℕ) → Broken (first_state script) halts.Source left rest had has m n → AnswersTaken script left rest had has
broken_answers script left rest had has m n b =
    let is = b.answered refl in
    record { bytes = b.bytes; turns = b.turns; taken = b.taken; steps = b.steps; commands = is.0; written = is.1 }

pub broken_counted : (script : List Word) (stop : Stop) (left rest had has : Option (List ℕ)) (m n : ℕ) → (stop ≡ halts.Memory → ⊥) → Broken (first_state script) stop left rest had has m n
    → (failed : Type 0) → (failed → stop ≡ halts.Source) → (bytes : List ℕ) × Consumes left rest bytes × CountsTurns script failed left bytes m n
broken_counted script stop left rest had has m n other b failed is = (
  b.bytes,
  b.taken,
  record {
    turns = b.turns;
    steps = b.steps;
    taken = b.first;
    told = cut_begins script b.bytes left rest had has b.turns b.taken b.steps b.cut;
    ended = λ f. (b.answered (is f)).0;
    builds = b.builds other;
  },
)
