-- What a call with several desks wrote is its reply, or a front of it.
use Rattle.std.proofs.Common.{◌≡◌, ℕ, ◌+◌, List, [], ◌∷◌, ◌++◌, Bool, true, false, Option, Some, None, Result, Ok, Err, length, min, take, refl, sym, ap, subst, ◌∙◌, arith}
use Rattle.std.specs.Prelude.{IfOk, IfSome}
use Rattle.std.specs.List.{AllZip}
use Rattle.std.specs.Io.KnownBytes.{Appends, Consumes}
use Rattle.std.proofs.KnownBytes.{Appends-trans}
use Rattle.std.proofs.lemmas.List.{take-append-le, take_min}
use Rattle.many_desks.specs.Replies.{Replies}
use Rattle.script_core.specs.declared.word.Word.{Word}
use Rattle.script_core.specs.Words.{IsScript}
use Rattle.reply_lines.specs.declared.reply.Reply.{Reply}
use Rattle.desk_core.specs.State.{State, answer, first_state}
use Rattle.desk_core.specs.Step.{IsStep}
use Rattle.synth_run.specs.Desks.{AreTurns, CountsDesks, IsDesks, IsDesksReply, IsTurn, Part, PrintParts, PrintsPart, Turn, command, desks_said, has_error, input_parts, passes_limit, states_after, stray, text_in, to}
use Rattle.synth_run.specs.Refined.{PrintsNetlist}
use Rattle.synth_run.specs.Replies.{HasAnswered, HasBegun, IsPrintedDesks, IsReadThrough, IsReply}
use Rattle.synth_run.specs.Routes.{CountsParts, Holds, IsRouted, IsRouter, any_error, bytes_of, replies_to}
use Rattle.synth_run.specs.Said.{Said, too_long}
use Rattle.synth_run.specs.declared.routes.Router.{Router}
use Rattle.synth_run.specs.declared.routes.Tag.{Tag}
use Rattle.synth_run.specs.declared.session.Stop.{Stop}
use Rattle.synth_run.specs.declared.words.Mode.TheVariants.{Desks}
use Rattle.synth_run.proofs.Answering.{AreAnswered, all_asked, error_is, keys_at, router_answered, text_is}
use Rattle.synth_run.proofs.Desking.{good_either}
use Rattle.synth_run.proofs.Printing.{turn_prints}
use Rattle.synth_run.proofs.Replying.{left_of}
use Rattle.synth_run.proofs.Speaking.{take_both}
use Rattle.synth_run.proofs.Stepping.{IsGood, first_good, step_good}

-- ---- netlists that are printed

part_prints : (states : ℕ → State) (part : Part) (turn : Turn) → ((desk : ℕ) → IsGood (states desk)) → IsTurn states part turn → PrintsPart part turn.before turn.reply
part_prints states (command desk c) turn good is =
    subst (λ (s : State). PrintsNetlist c s turn.reply) (sym is.0)
    (turn_prints c (states desk) turn.after turn.reply (good desk) (subst (λ (s : State). IsStep c s turn.reply turn.after) is.0 is.1))
part_prints states (to desk) turn good is = tt
part_prints states stray turn good is = tt

part_good : (states : ℕ → State) (part : Part) (turn : Turn) → ((desk : ℕ) → IsGood (states desk)) → IsTurn states part turn → (desk : ℕ) → IsGood (states_after states part turn.after desk)
part_good states (command d c) turn good is desk =
    good_either _ turn.after (states desk)
    (step_good c (states d) (answer turn.reply turn.after) (good d) (subst (λ (s : State). IsStep c s turn.reply turn.after) is.0 is.1)) (good desk)
part_good states (to d) turn good is desk = good desk
part_good states stray turn good is desk = good desk

parts_print : (states : ℕ → State) (turns : List Turn) → ((desk : ℕ) → IsGood (states desk)) → AreTurns states turns → PrintParts turns
parts_print states [] good h = tt
parts_print states (turn ∷ turns) good h = (
  part_prints states turn.part turn good h.0,
  parts_print (states_after states turn.part turn.after) turns (part_good states turn.part turn good h.0) h.1,
)

-- ---- how many desks answered

pub zip_count : {X Y : Type 0} (R : X → Y → Type 0) (xs : List X) (ys : List Y) → AllZip R xs ys → length ys ≡ length xs
zip_count R [] [] h = refl
zip_count R (x ∷ xs) (y ∷ ys) h = let more = zip_count R xs ys h.1 in omega (arith, more)
zip_count R [] (y ∷ ys) h = absurd h
zip_count R (x ∷ xs) [] h = absurd h

-- ---- the replies

module _ (script : List Word) (router : Router) (parts : List Part) (answers : List (List Reply)) (is : IsRouter router) (holds : Holds parts router)
    (zip : AllZip (Replies IsStep (first_state script)) router.lists.items answers) where
  answered : AreAnswered (length router.lists.items) (λ desk. first_state script) parts answers (keys_at (all_asked (first_state script) router.lists.items answers zip).0)
  answered =
      let asked = all_asked (first_state script) router.lists.items answers zip in
      router_answered script router parts answers asked.0 is holds asked.1

  abbrev turns : List Turn
  turns = answered.turns

  text_turns : text_in turns ≡ bytes_of (replies_to router.parts.items answers)
  text_turns = text_is turns ∙ ap bytes_of (answered.replies ∙ ap (λ (tags : List Tag). replies_to tags answers) (sym holds.tags))

  errors_turns : has_error turns ≡ any_error (replies_to router.parts.items answers)
  errors_turns = error_is turns ∙ ap any_error (answered.replies ∙ ap (λ (tags : List Tag). replies_to tags answers) (sym holds.tags))

  module _ (count : ℕ) (past : Bool) (left rest : Option (List ℕ)) (routed : IsRouted count past parts left rest) where
    desks_are : (input : List ℕ) → left ≡ Some input → IsDesks count script input turns × (passes_limit count input ≡ past)
    desks_are input e =
        let left_is = left_of input routed.bytes rest (subst (λ (o : Option (List ℕ)). Consumes o rest routed.bytes) e routed.taken) in
        let parts_are = routed.parts_are left_is.0 left_is.1 in (
          record { steps = answered.steps; parts = answered.parts_are ∙ parts_are.0 ∙ sym (ap (input_parts count) left_is.2) },
          ap (passes_limit count) left_is.2 ∙ parts_are.1,
        )

    desks_reply : (input : List ℕ) → left ≡ Some input → IsDesksReply count script input (desks_said past turns)
    desks_reply input e =
        let here = desks_are input e in
        (turns, here.0, ap (λ (t : Bool). desks_said t turns) (sym here.1))

    -- the whole reply was written
    said_all : (had has : Option (List ℕ)) (error : Bool) → Appends had has (desks_said past turns).text → (desks_said past turns).error ≡ error
        → HasAnswered (Desks count) script error left had has
    said_all had has error written refused = by left refl
      where
        by : (o : Option (List ℕ)) → left ≡ o → IfSome o (λ input. (said : Said) × IsReply (Desks count) script input said × Appends had has said.text × (said.error ≡ error))
        by None e = tt
        by (Some input) e = (desks_said past turns, desks_reply input e, written, refused)

    -- a front of it was written
    said_front : (had has : Option (List ℕ)) → (n : ℕ) × Appends had has (take n (desks_said past turns).text) → HasBegun (Desks count) script left had has
    said_front had has front = by left refl
      where
        by : (o : Option (List ℕ)) → left ≡ o → IfSome o (λ input. (said : Said) × IsReply (Desks count) script input said × ((n : ℕ) × Appends had has (take n said.text)))
        by None e = tt
        by (Some input) e = (desks_said past turns, desks_reply input e, front)

    -- each netlist that was printed in it
    said_prints : (had has : Option (List ℕ)) → IsScript script → Appends had has (desks_said past turns).text
        → IfSome left (λ input. IsPrintedDesks count script input had has)
    said_prints had has good written = by left refl
      where
        by : (o : Option (List ℕ)) → left ≡ o → IfSome o (λ input. IsPrintedDesks count script input had has)
        by None e = tt
        by (Some input) e =
            let here = desks_are input e in
            record {
              turns = turns;
              session = here.0;
              written = subst (λ (t : Bool). Appends had has (desks_said t turns).text) (sym here.1) written;
              netlists = parts_print (λ desk. first_state script) turns (λ desk. first_good script good) answered.steps;
            }

  -- ---- by what was written

  front_text : (past : Bool) (had has : Option (List ℕ)) → (n : ℕ) × Appends had has (take n (bytes_of (replies_to router.parts.items answers)))
      → (n : ℕ) × Appends had has (take n (desks_said past turns).text)
  front_text false had has (n, written) = (n, subst (λ (l : List ℕ). Appends had has (take n l)) (sym text_turns) written)
  front_text true had has (n, written) =
      let size = min n (length (text_in turns)) in
      let cut : take size (text_in turns ++ too_long.text) ≡ take n (text_in turns) =
      take-append-le size (text_in turns) too_long.text (omega arith) ∙ take_min n (text_in turns) in
      (size, subst (Appends had has) (sym cut) (subst (λ (l : List ℕ). Appends had has (take n l)) (sym text_turns) written))

  whole_text : (had has : Option (List ℕ)) → Appends had has (bytes_of (replies_to router.parts.items answers)) → Appends had has (text_in turns)
  whole_text had has written = subst (Appends had has) (sym text_turns) written

  module _ (count : ℕ) (left rest : Option (List ℕ)) where
    -- the replies to an input within its limit
    pub served_ok : (had has : Option (List ℕ)) (refused : Bool) → IsRouted count false parts left rest → Appends had has (bytes_of (replies_to router.parts.items answers))
        → refused ≡ any_error (replies_to router.parts.items answers) → HasAnswered (Desks count) script refused left had has
    served_ok had has refused routed written error = said_all count false left rest routed had has refused (whole_text had has written) (errors_turns ∙ sym error)

    pub served_prints : (had has : Option (List ℕ)) → IsScript script → IsRouted count false parts left rest → Appends had has (bytes_of (replies_to router.parts.items answers))
        → IfSome left (λ input. IsPrintedDesks count script input had has)
    served_prints had has good routed written = said_prints count false left rest routed had has good (whole_text had has written)

    -- not all of them were written
    pub served_front : (past : Bool) (had has : Option (List ℕ)) → IsRouted count past parts left rest
        → (n : ℕ) × Appends had has (take n (bytes_of (replies_to router.parts.items answers))) → HasBegun (Desks count) script left had has
    served_front past had has routed front = said_front count past left rest routed had has (front_text past had has front)

    -- those to an input that passes its limit, and the error of that
    module _ (had mid has : Option (List ℕ)) (routed : IsRouted count true parts left rest) (written : Appends had mid (bytes_of (replies_to router.parts.items answers))) where
      long_text : Appends mid has too_long.text → Appends had has (text_in turns ++ too_long.text)
      long_text more = Appends-trans had mid has (text_in turns) too_long.text (whole_text had mid written) more

      pub long_ok : (r : Result Bool Stop) → IfOk r (λ error. (error ≡ true) × Appends mid has too_long.text) → IfOk r (λ refused. HasAnswered (Desks count) script refused left had has)
      long_ok (Ok error) t = said_all count true left rest routed had has error (long_text t.1) (sym t.0)
      long_ok (Err stop) t = tt

      pub long_prints : IsScript script → Appends mid has too_long.text → IfSome left (λ input. IsPrintedDesks count script input had has)
      long_prints good more = said_prints count true left rest routed had has good (long_text more)

      pub long_front : (n : ℕ) × Appends mid has (take n too_long.text) → HasBegun (Desks count) script left had has
      long_front (n, more) =
          said_front count true left rest routed had has (
            length (text_in turns) + n,
            subst (Appends had has) (sym (take_both (text_in turns) too_long.text n))
                (Appends-trans had mid has (text_in turns) (take n too_long.text) (whole_text had mid written) more),
          )

-- ---- the input, and the builds

pub routed_through : (count : ℕ) (past : Bool) (parts : List Part) (left rest : Option (List ℕ)) → IsRouted count past parts left rest → IsReadThrough (Desks count) left rest
routed_through count past parts left rest r = record { bytes = r.bytes; taken = r.taken; through = r.through }

pub routed_counts : (count : ℕ) (past : Bool) (script : List Word) (parts : List Part) (left rest : Option (List ℕ)) (m n : ℕ) → IsRouted count past parts left rest
    → CountsParts script parts m n → IfSome left (λ input. CountsDesks count script input m n)
routed_counts count past script parts None rest m n r c = tt
routed_counts count past script parts (Some input) rest m n r c =
    let left_is = left_of input r.bytes rest r.taken in
    let parts_are = r.parts_are left_is.0 left_is.1 in
    record {
      turns = c.turns;
      session = record { steps = c.steps; parts = c.all ∙ parts_are.0 ∙ sym (ap (input_parts count) left_is.2) };
      builds = c.builds;
    }
