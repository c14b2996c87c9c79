-- What the words of a call give, where they have a meaning.
use Rattle.std.proofs.Common.{◌≡◌, ◌⊎◌, inl, inr, ℕ, List, [], Option, Some, None, Result, Ok, Err, refl, sym, ap, subst, ◌∙◌, arith}
use Rattle.std.specs.Prelude.{IfSome, option_and_then}
use Rattle.std.specs.Result.{result_ok}
use Rattle.script_core.specs.declared.word.Word.{Word}
use Rattle.script_core.specs.Words.{IsScript, default_script, script_of}
use Rattle.synth_run.specs.declared.words.Mode.{Mode}
use Rattle.synth_run.specs.declared.words.Mode.TheVariants.{Synth, Session, Generate, Desks}
use Rattle.synth_run.specs.declared.words.Plan.{Plan}
use Rattle.synth_run.specs.declared.program.Status.TheVariants as statuses
use Rattle.synth_run.specs.Options.{Given, given_from, nothing_given}
use Rattle.synth_run.specs.Builds.{HasCounted}
use Rattle.synth_run.specs.Replies.{HasBegun, HasKept, HasRefined, IsPrintedDesks, IsPrintedSession, OfInput}
use Rattle.synth_run.specs.Words.{given_script, given_workers, mode_of, plan_by, plan_of, plan_with}
use Rattle.synth_run.proofs.Replying.{begun_none}
use Rattle.synth_run.proofs.Speaking.{keeps_same}
use Rattle.synth_run.proofs.Stepping.{script_found}

-- a plan has a script
pub record IsSound (plan : Plan) : Type 0 where
  pub script : IsScript plan.script

default_is : IsScript default_script
default_is = record { first = refl; count = omega arith; flat = refl }

ok_is : (r : Result (List Word) ℕ) (words : List Word) → result_ok r ≡ Some words → r ≡ Ok words
ok_is (Ok found) words e = let same : found ≡ words = cc in ap Ok same
ok_is (Err number) words e = absurd cc

given_is : (text : Option (List ℕ)) (words : List Word) → given_script text ≡ Some words → IsScript words
given_is None words e = let same : default_script ≡ words = cc in subst IsScript same default_is
given_is (Some text) words e = script_found text words (ok_is (script_of text) words e)

with_sound : (mode : Option Mode) (text : Option (List ℕ)) (script : Option (List Word)) (workers : Option ℕ) (plan : Plan) → given_script text ≡ script
    → plan_with mode script workers ≡ Some plan → IsSound plan
with_sound None text script workers plan given e = absurd cc
with_sound (Some mode) text None workers plan given e = absurd cc
with_sound (Some mode) text (Some script) None plan given e = absurd cc
with_sound (Some mode) text (Some script) (Some workers) plan given e =
    let same : record { mode = mode; script = script; workers = workers } ≡ plan = cc in
    subst IsSound same (record { script = given_is text script given })

given_sound : (given : Option Given) (plan : Plan) → option_and_then plan_by given ≡ Some plan → IsSound plan
given_sound None plan e = absurd cc
given_sound (Some given) plan e =
    with_sound (mode_of given.session given.generate given.desks given.workers) given.script (given_script given.script) (given_workers given.workers) plan refl e

pub plan_sound : (words : List (List ℕ)) (plan : Plan) → plan_of words ≡ Some plan → IsSound plan
plan_sound words plan e = given_sound (given_from nothing_given words) plan e

-- ---- where nothing was read or written

pub nothing_begun : (words : List (List ℕ)) (left had : Option (List ℕ)) → IfSome (plan_of words) (λ plan. HasBegun plan.mode plan.script left had had)
nothing_begun words left had = by (plan_of words) refl
  where
    by : (o : Option Plan) → plan_of words ≡ o → IfSome o (λ plan. HasBegun plan.mode plan.script left had had)
    by None e = tt
    by (Some plan) e = let s = plan_sound words plan e in begun_none plan.mode plan.script left had s.script

memory_refined : (mode : Mode) (script : List Word) (input : List ℕ) (had : Option (List ℕ)) → HasRefined mode statuses.Memory script input had had
memory_refined Synth script input had = λ e. absurd cc
memory_refined Session script input had = no
  where
    no : (statuses.Memory ≡ statuses.Done) ⊎ (statuses.Memory ≡ statuses.Refused) → IsPrintedSession script input had had
    no (inl e) = absurd cc
    no (inr e) = absurd cc
memory_refined (Generate count) script input had = λ e. absurd cc
memory_refined (Desks count) script input had = no
  where
    no : (statuses.Memory ≡ statuses.Done) ⊎ (statuses.Memory ≡ statuses.Refused) → IsPrintedDesks count script input had had
    no (inl e) = absurd cc
    no (inr e) = absurd cc

mode_refined : (mode : Mode) (script : List Word) (left had : Option (List ℕ)) → OfInput mode left (λ input. HasRefined mode statuses.Memory script input had had)
mode_refined Synth script None had = tt
mode_refined Session script None had = tt
mode_refined (Desks count) script None had = tt
mode_refined Synth script (Some input) had = memory_refined Synth script input had
mode_refined Session script (Some input) had = memory_refined Session script input had
mode_refined (Desks count) script (Some input) had = memory_refined (Desks count) script input had
mode_refined (Generate count) script left had = memory_refined (Generate count) script [] had

-- of each plan that words have
pub each_plan : (o : Option Plan) (P : Plan → Type 0) → ((plan : Plan) → P plan) → IfSome o P
each_plan None P h = tt
each_plan (Some plan) P h = h plan

pub nothing_refined : (words : List (List ℕ)) (left had : Option (List ℕ))
    → IfSome (plan_of words) (λ plan. OfInput plan.mode left (λ input. HasRefined plan.mode statuses.Memory plan.script input had had))
nothing_refined words left had =
    each_plan (plan_of words) (λ (plan : Plan). OfInput plan.mode left (λ input. HasRefined plan.mode statuses.Memory plan.script input had had))
    (λ plan. mode_refined plan.mode plan.script left had)

mode_kept : (mode : Mode) (had : Option (List ℕ)) → HasKept mode had had
mode_kept Synth had = keeps_same had
mode_kept Session had = tt
mode_kept (Generate count) had = keeps_same had
mode_kept (Desks count) had = tt

pub nothing_written : (words : List (List ℕ)) (had : Option (List ℕ)) → IfSome (plan_of words) (λ plan. HasKept plan.mode had had)
nothing_written words had = each_plan (plan_of words) (λ (plan : Plan). HasKept plan.mode had had) (λ plan. mode_kept plan.mode had)

mode_counted : (mode : Mode) (script : List Word) (left : Option (List ℕ)) (m : ℕ) → HasCounted mode statuses.Memory script left left m m
mode_counted Synth script left m = λ other. absurd (other refl)
mode_counted Session script left m = λ other. absurd (other refl)
mode_counted (Generate count) script left m = λ other. absurd (other refl)
mode_counted (Desks count) script left m = λ other. absurd (other refl)

pub nothing_counted : (words : List (List ℕ)) (left : Option (List ℕ)) (m : ℕ) → IfSome (plan_of words) (λ plan. HasCounted plan.mode statuses.Memory plan.script left left m m)
nothing_counted words left m =
    each_plan (plan_of words) (λ (plan : Plan). HasCounted plan.mode statuses.Memory plan.script left left m m) (λ plan. mode_counted plan.mode plan.script left m)

-- where no design is made
pub not_synth : (mode : Mode) → mode ≡ Synth → (count : ℕ) → mode ≡ Generate count → ⊥
not_synth mode is count e = let no : Synth ≡ Generate count = sym is ∙ e in cc

pub not_session : (mode : Mode) → mode ≡ Session → (count : ℕ) → mode ≡ Generate count → ⊥
not_session mode is count e = let no : Session ≡ Generate count = sym is ∙ e in cc

pub never_made : (o : Option Plan) (plan : Plan) (P : Type 0) → o ≡ Some plan → ((count : ℕ) → plan.mode ≡ Generate count → ⊥)
    → IfSome o (λ p. (count : ℕ) → p.mode ≡ Generate count → P)
never_made o plan P e never = subst (λ (x : Option Plan). IfSome x (λ p. (count : ℕ) → p.mode ≡ Generate count → P)) (sym e) (λ count made. absurd (never count made))

pub not_desks : (mode : Mode) (desks : ℕ) → mode ≡ Desks desks → (count : ℕ) → mode ≡ Generate count → ⊥
not_desks mode desks is count e = let no : Desks desks ≡ Generate count = sym is ∙ e in cc
