-- How a session ends, by whether it was held to its end or broke off.
use Rattle.std.proofs.Common.{◌≡◌, ◌⊎◌, ℕ, List, Bool, true, false, Option, Some, None, Result, Ok, Err, inl, inr, refl, sym, ap, subst, ◌∙◌}
use Rattle.std.specs.Prelude.{IfErr, IfOk, IfSome, OnErr, OnOk, OnSome}
use Rattle.std.specs.Io.KnownBytes.{Consumes}
use Rattle.script_core.specs.declared.word.Word.{Word}
use Rattle.script_core.specs.Words.{IsScript}
use Rattle.desk_core.specs.State.{first_state}
use Rattle.synth_run.specs.declared.program.Status.{Status}
use Rattle.synth_run.specs.declared.program.Status.TheVariants as statuses
use Rattle.synth_run.specs.declared.words.Mode.{Mode}
use Rattle.synth_run.specs.declared.words.Mode.TheVariants.{Synth, Session, Generate, Desks}
use Rattle.synth_run.specs.declared.words.Plan.{Plan}
use Rattle.synth_run.specs.declared.session.Stop.{Stop}
use Rattle.synth_run.specs.declared.session.Stop.TheVariants as halts
use Rattle.synth_run.specs.Builds.{CountsTurns, HasCounted}
use Rattle.synth_run.specs.Desks.{CountsDesks}
use Rattle.synth_run.specs.Refined.{IsRefinedBy}
use Rattle.synth_run.specs.Replies.{AnswersTaken, HasAnswered, HasBegun, HasRefined, IsCompleted, IsPrintedDesks, IsPrintedSession, IsReadThrough, status_of}
use Rattle.synth_run.specs.Taking.{Broken, Held}
use Rattle.synth_run.proofs.Replying.{begun_none, broken_answers, broken_begun, broken_counted, held_answered, held_begins, held_counted, held_prints, held_through}

module _ (script : List Word) (good : IsScript script) (left rest had has : Option (List ℕ)) (m n : ℕ) where
  pub answered : (r : Result Bool Stop) → IfOk r (λ refused. Held (first_state script) refused left rest had has m n) → IfOk r (λ refused. HasAnswered Session script refused left had has)
  answered (Ok refused) h = held_answered script refused left rest had has m n h
  answered (Err stop) h = tt

  pub through : (r : Result Bool Stop) → IfOk r (λ refused. Held (first_state script) refused left rest had has m n) → OnOk r (IsReadThrough Session left rest)
  through (Ok refused) h = held_through (first_state script) refused left rest had has m n h
  through (Err stop) h = tt

  pub begun : (r : Result Bool Stop) → IfErr r (λ stop. Broken (first_state script) stop left rest had has m n) → OnErr r (HasBegun Session script left had has)
  begun (Ok refused) b = tt
  begun (Err stop) b = broken_begun script stop left rest had has m n good b

  pub taken : (r : Result Bool Stop) → IfErr r (λ stop. Broken (first_state script) stop left rest had has m n) → r ≡ Err halts.Source → AnswersTaken script left rest had has
  taken (Ok refused) b e = absurd cc
  taken (Err halts.Source) b e = broken_answers script left rest had has m n b
  taken (Err halts.Sink) b e = absurd cc
  taken (Err halts.Memory) b e = absurd cc

  pub prints : (r : Result Bool Stop) → IfOk r (λ refused. Held (first_state script) refused left rest had has m n)
      → OnOk r (IfSome left (λ input. IsPrintedSession script input had has))
  prints (Ok refused) h = held_prints script refused left rest had has m n good h
  prints (Err stop) h = tt

  pub counts : (r : Result Bool Stop) → IfOk r (λ refused. Held (first_state script) refused left rest had has m n)
      → IfErr r (λ stop. Broken (first_state script) stop left rest had has m n) → (r ≡ Err halts.Memory → ⊥)
      → (bytes : List ℕ) × Consumes left rest bytes × CountsTurns script (r ≡ Err halts.Source) left bytes m n
  counts (Ok refused) h b other = held_counted script refused left rest had has m n h (◌≡◌ {A = Result Bool Stop} (Ok refused) (Err halts.Source)) (λ e. absurd cc)
  counts (Err halts.Source) h b other =
      broken_counted script halts.Source left rest had has m n (λ e. absurd cc) b (◌≡◌ {A = Result Bool Stop} (Err halts.Source) (Err halts.Source)) (λ e. refl)
  counts (Err halts.Sink) h b other =
      broken_counted script halts.Sink left rest had has m n (λ e. absurd cc) b (◌≡◌ {A = Result Bool Stop} (Err halts.Sink) (Err halts.Source)) (λ e. absurd cc)
  counts (Err halts.Memory) h b other = absurd (other refl)

-- nothing was read or written
pub begun_nothing : (script : List Word) (left had : Option (List ℕ)) → IsScript script → HasBegun Session script left had had
begun_nothing script left had good = begun_none Session script left had good

-- ---- the call

-- what was written is a front of the reply
pub begins : (mode : Mode) (script : List Word) (left had has : Option (List ℕ)) (r : Result Bool Stop) → IfOk r (λ error. HasAnswered mode script error left had has)
    → OnErr r (HasBegun mode script left had has) → HasBegun mode script left had has
begins mode script left had has (Err stop) ok err = err
begins Synth script None had has (Ok error) ok err = tt
begins Session script None had has (Ok error) ok err = tt
begins (Desks count) script None had has (Ok error) ok err = tt
begins Synth script (Some input) had has (Ok error) ok err = (ok.0, ok.1, held_begins ok.0 had has ok.2)
begins Session script (Some input) had has (Ok error) ok err = (ok.0, ok.1, held_begins ok.0 had has ok.2)
begins (Desks count) script (Some input) had has (Ok error) ok err = (ok.0, ok.1, held_begins ok.0 had has ok.2)
begins (Generate count) script left had has (Ok error) ok err = (ok.0, ok.1, held_begins ok.0 had has ok.2)

-- of a plan that words have
pub planned : (o : Option Plan) (plan : Plan) (P : Plan → Type 0) → o ≡ Some plan → P plan → IfSome o P
planned o plan P e h = subst (λ (x : Option Plan). IfSome x P) (sym e) h

not_done : (status other : Status) → status ≡ other → (other ≡ statuses.Done → ⊥) → (other ≡ statuses.Refused → ⊥)
    → (status ≡ statuses.Done) ⊎ (status ≡ statuses.Refused) → ⊥
not_done status other is done refused (inl e) = done (sym is ∙ e)
not_done status other is done refused (inr e) = refused (sym is ∙ e)

-- what holds where the whole reply was written
when_answered : (P : Type 0) (r : Result Bool Stop) (status : Status) → status ≡ status_of r → OnOk r P → (status ≡ statuses.Done) ⊎ (status ≡ statuses.Refused) → P
when_answered P (Ok error) status is p e = p
when_answered P (Err halts.Source) status is p e = absurd (not_done status statuses.ReadFault is (λ d. cc) (λ d. cc) e)
when_answered P (Err halts.Sink) status is p e = absurd (not_done status statuses.WriteFault is (λ d. cc) (λ d. cc) e)
when_answered P (Err halts.Memory) status is p e = absurd (not_done status statuses.Memory is (λ d. cc) (λ d. cc) e)

-- the netlists of a session
pub refined : (script : List Word) (left had has : Option (List ℕ)) (r : Result Bool Stop) (status : Status) → status ≡ status_of r
    → OnOk r (IfSome left (λ input. IsPrintedSession script input had has)) → IfSome left (λ input. HasRefined Session status script input had has)
refined script None had has r status is prints = tt
refined script (Some input) had has r status is prints = when_answered (IsPrintedSession script input had has) r status is prints

-- those of a session of several desks
pub refined_desks : (count : ℕ) (script : List Word) (left had has : Option (List ℕ)) (r : Result Bool Stop) (status : Status) → status ≡ status_of r
    → OnOk r (IfSome left (λ input. IsPrintedDesks count script input had has)) → IfSome left (λ input. HasRefined (Desks count) status script input had has)
refined_desks count script None had has r status is prints = tt
refined_desks count script (Some input) had has r status is prints = when_answered (IsPrintedDesks count script input had has) r status is prints

-- the netlist of one text
pub refined_text : (script : List Word) (left had has : Option (List ℕ)) (r : Result Bool Stop) (status : Status) → status ≡ status_of r
    → (r ≡ Ok false → IfSome left (λ input. IsRefinedBy script input had has)) → IfSome left (λ input. HasRefined Synth status script input had has)
refined_text script None had has r status is refines = tt
refined_text script (Some input) had has (Ok false) status is refines = λ _. refines refl
refined_text script (Some input) had has (Ok true) status is refines = λ done. let e : statuses.Refused ≡ statuses.Done = sym is ∙ done in absurd cc
refined_text script (Some input) had has (Err halts.Source) status is refines = λ done. let e : statuses.ReadFault ≡ statuses.Done = sym is ∙ done in absurd cc
refined_text script (Some input) had has (Err halts.Sink) status is refines = λ done. let e : statuses.WriteFault ≡ statuses.Done = sym is ∙ done in absurd cc
refined_text script (Some input) had has (Err halts.Memory) status is refines = λ done. let e : statuses.Memory ≡ statuses.Done = sym is ∙ done in absurd cc

-- what a status says of how a call was answered
module _ (mode : Mode) (script : List Word) (left rest had has : Option (List ℕ)) (r : Result Bool Stop) (status : Status) (is : status ≡ status_of r)
    (ok : IfOk r (λ error. HasAnswered mode script error left had has)) (through : OnOk r (IsReadThrough mode left rest)) where
  pub done : status ≡ statuses.Done → HasAnswered mode script false left had has × IsReadThrough mode left rest
  done e = by r (sym is ∙ e) ok through
    where
      by : (r : Result Bool Stop) → status_of r ≡ statuses.Done → IfOk r (λ error. HasAnswered mode script error left had has) → OnOk r (IsReadThrough mode left rest)
          → HasAnswered mode script false left had has × IsReadThrough mode left rest
      by (Ok false) e ok through = (ok, through)
      by (Ok true) e ok through = absurd cc
      by (Err halts.Source) e ok through = absurd cc
      by (Err halts.Sink) e ok through = absurd cc
      by (Err halts.Memory) e ok through = absurd cc

  pub refused : status ≡ statuses.Refused → HasAnswered mode script true left had has × IsReadThrough mode left rest
  refused e = by r (sym is ∙ e) ok through
    where
      by : (r : Result Bool Stop) → status_of r ≡ statuses.Refused → IfOk r (λ error. HasAnswered mode script error left had has) → OnOk r (IsReadThrough mode left rest)
          → HasAnswered mode script true left had has × IsReadThrough mode left rest
      by (Ok false) e ok through = absurd cc
      by (Ok true) e ok through = (ok, through)
      by (Err halts.Source) e ok through = absurd cc
      by (Err halts.Sink) e ok through = absurd cc
      by (Err halts.Memory) e ok through = absurd cc

-- how a call ended, by its status
pub was_memory : (r : Result Bool Stop) (status : Status) → status ≡ status_of r → status ≡ statuses.Memory → r ≡ Err halts.Memory
was_memory (Ok false) status is e = let no : statuses.Done ≡ statuses.Memory = sym is ∙ e in absurd cc
was_memory (Ok true) status is e = let no : statuses.Refused ≡ statuses.Memory = sym is ∙ e in absurd cc
was_memory (Err halts.Source) status is e = let no : statuses.ReadFault ≡ statuses.Memory = sym is ∙ e in absurd cc
was_memory (Err halts.Sink) status is e = let no : statuses.WriteFault ≡ statuses.Memory = sym is ∙ e in absurd cc
was_memory (Err halts.Memory) status is e = refl

pub was_source : (r : Result Bool Stop) (status : Status) → status ≡ status_of r → status ≡ statuses.ReadFault → r ≡ Err halts.Source
was_source (Ok false) status is e = let no : statuses.Done ≡ statuses.ReadFault = sym is ∙ e in absurd cc
was_source (Ok true) status is e = let no : statuses.Refused ≡ statuses.ReadFault = sym is ∙ e in absurd cc
was_source (Err halts.Source) status is e = refl
was_source (Err halts.Sink) status is e = let no : statuses.WriteFault ≡ statuses.ReadFault = sym is ∙ e in absurd cc
was_source (Err halts.Memory) status is e = let no : statuses.Memory ≡ statuses.ReadFault = sym is ∙ e in absurd cc

-- what a session built, by its status
pub counted_turns : (script : List Word) (left rest : Option (List ℕ)) (m n : ℕ) (r : Result Bool Stop) (status : Status) → status ≡ status_of r
    → ((r ≡ Err halts.Memory → ⊥) → (bytes : List ℕ) × Consumes left rest bytes × CountsTurns script (r ≡ Err halts.Source) left bytes m n)
    → HasCounted Session status script left rest m n
counted_turns script left rest m n r status is counts = λ other.
    let c = counts (λ e. other (is ∙ ap status_of e)) in (
      c.0,
      c.1,
      record {
        turns = c.2.turns;
        steps = c.2.steps;
        taken = c.2.taken;
        told = c.2.told;
        ended = λ e. c.2.ended (was_source r status is e);
        builds = c.2.builds;
      },
    )

-- what several desks built, by it
pub counted_desks : (count : ℕ) (script : List Word) (left rest : Option (List ℕ)) (m n : ℕ) (r : Result Bool Stop) (status : Status) → status ≡ status_of r
    → ((r ≡ Err halts.Memory → ⊥) → (r ≡ Err halts.Source → ⊥) → IfSome left (λ input. CountsDesks count script input m n)) → (r ≡ Err halts.Source → n ≡ m)
    → HasCounted (Desks count) status script left rest m n
counted_desks count script left rest m n r status is counts none = λ other. (
  λ e. none (was_source r status is e),
  λ read. counts (λ e. other (is ∙ ap status_of e)) (λ e. read (is ∙ ap status_of e)),
)

-- a call that reads nothing ends by its sink alone
pub completed : (r : Result Bool Stop) (status : Status) (rose : Type 0) → status ≡ status_of r → (r ≡ Err halts.Source → ⊥) → (r ≡ Err halts.Sink → rose) → (rose → ⊥)
    → IsCompleted status
completed r status rose is source cause quiet = subst IsCompleted (sym is) (by r source cause)
  where
    by : (r : Result Bool Stop) → (r ≡ Err halts.Source → ⊥) → (r ≡ Err halts.Sink → rose) → IsCompleted (status_of r)
    by (Ok false) source cause = tt
    by (Ok true) source cause = tt
    by (Err halts.Source) source cause = absurd (source refl)
    by (Err halts.Sink) source cause = absurd (quiet (cause refl))
    by (Err halts.Memory) source cause = tt

-- what holds anyhow holds of a plan
pub on_some : {A : Type 0} (o : Option A) (P : Type 0) → P → OnSome o P
on_some None P p = tt
on_some (Some a) P p = p
