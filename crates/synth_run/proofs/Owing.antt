-- What a call with several desks owes, by what was read and written.
use Rattle.std.proofs.Common.{◌≡◌, ℕ, List, Bool, true, false, Option, Result, Ok, Err, take, refl, subst}
use Rattle.std.specs.Prelude.{IfOk, IfSome, OnErr, OnOk}
use Rattle.std.specs.List.{AllZip}
use Rattle.std.specs.Io.KnownBytes.{Appends}
use Rattle.many_desks.specs.Replies.{Replies}
use Rattle.script_core.specs.declared.word.Word.{Word}
use Rattle.script_core.specs.Words.{IsScript}
use Rattle.reply_lines.specs.declared.reply.Reply.{Reply}
use Rattle.desk_core.specs.State.{first_state}
use Rattle.desk_core.specs.Step.{IsStep}
use Rattle.synth_run.specs.Desks.{CountsDesks, Part}
use Rattle.synth_run.specs.Replies.{HasAnswered, HasBegun, IsPrintedDesks, IsReadThrough}
use Rattle.synth_run.specs.Routes.{CountsParts, Holds, IsRouted, IsRouter, any_error, bytes_of, replies_to}
use Rattle.synth_run.specs.Said.{too_long}
use Rattle.synth_run.specs.declared.routes.Router.{Router}
use Rattle.synth_run.specs.declared.session.Stop.{Stop}
use Rattle.synth_run.specs.declared.words.Mode.TheVariants.{Desks}
use Rattle.synth_run.proofs.Served.{long_front, long_ok, long_prints, routed_counts, routed_through, served_front, served_ok, served_prints}

-- what holds in any case holds where all was answered
pub owes_any : {P : Type 0} (r : Result Bool Stop) → P → OnOk r P
owes_any (Ok error) h = h
owes_any (Err stop) h = tt

-- an input was read by the router of so many desks, which answered
module _ (script : List Word) (count n : ℕ) (router : Router) (answers : List (List Reply)) (left rest : Option (List ℕ)) (past : Bool) (is : IsRouter router) (same : n ≡ count)
    (read : (parts : List Part) × Holds parts router × IsRouted n past parts left rest) (zip : AllZip (Replies IsStep (first_state script)) router.lists.items answers) where
  abbrev text : List ℕ
  text = bytes_of (replies_to router.parts.items answers)

  routed : (t : Bool) → past ≡ t → IsRouted count t read.0 left rest
  routed t past_is = subst (λ (b : Bool). IsRouted count b read.0 left rest) past_is (subst (λ (m : ℕ). IsRouted m past read.0 left rest) same read.2)

  pub owes_through : IsReadThrough (Desks count) left rest
  owes_through = routed_through count past read.0 left rest (routed past refl)

  pub owes_counts : (old now : ℕ) → ((parts : List Part) → Holds parts router → CountsParts script parts old now) → IfSome left (λ input. CountsDesks count script input old now)
  owes_counts old now counts = routed_counts count past script read.0 left rest old now (routed past refl) (counts read.0 read.1)

  -- not all replies were written
  pub owes_front : (had has : Option (List ℕ)) → (size : ℕ) × Appends had has (take size text) → HasBegun (Desks count) script left had has
  owes_front had has front = served_front script router read.0 answers is read.1 zip count left rest past had has (routed past refl) front

  -- all were, of an input within its limit
  pub owes_ok : (had has : Option (List ℕ)) (refused : Bool) → past ≡ false → Appends had has text → refused ≡ any_error (replies_to router.parts.items answers)
      → HasAnswered (Desks count) script refused left had has
  owes_ok had has refused past_is written error = served_ok script router read.0 answers is read.1 zip count left rest had has refused (routed false past_is) written error

  pub owes_prints : (had has : Option (List ℕ)) → IsScript script → past ≡ false → Appends had has text → IfSome left (λ input. IsPrintedDesks count script input had has)
  owes_prints had has good past_is written = served_prints script router read.0 answers is read.1 zip count left rest had has good (routed false past_is) written

  -- all were, and the error of an input that passes its limit, or a front of that
  module _ (had mid has : Option (List ℕ)) (past_is : past ≡ true) (written : Appends had mid text) where
    pub owes_long : (r : Result Bool Stop) → IfOk r (λ error. (error ≡ true) × Appends mid has too_long.text) → IfOk r (λ refused. HasAnswered (Desks count) script refused left had has)
    owes_long r t = long_ok script router read.0 answers is read.1 zip count left rest had mid has (routed true past_is) written r t

    pub owes_long_front : (r : Result Bool Stop) → OnErr r ((size : ℕ) × Appends mid has (take size too_long.text)) → OnErr r (HasBegun (Desks count) script left had has)
    owes_long_front (Ok error) front = tt
    owes_long_front (Err stop) front = long_front script router read.0 answers is read.1 zip count left rest had mid has (routed true past_is) written front

    pub owes_long_prints : (r : Result Bool Stop) → IsScript script → IfOk r (λ error. (error ≡ true) × Appends mid has too_long.text)
        → OnOk r (IfSome left (λ input. IsPrintedDesks count script input had has))
    owes_long_prints (Ok error) good t = long_prints script router read.0 answers is read.1 zip count left rest had mid has (routed true past_is) written good t.1
    owes_long_prints (Err stop) good t = tt
