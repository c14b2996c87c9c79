-- How often the meter ticks for several desks.
use Rattle.std.proofs.Common.{◌≡◌, ℕ, zero, suc, ◌+◌, ◌-◌, ◌<◌, List, [], ◌∷◌, Some, Result, Ok, Err, length, refl, ap, ◌∙◌, arith}
use Rattle.std.specs.Prelude.{All, IfOk, OnOk, slice_index_or}
use Rattle.std.specs.List.{AllZip, slice_get}
use Rattle.atomic_table.specs.Seated.{TableId}
use Rattle.rtl_sig.specs.Names.{has_name}
use Rattle.result_cache.specs.declared.call.Call.{Call}
use Rattle.result_cache.specs.Meet.{HasMet}
use Rattle.result_cache.specs.Seats.{IsIdle, Seated, new_seats}
use Rattle.many_desks.specs.Replies.{Replies}
use Rattle.many_desks.specs.Serving.{HaveServed}
use Rattle.script_core.specs.declared.word.Word.{Word}
use Rattle.desk_read.specs.declared.command.Command.{Command}
use Rattle.reply_lines.specs.declared.reply.Reply.{Reply}
use Rattle.desk_core.specs.State.{State, first_state}
use Rattle.desk_core.specs.Step.{IsStep}
use Rattle.synth_run.specs.Desks.{Part, keys_in}
use Rattle.synth_run.specs.Routes.{CountsParts, Holds, IsRouter}
use Rattle.synth_run.specs.declared.routes.Router.{Router}
use Rattle.synth_run.proofs.Answering.{AllAsked, AreAnswered, all_asked, keys_at, router_answered}
use Rattle.synth_run.proofs.Meeting.{Builds, desks_build}

-- the item at a place
item_is : {A : Type 0} (items : List A) (k : ℕ) (x d : A) → slice_get items k ≡ Some x → (k < length items) × (slice_index_or items k d ≡ x)
item_is [] k x d is = absurd cc
item_is (y ∷ items) zero x d is = (omega arith, cc)
item_is (y ∷ items) (suc k) x d is = let more = item_is items k x d is in (omega (arith, more.0), more.1)

keys_count : (s : State) (lists : List (List Command)) (answers : List (List Reply)) (keys : List (List (List ℕ))) → AllAsked s lists answers keys → length keys ≡ length lists
keys_count s [] [] [] h = refl
keys_count s (cs ∷ lists) (rs ∷ answers) (ks ∷ keys) h = ap suc (keys_count s lists answers keys h.1)
keys_count s [] [] (ks ∷ keys) h = absurd h
keys_count s [] (rs ∷ answers) keys h = absurd h
keys_count s (cs ∷ lists) [] keys h = absurd h
keys_count s (cs ∷ lists) (rs ∷ answers) [] h = absurd h

module _ (script : List Word) (router : Router) (cache : TableId) (shards : ℕ) (olds mids news : List Seated) (old now : ℕ) (is : IsRouter router) (some : 0 < shards)
    (are : olds ≡ new_seats cache (length router.lists.items) shards) (idle : All (IsIdle cache) mids)
    (met : (i : ℕ) → i < shards → (log : List Call) × HasMet i log mids news) where
  abbrev lists : List (List Command)
  lists = router.lists.items

  counted : (parts : List Part) (answers : List (List Reply)) (taken : List (List ℕ)) → Holds parts router → AllZip (Replies IsStep (first_state script)) lists answers
      → HaveServed IsStep Builds (first_state script) lists answers taken olds mids old now → CountsParts script parts old now
  counted parts answers taken holds zip served =
      let asked = all_asked (first_state script) lists answers zip in
      let answered : AreAnswered (length lists) (λ desk. first_state script) parts answers (keys_at asked.0) = router_answered script router parts answers asked.0 is holds asked.1 in
      let few = is.few in
      let desk = is.desk in
      record {
        turns = answered.turns;
        steps = answered.steps;
        all = answered.parts_are;
        builds =
            desks_build (keys_in answered.turns) (first_state script) lists answers asked.0 asked.1
            (λ k ks q at has.
            let place = item_is asked.0 k ks [] at in
            let count = keys_count (first_state script) lists answers asked.0 asked.1 in
            let same : (k + 1) - 1 ≡ k = omega arith in
            answered.ask (k + 1) q (omega arith) (omega (arith, place.0, count))
            (ap (λ (j : ℕ). has_name (slice_index_or asked.0 j []) q) same ∙ ap (λ (l : List (List ℕ)). has_name l q) place.1 ∙ has))
            cache shards taken olds mids news old now some (omega (arith, desk.0, desk.1)) (omega (arith, few)) are served idle met;
      }

  -- what the desks of a router built
  pub served_counts : {E : Type 0} (r : Result (List (List Reply)) E) → IfOk r (λ answers. AllZip (Replies IsStep (first_state script)) router.lists.items answers)
      → IfOk r (λ answers. (taken : List (List ℕ)) × HaveServed IsStep Builds (first_state script) router.lists.items answers taken olds mids old now)
      → OnOk r ((parts : List Part) → Holds parts router → CountsParts script parts old now)
  served_counts (Ok answers) zip (taken, served) = λ parts holds. counted parts answers taken holds zip served
  served_counts (Err e) zip served = tt
