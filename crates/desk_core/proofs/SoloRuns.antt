-- Commands that need the netlist, of a desk that asks a shared cache.
use Rattle.std.proofs.Common.{◌≡◌, ℕ, List, [], Option, length, sym, ap, subst, ◌∙◌}
use Rattle.rtl_ir.specs.declared.module.Design.{Design}
use Rattle.rtl_ir.specs.declared.module.Module.{Module}
use Rattle.result_cache.specs.Filled.{HoldsNone, filled_keys, new_count, with_keys}
use Rattle.result_cache.specs.Seats.{Seated}
use Rattle.result_cache.proofs.FilledKeys.{none_at_first}
use Rattle.build_crew.specs.Forgetting.{without}
use Rattle.build_crew.specs.Kept.{HasStill}
use Rattle.build_crew.specs.Rises.{RisesUpTo}
use Rattle.script_core.specs.declared.word.Word.{Word}
use Rattle.script_core.specs.Cold.{cold}
use Rattle.desk_core.specs.declared.ages.Ages.{Ages}
use Rattle.desk_core.specs.declared.needed.Needed.{Needed}
use Rattle.desk_core.specs.declared.own_results.OwnResults.{OwnResults}
use Rattle.desk_core.specs.Ages.{AreYoung, kept_in, texts_of}
use Rattle.desk_core.specs.Builds.{present_keys}
use Rattle.desk_core.specs.Needed.{IsNeeded, ages_after}
use Rattle.desk_core.specs.Netlist.{all_kept, built_count, key_texts, over_words}
use Rattle.desk_core.specs.Results.{AreBeside, AreFound, TellKeys, over_of}
use Rattle.desk_core.specs.Solo.{AreOwn, Builds, own_state}
use Rattle.desk_core.specs.State.{KeptKey, State, first_state}
use Rattle.desk_core.proofs.Ended.{fewer_new, needed_still}
use Rattle.desk_core.proofs.EndedAges.{aged_same, beside_needed, ended_aged, ended_ages, ended_needed}
use Rattle.desk_core.proofs.OwnCalls.{builds_fewer}
use Rattle.desk_core.proofs.Outcomes.{over_found}
use Rattle.desk_core.proofs.Rises.{rises_within}
use Rattle.desk_core.proofs.Starting.{aged_first, beside_first}

module _ (design : Design) (script : List Word) (old : OwnResults) where
  -- the results beside the modules tell the keys of these
  pub own_tell : (table : List Module) → table ≡ design.modules → AreOwn design script old → TellKeys design table script old.found.items
  own_tell table same h = record {
    readable = h.stand.readable;
    same = same;
    beside = h.stand.beside;
    own = λ at built is. (h.stand.own at built is).key;
  }

  -- the table of ages has other keys that are not kept
  module _ (ages : Ages) (same : kept_in ages.keys ages.ages.items ≡ kept_in old.ages.keys old.ages.ages.items) where
    pub own_grown : length ages.ages.items ≡ length ages.keys → (AreYoung old.ages.ages.items → AreYoung ages.ages.items) → AreOwn design script old → AreOwn design script (record old { ages = ages })
    own_grown beside young h = record { free = h.free; aged = aged_same old.ages ages (filled_keys old.shard) same beside young h.aged; stand = h.stand }

    pub own_state_grown : (new : OwnResults) → new.ages ≡ ages → own_state design script new ≡ own_state design script old
    own_state_grown new is =
        ap (λ (kept : List KeptKey). record { design = design; script = script; kept = kept }) (ap (λ (a : Ages). kept_in a.keys a.ages.items) is ∙ same)

  -- the error by the results beside the modules is that of the cold run
  pub own_over : (over : Option (List ℕ)) → AreOwn design script old → AreFound old.found.items → over ≡ over_of design.modules old.found.items → over ≡ over_words design.modules (cold script design)
  own_over over h found is = is ∙ over_found (filled_keys old.shard) design script old.found.items h.stand found

  -- no more is built than has no age
  pub own_rises : (m n : ℕ) → AreOwn design script old → RisesUpTo (new_count (filled_keys old.shard) (key_texts script design.modules)) m n → RisesUpTo (built_count (own_state design script old)) m n
  own_rises m n h f =
      rises_within (new_count (filled_keys old.shard) (key_texts script design.modules)) (built_count (own_state design script old)) m n f
      (fewer_new (texts_of (kept_in old.ages.keys old.ages.ages.items)) (filled_keys old.shard) (key_texts script design.modules) h.aged.kept)

  -- what holds of the parts of a desk holds of its state
  module _ (v : State) (is : own_state design script old ≡ v) where
    pub solo_builds : (s t : Seated) (m n : ℕ) → AreOwn design script old → Builds (filled_keys old.shard) (key_texts script design.modules) s t m n → Builds (texts_of v.kept) (present_keys v) s t m n
    solo_builds s t m n h f =
        subst (λ (w : State). Builds (texts_of w.kept) (present_keys w) s t m n) is
        (builds_fewer (texts_of (kept_in old.ages.keys old.ages.ages.items)) (filled_keys old.shard) (key_texts script design.modules) s t m n h.aged.kept f)

    pub solo_rises : (m n : ℕ) → RisesUpTo (built_count (own_state design script old)) m n → RisesUpTo (built_count v) m n
    solo_rises m n f = subst (λ (w : State). RisesUpTo (built_count w) m n) is f

-- what a command leaves of the results, once it ended
module _ (design : Design) (script : List Word) (old new : OwnResults) (needed : Needed) (own : AreOwn design script old) (needs : IsNeeded (key_texts script design.modules) old.ages needed)
    (keys : new.ages.keys ≡ old.ages.keys) (ages : new.ages.ages.items ≡ ages_after needed.marks.items old.ages.ages.items) where
  -- all keys of the present design are kept, and the others are older
  pub own_ended_state : (before : State) → own_state design script old ≡ before → own_state design script new ≡ all_kept before
  own_ended_state before is =
      ap (λ (kept : List KeptKey). record { design = design; script = script; kept = kept })
      (ended_ages (key_texts script design.modules) old.ages new.ages (filled_keys old.shard) needed own.aged needs keys ages)
      ∙ ap all_kept is

  -- the results are sound still
  pub own_ended : (before : List (List ℕ)) → filled_keys old.shard ≡ with_keys before (key_texts script design.modules) → HoldsNone new.shard → new.found ≡ old.found
      → filled_keys new.shard ≡ without needed.too_old.items (filled_keys old.shard) → AreOwn design script new
  own_ended before filled free found left = record {
    free = free;
    aged = ended_aged (key_texts script design.modules) old.ages new.ages (filled_keys old.shard) needed own.aged needs keys ages (filled_keys new.shard) there left;
    stand = beside_needed (filled_keys old.shard) (filled_keys new.shard) design script new.found.items
        (ended_needed (key_texts script design.modules) old.ages new.ages (filled_keys old.shard) needed own.aged needs keys ages (filled_keys new.shard) there left)
        (subst (λ f. AreBeside (filled_keys old.shard) design script f.items) (sym found) own.stand);
  }
    where
      there : HasStill (key_texts script design.modules) (filled_keys old.shard)
      there = needed_still before (key_texts script design.modules) (filled_keys old.shard) filled

-- a desk at its start
pub own_first : (design : Design) (script : List Word) (results : OwnResults) → design.modules ≡ [] → results.shard.history ≡ [] → results.ages.keys ≡ [] → results.ages.ages.items ≡ [] → results.found.items ≡ [] → AreOwn design script results
own_first design script results none no_calls no_keys no_ages no_found = record {
  free = none_at_first results.shard no_calls;
  aged = aged_first results.ages (filled_keys results.shard) no_keys no_ages;
  stand = beside_first (filled_keys results.shard) design script results.found.items none no_found;
}

pub own_state_first : (design : Design) (now script : List Word) (results : OwnResults) → design.modules ≡ [] → now ≡ script → results.ages.keys ≡ [] → own_state design now results ≡ first_state script
own_state_first design now script results none same no_keys =
    ap (λ (modules : List Module). record { design = record { modules = modules }; script = now; kept = kept_in results.ages.keys results.ages.ages.items }) none
    ∙ ap (λ (words : List Word). record { design = record { modules = [] }; script = words; kept = kept_in results.ages.keys results.ages.ages.items }) same
    ∙ ap (λ (keys : List (List ℕ)). record { design = record { modules = [] }; script = script; kept = kept_in keys results.ages.ages.items }) no_keys
