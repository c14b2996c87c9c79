-- A desk at its start.
use Rattle.std.proofs.Common.{◌≡◌, ℕ, zero, suc, ◌+◌, ◌≤◌, List, [], ◌∷◌, Option, Some, None, length, slice_get, refl, sym, ap, subst, ◌∙◌, arith, filter, true≢false}
use Rattle.std.specs.List.{IsDistinct}
use Rattle.std.proofs.lemmas.List.Elements.{All-nil}
use Rattle.atomic_table.specs.Seated.{TableId}
use Rattle.rtl_ir.specs.declared.module.Design.{Design}
use Rattle.rtl_ir.specs.declared.module.Module.{Module}
use Rattle.rtl_readable.specs.Readable.{IsReadable, IsReadableModule}
use Rattle.result_cache.specs.Filled.{in_rising_order}
use Rattle.result_cache.specs.Seats.{Seated, new_seats, new_seats_from}
use Rattle.result_cache.specs.Meet.{Share}
use Rattle.result_cache.proofs.Sharing.{share_new}
use Rattle.build_crew.specs.Kept.{AreAllSeats, filled_by, is_kept_by, kept_by}
use Rattle.script_core.specs.declared.built.Built.{Built}
use Rattle.script_core.specs.declared.word.Word.{Word}
use Rattle.desk_core.specs.declared.ages.Ages.{Ages}
use Rattle.desk_core.specs.Results.{AreAged, AreBeside}
use Rattle.desk_core.specs.declared.results.Results.{Results}
use Rattle.rtl_sig.specs.Names.{has_name}
use Rattle.desk_core.specs.Ages.{kept_in, texts_of}
use Rattle.desk_core.specs.Results.{AreSeated, AreSound, state_of}
use Rattle.desk_core.specs.State.{State, first_state}

module _ (cache : TableId) (callers shards : ℕ) where
  -- new seats filled no key
  filled_none : (n more : ℕ) → filled_by (new_seats_from cache callers shards n more) ≡ []
  filled_none n zero = refl
  filled_none n (suc more) = filled_none (n + 1) more

  -- they are as many as callers
  count_from : (n more : ℕ) → length (new_seats_from cache callers shards n more) ≡ more
  count_from n zero = refl
  count_from n (suc more) = ap suc (count_from (n + 1) more)

  -- they are all seats of the cache
  all_from : (n more : ℕ) → n + more ≡ callers → AreAllSeats cache callers shards n (new_seats_from cache callers shards n more)
  all_from n zero sum = omega arith
  all_from n (suc more) sum = ((refl, λ key. refl), refl, refl, refl, all_from (n + 1) more (omega arith))

  pub new_are_seated : (seats : List Seated) → 1 ≤ callers → callers ≤ 64 → seats ≡ new_seats cache callers shards → AreSeated cache shards seats
  new_are_seated seats some few are =
      let count : length seats ≡ callers = ap length are ∙ count_from 0 callers in record {
        some = omega arith;
        few = omega arith;
        all =
            subst (λ (n : ℕ). AreAllSeats cache n shards 0 seats) (sym count)
            (subst (AreAllSeats cache callers shards 0) (sym are) (all_from 0 callers (omega arith)));
        shared = subst (Share shards) (sym are) (share_new cache callers shards);
      }

  pub none_kept : (seats : List Seated) → seats ≡ new_seats cache callers shards → kept_by seats ≡ []
  none_kept seats are = ap kept_by are ∙ ap (λ (l : List (List ℕ)). in_rising_order (filter (is_kept_by (new_seats cache callers shards)) l)) (filled_none 0 callers)

  pub as_many : (seats : List Seated) → seats ≡ new_seats cache callers shards → length seats ≡ callers
  as_many seats are = ap length are ∙ count_from 0 callers

readable_none : IsReadable (record { modules = [] })
unfolding IsDistinct
readable_none = record { modules = All-nil IsReadableModule; distinct = tt; count = omega arith }

-- a table without keys
pub aged_first : (ages : Ages) (kept : List (List ℕ)) → ages.keys ≡ [] → ages.ages.items ≡ [] → AreAged ages kept
aged_first ages kept no_keys no_ages = record {
  beside = ap length no_ages ∙ sym (ap length no_keys);
  kept = λ q is. absurd (true≢false (sym (ap (λ (keys : List (List ℕ)). has_name (texts_of (kept_in keys ages.ages.items)) q) (sym no_keys) ∙ is)));
  young = λ at age is. absurd (let no : None ≡ Some (Some age) = ap (λ (l : List (Option ℕ)). slice_get l at) (sym no_ages) ∙ is in cc);
}

-- results beside no module
pub beside_first : (keys : List (List ℕ)) (design : Design) (script : List Word) (found : List (Option Built)) → design.modules ≡ [] → found ≡ [] → AreBeside keys design script found
beside_first keys design script found none no_found = record {
  readable = subst (λ (l : List Module). IsReadable (record { modules = l })) (sym none) readable_none;
  beside = ap length no_found ∙ sym (ap length none);
  own = λ at built is. absurd (let no : None ≡ Some (Some built) = ap (λ (l : List (Option Built)). slice_get l at) (sym no_found) ∙ is in cc);
}

-- results beside the modules of the empty design are sound
pub sound_first : (design : Design) (script : List Word) (results : Results) → design.modules ≡ []
    → AreSeated results.cache.table.shared.table_id results.cache.shards results.seats.items → results.found.items ≡ [] → results.ages.keys ≡ [] → results.ages.ages.items ≡ [] → AreSound design script results
sound_first design script results none idle found no_keys no_ages =
    let stand = beside_first (kept_by results.seats.items) design script results.found.items none found in
    record {
      readable = stand.readable;
      idle = idle;
      aged = aged_first results.ages (kept_by results.seats.items) no_keys no_ages;
      beside = stand.beside;
      own = stand.own;
    }

-- the state of a desk with them is the first one
pub state_first : (design : Design) (now script : List Word) (results : Results) → design.modules ≡ [] → now ≡ script → results.ages.keys ≡ [] → state_of design now results ≡ first_state script
state_first design now script results none same no_keys =
    ap (λ (modules : List Module). record { design = record { modules = modules }; script = now; kept = kept_in results.ages.keys results.ages.ages.items }) none
    ∙ ap (λ (words : List Word). record { design = record { modules = [] }; script = words; kept = kept_in results.ages.keys results.ages.ages.items }) same
    ∙ ap (λ (keys : List (List ℕ)). record { design = record { modules = [] }; script = script; kept = kept_in keys results.ages.ages.items }) no_keys
