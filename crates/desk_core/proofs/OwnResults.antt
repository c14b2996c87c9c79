-- The results that one desk keeps itself, one module after another.
use Rattle.std.proofs.Common.{◌≡◌, ◌≢◌, ◌⊎◌, inl, inr, ℕ, ◌+◌, ◌-◌, ◌<◌, ◌≤◌, List, [], ◌∷◌, Bool, true, false, true≢false, ◌||◌, get_or, length, set, slice_get, Option, Some, None, refl, sym, ap, subst, ◌∙◌, arith}
use Rattle.std.specs.Option.{is_some}
use Rattle.std.specs.Str.{bytes_eq}
use Rattle.std.proofs.lemmas.List.{length-set}
use Rattle.std.proofs.lemmas.Option.{slice_get-get_or}
use Rattle.rtl_sig.specs.Names.{has_name}
use Rattle.rtl_ir.specs.declared.module.Design.{Design}
use Rattle.result_cache.specs.Filled.{HoldsNone, filled_keys, new_count, with_key, with_keys}
use Rattle.result_cache.specs.Seats.{Seated}
use Rattle.result_cache.proofs.FilledKeys.{filled_known}
use Rattle.result_cache.proofs.Keys.{bytes_same, bytes_true}
use Rattle.result_cache.proofs.NewKeys.{below_more, fresh, keys_below, new_below, new_snoc, still_among, with_keys_snoc}
use Rattle.result_cache.proofs.Rising.{among_with}
use Rattle.build_crew.specs.Kept.{HasStill}
use Rattle.build_crew.specs.Rises.{RisesUpTo}
use Rattle.build_crew.proofs.Numbers.{job_of, of_job}
use Rattle.script_core.specs.declared.built.Built.{Built}
use Rattle.script_core.specs.declared.word.Word.{Word}
use Rattle.script_core.specs.Built.{IsValueOf}
use Rattle.script_core.specs.Keys.{key_of}
use Rattle.desk_core.specs.declared.ages.Ages.{Ages}
use Rattle.desk_core.specs.declared.own_results.OwnResults.{OwnResults}
use Rattle.desk_core.specs.Netlist.{key_text_at, key_texts}
use Rattle.desk_core.specs.Results.{AreAged, AreBeside, AreFound, IsResultAt}
use Rattle.desk_core.specs.Solo.{AreOwn, Builds, IsFoundAt}
use Rattle.desk_core.proofs.Lists.{all_there, get_set_other, get_set_same, same_number}
use Rattle.desk_core.proofs.OwnCalls.{builds_both}
use Rattle.desk_core.proofs.Rises.{rises_more, rises_within}

with_itself : (key : List ℕ) (keys : List (List ℕ)) → has_name (with_key key keys) key ≡ true
with_itself key keys = among_with key key keys ∙ ap (λ (b : Bool). b || has_name keys key) (bytes_same key key refl)

with_still : (key : List ℕ) (keys : List (List ℕ)) → HasStill keys (with_key key keys)
with_still key keys q is = among_with q key keys ∙ ap (λ (b : Bool). bytes_eq q key || b) is ∙ right (bytes_eq q key)
  where
    right : (a : Bool) → (a || true) ≡ true
    right true = refl
    right false = refl

same_still : (keys more : List (List ℕ)) → more ≡ keys → HasStill keys more
same_still keys more same q is = ap (λ (l : List (List ℕ)). has_name l q) same ∙ is

-- the keys that have an age are kept still where more are kept
pub aged_still : (ages : Ages) (keys more : List (List ℕ)) → HasStill keys more → AreAged ages keys → AreAged ages more
aged_still ages keys more still h = record { beside = h.beside; kept = λ q is. still q (h.kept q is); young = h.young }

-- what stands in two options is one thing
some_once : {A : Type 0} (a b : A) → Some (Some a) ≡ Some (Some b) → a ≡ b
some_once a b e = cc

module _ (design : Design) (script : List Word) where
  abbrev text_at : ℕ → List ℕ
  text_at at = key_text_at script design.modules at

  result_still : (keys more : List (List ℕ)) (at : ℕ) (built : Built) → HasStill keys more → IsResultAt script design.modules keys at built → IsResultAt script design.modules more at built
  result_still keys more at built still h = record { key = h.key; value = h.value; kept = still (text_at at) h.kept }

  -- results beside the modules stand there still where more keys are kept
  pub beside_still : (keys more : List (List ℕ)) (found : List (Option Built)) → HasStill keys more → AreBeside keys design script found → AreBeside more design script found
  beside_still keys more found still h = record {
    readable = h.readable;
    beside = h.beside;
    own = λ at built is. result_still keys more at built still (h.own at built is);
  }

  -- the result of the key of a module is put beside it
  beside_found : (keys : List (List ℕ)) (found : List (Option Built)) (at : ℕ) (built : Built) → at < length design.modules → built.key ≡ key_of design.modules at script → IsValueOf built.key built.outcome
      → AreBeside keys design script found → AreBeside (with_key (text_at at) keys) design script (set found at (Some built))
  beside_found keys found at built within key value h = record {
    readable = h.readable;
    beside = length-set found at (Some built) ∙ h.beside;
    own = λ k other is. by k other is (same_number k at);
  }
    where
      by : (k : ℕ) (other : Built) → slice_get (set found at (Some built)) k ≡ Some (Some other) → (k ≡ at) ⊎ (k ≢ at) → IsResultAt script design.modules (with_key (text_at at) keys) k other
      by k other is (inl e) =
          let there : slice_get (set found at (Some built)) at ≡ Some (Some built) = get_set_same found at (Some built) (let b = h.beside in omega (arith, b, within)) in
          let one : Some (Some built) ≡ Some (Some other) = sym there ∙ ap (slice_get (set found at (Some built))) (sym e) ∙ is in
          let same : built ≡ other = some_once built other one in
          subst (λ (b : Built). IsResultAt script design.modules (with_key (text_at at) keys) k b) same
          (subst (λ (n : ℕ). IsResultAt script design.modules (with_key (text_at at) keys) n built) (sym e)
          record { key = key; value = value; kept = with_itself (text_at at) keys })
      by k other is (inr ne) =
          result_still keys (with_key (text_at at) keys) k other (with_still (text_at at) keys) (h.own k other (sym (get_set_other found at k (Some built) ne) ∙ is))

  -- the result that stands beside a module
  pub known_beside : (keys : List (List ℕ)) (found : List (Option Built)) (at : ℕ) (one : Option Built) → AreBeside keys design script found → at < length design.modules → one ≡ get_or found at one → is_some one ≡ true
      → (built : Built) × (slice_get found at ≡ Some (Some built))
  known_beside keys found at None h within is there = absurd (true≢false (sym there))
  known_beside keys found at (Some built) h within is there =
      (built, slice_get-get_or found at (Some built) (let b = h.beside in omega (arith, within, b)) ∙ ap Some (sym is))

  -- the key of one that stands beside its module is kept already
  pub found_known : (results : OwnResults) (at : ℕ) (built : Built) → AreOwn design script results → slice_get results.found.items at ≡ Some (Some built)
      → with_key (text_at at) (filled_keys results.shard) ≡ filled_keys results.shard
  found_known results at built h is = filled_known results.shard (text_at at) (h.stand.own at built is).kept

  module _ (old new : OwnResults) (h : AreOwn design script old) (free : HoldsNone new.shard) (ages : new.ages ≡ old.ages) where
    aged_new : HasStill (filled_keys old.shard) (filled_keys new.shard) → AreAged new.ages (filled_keys new.shard)
    aged_new still = subst (λ (a : Ages). AreAged a (filled_keys new.shard)) (sym ages) (aged_still old.ages (filled_keys old.shard) (filled_keys new.shard) still h.aged)

    -- the results stay sound where neither what is kept nor what stands beside the modules changes
    pub own_same : new.found.items ≡ old.found.items → filled_keys new.shard ≡ filled_keys old.shard → AreOwn design script new
    own_same found filled = record {
      free = free;
      aged = aged_new (same_still (filled_keys old.shard) (filled_keys new.shard) filled);
      stand = subst (AreBeside (filled_keys new.shard) design script) (sym found) (subst (λ (keys : List (List ℕ)). AreBeside keys design script old.found.items) (sym filled) h.stand);
    }

    -- and where the result of the key of a module is put beside it
    pub own_found : (at : ℕ) (built : Built) → at < length design.modules → new.found.items ≡ set old.found.items at (Some built) → filled_keys new.shard ≡ with_key (text_at at) (filled_keys old.shard)
        → built.key ≡ key_of design.modules at script → IsValueOf built.key built.outcome → AreOwn design script new
    own_found at built within found filled key value = record {
      free = free;
      aged = aged_new (λ q is. ap (λ (l : List (List ℕ)). has_name l q) filled ∙ with_still (text_at at) (filled_keys old.shard) q is);
      stand = subst (AreBeside (filled_keys new.shard) design script) (sym found)
          (subst (λ (keys : List (List ℕ)). AreBeside keys design script (set old.found.items at (Some built))) (sym filled) (beside_found (filled_keys old.shard) old.found.items at built within key value h.stand));
    }

-- the results of the modules below a place are found
pub record AreOwnBelow (design : Design) (script : List Word) (before now : OwnResults) (at : ℕ) : Type 0 where
  pub own : AreOwn design script now
  pub ages : now.ages ≡ before.ages
  pub filled : filled_keys now.shard ≡ with_keys (filled_keys before.shard) (keys_below (key_text_at script design.modules) at)
  pub found : (k : ℕ) → k < at → (b : Built) × (slice_get now.found.items k ≡ Some (Some b))

module _ {design : Design} {script : List Word} where
  -- at the start none is
  pub own_first : (results : OwnResults) → AreOwn design script results → AreOwnBelow design script results results 0
  own_first results h = record { own = h; ages = refl; filled = refl; found = λ k lt. absurd (omega (arith, lt)) }

  -- one more is
  pub own_more : (before now new : OwnResults) (at : ℕ) → AreOwnBelow design script before now at → at < length design.modules → AreOwn design script new → new.ages ≡ now.ages
      → filled_keys new.shard ≡ with_key (key_text_at script design.modules at) (filled_keys now.shard) → IsFoundAt now.found.items new.found.items at → AreOwnBelow design script before new (at + 1)
  own_more before now new at h within own ages filled (built, put) = record {
    own = own;
    ages = ages ∙ h.ages;
    filled =
        filled ∙ ap (with_key (key_text_at script design.modules at)) h.filled
        ∙ sym (ap (with_keys (filled_keys before.shard)) (below_more (key_text_at script design.modules) at)
        ∙ with_keys_snoc (filled_keys before.shard) (keys_below (key_text_at script design.modules) at) (key_text_at script design.modules at));
    found = λ k lt. by k lt (same_number k at);
  }
    where
      by : (k : ℕ) → k < at + 1 → (k ≡ at) ⊎ (k ≢ at) → (b : Built) × (slice_get new.found.items k ≡ Some (Some b))
      by k lt (inl e) = (
        built,
        ap (slice_get new.found.items) e ∙ ap (λ (l : List (Option Built)). slice_get l at) put
            ∙ get_set_same now.found.items at (Some built) (let b = h.own.stand.beside in omega (arith, b, within)),
      )
      by k lt (inr ne) =
          let was = h.found k (omega (arith, lt, ne)) in
          (was.0, ap (λ (l : List (Option Built)). slice_get l k) put ∙ get_set_other now.found.items at k (Some built) ne ∙ was.1)

  -- what is kept before is kept still
  pub own_still : (before now : OwnResults) (at : ℕ) (keys : List (List ℕ)) → AreOwnBelow design script before now at → keys ≡ filled_keys now.shard → HasStill (filled_keys before.shard) keys
  own_still before now at keys h same = λ q known.
      ap (λ (l : List (List ℕ)). has_name l q) (same ∙ h.filled) ∙ still_among (filled_keys before.shard) (keys_below (key_text_at script design.modules) at) q known

  -- once all are gone through, each has its result
  pub own_all : (before now : OwnResults) (at : ℕ) → AreOwnBelow design script before now at → at ≡ length design.modules → AreFound now.found.items
  own_all before now at h is = all_there now.found.items (λ k lt. h.found k (let b = h.own.stand.beside in omega (arith, lt, is, b)))

  -- what the seat built so far, and the meter's rise
  pub own_builds : (before now : OwnResults) (at : ℕ) (s t u : Seated) (m n o : ℕ) → AreOwnBelow design script before now at
      → Builds (filled_keys before.shard) (keys_below (key_text_at script design.modules) at) s t m n → Builds (filled_keys now.shard) (key_text_at script design.modules at ∷ []) t u n o
      → Builds (filled_keys before.shard) (keys_below (key_text_at script design.modules) (at + 1)) s u m o
  own_builds before now at s t u m n o h f g =
      builds_both (filled_keys before.shard) (filled_keys now.shard) (keys_below (key_text_at script design.modules) at) (key_text_at script design.modules at ∷ [])
      (keys_below (key_text_at script design.modules) (at + 1)) s t u m n o (own_still before now at (filled_keys now.shard) h refl) below here f g
    where
      below : HasStill (keys_below (key_text_at script design.modules) at) (keys_below (key_text_at script design.modules) (at + 1))
      below q is =
          let one = job_of (key_text_at script design.modules) 0 at q is in
          subst (λ (k : List ℕ). has_name (keys_below (key_text_at script design.modules) (at + 1)) k ≡ true) one.2
          (of_job (key_text_at script design.modules) 0 (at + 1) one.0 (omega arith) (let l = one.1 in omega (arith, l)))

      here : HasStill (key_text_at script design.modules at ∷ []) (keys_below (key_text_at script design.modules) (at + 1))
      here q is = by (bytes_eq q (key_text_at script design.modules at)) refl is
        where
          by : (b : Bool) → bytes_eq q (key_text_at script design.modules at) ≡ b → (b || false) ≡ true → has_name (keys_below (key_text_at script design.modules) (at + 1)) q ≡ true
          by true same there =
              subst (λ (k : List ℕ). has_name (keys_below (key_text_at script design.modules) (at + 1)) k ≡ true) (sym (bytes_true q (key_text_at script design.modules at) same))
              (of_job (key_text_at script design.modules) 0 (at + 1) at (omega arith) (omega arith))
          by false same there = absurd (true≢false (sym there))

  pub own_ticks : (before now : OwnResults) (at m n o : ℕ) → AreOwnBelow design script before now at → RisesUpTo (new_count (filled_keys before.shard) (keys_below (key_text_at script design.modules) at)) m n
      → RisesUpTo (new_count (filled_keys now.shard) (key_text_at script design.modules at ∷ [])) n o → RisesUpTo (new_count (filled_keys before.shard) (keys_below (key_text_at script design.modules) (at + 1))) m o
  own_ticks before now at m n o h f g =
      let text = key_text_at script design.modules at in
      let all =
      ap (new_count (filled_keys before.shard)) (below_more (key_text_at script design.modules) at)
      ∙ new_snoc (filled_keys before.shard) (keys_below (key_text_at script design.modules) at) text in
      let one = new_snoc (filled_keys now.shard) [] text in
      let none : new_count (filled_keys now.shard) [] ≡ 0 = refl in
      let same : fresh (has_name (with_keys (filled_keys before.shard) (keys_below (key_text_at script design.modules) at)) text) ≡ fresh (has_name (filled_keys now.shard) text) =
      ap (λ (l : List (List ℕ)). fresh (has_name l text)) (sym h.filled) in
      rises_more (new_count (filled_keys before.shard) (keys_below (key_text_at script design.modules) at)) (new_count (filled_keys now.shard) (text ∷ []))
      (new_count (filled_keys before.shard) (keys_below (key_text_at script design.modules) (at + 1))) m n o f g (omega (arith, all, one, none, same))

-- a rise for the modules so far is one for all of them
pub own_within : (design : Design) (script : List Word) (before : OwnResults) (at m n : ℕ) → at ≤ length design.modules → RisesUpTo (new_count (filled_keys before.shard) (keys_below (key_text_at script design.modules) at)) m n
    → RisesUpTo (new_count (filled_keys before.shard) (key_texts script design.modules)) m n
own_within design script before at m n le f =
    let few = new_below (filled_keys before.shard) (key_text_at script design.modules) at (length design.modules - at) in
    let all : at + (length design.modules - at) ≡ length design.modules = omega (arith, le) in
    subst (λ (k : ℕ). RisesUpTo (new_count (filled_keys before.shard) (keys_below (key_text_at script design.modules) k)) m n) all
    (rises_within (new_count (filled_keys before.shard) (keys_below (key_text_at script design.modules) at)) (new_count (filled_keys before.shard) (keys_below (key_text_at script design.modules) (at + (length design.modules - at)))) m n f few)
