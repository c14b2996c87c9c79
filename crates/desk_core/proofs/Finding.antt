-- The results that a crew finds, beside their modules.
use Rattle.std.proofs.Common.{◌≡◌, ℕ, zero, suc, ◌+◌, ◌<◌, ◌≤◌, List, [], ◌∷◌, ◌++◌, Bool, true, false, ◌||◌, drop, length, set, slice_get, Option, Some, None, get_or, take, refl, sym, ap, subst, ◌∙◌, arith, append_assoc}
use Rattle.std.proofs.Math.ListN.{drop_of_length-le}
use Rattle.std.proofs.lemmas.List.{append-nil, drop-set, length-append, length-set, take_at}
use Rattle.std.proofs.lemmas.List.FromFn.{get_or-map-range_with_len, length-map-range_with_len}
use Rattle.std.proofs.lemmas.Option.{slice_get-get_or}
use Rattle.std.proofs.lemmas.Simd.{map-map}
use Rattle.std.specs.Prelude.{IfSome, map}
use Rattle.std.specs.List.{list_all, range_with_len}
use Rattle.std.specs.Option.{is_some}
use Rattle.rtl_sig.specs.Names.{has_name}
use Rattle.rtl_ir.specs.declared.module.Design.{Design}
use Rattle.rtl_ir.specs.declared.module.Module.{Module}
use Rattle.result_cache.specs.Filled.{new_count, with_keys}
use Rattle.result_cache.proofs.NewKeys.{among_keys, new_below_few, still_among}
use Rattle.atomic_table.specs.Seated.{TableId}
use Rattle.result_cache.specs.Seats.{Seated}
use Rattle.build_crew.specs.declared.finding.Found.{Found}
use Rattle.result_cache.specs.Meet.{Share}
use Rattle.build_crew.specs.Kept.{AreAllSeats, HasStill, kept_by}
use Rattle.build_crew.specs.Leaves.{HasRun, HasStopped}
use Rattle.build_crew.specs.Rises.{RisesUpTo}
use Rattle.build_crew.proofs.Numbers.{of_job}
use Rattle.script_core.specs.declared.built.Built.{Built}
use Rattle.script_core.specs.declared.word.Word.{Word}
use Rattle.script_core.specs.Keys.{KeyParts, key_of, key_text}
use Rattle.desk_core.specs.declared.results.Results.{Results}
use Rattle.desk_core.specs.declared.needed.Needed.{Needed}
use Rattle.desk_core.specs.Builds.{BuildsOrReturns}
use Rattle.desk_core.specs.Needed.{IsNeeded}
use Rattle.desk_core.specs.Netlist.{key_text_at, key_texts, module_keys}
use Rattle.desk_core.specs.declared.ages.Ages.{Ages}
use Rattle.desk_core.specs.Ages.{kept_in, oldest, texts_of}
use Rattle.desk_core.specs.Results.{AreAged, AreAnswers, AreSeated, AreKeys, AreSound, IsResultAt, TellKeys}
use Rattle.desk_core.proofs.Rises.{returns_built}

pub tell_keys : (design : Design) (table : List Module) (script : List Word) (results : Results) → table ≡ design.modules → AreSound design script results → TellKeys design table script results.found.items
tell_keys design table script results same h = record {
  readable = h.readable;
  same = same;
  beside = h.beside;
  own = λ at built is. (h.own at built is).key;
}

-- what a list has at a place
pub got_at : {A : Type 0} (xs : List A) (k : ℕ) (x y : A) → k < length xs → get_or xs k x ≡ y → slice_get xs k ≡ Some y
got_at xs k x y within is = slice_get-get_or xs k x within ∙ ap Some is

-- a result that stands beside a module has the key of the module
pub beside_own : (design : Design) (table : List Module) (script : List Word) (found : List (Option Built)) (at : ℕ) (other one : Option Built) → TellKeys design table script found → at < length design.modules → get_or found at other ≡ one
    → IfSome one (λ kept. kept.key ≡ key_of design.modules at script)
beside_own design table script found at other None tells inside is = tt
beside_own design table script found at other (Some kept) tells inside is =
    tells.own at kept (got_at found at other (Some kept) (let e = tells.beside in omega (arith, e, inside)) is)

-- the keys of the modules of a design, each at the place of its module
keys_count : (script : List Word) (modules : List Module) → length (module_keys script modules) ≡ length modules
keys_count script modules = length-map-range_with_len (λ (at : ℕ). key_of modules at script) 0 (length modules)

module _ (design : Design) (table : List Module) (script : List Word) (all : List KeyParts) where
  pub keys_within : (at : ℕ) → AreKeys design table script all → at < length design.modules → at < length all
  keys_within at h inside = let e : length all ≡ length design.modules = ap length h.all ∙ keys_count script design.modules in omega (arith, e, inside)

  pub key_there : (at : ℕ) (other : KeyParts) → AreKeys design table script all → at < length design.modules → get_or all at other ≡ key_of design.modules at script
  key_there at other h inside =
      ap (λ (l : List KeyParts). get_or l at other) h.all
      ∙ get_or-map-range_with_len (λ (n : ℕ). key_of design.modules n script) 0 (length design.modules) at at other inside (omega arith)

  pub texts_there : AreKeys design table script all → map key_text all ≡ key_texts script design.modules
  texts_there h = ap (map key_text) h.all ∙ map-map key_text (λ (n : ℕ). key_of design.modules n script) (range_with_len 0 (length design.modules))

  -- what a command needs that needs these keys, by their texts
  pub needed_there : (lent : List KeyParts) (ages : Ages) (needed : Needed) → lent ≡ all → AreKeys design table script all → IsNeeded (map key_text lent) ages needed → IsNeeded (key_texts script design.modules) ages needed
  needed_there lent ages needed same h needs = subst (λ (texts : List (List ℕ)). IsNeeded texts ages needed) (ap (map key_text) same ∙ texts_there h) needs

-- a result for one that was found
abbrev pub beside_of : List (Found Built) → List (Option Built)
beside_of items = map (λ (item : Found Built). Some item.value) items

length_beside : (items : List (Found Built)) → length (beside_of items) ≡ length items
length_beside [] = refl
length_beside (x ∷ items) = ap suc (length_beside items)

-- what a list of results of items has at a place is the result of the item there
got_made : {A B : Type 0} (f : A → B) (items : List A) (at : ℕ) (b : B) → slice_get (map (λ x. Some (f x)) items) at ≡ Some (Some b) → (x : A) × (slice_get items at ≡ Some x) × (f x ≡ b) × (at < length items)
got_made f [] at b is = absurd (let none : None ≡ Some (Some b) = is in cc)
got_made f (x ∷ items) zero b is = (x, refl, (let e : f x ≡ b = cc in e), omega arith)
got_made f (x ∷ items) (suc at) b is = let rest = got_made f items at b is in (rest.0, rest.1, rest.2, let l = rest.3 in omega (arith, l))

-- what stands beside a module was found there
got_beside : (items : List (Found Built)) (at : ℕ) (built : Built) → slice_get (beside_of items) at ≡ Some (Some built) → (found : Found Built) × (slice_get items at ≡ Some found) × (found.value ≡ built) × (at < length items)
got_beside = got_made (λ (found : Found Built). found.value)

pub all_beside : (items : List (Found Built)) → list_all is_some (beside_of items) ≡ true
all_beside [] = refl
all_beside (x ∷ items) = all_beside items

-- the keys that have an age are kept still where kept ones are
pub aged_more : (old new : Results) → AreAged old.ages (kept_by old.seats.items) → new.ages ≡ old.ages → HasStill (kept_by old.seats.items) (kept_by new.seats.items) → AreAged new.ages (kept_by new.seats.items)
aged_more old new h same still = record {
  beside = subst (λ (a : Ages). length a.ages.items ≡ length a.keys) (sym same) h.beside;
  kept = subst (λ (a : Ages). HasStill (texts_of (kept_in a.keys a.ages.items)) (kept_by new.seats.items)) (sym same) (λ q is. still q (h.kept q is));
  young = subst (λ (a : Ages). (at age : ℕ) → slice_get a.ages.items at ≡ Some (Some age) → age ≤ oldest) (sym same) h.young;
}

or_true : (b : Bool) → (b || true) ≡ true
or_true true = refl
or_true false = refl

module _ (design : Design) (script : List Word) (old new : Results) where
  -- the results are sound once a crew found them all
  pub sound_run : (items : List (Found Built)) → AreSound design script old → AreSeated new.cache.table.shared.table_id new.cache.shards new.seats.items → length items ≡ length design.modules
      → AreAnswers script design.modules items → new.found.items ≡ beside_of items → kept_by new.seats.items ≡ with_keys (kept_by old.seats.items) (key_texts script design.modules)
      → new.ages ≡ old.ages → AreSound design script new
  sound_run items h idle count answers beside kept same = record {
    readable = h.readable;
    idle = idle;
    aged = aged_more old new h.aged same (λ q is. ap (λ (l : List (List ℕ)). has_name l q) kept ∙ still_among (kept_by old.seats.items) (key_texts script design.modules) q is);
    beside = ap length beside ∙ length_beside items ∙ count;
    own = λ at built is.
        let got = got_beside items at built (ap (λ (l : List (Option Built)). slice_get l at) (sym beside) ∙ is) in
        let answer = answers at got.0 got.1 in
        let one : IsResultAt script design.modules (kept_by new.seats.items) at got.0.value = record {
          key = answer.0;
          value = answer.1;
          kept =
              ap (λ (l : List (List ℕ)). has_name l (key_text_at script design.modules at)) kept
              ∙ among_keys (key_text_at script design.modules at) (kept_by old.seats.items) (key_texts script design.modules)
              ∙ ap (λ (b : Bool). has_name (kept_by old.seats.items) (key_text_at script design.modules at) || b)
              (of_job (key_text_at script design.modules) 0 (length design.modules) at (omega arith) (let l = got.3 in omega (arith, l, count)))
              ∙ or_true (has_name (kept_by old.seats.items) (key_text_at script design.modules at));
        } in
        subst (IsResultAt script design.modules (kept_by new.seats.items) at) got.2 one;
  }

  -- they are sound still where a crew had no memory
  pub sound_stopped : AreSound design script old → AreSeated new.cache.table.shared.table_id new.cache.shards new.seats.items → new.found.items ≡ old.found.items
      → HasStill (kept_by old.seats.items) (kept_by new.seats.items) → new.ages ≡ old.ages → AreSound design script new
  sound_stopped h idle beside still same = record {
    readable = h.readable;
    idle = idle;
    aged = aged_more old new h.aged same still;
    beside = ap length beside ∙ h.beside;
    own = λ at built is.
        let one = h.own at built (ap (λ (l : List (Option Built)). slice_get l at) (sym beside) ∙ is) in
        record { key = one.key; value = one.value; kept = still (key_text_at script design.modules at) one.kept };
  }

-- all seats still, where there are as many after as before
pub seated_after : (cache : TableId) (shards : ℕ) (olds news : List Seated) → length news ≡ length olds → AreSeated cache shards olds → AreAllSeats cache (length olds) shards 0 news
    → Share shards news → AreSeated cache shards news
seated_after cache shards olds news same h all shared =
    let some = h.some in
    let few = h.few in
    record {
      some = omega (arith, same, some);
      few = omega (arith, same, few);
      all = subst (λ (n : ℕ). AreAllSeats cache n shards 0 news) (sym same) all;
      shared = shared;
    }

-- a list that was lent whole comes back whole
pub back_whole : {A : Type 0} (n : ℕ) (old new : List A) → n ≡ length new → take n (new ++ drop (length new) old) ≡ new
back_whole n old new same = take_at new (drop (length new) old) n (sym same)

-- no more was built than there are modules
pub built_few : (design : Design) (script : List Word) (keys : List (List ℕ)) (built : ℕ) → built ≡ new_count keys (key_texts script design.modules) → built ≤ length design.modules
built_few design script keys built is = let e = new_below_few keys (key_text_at script design.modules) (length design.modules) in omega (arith, is, e)

pub run_ticks : (keys : List (List ℕ)) (built : ℕ) (olds news : List Seated) (m n : ℕ) → HasRun keys built olds news m n → RisesUpTo (new_count (kept_by olds) keys) m n
run_ticks keys built olds news m n h = subst (λ (k : ℕ). RisesUpTo k m n) h.built_is h.ticks

pub run_returns : (keys : List (List ℕ)) (built : ℕ) (olds news : List Seated) (m n : ℕ) → HasRun keys built olds news m n → BuildsOrReturns (new_count (kept_by olds) keys) olds news m n
run_returns keys built olds news m n h = returns_built (new_count (kept_by olds) keys) olds news m n h.given (run_ticks keys built olds news m n h)

pub stopped_returns : (keys : List (List ℕ)) (olds news : List Seated) (m n : ℕ) → HasStopped keys olds news m n → BuildsOrReturns (new_count (kept_by olds) keys) olds news m n
stopped_returns keys olds news m n h = record { gave = h.gave; given = h.given; ticks = h.ticks }

-- results are put beside their modules from the last one on
pub record PutSoFar (full left : List (Found Built)) (found : List (Option Built)) : Type 0 where
  pub rest : List (Found Built)
  pub full_is : full ≡ left ++ rest
  pub beside : drop (length left) found ≡ beside_of rest
  pub count : length found ≡ length full

module _ (full : List (Found Built)) where
  pub put_first : (found : List (Option Built)) → length full ≡ length found → PutSoFar full full found
  put_first found count = record {
    rest = [];
    full_is = sym (append-nil full);
    beside = drop_of_length-le found (omega (arith, count));
    count = sym count;
  }

  pub put_step : (left ys : List (Found Built)) (x : Found Built) (found after : List (Option Built)) → left ≡ ys ++ x ∷ [] → after ≡ set found (length ys) (Some x.value)
      → PutSoFar full left found → PutSoFar full ys after
  put_step left ys x found after is put h =
      let longer : length left ≡ length ys + 1 = ap length is ∙ length-append ys (x ∷ []) in
      let whole = ap length h.full_is ∙ length-append left h.rest in
      let count = h.count in
      let within : length ys < length found = omega (arith, longer, whole, count) in
      record {
        rest = x ∷ h.rest;
        full_is = h.full_is ∙ ap (λ (l : List (Found Built)). l ++ h.rest) is ∙ append_assoc ys (x ∷ []) h.rest;
        beside =
            ap (drop (length ys)) put ∙ drop-set found (length ys) (Some x.value) within
            ∙ ap (λ (l : List (Option Built)). Some x.value ∷ l) (ap (λ (n : ℕ). drop n found) (sym longer) ∙ h.beside);
        count = ap length put ∙ length-set found (length ys) (Some x.value) ∙ h.count;
      }

  pub put_within : (left ys : List (Found Built)) (x : Found Built) (found : List (Option Built)) → left ≡ ys ++ x ∷ [] → PutSoFar full left found → length ys < length found
  put_within left ys x found is h =
      let longer : length left ≡ length ys + 1 = ap length is ∙ length-append ys (x ∷ []) in
      let whole = ap length h.full_is ∙ length-append left h.rest in
      let count = h.count in
      omega (arith, longer, whole, count)

  pub put_done : (left : List (Found Built)) (found : List (Option Built)) → left ≡ [] → PutSoFar full left found → found ≡ beside_of full
  put_done left found none h =
      ap (λ (l : List (Found Built)). drop (length l) found) (sym none) ∙ h.beside
      ∙ ap beside_of (sym (h.full_is ∙ ap (λ (l : List (Found Built)). l ++ h.rest) none))
