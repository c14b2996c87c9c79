-- What a command that needed the netlist leaves of the results.
use Rattle.std.proofs.Common.{◌≡◌, ℕ, zero, suc, ◌+◌, ◌≤◌, List, [], ◌∷◌, Bool, true, false, true≢false, cond, not, ◌&&◌, ◌||◌, filter, length, slice_get, Option, Some, None, refl, sym, ap, subst, ◌∙◌, arith}
use Rattle.std.specs.Prelude.{map}
use Rattle.std.specs.Set.{distinct_count, unique_keys}
use Rattle.std.specs.Str.{bytes_eq}
use Rattle.rtl_ir.specs.declared.module.Design.{Design}
use Rattle.rtl_sig.specs.Names.{has_name}
use Rattle.result_cache.specs.Filled.{new_count, with_keys}
use Rattle.result_cache.specs.Seats.{Seated}
use Rattle.result_cache.proofs.NewKeys.{among_keys}
use Rattle.result_cache.proofs.Rising.{among_filtered}
use Rattle.build_crew.specs.Forgetting.{without}
use Rattle.build_crew.specs.Kept.{HasStill, given_back, kept_by, times_by}
use Rattle.result_cache.specs.Counts.{claims}
use Rattle.build_crew.proofs.Numbers.{of_job}
use Rattle.script_core.specs.declared.built.Built.{Built}
use Rattle.script_core.specs.declared.word.Word.{Word}
use Rattle.desk_core.specs.declared.ages.Ages.{Ages}
use Rattle.desk_core.specs.declared.needed.Needed.{Needed}
use Rattle.desk_core.specs.declared.results.Results.{Results}
use Rattle.desk_core.specs.Ages.{kept_after, kept_in, oldest, texts_of}
use Rattle.desk_core.specs.Builds.{BuildsOrReturns, HasClaims}
use Rattle.desk_core.specs.Needed.{IsNeeded, ages_after, marks_of, too_old}
use Rattle.desk_core.specs.Netlist.{all_kept, key_text_at, key_texts}
use Rattle.desk_core.specs.Results.{AreAged, AreSeated, AreSound, state_of}
use Rattle.desk_core.specs.State.{KeptKey, State}
use Rattle.desk_core.proofs.Rises.{rises_within}
use Rattle.desk_core.proofs.Aging.{ages_kept, still_aged, still_needed, young_after}

-- fewer keys pass a test that is harder
fewer : (p r : List ℕ → Bool) → ((q : List ℕ) → p q ≡ true → r q ≡ true) → (xs : List (List ℕ)) → distinct_count bytes_eq (filter p xs) ≤ distinct_count bytes_eq (filter r xs)
fewer p r more [] = omega arith
fewer p r more (x ∷ xs) = by (p x) refl (r x) refl (fewer p r more xs)
  where
    with_true : (a : Bool) → (a && true) ≡ a
    with_true true = refl
    with_true false = refl

    same : p x ≡ true → r x ≡ true → has_name (filter p xs) x ≡ has_name (filter r xs) x
    same a b =
        among_filtered p x xs ∙ ap (λ (t : Bool). has_name xs x && t) a ∙ with_true (has_name xs x)
        ∙ sym (among_filtered r x xs ∙ ap (λ (t : Bool). has_name xs x && t) b ∙ with_true (has_name xs x))

    one : (t : Bool) (ps rs : List (List ℕ)) → length ps ≤ length rs → length (cond t ps (x ∷ ps)) ≤ length (cond t rs (x ∷ rs))
    one true ps rs h = h
    one false ps rs h = omega (arith, h)

    wider : (t : Bool) (bs : List (List ℕ)) → length bs ≤ length (cond t bs (x ∷ bs))
    wider true bs = omega arith
    wider false bs = omega arith

    by : (a : Bool) → p x ≡ a → (b : Bool) → r x ≡ b → distinct_count bytes_eq (filter p xs) ≤ distinct_count bytes_eq (filter r xs)
        → distinct_count bytes_eq (cond a (x ∷ filter p xs) (filter p xs)) ≤ distinct_count bytes_eq (cond b (x ∷ filter r xs) (filter r xs))
    by true a true b rest =
        subst (λ (t : Bool). length (cond (has_name (filter p xs) x) (unique_keys bytes_eq (filter p xs)) (x ∷ unique_keys bytes_eq (filter p xs))) ≤ length (cond t (unique_keys bytes_eq (filter r xs)) (x ∷ unique_keys bytes_eq (filter r xs)))) (same a b)
        (one (has_name (filter p xs) x) (unique_keys bytes_eq (filter p xs)) (unique_keys bytes_eq (filter r xs)) rest)
    by true a false b rest = absurd (true≢false (sym (more x a) ∙ b))
    by false a true b rest = let w = wider (has_name (filter r xs) x) (unique_keys bytes_eq (filter r xs)) in omega (arith, rest, w)
    by false a false b rest = rest

-- fewer keys are new where more are kept
pub fewer_new : (few many xs : List (List ℕ)) → HasStill few many → new_count many xs ≤ new_count few xs
fewer_new few many xs still = fewer (λ key. not (has_name many key)) (λ key. not (has_name few key)) (λ q h. by q (has_name few q) refl h) xs
  where
    by : (q : List ℕ) (b : Bool) → has_name few q ≡ b → not (has_name many q) ≡ true → not b ≡ true
    by q true is h = absurd (true≢false (sym h ∙ ap (λ (b : Bool). not b) (still q is)))
    by q false is h = refl

-- a bound that is weaker
pub returns_more : (few many : ℕ) (olds news : List Seated) (m n : ℕ) → few ≤ many → BuildsOrReturns few olds news m n → BuildsOrReturns many olds news m n
returns_more few many olds news m n l h = record { gave = h.gave; given = h.given; ticks = rises_within (few + h.gave) (many + h.gave) m n h.ticks (omega (arith, l)) }

-- keys that were put among others are there
pub needed_still : (before texts kept : List (List ℕ)) → kept ≡ with_keys before texts → HasStill texts kept
needed_still before texts kept are q is =
    ap (λ (l : List (List ℕ)). has_name l q) are ∙ among_keys q before texts ∙ ap (λ (b : Bool). has_name before q || b) is ∙ or_true (has_name before q)
  where
    or_true : (b : Bool) → (b || true) ≡ true
    or_true true = refl
    or_true false = refl

after_many : (marks : List Bool) (ages : List (Option ℕ)) → length marks ≡ length ages → length (ages_after marks ages) ≡ length ages
after_many [] [] same = refl
after_many [] (age ∷ ages) same = absurd (omega (arith, same))
after_many (mark ∷ marks) [] same = refl
after_many (mark ∷ marks) (age ∷ ages) same = ap suc (after_many marks ages (omega (arith, same)))

marks_many : (texts keys : List (List ℕ)) → length (marks_of texts keys) ≡ length keys
marks_many texts [] = refl
marks_many texts (k ∷ keys) = ap suc (marks_many texts keys)

-- a command marked each place
pub marked_all : (texts : List (List ℕ)) (ages : Ages) (needed : Needed) → length ages.ages.items ≡ length ages.keys → IsNeeded texts ages needed → length needed.marks.items ≡ length ages.ages.items
marked_all texts ages needed beside h = ap length h.marks ∙ marks_many texts ages.keys ∙ sym beside

module _ (design : Design) (script : List Word) (old new : Results) (needed : Needed) (sound : AreSound design script old) (needs : IsNeeded (key_texts script design.modules) old.ages needed)
    (keys : new.ages.keys ≡ old.ages.keys) (ages : new.ages.ages.items ≡ ages_after needed.marks.items old.ages.ages.items) where
  ages_are : new.ages.ages.items ≡ ages_after (marks_of (key_texts script design.modules) old.ages.keys) old.ages.ages.items
  ages_are = ages ∙ ap (λ (l : List Bool). ages_after l old.ages.ages.items) needs.marks

  kept_are : kept_in new.ages.keys new.ages.ages.items ≡ kept_in old.ages.keys (ages_after (marks_of (key_texts script design.modules) old.ages.keys) old.ages.ages.items)
  kept_are = ap (λ (l : List (List ℕ)). kept_in l new.ages.ages.items) keys ∙ ap (kept_in old.ages.keys) ages_are

  pub ended_kept : kept_in new.ages.keys new.ages.ages.items ≡ kept_after (key_texts script design.modules) (kept_in old.ages.keys old.ages.ages.items)
  ended_kept = kept_are ∙ ages_kept (key_texts script design.modules) old.ages.keys old.ages.ages.items needs.distinct sound.aged.beside needs.there

  -- all keys of the present design are kept, and the others are older
  pub ended_state : (before : State) → state_of design script old ≡ before → state_of design script new ≡ all_kept before
  ended_state before is = ap (λ (kept : List KeptKey). record { design = design; script = script; kept = kept }) ended_kept ∙ ap all_kept is

  -- the results are sound still
  pub ended_sound : (before : List (List ℕ)) → kept_by old.seats.items ≡ with_keys before (key_texts script design.modules) → AreSeated new.cache.table.shared.table_id new.cache.shards new.seats.items → new.found ≡ old.found
      → kept_by new.seats.items ≡ without needed.too_old.items (kept_by old.seats.items) → AreSound design script new
  ended_sound before filled idle found kept = record {
    readable = sound.readable;
    idle = idle;
    aged = record {
      beside =
          ap length ages_are ∙ after_many (marks_of (key_texts script design.modules) old.ages.keys) old.ages.ages.items (marks_many (key_texts script design.modules) old.ages.keys ∙ sym sound.aged.beside)
          ∙ sound.aged.beside ∙ ap length (sym keys);
      kept = λ q is.
          kept_is q
          ∙ still_aged (key_texts script design.modules) old.ages.keys (kept_by old.seats.items) old.ages.ages.items needs.distinct sound.aged.beside sound.aged.kept (needed_still before (key_texts script design.modules) (kept_by old.seats.items) filled) q
          (ap (λ (l : List KeptKey). has_name (texts_of l) q) (sym kept_are) ∙ is);
      young = λ at age is. young_after needed.marks.items old.ages.ages.items at age (ap (λ (l : List (Option ℕ)). slice_get l at) (sym ages) ∙ is);
    };
    beside = ap (λ f. length f.items) found ∙ sound.beside;
    own = λ at built is.
        let there = ap (λ f. slice_get f.items at) (sym found) ∙ is in
        let one = sound.own at built there in
        record {
          key = one.key;
          value = one.value;
          kept =
              kept_is (key_text_at script design.modules at)
              ∙ still_needed (key_texts script design.modules) old.ages.keys (kept_by old.seats.items) old.ages.ages.items needs.distinct (needed_still before (key_texts script design.modules) (kept_by old.seats.items) filled) (key_text_at script design.modules at)
              (of_job (key_text_at script design.modules) 0 (length design.modules) at (omega arith) (let w = slice_within old.found.items at (Some built) there in let b = sound.beside in omega (arith, w, b)));
        };
  }
    where
      gone_is : needed.too_old.items ≡ too_old (marks_of (key_texts script design.modules) old.ages.keys) old.ages.keys old.ages.ages.items
      gone_is = needs.gone ∙ ap (λ (l : List Bool). too_old l old.ages.keys old.ages.ages.items) needs.marks

      kept_is : (q : List ℕ) → has_name (kept_by new.seats.items) q ≡ has_name (without (too_old (marks_of (key_texts script design.modules) old.ages.keys) old.ages.keys old.ages.ages.items) (kept_by old.seats.items)) q
      kept_is q = ap (λ (l : List (List ℕ)). has_name l q) kept ∙ ap (λ (l : List (List ℕ)). has_name (without l (kept_by old.seats.items)) q) gone_is

      slice_within : (xs : List (Option Built)) (at : ℕ) (x : Option Built) → slice_get xs at ≡ Some x → at + 1 ≤ length xs
      slice_within [] at x is = absurd (let no : None ≡ Some x = is in cc)
      slice_within (y ∷ xs) zero x is = omega arith
      slice_within (y ∷ xs) (suc at) x is = let r = slice_within xs at x is in omega (arith, r)

-- what an end leaves of claims and of what was given back
pub ended_claims : (texts : List (List ℕ)) (olds mids news : List Seated) → HasClaims texts olds mids → ((key : List ℕ) → times_by claims key news ≡ times_by claims key mids) → HasClaims texts olds news
ended_claims texts olds mids news h same = λ key. let a = h key in let b = same key in omega (arith, a, b)

pub ended_returns : (most : ℕ) (olds mids news : List Seated) (m n : ℕ) → BuildsOrReturns most olds mids m n → given_back news ≡ given_back mids → BuildsOrReturns most olds news m n
ended_returns most olds mids news m n h same = record { gave = h.gave; given = same ∙ h.given; ticks = h.ticks }
