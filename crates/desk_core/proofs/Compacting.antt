-- Tables that keep the keys that have an age.
use Rattle.std.proofs.Common.{◌≡◌, ℕ, zero, suc, ◌+◌, ◌*◌, ◌≤◌, ◌<◌, List, [], ◌∷◌, ◌++◌, Bool, true, false, true≢false, ◌||◌, drop, get_or, length, filter, Option, Some, None, slice_get, refl, sym, ap, subst, ◌∙◌, arith}
use Rattle.std.specs.Cmp.Lexicographic.{slice_cmp}
use Rattle.std.specs.Option.{is_none, is_some}
use Rattle.std.specs.Ordering.{nat_cmp, match_ordering}
use Rattle.std.specs.Str.{bytes_eq}
use Rattle.std.specs.declared.cmp.Ordering.{Ordering}
use Rattle.std.specs.declared.cmp.Ordering.TheVariants.{Less, Equal, Greater}
use Rattle.std.proofs.lemmas.List.{append_assoc, drop_more}
use Rattle.std.proofs.lemmas.Option.{get_or_from_slice_get}
use Rattle.std.proofs.lemmas.List.Sums.{length-filter}
use Rattle.std.proofs.lemmas.Map.Lookups.{exact_bytes}
use Rattle.rtl_sig.specs.Names.{has_name, AreDistinct}
use Rattle.result_cache.proofs.Keys.{AllDiffer, NoneIs, bytes_same, differ_of}
use Rattle.desk_core.specs.Ages.{AreYoung, aged, aged_keys, kept_in, oldest, texts_of, unaged_count, with_kept}
use Rattle.desk_core.specs.State.{KeptKey}
use Rattle.desk_core.proofs.Aging.{age_in, among_texts, none_at}

-- the keys that have an age are kept in a table of their own
pub kept_aged : (keys : List (List ℕ)) (ages : List (Option ℕ)) → kept_in (aged_keys keys ages) (filter is_some ages) ≡ kept_in keys ages
kept_aged [] ages = refl
kept_aged (key ∷ keys) [] = refl
kept_aged (key ∷ keys) (None ∷ ages) = kept_aged keys ages
kept_aged (key ∷ keys) (Some age ∷ ages) = ap (with_kept (aged key age)) (kept_aged keys ages)

pub aged_beside : (keys : List (List ℕ)) (ages : List (Option ℕ)) → length ages ≡ length keys → length (filter is_some ages) ≡ length (aged_keys keys ages)
aged_beside [] [] same = refl
aged_beside [] (age ∷ ages) same = absurd (omega (arith, same))
aged_beside (key ∷ keys) [] same = absurd (omega (arith, same))
aged_beside (key ∷ keys) (None ∷ ages) same = aged_beside keys ages (omega (arith, same))
aged_beside (key ∷ keys) (Some age ∷ ages) same = ap suc (aged_beside keys ages (omega (arith, same)))

pub young_aged : (ages : List (Option ℕ)) → AreYoung ages → (at age : ℕ) → slice_get (filter is_some ages) at ≡ Some (Some age) → age ≤ oldest
young_aged [] h at age is = absurd (let no : ◌≡◌ {A = Option (Option ℕ)} None (Some (Some age)) = is in cc)
young_aged (None ∷ ages) h at age is = young_aged ages (λ n. h (suc n)) at age is
young_aged (Some a ∷ ages) h zero age is = h 0 age is
young_aged (Some a ∷ ages) h (suc at) age is = young_aged ages (λ n. h (suc n)) at age is

none_aged : (k : List ℕ) (keys : List (List ℕ)) (ages : List (Option ℕ)) → NoneIs k keys → NoneIs k (aged_keys keys ages)
none_aged k [] ages h = tt
none_aged k (key ∷ keys) [] h = tt
none_aged k (key ∷ keys) (None ∷ ages) h = none_aged k keys ages h.1
none_aged k (key ∷ keys) (Some age ∷ ages) h = (h.0, none_aged k keys ages h.1)

aged_differ : (keys : List (List ℕ)) (ages : List (Option ℕ)) → AllDiffer keys → AllDiffer (aged_keys keys ages)
aged_differ [] ages h = tt
aged_differ (key ∷ keys) [] h = tt
aged_differ (key ∷ keys) (None ∷ ages) h = aged_differ keys ages h.1
aged_differ (key ∷ keys) (Some age ∷ ages) h = (none_aged key keys ages h.0, aged_differ keys ages h.1)

at_middle : (k : List ℕ) (xs : List (List ℕ)) (y : List ℕ) (ys : List (List ℕ)) → NoneIs k (xs ++ y ∷ ys) → bytes_eq y k ≡ false
at_middle k [] y ys h = h.0
at_middle k (x ∷ xs) y ys h = at_middle k xs y ys h.1

new_behind : (xs : List (List ℕ)) (y : List ℕ) (ys : List (List ℕ)) → AllDiffer (xs ++ y ∷ ys) → has_name xs y ≡ false
new_behind [] y ys h = refl
new_behind (x ∷ xs) y ys h = rw (at_middle x xs y ys h.0) (new_behind xs y ys h.1)

-- the place of a key in a table that is walked: what was read there
pub record IsRead (keys : List (List ℕ)) (ages : List (Option ℕ)) (n : ℕ) (read : Option ℕ) : Type 0 where
  pub in_keys : n < length keys
  pub in_ages : n < length ages
  pub age : read ≡ get_or ages n read

module _ (keys : List (List ℕ)) (ages : List (Option ℕ)) (n : ℕ) (read : Option ℕ) (here : IsRead keys ages n read) where
  aged_at : (age : Option ℕ) → read ≡ age → aged_keys (drop n keys) (drop n ages) ≡ aged_keys (get_or keys n [] ∷ drop (n + 1) keys) (age ∷ drop (n + 1) ages)
  aged_at age is =
      ap (λ (ks : List (List ℕ)). aged_keys ks (drop n ages)) (drop_more keys n [] here.in_keys)
      ∙ ap (aged_keys (get_or keys n [] ∷ drop (n + 1) keys)) (drop_more ages n read here.in_ages)
      ∙ ap (λ (a : Option ℕ). aged_keys (get_or keys n [] ∷ drop (n + 1) keys) (a ∷ drop (n + 1) ages)) (sym here.age ∙ is)

  ages_at : (age : Option ℕ) → read ≡ age → filter is_some (drop n ages) ≡ filter is_some (age ∷ drop (n + 1) ages)
  ages_at age is = ap (filter is_some) (drop_more ages n read here.in_ages) ∙ ap (λ (a : Option ℕ). filter is_some (a ∷ drop (n + 1) ages)) (sym here.age ∙ is)

  -- a key without an age is passed over
  pub keys_skip : read ≡ None → aged_keys (drop n keys) (drop n ages) ≡ aged_keys (drop (n + 1) keys) (drop (n + 1) ages)
  keys_skip is = aged_at None is

  pub ages_skip : read ≡ None → filter is_some (drop n ages) ≡ filter is_some (drop (n + 1) ages)
  ages_skip is = ages_at None is

  -- a key with an age is the next
  keys_next : (key : List ℕ) (age : ℕ) → slice_get keys n ≡ Some key → read ≡ Some age → aged_keys (drop n keys) (drop n ages) ≡ key ∷ aged_keys (drop (n + 1) keys) (drop (n + 1) ages)
  keys_next key age there is = aged_at (Some age) is ∙ ap (λ (k : List ℕ). k ∷ aged_keys (drop (n + 1) keys) (drop (n + 1) ages)) (get_or_from_slice_get keys n key [] there)

  pub keys_more : (xs : List (List ℕ)) (key : List ℕ) (age : ℕ) → slice_get keys n ≡ Some key → read ≡ Some age → xs ++ aged_keys (drop n keys) (drop n ages) ≡ aged_keys keys ages
      → (xs ++ key ∷ []) ++ aged_keys (drop (n + 1) keys) (drop (n + 1) ages) ≡ aged_keys keys ages
  keys_more xs key age there is all =
      append_assoc xs (key ∷ []) (aged_keys (drop (n + 1) keys) (drop (n + 1) ages)) ∙ ap (λ (ks : List (List ℕ)). xs ++ ks) (sym (keys_next key age there is)) ∙ all

  pub ages_more : (xs : List (Option ℕ)) (age : ℕ) → read ≡ Some age → xs ++ filter is_some (drop n ages) ≡ filter is_some ages → (xs ++ Some age ∷ []) ++ filter is_some (drop (n + 1) ages) ≡ filter is_some ages
  ages_more xs age is all = append_assoc xs (Some age ∷ []) (filter is_some (drop (n + 1) ages)) ∙ ap (λ (as' : List (Option ℕ)). xs ++ as') (sym (ages_at (Some age) is)) ∙ all

  -- the next key is not among those before it that have an age
  pub next_is_new : (xs : List (List ℕ)) (key : List ℕ) (age : ℕ) → AreDistinct keys → slice_get keys n ≡ Some key → read ≡ Some age → xs ++ aged_keys (drop n keys) (drop n ages) ≡ aged_keys keys ages → has_name xs key ≡ false
  next_is_new xs key age distinct there is all =
      new_behind xs key (aged_keys (drop (n + 1) keys) (drop (n + 1) ages))
      (subst AllDiffer (sym all ∙ ap (λ (ks : List (List ℕ)). xs ++ ks) (keys_next key age there is)) (aged_differ keys ages (differ_of keys distinct)))

with_count : (new : KeptKey) (kept : List KeptKey) → has_name (texts_of kept) new.key ≡ false → length (with_kept new kept) ≡ suc (length kept)
with_count new [] h = refl
with_count new (k ∷ kept) h = by (slice_cmp nat_cmp new.key k.key) refl (bytes_eq new.key k.key) refl h (with_count new kept)
  where
    by : (o : Ordering) → slice_cmp nat_cmp new.key k.key ≡ o → (b : Bool) → bytes_eq new.key k.key ≡ b → (b || has_name (texts_of kept) new.key) ≡ false
        → (has_name (texts_of kept) new.key ≡ false → length (with_kept new kept) ≡ suc (length kept))
        → length (match_ordering o (new ∷ k ∷ kept) (new ∷ kept) (k ∷ with_kept new kept)) ≡ suc (suc (length kept))
    by o is true same none rest = absurd (true≢false none)
    by Less is false other none rest = refl
    by Equal is false other none rest = absurd (true≢false (sym (bytes_same new.key k.key (exact_bytes new.key k.key is)) ∙ other))
    by Greater is false other none rest = ap suc (rest none)

none_count : (ages : List (Option ℕ)) → unaged_count (None ∷ ages) ≡ suc (unaged_count ages)
none_count ages = sym (length-filter is_none (None ∷ ages)) ∙ ap suc (length-filter is_none ages)

some_count : (age : ℕ) (ages : List (Option ℕ)) → unaged_count (Some age ∷ ages) ≡ unaged_count ages
some_count age ages = sym (length-filter is_none (Some age ∷ ages)) ∙ length-filter is_none ages

differ_count : (keys : List (List ℕ)) (ages : List (Option ℕ)) → AllDiffer keys → length ages ≡ length keys → length (kept_in keys ages) + unaged_count ages ≡ length keys
differ_count [] [] differ same = refl
differ_count [] (age ∷ ages) differ same = absurd (omega (arith, same))
differ_count (key ∷ keys) [] differ same = absurd (omega (arith, same))
differ_count (key ∷ keys) (None ∷ ages) differ same =
    let rest = differ_count keys ages differ.1 (omega (arith, same)) in
    let kept : length (kept_in (key ∷ keys) (None ∷ ages)) ≡ length (kept_in keys ages) = refl in
    omega (arith, rest, kept, none_count ages)
differ_count (key ∷ keys) (Some age ∷ ages) differ same =
    let rest = differ_count keys ages differ.1 (omega (arith, same)) in
    let absent : has_name (texts_of (kept_in keys ages)) key ≡ false = among_texts (kept_in keys ages) key ∙ ap is_some (age_in keys ages key differ.1 ∙ none_at key keys ages differ.0) in
    let kept : length (kept_in (key ∷ keys) (Some age ∷ ages)) ≡ suc (length (kept_in keys ages)) = with_count (aged key age) (kept_in keys ages) absent in
    omega (arith, rest, kept, some_count age ages)

-- the keys that are kept and those without an age are all keys
pub kept_count : (keys : List (List ℕ)) (ages : List (Option ℕ)) → AreDistinct keys → length ages ≡ length keys → length (kept_in keys ages) + unaged_count ages ≡ length keys
kept_count keys ages distinct same = differ_count keys ages (differ_of keys distinct) same

aged_count : (keys : List (List ℕ)) (ages : List (Option ℕ)) → length ages ≡ length keys → length (aged_keys keys ages) + unaged_count ages ≡ length keys
aged_count [] [] same = refl
aged_count [] (age ∷ ages) same = absurd (omega (arith, same))
aged_count (key ∷ keys) [] same = absurd (omega (arith, same))
aged_count (key ∷ keys) (None ∷ ages) same =
    let rest = aged_count keys ages (omega (arith, same)) in
    let many : length (aged_keys (key ∷ keys) (None ∷ ages)) ≡ length (aged_keys keys ages) = refl in
    omega (arith, rest, many, none_count ages)
aged_count (key ∷ keys) (Some age ∷ ages) same =
    let rest = aged_count keys ages (omega (arith, same)) in
    let many : length (aged_keys (key ∷ keys) (Some age ∷ ages)) ≡ suc (length (aged_keys keys ages)) = refl in
    omega (arith, rest, many, some_count age ages)

-- a table of the keys that have an age: what was kept is kept, and nothing else is there
pub record AreAgedOnly (keys : List (List ℕ)) (ages : List (Option ℕ)) (named : List (List ℕ)) (news : List (Option ℕ)) : Type 0 where
  pub beside : length news ≡ length named
  pub kept : kept_in named news ≡ kept_in keys ages
  pub young : AreYoung ages → AreYoung news
  pub few : length named ≤ 16 + 2 * length (kept_in named news)

pub aged_only : (keys : List (List ℕ)) (ages : List (Option ℕ)) (named : List (List ℕ)) (news : List (Option ℕ)) → AreDistinct keys → length ages ≡ length keys → named ≡ aged_keys keys ages → news ≡ filter is_some ages → AreAgedOnly keys ages named news
aged_only keys ages named news distinct same name_is new_is = record {
  beside = ap length new_is ∙ aged_beside keys ages same ∙ ap length (sym name_is);
  kept = kept;
  young = λ h. subst AreYoung (sym new_is) (young_aged ages h);
  few = omega (arith, kept_count keys ages distinct same, aged_count keys ages same, ap length kept, ap length name_is);
}
  where
    kept : kept_in named news ≡ kept_in keys ages
    kept = ap (λ (ks : List (List ℕ)). kept_in ks news) name_is ∙ ap (kept_in (aged_keys keys ages)) new_is ∙ kept_aged keys ages
