-- Places of keys in a table.
use Rattle.std.proofs.Common.{◌≡◌, ℕ, zero, suc, ◌+◌, ◌≤◌, ◌<◌, List, [], ◌∷◌, ◌++◌, Bool, true, false, true≢false, cond, ◌||◌, eqb, slice_get, get_or, set, length, map, replicate, take, Option, Some, None, refl, sym, ap, subst, ◌∙◌, arith}
use Rattle.std.specs.List.{All, list_any}
use Rattle.std.specs.Str.{bytes_eq}
use Rattle.std.proofs.lemmas.Bool.{eqb-true, eqb-false}
use Rattle.std.proofs.lemmas.List.{get_or-map, get_or-replicate, get_or-set_other, get_or-set_same, length-map, length-replicate, length-set, length_push, map_push, same_lists, take_more}
use Rattle.std.proofs.lemmas.List.Elements.{All-cons, All-nil}
use Rattle.std.proofs.lemmas.List.Folds.{list_any-append}
use Rattle.std.proofs.lemmas.List.FromFn.{get_or-map-range_with_len, length-map-range_with_len}
use Rattle.std.proofs.lemmas.Option.{get_or_from_slice_get, slice_get_within}
use Rattle.rtl_sig.specs.Names.{has_name, next_number_of, with_name, AreDistinct}
use Rattle.rtl_sig.proofs.NamesLemmas.{next_number_of-new, slice_get-known}
use Rattle.result_cache.proofs.Keys.{AllDiffer, bytes_same, bytes_true, bytes_other, differ_of, none_at}
use Rattle.desk_core.specs.Ages.{AreYoung, aged, kept_in, oldest, with_kept}
use Rattle.desk_core.specs.Needed.{marks_of, places_marked}

-- a new key without an age leaves the kept keys as they are
kept_new : (keys : List (List ℕ)) (ages : List (Option ℕ)) (key : List ℕ) → length ages ≡ length keys → kept_in (keys ++ key ∷ []) (ages ++ None ∷ []) ≡ kept_in keys ages
kept_new [] [] key same = refl
kept_new [] (age ∷ ages) key same = absurd (omega (arith, same))
kept_new (k ∷ keys) [] key same = absurd (omega (arith, same))
kept_new (k ∷ keys) (None ∷ ages) key same = kept_new keys ages key (omega (arith, same))
kept_new (k ∷ keys) (Some age ∷ ages) key same = ap (with_kept (aged k age)) (kept_new keys ages key (omega (arith, same)))

young_new : (ages : List (Option ℕ)) → AreYoung ages → (at age : ℕ) → slice_get (ages ++ None ∷ []) at ≡ Some (Some age) → age ≤ oldest
young_new [] h zero age is = absurd (let no : ◌≡◌ {A = Option (Option ℕ)} (Some None) (Some (Some age)) = is in cc)
young_new [] h (suc at) age is = absurd (let no : ◌≡◌ {A = Option (Option ℕ)} None (Some (Some age)) = is in cc)
young_new (a ∷ ages) h zero age is = h 0 age is
young_new (a ∷ ages) h (suc at) age is = young_new ages (λ n. h (suc n)) at age is

-- a table in which a key was given a place: what was kept is kept
pub record ArePlaced (keys : List (List ℕ)) (ages : List (Option ℕ)) (named : List (List ℕ)) (news : List (Option ℕ)) : Type 0 where
  pub beside : length news ≡ length named
  pub kept : kept_in named news ≡ kept_in keys ages
  pub young : AreYoung ages → AreYoung news

-- a key whose place is the next is new
pub placed_new : (keys : List (List ℕ)) (ages : List (Option ℕ)) (key : List ℕ) (n : ℕ) (named : List (List ℕ)) (news : List (Option ℕ)) → length ages ≡ length keys → n ≡ next_number_of keys key → n ≡ length ages
    → named ≡ with_name keys key → news ≡ ages ++ None ∷ [] → ArePlaced keys ages named news
placed_new keys ages key n named news same at last name_is new_is = by (has_name keys key) refl
  where
    by : (b : Bool) → has_name keys key ≡ b → ArePlaced keys ages named news
    by true is = absurd (let within = slice_get_within keys (next_number_of keys key) key (slice_get-known key keys is) in omega (arith, within, same, at, last))
    by false is =
        let behind : named ≡ keys ++ key ∷ [] = name_is ∙ ap (λ (b : Bool). cond b keys (keys ++ key ∷ [])) is in
        record {
          beside = ap length new_is ∙ length_push ages None ∙ ap (λ (k : ℕ). k + 1) same ∙ sym (length_push keys key) ∙ ap length (sym behind);
          kept = ap (λ (ks : List (List ℕ)). kept_in ks news) behind ∙ ap (kept_in (keys ++ key ∷ [])) new_is ∙ kept_new keys ages key same;
          young = λ h. subst AreYoung (sym new_is) (young_new ages h);
        }

-- a key whose place is another one is known
pub placed_known : (keys : List (List ℕ)) (ages : List (Option ℕ)) (key : List ℕ) (n : ℕ) (named : List (List ℕ)) (news : List (Option ℕ)) → length ages ≡ length keys → n ≡ next_number_of keys key → (n ≡ length ages → ⊥)
    → named ≡ with_name keys key → news ≡ ages → ArePlaced keys ages named news
placed_known keys ages key n named news same at other name_is new_is = by (has_name keys key) refl
  where
    by : (b : Bool) → has_name keys key ≡ b → ArePlaced keys ages named news
    by true is =
        let kept : named ≡ keys = name_is ∙ ap (λ (b : Bool). cond b keys (keys ++ key ∷ [])) is in
        record {
          beside = ap length new_is ∙ same ∙ ap length (sym kept);
          kept = ap (λ (ks : List (List ℕ)). kept_in ks news) kept ∙ ap (kept_in keys) new_is;
          young = λ h. subst AreYoung (sym new_is) h;
        }
    by false is = absurd (other (at ∙ next_number_of-new key keys is ∙ sym same))

-- a known place stays where a key is given one
place_stays : (keys : List (List ℕ)) (key text : List ℕ) (at : ℕ) → slice_get keys at ≡ Some text → slice_get (with_name keys key) at ≡ Some text
place_stays keys key text at is = by (has_name keys key)
  where
    behind : (ks : List (List ℕ)) (n : ℕ) → slice_get ks n ≡ Some text → slice_get (ks ++ key ∷ []) n ≡ Some text
    behind [] n h = absurd (let no : ◌≡◌ {A = Option (List ℕ)} None (Some text) = h in cc)
    behind (k ∷ ks) zero h = h
    behind (k ∷ ks) (suc n) h = behind ks n h

    by : (b : Bool) → slice_get (cond b keys (keys ++ key ∷ [])) at ≡ Some text
    by true = is
    by false = behind keys at is

places_stay : (keys : List (List ℕ)) (key : List ℕ) (places : List ℕ) (texts : List (List ℕ)) → map (slice_get keys) places ≡ map Some texts → map (slice_get (with_name keys key)) places ≡ map Some texts
places_stay keys key [] texts h = h
places_stay keys key (place ∷ places) [] h = absurd (let no : ◌≡◌ {A = List (Option (List ℕ))} (slice_get keys place ∷ map (slice_get keys) places) [] = h in cc)
places_stay keys key (place ∷ places) (text ∷ texts) h =
    let all : ◌≡◌ {A = List (Option (List ℕ))} (slice_get keys place ∷ map (slice_get keys) places) (Some text ∷ map Some texts) = h in
    let first : slice_get keys place ≡ Some text = cc in
    let rest : map (slice_get keys) places ≡ map Some texts = cc in
    ap (λ (o : Option (List ℕ)). o ∷ map (slice_get (with_name keys key)) places) (place_stays keys key text place first) ∙ ap (λ (os : List (Option (List ℕ))). Some text ∷ os) (places_stay keys key places texts rest)

-- the places of texts of which each has its own, of which one more has its place
pub places_more : {A : Type 0} (text_of : A → List ℕ) (all : List A) (keys news : List (List ℕ)) (n place : ℕ) (item : A) (key : List ℕ) (places : List ℕ) → map (slice_get keys) places ≡ map Some (map text_of (take n all)) → n < length all
    → get_or all n item ≡ item → key ≡ text_of item → news ≡ with_name keys key → slice_get news place ≡ Some key
    → map (slice_get news) (places ++ place ∷ []) ≡ map Some (map text_of (take (n + 1) all))
places_more {A = A} text_of all keys news n place item key places h within there is name_is at =
    let texts = map text_of (take n all) in
    map_push (slice_get news) places place
    ∙ ap (λ (os : List (Option (List ℕ))). os ++ slice_get news place ∷ []) (ap (λ (ks : List (List ℕ)). map (slice_get ks) places) name_is ∙ places_stay keys key places texts h)
    ∙ ap (λ (o : Option (List ℕ)). map Some texts ++ o ∷ []) (at ∙ ap Some is)
    ∙ sym (map_push Some texts (text_of item))
    ∙ ap (map Some) (sym (map_push text_of (take n all) item))
    ∙ ap (λ (l : List A). map Some (map text_of l)) (ap (λ (x : A). take n all ++ x ∷ []) (sym there) ∙ sym (take_more all n item within))

-- a key is at most one more name
pub named_few : (keys : List (List ℕ)) (key : List ℕ) → length (with_name keys key) ≤ length keys + 1
named_few keys key = by (has_name keys key)
  where
    by : (b : Bool) → length (cond b keys (keys ++ key ∷ [])) ≤ length keys + 1
    by true = omega arith
    by false = omega (arith, length_push keys key)

-- what stands at a place is among the keys
has_at : (keys : List (List ℕ)) (place : ℕ) (text : List ℕ) → slice_get keys place ≡ Some text → has_name keys text ≡ true
has_at [] place text h = absurd (let no : ◌≡◌ {A = Option (List ℕ)} None (Some text) = h in cc)
has_at (k ∷ keys) zero text h =
    let e : text ≡ k = cc in
    ap (λ (b : Bool). b || has_name keys text) (bytes_same text k e)
has_at (k ∷ keys) (suc place) text h = by (bytes_eq text k) (has_at keys place text h)
  where
    by : (b : Bool) → has_name keys text ≡ true → (b || has_name keys text) ≡ true
    by true rest = refl
    by false rest = rest

-- texts that have places are among the keys
pub there_are : (keys : List (List ℕ)) (places : List ℕ) (texts : List (List ℕ)) → map (slice_get keys) places ≡ map Some texts → (q : List ℕ) → has_name texts q ≡ true → has_name keys q ≡ true
there_are keys places [] h q is = absurd (true≢false (sym is))
there_are keys [] (text ∷ texts) h q is = absurd (let no : ◌≡◌ {A = List (Option (List ℕ))} [] (Some text ∷ map Some texts) = h in cc)
there_are keys (place ∷ places) (text ∷ texts) h q is =
    let all : ◌≡◌ {A = List (Option (List ℕ))} (slice_get keys place ∷ map (slice_get keys) places) (Some text ∷ map Some texts) = h in
    let first : slice_get keys place ≡ Some text = cc in
    let rest : map (slice_get keys) places ≡ map Some texts = cc in
    by (bytes_eq q text) refl first (there_are keys places texts rest q) is
  where
    by : (b : Bool) → bytes_eq q text ≡ b → slice_get keys place ≡ Some text → (has_name texts q ≡ true → has_name keys q ≡ true) → (b || has_name texts q) ≡ true → has_name keys q ≡ true
    by true same first rest t = ap (has_name keys) (bytes_true q text same) ∙ has_at keys place text first
    by false other first rest t = rest t

-- each place is one of the table's
pub within_are : (keys : List (List ℕ)) (places : List ℕ) (texts : List (List ℕ)) → map (slice_get keys) places ≡ map Some texts → All (λ place. place < length keys) places
within_are keys [] texts h = All-nil (λ place. place < length keys)
within_are keys (place ∷ places) [] h = absurd (let no : ◌≡◌ {A = List (Option (List ℕ))} (slice_get keys place ∷ map (slice_get keys) places) [] = h in cc)
within_are keys (place ∷ places) (text ∷ texts) h =
    let all : ◌≡◌ {A = List (Option (List ℕ))} (slice_get keys place ∷ map (slice_get keys) places) (Some text ∷ map Some texts) = h in
    let first : slice_get keys place ≡ Some text = cc in
    let rest : map (slice_get keys) places ≡ map Some texts = cc in
    All-cons (λ place. place < length keys) place places (slice_get_within keys place text first) (within_are keys places texts rest)

apart_at : (keys : List (List ℕ)) (i j : ℕ) → AllDiffer keys → i < length keys → j < length keys → (i ≡ j → ⊥) → bytes_eq (get_or keys i []) (get_or keys j []) ≡ false
apart_at [] i j differ a b ne = absurd (omega (arith, a))
apart_at (k ∷ keys) zero zero differ a b ne = absurd (ne refl)
apart_at (k ∷ keys) zero (suc j) differ a b ne = bytes_other (get_or keys j []) k (none_at k keys j differ.0 (omega (arith, b)))
apart_at (k ∷ keys) (suc i) zero differ a b ne = none_at k keys i differ.0 (omega (arith, a))
apart_at (k ∷ keys) (suc i) (suc j) differ a b ne = apart_at keys i j differ.1 (omega (arith, a)) (omega (arith, b)) (λ e. ne (ap suc e))

-- a place is that of a text exactly where the key there is the text
place_is : (keys : List (List ℕ)) (place at : ℕ) (text : List ℕ) → AllDiffer keys → at < length keys → slice_get keys place ≡ Some text → eqb place at ≡ bytes_eq (get_or keys at []) text
place_is keys place at text differ within is = by (eqb place at) refl
  where
    there : get_or keys place [] ≡ text
    there = get_or_from_slice_get keys place text [] is

    by : (b : Bool) → eqb place at ≡ b → b ≡ bytes_eq (get_or keys at []) text
    by true e = sym (bytes_same (get_or keys at []) text (ap (λ (n : ℕ). get_or keys n []) (sym (eqb-true place at e)) ∙ there))
    by false e =
        sym (ap (bytes_eq (get_or keys at [])) (sym there)
        ∙ apart_at keys at place differ within (slice_get_within keys place text is) (λ same. eqb-false place at e (sym same)))

marked_at : (keys : List (List ℕ)) (at : ℕ) (places : List ℕ) (texts : List (List ℕ)) → AllDiffer keys → at < length keys → map (slice_get keys) places ≡ map Some texts
    → list_any (λ place. eqb place at) places ≡ has_name texts (get_or keys at [])
marked_at keys at [] [] differ within h = refl
marked_at keys at [] (text ∷ texts) differ within h = absurd (let no : ◌≡◌ {A = List (Option (List ℕ))} [] (Some text ∷ map Some texts) = h in cc)
marked_at keys at (place ∷ places) [] differ within h = absurd (let no : ◌≡◌ {A = List (Option (List ℕ))} (slice_get keys place ∷ map (slice_get keys) places) [] = h in cc)
marked_at keys at (place ∷ places) (text ∷ texts) differ within h =
    let all : ◌≡◌ {A = List (Option (List ℕ))} (slice_get keys place ∷ map (slice_get keys) places) (Some text ∷ map Some texts) = h in
    let first : slice_get keys place ≡ Some text = cc in
    let rest : map (slice_get keys) places ≡ map Some texts = cc in
    ap (λ (b : Bool). b || list_any (λ place. eqb place at) places) (place_is keys place at text differ within first)
    ∙ ap (λ (b : Bool). bytes_eq (get_or keys at []) text || b) (marked_at keys at places texts differ within rest)

-- the places that are marked are those of the keys that are needed
pub marks_are : (keys : List (List ℕ)) (places : List ℕ) (texts : List (List ℕ)) → AreDistinct keys → map (slice_get keys) places ≡ map Some texts → places_marked places (length keys) ≡ marks_of texts keys
marks_are keys places texts distinct h =
    same_lists (places_marked places (length keys)) (marks_of texts keys) (many ∙ sym (length-map keys (has_name texts)))
    (λ k d within. let in_keys : k < length keys = omega (arith, within, many) in
    get_or-map-range_with_len (λ at. list_any (λ place. eqb place at) places) 0 (length keys) k k d in_keys (omega arith)
    ∙ marked_at keys k places texts (differ_of keys distinct) in_keys h
    ∙ sym (get_or-map (has_name texts) keys k [] d in_keys))
  where
    many : length (places_marked places (length keys)) ≡ length keys
    many = length-map-range_with_len (λ at. list_any (λ place. eqb place at) places) 0 (length keys)

pub marked_many : (places : List ℕ) (count : ℕ) → length (places_marked places count) ≡ count
marked_many places count = length-map-range_with_len (λ at. list_any (λ place. eqb place at) places) 0 count

-- no place is marked at first
pub marked_none : (count : ℕ) → replicate count false ≡ places_marked [] count
marked_none count =
    same_lists (replicate count false) (places_marked [] count) (length-replicate count false ∙ sym (marked_many [] count))
    (λ k d within. let in_count : k < count = omega (arith, within, length-replicate count false) in
    get_or-replicate count k false d in_count ∙ sym (get_or-map-range_with_len (λ at. list_any (λ p. eqb p at) []) 0 count k k d in_count (omega arith)))

-- one more place is marked
pub marked_more : (places : List ℕ) (place count : ℕ) → place < count → set (places_marked places count) place true ≡ places_marked (places ++ place ∷ []) count
marked_more places place count within =
    same_lists (set (places_marked places count) place true) (places_marked (places ++ place ∷ []) count) (many ∙ sym (marked_many (places ++ place ∷ []) count))
    (λ k d in_marks. let in_count : k < count = omega (arith, in_marks, many) in
    by k d in_count (eqb place k) refl
    ∙ sym (list_any-append (λ p. eqb p k) places (place ∷ []))
    ∙ sym (get_or-map-range_with_len (λ at. list_any (λ p. eqb p at) (places ++ place ∷ [])) 0 count k k d in_count (omega arith)))
  where
    old_many : length (places_marked places count) ≡ count
    old_many = marked_many places count

    many : length (set (places_marked places count) place true) ≡ count
    many = length-set (places_marked places count) place true ∙ old_many

    or_true : (b : Bool) → true ≡ (b || true)
    or_true true = refl
    or_true false = refl

    or_false : (b : Bool) → b ≡ (b || false)
    or_false true = refl
    or_false false = refl

    by : (k : ℕ) (d : Bool) → k < count → (b : Bool) → eqb place k ≡ b → get_or (set (places_marked places count) place true) k d ≡ (list_any (λ p. eqb p k) places || (eqb place k || false))
    by k d in_count true is =
        let same = eqb-true place k is in
        ap (λ (n : ℕ). get_or (set (places_marked places count) place true) n d) (sym same)
        ∙ get_or-set_same (places_marked places count) place true d (omega (arith, within, old_many))
        ∙ or_true (list_any (λ p. eqb p k) places)
        ∙ ap (λ (b : Bool). list_any (λ p. eqb p k) places || (b || false)) (sym is)
    by k d in_count false is =
        get_or-set_other (places_marked places count) place k true d (λ e. eqb-false place k is (sym e))
        ∙ get_or-map-range_with_len (λ at. list_any (λ p. eqb p at) places) 0 count k k d in_count (omega arith)
        ∙ or_false (list_any (λ p. eqb p k) places)
        ∙ ap (λ (b : Bool). list_any (λ p. eqb p k) places || (b || false)) (sym is)

-- the places so far are marked
pub marked_next : (places : List ℕ) (n count : ℕ) (marks : List Bool) → n < length places → get_or places n 0 < count → marks ≡ places_marked (take n places) count → set marks (get_or places n 0) true ≡ places_marked (take (n + 1) places) count
marked_next places n count marks within low is =
    ap (λ (ms : List Bool). set ms (get_or places n 0) true) is
    ∙ marked_more (take n places) (get_or places n 0) count low
    ∙ ap (λ (ps : List ℕ). places_marked ps count) (sym (take_more places n 0 within))
