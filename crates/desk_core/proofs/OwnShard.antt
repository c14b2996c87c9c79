-- A shard on which the seat 0 makes all calls.
use Rattle.std.proofs.Common.{◌≡◌, ◌↔◌, ℕ, ◌+◌, ◌<◌, List, [], ◌∷◌, ◌++◌, Bool, true, false, cond, not, ◌&&◌, ◌||◌, Option, Some, None, Result, Ok, Err, refl, sym, ap, subst, ◌∙◌, filter, get_or, length, take}
use Rattle.std.specs.Prelude.{◌≢◌, IfOk, IsSome}
use Rattle.std.proofs.lemmas.List.{take_more}
use Rattle.std.specs.Option.{is_some}
use Rattle.std.specs.Set.{distinct_count}
use Rattle.std.specs.Str.{bytes_eq}
use Rattle.rtl_sig.specs.Names.{has_name}
use Rattle.result_cache.specs.declared.call.Act.{Act}
use Rattle.result_cache.specs.declared.call.Act.TheVariants.{Yours, Fill, GiveBack, Forget}
use Rattle.result_cache.specs.declared.shard.Forget as forget
use Rattle.result_cache.specs.declared.shard.Forget.TheVariants as answer
use Rattle.result_cache.specs.Claims.{Forgot}
use Rattle.result_cache.specs.Filled.{HoldsNone, filled_keys, new_count, with_key}
use Rattle.result_cache.specs.History.{Mode, free, held, filled, IsFilled, mode_after}
use Rattle.result_cache.specs.Stored.{AddsCall, Contents, KeepsValues, mode_at, value_at}
use Rattle.result_cache.proofs.FilledKeys.{filled_is, filled_known, filled_stay, held_after_claim, mode_more}
use Rattle.result_cache.proofs.Keys.{bytes_other, bytes_same, bytes_true}
use Rattle.result_cache.proofs.Rising.{among_filtered, rising_order, same_rising}
use Rattle.build_crew.specs.Forgetting.{without}
use Rattle.build_crew.proofs.Forgetting.{rising_without}
use Rattle.build_crew.specs.Rises.{RisesUpTo}
use Rattle.script_core.specs.declared.built.Built.{Built}
use Rattle.script_core.specs.Built.{IsValueOf}
use Rattle.script_core.specs.Keys.{KeyParts, key_text}
use Rattle.desk_core.specs.Solo.{HoldsNoOther}
use Rattle.desk_core.specs.Standing.{StandsFor}

-- a key that a claim hits is among the filled ones
pub hit_known : (s : Contents Built) (text : List ℕ) (value : Built) → value_at s text ≡ Some value → has_name (filled_keys s) text ≡ true
hit_known s text value is = filled_is s text ∙ ap is_some is

-- a free key is not
pub free_unknown : (s : Contents Built) (text : List ℕ) → (IsSome (value_at s text) ↔ IsFilled (mode_at s text)) → mode_at s text ≡ free → has_name (filled_keys s) text ≡ false
free_unknown s text both is = filled_is s text ∙ by (value_at s text) (λ some. subst IsFilled is (both.0 some))
  where
    by : (value : Option Built) → (IsSome value → ⊥) → is_some value ≡ false
    by None not_some = refl
    by (Some value) not_some = absurd (not_some refl)

-- a hit leaves the filled keys, of which its key is one
pub hit_filled : (old new : Contents Built) (text : List ℕ) → KeepsValues old new → has_name (filled_keys old) text ≡ true → filled_keys new ≡ with_key text (filled_keys old)
hit_filled old new text keeps known = filled_stay old new keeps ∙ sym (filled_known old text known)

-- a claim and its filling put the key among them
pub fill_filled : (old claimed new : Contents Built) (text : List ℕ) → KeepsValues old claimed → filled_keys new ≡ with_key text (filled_keys claimed) → filled_keys new ≡ with_key text (filled_keys old)
fill_filled old claimed new text keeps is = is ∙ ap (with_key text) (filled_stay old claimed keeps)

pub back_filled : (old claimed new : Contents Built) → KeepsValues old claimed → filled_keys new ≡ filled_keys claimed → filled_keys new ≡ filled_keys old
back_filled old claimed new keeps is = is ∙ filled_stay old claimed keeps

-- where no key is held, a claim has its key held and no other
pub alone_claimed : (old claimed : Contents Built) (key text : List ℕ) → key ≡ text → HoldsNone old → AddsCall old claimed 0 text Yours → HoldsNoOther key claimed
alone_claimed old claimed key text same none claims q by other h =
    let apart : bytes_eq text q ≡ false = ap (λ (k : List ℕ). bytes_eq k q) (sym same) ∙ other in
    none q by (sym (mode_more old claimed 0 text Yours claims q ∙ ap (λ (b : Bool). cond b (held 0) (mode_at old q)) apart) ∙ h)

pub held_claimed : (old claimed : Contents Built) (key text : List ℕ) → key ≡ text → AddsCall old claimed 0 text Yours → mode_at claimed key ≡ held 0
held_claimed old claimed key text same claims = ap (mode_at claimed) same ∙ held_after_claim old claimed 0 text claims

-- none is held after a call that leaves its key free or filled
call_free : (old new : Contents Built) (key : List ℕ) (act : Act) → HoldsNoOther key old → AddsCall old new 0 key act → ((mode : Mode ℕ) (by : ℕ) → mode_after 0 act mode ≢ held by) → HoldsNone new
call_free old new key act alone adds none q by h = split (bytes_eq key q) refl
  where
    after : (b : Bool) → bytes_eq key q ≡ b → mode_at new q ≡ cond b (mode_after 0 act (mode_at old q)) (mode_at old q)
    after b is = mode_more old new 0 key act adds q ∙ ap (λ (b : Bool). cond b (mode_after 0 act (mode_at old q)) (mode_at old q)) is

    split : (b : Bool) → bytes_eq key q ≡ b → ⊥
    split true is = none (mode_at old q) by (sym (after true is) ∙ h)
    split false is = alone q by is (sym (after false is) ∙ h)

pub fill_free : (old new : Contents Built) (key : List ℕ) (number : ℕ) → HoldsNoOther key old → AddsCall old new 0 key (Fill number) → HoldsNone new
fill_free old new key number alone fills = call_free old new key (Fill number) alone fills (λ mode by e. let no : filled number ≡ held by = e in cc)

pub back_free : (old new : Contents Built) (key : List ℕ) → HoldsNoOther key old → AddsCall old new 0 key GiveBack → HoldsNone new
back_free old new key alone gives = call_free old new key GiveBack alone gives (λ mode by e. let no : free ≡ held by = e in cc)

pub forget_free : (old new : Contents Built) (key : List ℕ) (r : forget.Forget Built) → HoldsNone old → Forgot old new 0 key r → HoldsNone new
forget_free old new key (answer.Dropped value) none (number, was, kept, adds) =
    call_free old new key (Forget number) (λ q by other. none q by) adds (λ mode by e. let no : free ≡ held by = e in cc)
forget_free old new key answer.Free none (was, same) = subst HoldsNone (sym same) none
forget_free old new key (answer.Busy by) none (was, same) = subst HoldsNone (sym same) none

-- a key whose value is given up is filled no more
pub forget_filled : (old new : Contents Built) (key : List ℕ) → ((q : List ℕ) → value_at new q ≡ cond (bytes_eq key q) None (value_at old q)) → filled_keys new ≡ without (key ∷ []) (filled_keys old)
forget_filled old new key values =
    same_rising (filled_keys new) (without (key ∷ []) (filled_keys old)) (rising_order (filter (λ k. is_some (value_at new k)) new.keys))
    (rising_without (λ k. not (has_name (key ∷ []) k)) (filled_keys old) (rising_order (filter (λ k. is_some (value_at old k)) old.keys)))
    (λ q. filled_is new q ∙ ap is_some (values q) ∙ by q (bytes_eq key q) refl ∙ sym (among_filtered (λ k. not (has_name (key ∷ []) k)) q (filled_keys old)))
  where
    by : (q : List ℕ) (b : Bool) → bytes_eq key q ≡ b → is_some (cond b None (value_at old q)) ≡ (has_name (filled_keys old) q && not (has_name (key ∷ []) q))
    by q true is =
        sym (ap (λ (b : Bool). has_name (filled_keys old) q && not (b || false)) (bytes_same q key (sym (bytes_true key q is))) ∙ with_false (has_name (filled_keys old) q))
      where
        with_false : (a : Bool) → (a && false) ≡ false
        with_false true = refl
        with_false false = refl
    by q false is =
        sym (filled_is old q) ∙ sym (ap (λ (b : Bool). has_name (filled_keys old) q && not (b || false)) (bytes_other key q is) ∙ with_true (has_name (filled_keys old) q))
      where
        with_true : (a : Bool) → (a && true) ≡ a
        with_true true = refl
        with_true false = refl

among_last : (q x : List ℕ) (xs : List (List ℕ)) → has_name (xs ++ x ∷ []) q ≡ (has_name xs q || bytes_eq q x)
among_last q x [] = one (bytes_eq q x)
  where
    one : (a : Bool) → (a || false) ≡ a
    one true = refl
    one false = refl
among_last q x (y ∷ xs) = ap (λ (b : Bool). bytes_eq q y || b) (among_last q x xs) ∙ grouped (bytes_eq q y) (has_name xs q) (bytes_eq q x)
  where
    grouped : (a b c : Bool) → (a || (b || c)) ≡ ((a || b) || c)
    grouped true b c = refl
    grouped false b c = refl

-- keys without some, and without one more
without_more : (gone : List (List ℕ)) (key : List ℕ) (keys : List (List ℕ)) → without (key ∷ []) (without gone keys) ≡ without (gone ++ key ∷ []) keys
without_more gone key [] = refl
without_more gone key (x ∷ keys) =
    by (has_name gone x) (without_more gone key keys)
    ∙ sym (ap (λ (b : Bool). cond (not b) (x ∷ without (gone ++ key ∷ []) keys) (without (gone ++ key ∷ []) keys)) (among_last x key gone))
  where
    one : (b : Bool) (old new : List (List ℕ)) → old ≡ new → cond (not (b || false)) (x ∷ old) old ≡ cond (not b) (x ∷ new) new
    one true old new rest = rest
    one false old new rest = ap (λ (l : List (List ℕ)). x ∷ l) rest

    by : (a : Bool) → without (key ∷ []) (without gone keys) ≡ without (gone ++ key ∷ []) keys
        → without (key ∷ []) (cond (not a) (x ∷ without gone keys) (without gone keys)) ≡ cond (not (a || bytes_eq x key)) (x ∷ without (gone ++ key ∷ []) keys) (without (gone ++ key ∷ []) keys)
    by true rest = rest
    by false rest = one (bytes_eq x key) (without (key ∷ []) (without gone keys)) (without (gone ++ key ∷ []) keys) rest

pub gone_first : (keys : List (List ℕ)) → keys ≡ without [] keys
gone_first [] = refl
gone_first (k ∷ keys) = ap (λ (l : List (List ℕ)). k ∷ l) (gone_first keys)

-- the keys that are left once the value of one more is given up
pub gone_at : (gone : List (List ℕ)) (n : ℕ) (key : List ℕ) (all now new : List (List ℕ)) → n < length gone → key ≡ get_or gone n key → now ≡ without (take n gone) all → new ≡ without (key ∷ []) now → new ≡ without (take (n + 1) gone) all
gone_at gone n key all now new within is before after =
    after ∙ ap (without (key ∷ [])) before ∙ without_more (take n gone) key all
    ∙ ap (λ (k : List ℕ). without (take n gone ++ k ∷ []) all) is
    ∙ ap (λ (l : List (List ℕ)). without l all) (sym (take_more gone n key within))

-- a result of a key stands for its text
pub stands_is : (kept other : Built) (key : KeyParts) (text : List ℕ) → other ≡ kept → kept.key ≡ key → IsValueOf key kept.outcome → text ≡ key_text key → StandsFor other text
stands_is kept other key text same own value is = record {
  text_is = ap (λ (b : Built). key_text b.key) same ∙ ap key_text own ∙ sym is;
  value = subst (λ (b : Built). IsValueOf b.key b.outcome) (sym same) (subst (λ (k : KeyParts). IsValueOf k kept.outcome) (sym own) value);
}

-- the text of a key is that of one that it equals
pub told_text : {E : Type 0} (r : Result (List ℕ) E) (key own : KeyParts) → key ≡ own → IfOk r (λ text. text ≡ key_text key) → IfOk r (λ text. text ≡ key_text own)
told_text r key own same is = subst (λ (k : KeyParts). IfOk r (λ text. text ≡ key_text k)) same is

-- .. and a result that stands for it is the result of that key
pub told_answers : {E : Type 0} (r : Result (List ℕ) E) (key own : KeyParts) → key ≡ own → IfOk r (λ text. (other : KeyParts) → key_text other ≡ text → other ≡ key)
    → IfOk r (λ text. (built : Built) → StandsFor built text → (built.key ≡ own) × IsValueOf built.key built.outcome)
told_answers (Ok text) key own same only = λ built stands. (only built.key stands.text_is ∙ same, stands.value)
told_answers (Err fault) key own same only = tt

-- a key that is not known may be built
pub ticks_new : (keys : List (List ℕ)) (key : List ℕ) (m n : ℕ) → has_name keys key ≡ false → RisesUpTo 1 m n → RisesUpTo (new_count keys (key ∷ [])) m n
ticks_new keys key m n unknown rises =
    let one : new_count keys (key ∷ []) ≡ 1 = ap (λ (b : Bool). distinct_count bytes_eq (cond (not b) (key ∷ []) [])) unknown in
    subst (λ (k : ℕ). RisesUpTo k m n) (sym one) rises
