-- The filled keys of a shard after its calls.
use Rattle.std.proofs.Common.{◌≡◌, ℕ, List, [], ◌∷◌, ◌++◌, Some, None, Bool, true, false, ◌&&◌, ◌||◌, cond, true≢false, refl, sym, ap, ◌∙◌, filter}
use Rattle.std.specs.Prelude.{◌≢◌}
use Rattle.std.specs.Option.{is_some}
use Rattle.std.specs.Str.{bytes_eq}
use Rattle.rtl_sig.specs.Names.{has_name}
use Rattle.result_cache.specs.declared.call.Act.{Act}
use Rattle.result_cache.specs.declared.call.Act.TheVariants.{Hit, Yours}
use Rattle.result_cache.specs.declared.call.Call.{Call}
use Rattle.result_cache.specs.declared.call.Kept.{Kept}
use Rattle.result_cache.specs.Filled.{with_key, filled_keys, HoldsNone}
use Rattle.result_cache.specs.History.{free, held, State, all_free, cache_step, mode_after, state_from, state_after, call}
use Rattle.result_cache.specs.Stored.{Contents, look_up, value_of, value_at, mode_at, KeepsValues, AddsCall}
use Rattle.result_cache.proofs.Keys.{bytes_same, bytes_true}
use Rattle.result_cache.proofs.Rising.{rising_order, among_with, among_order, among_filtered, same_rising, with_known}

-- a key with a value is among the keys
valued_among : {V : Type 0} (keys : List (List ℕ)) (kept : List (Kept V)) (q : List ℕ) → is_some (look_up None value_of keys kept q) ≡ true → has_name keys q ≡ true
valued_among [] kept q h = absurd (true≢false (sym h))
valued_among (k ∷ keys) [] q h = absurd (true≢false (sym h))
valued_among (k ∷ keys) (x ∷ kept) q h = by (bytes_eq k q) refl (valued_among keys kept q)
  where
    by : (b : Bool) → bytes_eq k q ≡ b → (is_some (look_up None value_of keys kept q) ≡ true → has_name keys q ≡ true) → (bytes_eq q k || has_name keys q) ≡ true
    by true is rest = ap (λ (b : Bool). b || has_name keys q) (bytes_same q k (sym (bytes_true k q is)))
    by false is rest = or_right (bytes_eq q k) (rest (sym (ap (λ (b : Bool). is_some (cond b (value_of x) (look_up None value_of keys kept q))) is) ∙ h))
      where
        or_right : (a : Bool) {b : Bool} → b ≡ true → (a || b) ≡ true
        or_right true e = refl
        or_right false e = e

from_more : (s : State) (calls : List Call) (c : Call) (q : List ℕ) → state_from s (calls ++ c ∷ []) q ≡ cache_step (state_from s calls) c q
from_more s [] c q = refl
from_more s (d ∷ calls) c q = from_more (cache_step s d) calls c q

module _ {V : Type 0} where
  -- the keys that have a value, in the order of the shard
  abbrev valued : Contents V → List (List ℕ)
  valued s = filter (λ key. is_some (value_at s key)) s.keys

  -- a key that is filled changes nothing where it is put among them
  pub filled_known : (s : Contents V) (key : List ℕ) → has_name (filled_keys s) key ≡ true → with_key key (filled_keys s) ≡ filled_keys s
  filled_known s key known = with_known key (valued s) known

  -- the filled keys are those that have a value
  pub filled_is : (s : Contents V) (q : List ℕ) → has_name (filled_keys s) q ≡ is_some (value_at s q)
  filled_is s q =
      among_order q _ ∙ among_filtered (λ key. is_some (value_at s key)) q s.keys ∙ by (is_some (value_at s q)) refl
    where
      by : (b : Bool) → is_some (value_at s q) ≡ b → (has_name s.keys q && is_some (value_at s q)) ≡ is_some (value_at s q)
      by true is = ap (λ (b : Bool). b && is_some (value_at s q)) (valued_among s.keys s.kept q is)
      by false is = ap (λ (b : Bool). has_name s.keys q && b) is ∙ none (has_name s.keys q) ∙ sym is
        where
          none : (a : Bool) → (a && false) ≡ false
          none true = refl
          none false = refl

  -- they stay where the values do
  pub filled_stay : (old new : Contents V) → KeepsValues old new → filled_keys new ≡ filled_keys old
  filled_stay old new keeps =
      same_rising (filled_keys new) (filled_keys old) (rising_order (valued new)) (rising_order (valued old))
      (λ q. filled_is new q ∙ ap is_some (keeps q) ∙ sym (filled_is old q))

  -- a key that was filled is one of them
  pub filled_more : (old new : Contents V) (key : List ℕ) (value : V)
      → ((q : List ℕ) → value_at new q ≡ cond (bytes_eq key q) (Some value) (value_at old q)) → filled_keys new ≡ with_key key (filled_keys old)
  filled_more old new key value values =
      same_rising (filled_keys new) (with_key key (filled_keys old)) (rising_order (valued new)) (rising_order (key ∷ valued old))
      (λ q. filled_is new q ∙ ap is_some (values q) ∙ by q (bytes_eq key q) refl ∙ sym (among_with q key (filled_keys old) ∙ ap (λ (b : Bool). bytes_eq q key || b) (filled_is old q)))
    where
      by : (q : List ℕ) (b : Bool) → bytes_eq key q ≡ b → is_some (cond b (Some value) (value_at old q)) ≡ (bytes_eq q key || is_some (value_at old q))
      by q true is = sym (ap (λ (b : Bool). b || is_some (value_at old q)) (bytes_same q key (sym (bytes_true key q is))))
      by q false is = other (bytes_eq q key) refl
        where
          other : (b : Bool) → bytes_eq q key ≡ b → is_some (value_at old q) ≡ (b || is_some (value_at old q))
          other true same = absurd (true≢false (sym (bytes_same key q (sym (bytes_true q key same))) ∙ is))
          other false same = refl

  -- the mode of a key after one call more
  pub mode_more : (old new : Contents V) (seat : ℕ) (key : List ℕ) (act : Act) → AddsCall old new seat key act → (q : List ℕ)
      → mode_at new q ≡ cond (bytes_eq key q) (mode_after seat act (mode_at old q)) (mode_at old q)
  mode_more old new seat key act adds q =
      ap (λ (calls : List Call). state_after calls q) adds ∙ from_more all_free old.history (call seat key act) q

  -- a shard without calls holds no key
  pub none_at_first : (s : Contents V) → s.history ≡ [] → HoldsNone s
  none_at_first s e key seat h = let both : free ≡ held seat = sym (ap (λ (calls : List Call). state_after calls key) e) ∙ h in cc

  -- nor does one after a hit
  pub none_after_hit : (old new : Contents V) (seat number : ℕ) (key : List ℕ) → HoldsNone old → AddsCall old new seat key (Hit number) → HoldsNone new
  none_after_hit old new seat number key none adds q by h = none q by (sym (mode_more old new seat key (Hit number) adds q ∙ same (bytes_eq key q)) ∙ h)
    where
      same : (b : Bool) → cond b (mode_at old q) (mode_at old q) ≡ mode_at old q
      same true = refl
      same false = refl

  -- a seat holds the key that it claimed
  pub held_after_claim : (old new : Contents V) (seat : ℕ) (key : List ℕ) → AddsCall old new seat key Yours → mode_at new key ≡ held seat
  held_after_claim old new seat key adds =
      mode_more old new seat key Yours adds key ∙ ap (λ (b : Bool). cond b (held seat) (mode_at old key)) (bytes_same key key refl)

  -- once the ticket of a claim is spent no key is held
  pub none_after_spent : (old claimed new : Contents V) (seat : ℕ) (key : List ℕ) (act : Act)
      → HoldsNone old → AddsCall old claimed seat key Yours → AddsCall claimed new seat key act
      → ((by : ℕ) → mode_after seat act (held seat) ≢ held by) → HoldsNone new
  none_after_spent old claimed new seat key act none claims spends spent q by h = split (bytes_eq key q) refl
    where
      split : (b : Bool) → bytes_eq key q ≡ b → ⊥
      split true is =
          let at_claim : mode_at claimed q ≡ held seat = ap (mode_at claimed) (sym (bytes_true key q is)) ∙ held_after_claim old claimed seat key claims in
          spent by (ap (mode_after seat act) (sym at_claim) ∙ sym (mode_more claimed new seat key act spends q ∙ ap (λ (b : Bool). cond b (mode_after seat act (mode_at claimed q)) (mode_at claimed q)) is) ∙ h)
      split false is =
          none q by
          (sym (mode_more old claimed seat key Yours claims q ∙ ap (λ (b : Bool). cond b (held seat) (mode_at old q)) is)
          ∙ sym (mode_more claimed new seat key act spends q ∙ ap (λ (b : Bool). cond b (mode_after seat act (mode_at claimed q)) (mode_at claimed q)) is) ∙ h)
