-- Filled keys of legal histories.
use Rattle.std.proofs.Common.{◌≡◌, ℕ, zero, suc, ◌+◌, ◌≤◌, List, [], ◌∷◌, ◌++◌, Bool, true, false, cond, length, refl, sym, ap, ◌∙◌, subst, arith}
use Rattle.std.specs.Str.{bytes_eq}
use Rattle.result_cache.specs.declared.call.Act.{Act}
use Rattle.result_cache.specs.declared.call.Act.TheVariants.{Hit, Busy, Yours, Fill, GiveBack, Forget}
use Rattle.result_cache.specs.declared.call.Call.{Call}
use Rattle.result_cache.specs.Counts.{drops, fills, times_of}
use Rattle.result_cache.specs.History.{Mode, free, held, filled, one_if_filled, State, all_free, IsAllowed, mode_after, cache_step, state_from, state_after, IsLegalFrom, IsLegal, call}
use Rattle.result_cache.proofs.Keys.{bytes_same, bytes_true}

-- a call that is allowed fills the key, or gives its value up, or leaves it filled or not as it was
in_turn : (n seat : ℕ) (act : Act) (mode : Mode ℕ) → IsAllowed n seat act mode → fills act + one_if_filled mode ≡ drops act + one_if_filled (mode_after seat act mode)
in_turn n seat (Hit v) mode a = refl
in_turn n seat (Busy by) mode a = refl
in_turn n seat Yours mode a = let e : one_if_filled mode ≡ 0 = ap one_if_filled a in omega (arith, e)
in_turn n seat (Fill v) mode a = let e : one_if_filled mode ≡ 0 = ap one_if_filled a.0 in omega (arith, e)
in_turn n seat GiveBack mode a = let e : one_if_filled mode ≡ 0 = ap one_if_filled a in omega (arith, e)
in_turn n seat (Forget v) mode a = let e : one_if_filled mode ≡ 1 = ap one_if_filled a in omega (arith, e)

-- the same of any call, at each key
step_in_turn : (n : ℕ) (s : State) (c : Call) (key : List ℕ) → IsAllowed n c.seat c.act (s c.key)
    → cond (bytes_eq c.key key) (fills c.act) 0 + one_if_filled (s key) ≡ cond (bytes_eq c.key key) (drops c.act) 0 + one_if_filled (cache_step s c key)
step_in_turn n s c key a =
    let P : Bool → Type 0 = λ t. bytes_eq c.key key ≡ t → cond t (fills c.act) 0 + one_if_filled (s key) ≡ cond t (drops c.act) 0 + one_if_filled (cond t (mode_after c.seat c.act (s key)) (s key)) in
    elim (bytes_eq c.key key) as P [
      | true ↦ λ is. in_turn n c.seat c.act (s key) (subst (λ k. IsAllowed n c.seat c.act (s k)) (bytes_true c.key key is) a)
      | false ↦ λ is. refl
    ] refl

turns_from : (n : ℕ) (s : State) (key : List ℕ) (calls : List Call) → IsLegalFrom n s calls
    → times_of fills key calls + one_if_filled (s key) ≡ times_of drops key calls + one_if_filled (state_from s calls key)
turns_from n s key [] h = refl
turns_from n s key (c ∷ calls) h =
    let one = step_in_turn n s c key h.0 in
    let rest = turns_from (n + 1) (cache_step s c) key calls h.1 in
    omega (arith, one, rest)

-- a key was filled as often as its value was given up, and once more where it is filled
pub filled_in_turn : (calls : List Call) (key : List ℕ) → IsLegal calls → times_of fills key calls ≡ times_of drops key calls + one_if_filled (state_after calls key)
filled_in_turn calls key h = let a = turns_from 0 all_free key calls h in omega (arith, a)

-- a call that is allowed on a filled key leaves it filled, or gives its value up
step_filled : (n seat : ℕ) (act : Act) (mode : Mode ℕ) (number : ℕ) → IsAllowed n seat act mode → mode ≡ filled number → drops act ≡ 0 → mode_after seat act mode ≡ filled number
step_filled n seat (Hit v) mode number a is none = is
step_filled n seat (Busy by) mode number a is none = is
step_filled n seat Yours mode number a is none = absurd (let x : free ≡ filled number = sym a ∙ is in cc)
step_filled n seat (Fill v) mode number a is none = absurd (let x : held seat ≡ filled number = sym a.0 ∙ is in cc)
step_filled n seat GiveBack mode number a is none = absurd (let x : held seat ≡ filled number = sym a ∙ is in cc)
step_filled n seat (Forget v) mode number a is none = absurd (omega (arith, none))

-- a filled key stays filled until its value is given up
pub stays_filled : (n : ℕ) (s : State) (key : List ℕ) (number : ℕ) (calls : List Call) → IsLegalFrom n s calls → s key ≡ filled number → times_of drops key calls ≡ 0
    → state_from s calls key ≡ filled number
stays_filled n s key number [] h is none = is
stays_filled n s key number (c ∷ calls) h is none =
    let P : Bool → Type 0 = λ t. bytes_eq c.key key ≡ t → cond t (drops c.act) 0 + times_of drops key calls ≡ 0 → cond t (mode_after c.seat c.act (s key)) (s key) ≡ filled number in
    let step : cache_step s c key ≡ filled number = elim (bytes_eq c.key key) as P [
      | true ↦ λ same none. step_filled n c.seat c.act (s key) number (subst (λ k. IsAllowed n c.seat c.act (s k)) (bytes_true c.key key same) h.0) is (omega (arith, none))
      | false ↦ λ ne none. is
    ] refl none in
    stays_filled (n + 1) (cache_step s c) key number calls h.1 step (omega (arith, none))

-- what comes after a part of a legal history is legal there
pub legal_after : (n : ℕ) (s : State) (calls more : List Call) → IsLegalFrom n s (calls ++ more) → IsLegalFrom (n + length calls) (state_from s calls) more
legal_after n s [] more h = subst (λ m. IsLegalFrom m s more) (let e : n ≡ n + 0 = omega arith in e) h
legal_after n s (c ∷ calls) more h =
    subst (λ m. IsLegalFrom m (state_from (cache_step s c) calls) more) (let e : n + 1 + length calls ≡ n + suc (length calls) = omega arith in e) (legal_after (n + 1) (cache_step s c) calls more h.1)

pub state_both : (s : State) (calls more : List Call) (key : List ℕ) → state_from s (calls ++ more) key ≡ state_from (state_from s calls) more key
state_both s [] more key = refl
state_both s (c ∷ calls) more key = state_both (cache_step s c) calls more key

pub filled_stays : (calls more : List Call) (key : List ℕ) (number : ℕ) → IsLegal (calls ++ more) → state_after calls key ≡ filled number → times_of drops key more ≡ 0 → state_after (calls ++ more) key ≡ filled number
filled_stays calls more key number h is none =
    state_both all_free calls more key ∙ stays_filled (0 + length calls) (state_after calls) key number more (legal_after 0 all_free calls more h) is none

-- a value is given up between any two fillings of its key
pub dropped_between : (before between after : List Call) (a b number other : ℕ) (key : List ℕ)
    → IsLegal (before ++ call a key (Fill number) ∷ (between ++ call b key (Fill other) ∷ after)) → 1 ≤ times_of drops key between
dropped_between before between after a b number other key h = by (times_of drops key between) refl
  where
    first : Call
    first = call a key (Fill number)

    second : Call
    second = call b key (Fill other)

    m : ℕ
    m = 0 + length before

    s : State
    s = state_after before

    behind : IsLegalFrom m s (first ∷ (between ++ second ∷ after))
    behind = legal_after 0 all_free before (first ∷ (between ++ second ∷ after)) h

    is : cache_step s first key ≡ filled number
    is = ap (λ (t : Bool). cond t (filled number) (s key)) (bytes_same key key refl)

    by : (k : ℕ) → times_of drops key between ≡ k → 1 ≤ k
    by (suc k) e = omega arith
    by zero e =
        let at = (legal_after (m + 1) (cache_step s first) between (second ∷ after) behind.1).0 in
        let stays = stays_filled (m + 1) (cache_step s first) key number between (legal_before (m + 1) (cache_step s first) between (second ∷ after) behind.1) is e in
        absurd (let x : held b ≡ filled number = sym at.0 ∙ stays in cc)
      where
        legal_before : (n : ℕ) (t : State) (calls more : List Call) → IsLegalFrom n t (calls ++ more) → IsLegalFrom n t calls
        legal_before n t [] more h = tt
        legal_before n t (c ∷ calls) more h = (h.0, legal_before (n + 1) (cache_step t c) calls more h.1)
