-- What the calls of a shard need, where it is sound.
use Rattle.std.proofs.Common.{◌≡◌, ℕ, zero, suc, ◌+◌, ◌-◌, ◌<◌, ◌≤◌, List, [], ◌∷◌, ◌++◌, length, get_or, set, slice_get, Some, None, Bool, true, false, cond, refl, sym, ap, ◌∙◌, subst, arith}
use Rattle.std.specs.Str.{bytes_eq}
use Rattle.rtl_sig.specs.Names.{has_name, next_number_of, with_name}
use Rattle.result_cache.specs.declared.call.Act.{Act}
use Rattle.result_cache.specs.declared.call.Act.TheVariants.{Yours}
use Rattle.result_cache.specs.declared.call.Entry.{Entry}
use Rattle.result_cache.specs.declared.call.Kept.{Kept}
use Rattle.result_cache.specs.declared.call.Kept.TheVariants.{Free, Held}
use Rattle.result_cache.specs.History.{free, held, IsAllowed, mode_after, call}
use Rattle.result_cache.specs.Tickets.{gives, takes}
use Rattle.result_cache.specs.Stored.{Contents, IsSound, calls_of, mode_of, value_of, holds, owes, look_up, Stands, mode_at, value_at}
use Rattle.result_cache.proofs.Keys.{NoneIs, bytes_other, bytes_true, look_up-none, none_of, at_place, distinct_of, stand_at}
use Rattle.result_cache.proofs.Sounds.{entry, sound_step, sound_look, sound_new, mode_there, value_there, value_set, value_kept, value_new, calls_more, calls_new, mode_nowhere, held_there, owed_there, length-calls_of}

-- what stands at a place does not rest on what would stand behind the last
pub same_at : {A : Type 0} (xs : List A) (i : ℕ) (a b : A) → i < length xs → get_or xs i a ≡ get_or xs i b
same_at [] i a b l = absurd (omega arith)
same_at (x ∷ xs) zero a b l = refl
same_at (x ∷ xs) (suc i) a b l = same_at xs i a b (omega arith)

-- the key stands at this place
pub record IsAt (keys : List (List ℕ)) (key : List ℕ) (i : ℕ) : Type 0 where
  pub within : i < length keys
  pub text : get_or keys i [] ≡ key

-- a place that was found for a name is one of the key that equals it
pub found_at : {keys : List (List ℕ)} {name key : List ℕ} {i : ℕ} → i < length keys → slice_get keys i ≡ Some name → name ≡ key → IsAt keys key i
found_at {keys} {name} {key} {i} within text is = record { within = within; text = at_place keys i name text ∙ is }

-- the key is none of these
pub record IsAbsent (keys : List (List ℕ)) (key : List ℕ) : Type 0 where
  pub none : NoneIs key keys

-- a key that equals a name that was not found is none of the keys
pub none_here : {keys : List (List ℕ)} {name key : List ℕ} → false ≡ has_name keys name → name ≡ key → IsAbsent keys key
none_here {keys} {name} {key} absent is = record { none = none_of key keys (subst (λ k. has_name keys k ≡ false) is (sym absent)) }

-- the keys with this one more, which stands at this place
pub record IsNewAt (keys more : List (List ℕ)) (key : List ℕ) (i : ℕ) : Type 0 where
  pub absent : IsAbsent keys key
  pub keys_are : more ≡ keys ++ key ∷ []
  pub place_is : i ≡ length keys

next_number : (key : List ℕ) (keys : List (List ℕ)) → NoneIs key keys → next_number_of keys key ≡ length keys
next_number key [] h = refl
next_number key (x ∷ keys) h = rw (bytes_other x key h.0) (omega (arith, next_number key keys h.1))

-- this is kept of the key, which stands at this place
pub record IsKeptAt {V : Type 0} (keys : List (List ℕ)) (kept : List (Kept V)) (owed : ℕ) (key : List ℕ) (i : ℕ) (x : Kept V) : Type 0 where
  pub at : IsAt keys key i
  pub is : get_or kept i Free ≡ x
  pub some_owed : owes x ≤ owed

-- what a contract sees of these
abbrev pub contents : {V : Type 0} → List (List ℕ) → List (Kept V) → List Entry → Contents V
contents keys kept es = record { history = calls_of keys es; keys = keys; kept = kept }

-- a shard without keys is sound
pub sound_empty : (V : Type 0) (stands_for : V → List ℕ → Type 0) (room : ℕ) → IsSound V stands_for [] [] [] 0 room
sound_empty V stands_for room = record {
  beside = refl;
  distinct = distinct_of [] tt;
  placed = tt;
  legal = tt;
  replays = λ key. refl;
  stand = tt;
  tickets = refl;
  counted = refl;
  reserved = omega arith;
}

-- a key without a value has none more
pub values_without : {V : Type 0} (s : Contents V) (key : List ℕ) → value_at s key ≡ None → (q : List ℕ) → value_at s q ≡ cond (bytes_eq key q) None (value_at s q)
values_without s key none q =
    let P : Bool → Type 0 = λ b. bytes_eq key q ≡ b → value_at s q ≡ cond b None (value_at s q) in
    elim (bytes_eq key q) as P [ true ↦ λ is. ap (value_at s) (sym (bytes_true key q is)) ∙ none | false ↦ λ ne. refl ] refl

module _ {V : Type 0} {stands_for : V → List ℕ → Type 0} {keys : List (List ℕ)} {kept : List (Kept V)} {es : List Entry} {owed room : ℕ} where
  pub mode_found : {s : Contents V} {key : List ℕ} {i : ℕ} {x : Kept V} (x0 : Kept V) → IsSound V stands_for keys kept es owed room → contents keys kept es ≡ s
      → IsAt keys key i → get_or kept i x0 ≡ x → mode_at s key ≡ mode_of x
  mode_found {s} {key} {i} {x} x0 h e at is =
      sym (ap (λ (t : Contents V). mode_at t key) e) ∙ mode_there V stands_for keys kept es owed room i x0 key h at.within at.text ∙ ap mode_of is

  pub value_found : {s : Contents V} {key : List ℕ} {i : ℕ} {x : Kept V} (x0 : Kept V) → IsSound V stands_for keys kept es owed room → contents keys kept es ≡ s
      → IsAt keys key i → get_or kept i x0 ≡ x → value_at s key ≡ value_of x
  value_found {s} {key} {i} {x} x0 h e at is =
      sym (ap (λ (t : Contents V). value_at t key) e) ∙ value_there V stands_for keys kept es owed room i x0 key h at.within at.text ∙ ap value_of is

  -- the kept value stands for the key
  pub stands_found : {key : List ℕ} {i : ℕ} {x : Kept V} (x0 : Kept V) → IsSound V stands_for keys kept es owed room → IsAt keys key i → get_or kept i x0 ≡ x → Stands stands_for key x
  stands_found {key} {i} {x} x0 h at is =
      let P : List ℕ × Kept V → Type 0 = λ r. Stands stands_for r.0 r.1 in
      subst P (λ j. (at.text j, is j)) (stand_at stands_for keys kept i x0 h.beside at.within h.stand)

  -- a key that is not among the keys is free
  pub mode_absent : {s : Contents V} {key : List ℕ} → IsSound V stands_for keys kept es owed room → contents keys kept es ≡ s → IsAbsent keys key → mode_at s key ≡ free
  mode_absent {s} {key} h e none = sym (ap (λ (t : Contents V). mode_at t key) e) ∙ mode_nowhere V stands_for keys kept es owed room key h none.none

  -- and has no value
  pub value_absent : {s : Contents V} {key : List ℕ} → IsSound V stands_for keys kept es owed room → contents keys kept es ≡ s → IsAbsent keys key → value_at s key ≡ None
  value_absent {s} {key} h e none = sym (ap (λ (t : Contents V). value_at t key) e) ∙ look_up-none None value_of keys kept key none.none

  -- the history with a call on the key more
  pub calls_become : {s : Contents V} {key : List ℕ} {i : ℕ} (seat : ℕ) (act : Act) → IsSound V stands_for keys kept es owed room → contents keys kept es ≡ s
      → IsAt keys key i → calls_of keys (es ++ entry seat i act ∷ []) ≡ s.history ++ call seat key act ∷ []
  calls_become {s} {key} {i} seat act h e at =
      calls_more V stands_for keys es i seat act key at.text ∙ ap (λ (t : Contents V). t.history ++ call seat key act ∷ []) e

  -- the values where something else is kept of the key
  pub values_become : {s : Contents V} {key : List ℕ} {i : ℕ} (x : Kept V) → IsSound V stands_for keys kept es owed room → contents keys kept es ≡ s → IsAt keys key i
      → (q : List ℕ) → look_up None value_of keys (set kept i x) q ≡ cond (bytes_eq key q) (value_of x) (value_at s q)
  values_become {s} {key} {i} x h e at q =
      value_set V stands_for keys kept es owed room i x key q h at.within at.text ∙ ap (λ (t : Contents V). cond (bytes_eq key q) (value_of x) (value_at t q)) e

  -- they stay where it has the value of what was kept
  pub values_stay : {s : Contents V} {key : List ℕ} {i : ℕ} {x : Kept V} (x0 y : Kept V) → IsSound V stands_for keys kept es owed room → contents keys kept es ≡ s → IsAt keys key i
      → get_or kept i x0 ≡ x → value_of y ≡ value_of x → (q : List ℕ) → look_up None value_of keys (set kept i y) q ≡ value_at s q
  values_stay {s} {key} {i} {x} x0 y h e at is same q =
      value_kept V stands_for keys kept es owed room i y x0 q h at.within (same ∙ sym (ap value_of is)) ∙ ap (λ (t : Contents V). value_at t q) e

  -- what is kept of a key is owed for
  pub kept_found : {key : List ℕ} {i : ℕ} {x : Kept V} (x0 : Kept V) → IsSound V stands_for keys kept es owed room → IsAt keys key i → get_or kept i x0 ≡ x → IsKeptAt keys kept owed key i x
  kept_found {key} {i} {x} x0 h at is =
      let i_kept : i < length kept = let b = h.beside in let w = at.within in omega arith in
      let here : get_or kept i Free ≡ x = same_at kept i Free x0 i_kept ∙ is in
      record { at = at; is = here; some_owed = owed_there V stands_for keys kept es owed room i x h at.within here }

  -- the seat that holds the key, by what is kept of it
  pub held_found : {s : Contents V} {key : List ℕ} {i seat : ℕ} → IsSound V stands_for keys kept es owed room → contents keys kept es ≡ s
      → mode_at s key ≡ held seat → IsAt keys key i → IsKeptAt keys kept owed key i (Held seat)
  held_found {s} {key} {i} {seat} h e is_held at =
      kept_found Free h at (held_there V stands_for keys kept es owed room i key seat h at.within at.text (ap (λ (t : Contents V). mode_at t key) e ∙ is_held))

  -- a held key is among the keys
  pub held_known : {s : Contents V} {key : List ℕ} {seat : ℕ} → IsSound V stands_for keys kept es owed room → contents keys kept es ≡ s → mode_at s key ≡ held seat → IsAbsent keys key → ⊥
  held_known {s} {key} {seat} h e is_held none = let both : free ≡ held seat = sym (mode_absent h e none) ∙ is_held in cc

  -- a call that was owed keeps the shard sound, as do any that are owed no more
  pub sound_spent : {key : List ℕ} {i : ℕ} {old : Kept V} (seat : ℕ) (act : Act) (x : Kept V) (spent room' : ℕ) → IsSound V stands_for keys kept es owed room → IsKeptAt keys kept owed key i old
      → IsAllowed (length es) seat act (mode_of old) → mode_after seat act (mode_of old) ≡ mode_of x → Stands stands_for key x
      → holds x + takes act ≡ holds old + gives act → owes old ≡ owes x + spent → 1 ≤ spent → room' ≡ room
      → IsSound V stands_for keys (set kept i x) (es ++ entry seat i act ∷ []) (owed - spent) room'
  sound_spent {key} {i} {old} seat act x spent room' h at allowed mode stands tickets spends one same =
      sound_step V stands_for keys kept es owed room i seat act x Free old (owed - spent) room' h at.at.within at.is allowed mode
      (subst (λ k. Stands stands_for k x) (sym at.at.text) stands)
      tickets
      (let some = at.some_owed in omega (arith, spends))
      (let some = at.some_owed in let r = h.reserved in omega (arith, same, spends, one))

  -- the number of the calls is that of the entries
  pub number_is : {s : Contents V} → IsSound V stands_for keys kept es owed room → contents keys kept es ≡ s → length es ≡ length s.history
  number_is {s} h e = sym (length-calls_of keys es) ∙ ap (λ (t : Contents V). length t.history) e

  -- a call that changes nothing keeps it sound
  pub sound_looked : {key : List ℕ} {i : ℕ} {x : Kept V} (seat : ℕ) (act : Act) (x0 : Kept V) (room' : ℕ) → IsSound V stands_for keys kept es owed room → IsAt keys key i → get_or kept i x0 ≡ x
      → IsAllowed (length es) seat act (mode_of x) → mode_after seat act (mode_of x) ≡ mode_of x → takes act ≡ gives act → suc (length es) + owed ≤ room'
      → IsSound V stands_for keys kept (es ++ entry seat i act ∷ []) owed room'
  sound_looked {key} {i} {x} seat act x0 room' h at is allowed mode tickets reserved =
      sound_look V stands_for keys kept es owed room i seat act x0 x room' h at.within is allowed mode tickets reserved

  -- so does the claim of a free key
  pub sound_taken : {key : List ℕ} {i : ℕ} (seat : ℕ) (x0 : Kept V) (room' : ℕ) → IsSound V stands_for keys kept es owed room → IsAt keys key i → get_or kept i x0 ≡ Free
      → suc (length es) + (owed + 2) ≤ room' → IsSound V stands_for keys (set kept i (Held seat)) (es ++ entry seat i Yours ∷ []) (owed + 2) room'
  sound_taken {key} {i} seat x0 room' h at is reserved =
      sound_step V stands_for keys kept es owed room i seat Yours (Held seat) x0 Free (owed + 2) room' h at.within is refl refl tt refl (omega arith) reserved

  -- so does the claim of a key that is not among the keys
  pub sound_claimed : {key : List ℕ} (seat room' : ℕ) → IsSound V stands_for keys kept es owed room → IsAbsent keys key → suc (length es) + (owed + 2) ≤ room'
      → IsSound V stands_for (keys ++ key ∷ []) (kept ++ Held seat ∷ []) (es ++ entry seat (length keys) Yours ∷ []) (owed + 2) room'
  sound_claimed {key} seat room' h absent reserved = sound_new V stands_for keys kept es owed room key seat room' h absent.none reserved

  pub calls_claimed : {s : Contents V} (key : List ℕ) (seat : ℕ) → IsSound V stands_for keys kept es owed room → contents keys kept es ≡ s
      → calls_of (keys ++ key ∷ []) (es ++ entry seat (length keys) Yours ∷ []) ≡ s.history ++ call seat key Yours ∷ []
  calls_claimed {s} key seat h e = calls_new V stands_for keys kept es owed room key seat h ∙ ap (λ (t : Contents V). t.history ++ call seat key Yours ∷ []) e

  pub values_claimed : {s : Contents V} {key : List ℕ} (seat : ℕ) → IsSound V stands_for keys kept es owed room → contents keys kept es ≡ s → IsAbsent keys key
      → (q : List ℕ) → look_up None value_of (keys ++ key ∷ []) (kept ++ Held seat ∷ []) q ≡ value_at s q
  values_claimed {s} {key} seat h e absent q = value_new V stands_for keys kept es owed room key seat q h absent.none ∙ ap (λ (t : Contents V). value_at t q) e

  -- a place that stands for the key, by what a contract sees
  pub known_at : {s : Contents V} {key : List ℕ} {i : ℕ} → IsSound V stands_for keys kept es owed room → contents keys kept es ≡ s → i < length s.keys → slice_get s.keys i ≡ Some key → IsAt keys key i
  known_at {s} {key} {i} h e within text =
      let same : keys ≡ s.keys = ap (λ (t : Contents V). t.keys) e in
      found_at (subst (λ ks. i < length ks) (sym same) within) (subst (λ ks. slice_get ks i ≡ Some key) (sym same) text) refl

  -- a name that is put among keys where it is not
  pub new_at : {s : Contents V} {more : List (List ℕ)} {key : List ℕ} {i : ℕ} → IsSound V stands_for keys kept es owed room → contents keys kept es ≡ s → has_name s.keys key ≡ false
      → more ≡ with_name keys key → i ≡ next_number_of keys key → IsNewAt keys more key i
  new_at {s} {more} {key} {i} h e absent names number =
      let none : has_name keys key ≡ false = ap (λ (t : Contents V). has_name t.keys key) e ∙ absent in
      let with_key : with_name keys key ≡ keys ++ key ∷ [] = rw none refl in
      record {
        absent = record { none = none_of key keys none };
        keys_are = names ∙ with_key;
        place_is = number ∙ next_number key keys (none_of key keys none);
      }
