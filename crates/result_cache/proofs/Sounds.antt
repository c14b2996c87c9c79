-- Each call keeps a shard sound.
use Rattle.std.proofs.Common.{◌≡◌, ℕ, zero, suc, ◌+◌, ◌<◌, ◌≤◌, List, [], ◌∷◌, ◌++◌, length, get_or, set, None, Bool, true, false, cond, refl, sym, ap, ◌∙◌, subst, arith, length-append}
use Rattle.std.specs.Str.{bytes_eq}
use Rattle.std.specs.List.{sum_by}
use Rattle.std.proofs.Math.ListN.{length-set}
use Rattle.std.proofs.lemmas.List.Sums.{sum_by-set, sum_by-append}
use Rattle.result_cache.specs.declared.call.Act.{Act}
use Rattle.result_cache.specs.declared.call.Act.TheVariants.{Yours}
use Rattle.result_cache.specs.declared.call.Call.{Call}
use Rattle.result_cache.specs.declared.call.Entry.{Entry}
use Rattle.result_cache.specs.declared.call.Kept.{Kept}
use Rattle.result_cache.specs.declared.call.Kept.TheVariants.{Free, Held, Filled}
use Rattle.result_cache.specs.History.{Mode, free, held, State, all_free, IsAllowed, mode_after, cache_step, state_from, state_after, IsLegalFrom, IsLegal, call}
use Rattle.result_cache.specs.Tickets.{gives, takes, given, returned}
use Rattle.result_cache.specs.Claims.{holder_of}
use Rattle.result_cache.specs.Stored.{call_of, calls_of, ArePlaced, mode_of, value_of, holds, owes, look_up, Stands, IsSound}
use Rattle.result_cache.proofs.Keys.{NoneIs, differ_of, distinct_of, bytes_true, differ_snoc, at_snoc_key, look_up-none, look_up-at, look_up-set, look_up-snoc, stand_set, stand_snoc, stand_at}

-- histories

pub state_snoc : (s : State) (cs : List Call) (c : Call) → state_from s (cs ++ c ∷ []) ≡ cache_step (state_from s cs) c
state_snoc s [] c = refl
state_snoc s (b ∷ cs) c = state_snoc (cache_step s b) cs c

pub legal_snoc : (n : ℕ) (s : State) (cs : List Call) (c : Call) → IsLegalFrom n s cs → IsAllowed (n + length cs) c.seat c.act (state_from s cs c.key) → IsLegalFrom n s (cs ++ c ∷ [])
legal_snoc n s [] c h a =
    let e : n + 0 ≡ n = omega arith in
    (subst (λ m. IsAllowed m c.seat c.act (s c.key)) e a, tt)
legal_snoc n s (b ∷ cs) c h a =
    let e : n + suc (length cs) ≡ n + 1 + length cs = omega arith in
    (h.0, legal_snoc (n + 1) (cache_step s b) cs c h.1 (subst (λ m. IsAllowed m c.seat c.act (state_from (cache_step s b) cs c.key)) e a))

pub given_snoc : (cs : List Call) (c : Call) → given (cs ++ c ∷ []) ≡ given cs + gives c.act
given_snoc [] c = omega arith
given_snoc (b ∷ cs) c = omega (arith, given_snoc cs c)

pub returned_snoc : (cs : List Call) (c : Call) → returned (cs ++ c ∷ []) ≡ returned cs + takes c.act
returned_snoc [] c = omega arith
returned_snoc (b ∷ cs) c = omega (arith, returned_snoc cs c)

-- entries

pub placed_snoc : (n : ℕ) (es : List Entry) (e : Entry) → ArePlaced n es → e.place < n → ArePlaced n (es ++ e ∷ [])
placed_snoc n [] e h l = (l, tt)
placed_snoc n (b ∷ es) e h l = (h.0, placed_snoc n es e h.1 l)

pub placed_more : (n m : ℕ) (es : List Entry) → n ≤ m → ArePlaced n es → ArePlaced m es
placed_more n m [] l h = tt
placed_more n m (b ∷ es) l h = ((let p = h.0 in omega arith), placed_more n m es l h.1)

pub calls_of-snoc : (keys : List (List ℕ)) (es : List Entry) (e : Entry) → calls_of keys (es ++ e ∷ []) ≡ calls_of keys es ++ call_of keys e ∷ []
calls_of-snoc keys [] e = refl
calls_of-snoc keys (b ∷ es) e = ap (λ r. call_of keys b ∷ r) (calls_of-snoc keys es e)

pub length-calls_of : (keys : List (List ℕ)) (es : List Entry) → length (calls_of keys es) ≡ length es
length-calls_of keys [] = refl
length-calls_of keys (b ∷ es) = omega (arith, length-calls_of keys es)

at_front : (keys ys : List (List ℕ)) (i : ℕ) → i < length keys → get_or (keys ++ ys) i [] ≡ get_or keys i []
at_front [] ys i l = absurd (omega arith)
at_front (x ∷ xs) ys zero l = refl
at_front (x ∷ xs) ys (suc i) l = at_front xs ys i (omega arith)

pub calls_of-more : (keys ys : List (List ℕ)) (es : List Entry) → ArePlaced (length keys) es → calls_of (keys ++ ys) es ≡ calls_of keys es
calls_of-more keys ys [] h = refl
calls_of-more keys ys (b ∷ es) h = λ i. call b.seat (at_front keys ys b.place h.0 i) b.act ∷ calls_of-more keys ys es h.1 i

abbrev pub entry : ℕ → ℕ → Act → Entry
entry seat place act = record { seat = seat; place = place; act = act }

module _ (V : Type 0) (stands_for : V → List ℕ → Type 0) where
  -- a key more, which is free
  pub sound_key : (keys : List (List ℕ)) (kept : List (Kept V)) (es : List Entry) (owed room : ℕ) (k : List ℕ)
      → IsSound V stands_for keys kept es owed room → NoneIs k keys → IsSound V stands_for (keys ++ k ∷ []) (kept ++ Free ∷ []) es owed room
  sound_key keys kept es owed room k h n =
      let same : calls_of (keys ++ k ∷ []) es ≡ calls_of keys es = calls_of-more keys (k ∷ []) es h.placed in
      let more : length (keys ++ k ∷ []) ≡ suc (length keys) = omega (arith, length-append keys (k ∷ [])) in
      let holds_is : sum_by holds (kept ++ Free ∷ []) ≡ sum_by holds kept = omega (arith, sum_by-append holds kept (Free ∷ [])) in
      let owes_is : sum_by owes (kept ++ Free ∷ []) ≡ sum_by owes kept = omega (arith, sum_by-append owes kept (Free ∷ [])) in
      record {
        beside = omega (arith, length-append kept (Free ∷ []), more, h.beside);
        distinct = distinct_of (keys ++ k ∷ []) (differ_snoc k keys (differ_of keys h.distinct) n);
        placed = placed_more (length keys) (length (keys ++ k ∷ [])) es (omega arith) h.placed;
        legal = subst IsLegal (sym same) h.legal;
        replays = λ q. ap (λ cs. state_after cs q) same ∙ h.replays q ∙ sym (look_up-snoc free mode_of keys kept k Free q n h.beside ∙ is_free q);
        stand = stand_snoc stands_for keys kept k Free h.beside h.stand tt;
        tickets = subst (λ cs. sum_by holds (kept ++ Free ∷ []) + returned cs ≡ given cs) (sym same) (omega (arith, holds_is, h.tickets));
        counted = omega (arith, owes_is, h.counted);
        reserved = h.reserved;
      }
    where
      is_free : (q : List ℕ) → cond (bytes_eq k q) free (look_up free mode_of keys kept q) ≡ look_up free mode_of keys kept q
      is_free q =
          let P : Bool → Type 0 = λ t. bytes_eq k q ≡ t → cond t free (look_up free mode_of keys kept q) ≡ look_up free mode_of keys kept q in
          elim (bytes_eq k q) as P [
            | true ↦ λ is. sym (subst (λ z. look_up free mode_of keys kept z ≡ free) (bytes_true k q is) (look_up-none free mode_of keys kept k n))
            | false ↦ λ ne. refl
          ] refl

  -- a call on a key that is there, which leaves the cell c
  step_at : (keys : List (List ℕ)) (kept : List (Kept V)) (es : List Entry) (owed room : ℕ) (i seat : ℕ) (act : Act) (c x0 : Kept V) (owed' room' : ℕ)
      → IsSound V stands_for keys kept es owed room → i < length keys
      → IsAllowed (length es) seat act (mode_of (get_or kept i x0)) → mode_after seat act (mode_of (get_or kept i x0)) ≡ mode_of c
      → Stands stands_for (get_or keys i []) c
      → holds c + takes act ≡ holds (get_or kept i x0) + gives act → owed' + owes (get_or kept i x0) ≡ owed + owes c → suc (length es) + owed' ≤ room'
      → IsSound V stands_for keys (set kept i c) (es ++ entry seat i act ∷ []) owed' room'
  step_at keys kept es owed room i seat act c x0 owed' room' h l allowed mode stand tickets counts reserved =
      let cs = calls_of keys es in
      let k = get_or keys i [] in
      let e = entry seat i act in
      let old = get_or kept i x0 in
      let same : calls_of keys (es ++ e ∷ []) ≡ cs ++ call seat k act ∷ [] = calls_of-snoc keys es e in
      let i_kept : i < length kept = let b = h.beside in omega arith in
      let now : state_after cs k ≡ mode_of old = h.replays k ∙ look_up-at free mode_of keys kept i x0 (differ_of keys h.distinct) h.beside l in
      let sum_is : sum_by holds (set kept i c) + holds old ≡ sum_by holds kept + holds c = sum_by-set holds kept i c x0 i_kept in
      let owed_is : sum_by owes (set kept i c) + owes old ≡ sum_by owes kept + owes c = sum_by-set owes kept i c x0 i_kept in
      let count : 0 + length cs ≡ length es = omega (arith, length-calls_of keys es) in
      record {
        beside = length-set kept i c ∙ h.beside;
        distinct = h.distinct;
        placed = placed_snoc (length keys) es e h.placed l;
        legal = subst IsLegal (sym same) (legal_snoc 0 all_free cs (call seat k act) h.legal (subst (λ n. IsAllowed n seat act (state_after cs k)) (sym count) (subst (λ m. IsAllowed (length es) seat act m) (sym now) allowed)));
        replays = λ q. ap (λ ds. state_after ds q) same ∙ ap (λ (s : State). s q) (state_snoc all_free cs (call seat k act)) ∙ at_key q now ∙ sym (look_up-set free mode_of keys kept i c q (differ_of keys h.distinct) h.beside l);
        stand = stand_set stands_for keys kept i c h.stand stand;
        tickets = subst (λ ds. sum_by holds (set kept i c) + returned ds ≡ given ds) (sym same)
            (let g = given_snoc cs (call seat k act) in let r = returned_snoc cs (call seat k act) in let t = h.tickets in omega arith);
        counted = let t = h.counted in omega arith;
        reserved = let n : length (es ++ e ∷ []) ≡ suc (length es) = omega (arith, length-append es (e ∷ [])) in omega arith;
      }
    where
      at_key : (q : List ℕ) → state_after (calls_of keys es) (get_or keys i []) ≡ mode_of (get_or kept i x0)
          → cond (bytes_eq (get_or keys i []) q) (mode_after seat act (state_after (calls_of keys es) q)) (state_after (calls_of keys es) q) ≡ cond (bytes_eq (get_or keys i []) q) (mode_of c) (look_up free mode_of keys kept q)
      at_key q now =
          let P : Bool → Type 0 = λ t. bytes_eq (get_or keys i []) q ≡ t → cond t (mode_after seat act (state_after (calls_of keys es) q)) (state_after (calls_of keys es) q) ≡ cond t (mode_of c) (look_up free mode_of keys kept q) in
          elim (bytes_eq (get_or keys i []) q) as P [
            | true ↦ λ is. ap (λ (m : Mode ℕ). mode_after seat act m) (ap (λ z. state_after (calls_of keys es) z) (sym (bytes_true (get_or keys i []) q is)) ∙ now) ∙ mode
            | false ↦ λ ne. h.replays q
          ] refl

  set_self : (kept : List (Kept V)) (i : ℕ) (x0 : Kept V) → i < length kept → set kept i (get_or kept i x0) ≡ kept
  set_self [] i x0 l = absurd (omega arith)
  set_self (c ∷ cs) zero x0 l = refl
  set_self (c ∷ cs) (suc i) x0 l = ap (λ ds. c ∷ ds) (set_self cs i x0 (omega arith))

  -- a call that changes ne cell
  look_at : (keys : List (List ℕ)) (kept : List (Kept V)) (es : List Entry) (owed room : ℕ) (i seat : ℕ) (act : Act) (x0 : Kept V) (room' : ℕ)
      → IsSound V stands_for keys kept es owed room → i < length keys
      → IsAllowed (length es) seat act (mode_of (get_or kept i x0)) → mode_after seat act (mode_of (get_or kept i x0)) ≡ mode_of (get_or kept i x0)
      → takes act ≡ gives act → suc (length es) + owed ≤ room'
      → IsSound V stands_for keys kept (es ++ entry seat i act ∷ []) owed room'
  look_at keys kept es owed room i seat act x0 room' h l allowed mode tickets reserved =
      let i_kept : i < length kept = let b = h.beside in omega arith in
      subst (λ ds. IsSound V stands_for keys ds (es ++ entry seat i act ∷ []) owed room') (set_self kept i x0 i_kept)
      (step_at keys kept es owed room i seat act (get_or kept i x0) x0 owed room' h l allowed mode (stand_at stands_for keys kept i x0 h.beside l h.stand) (omega arith) (omega arith) reserved)

  -- the mode and the value of a key that stands_for at i
  pub mode_there : (keys : List (List ℕ)) (kept : List (Kept V)) (es : List Entry) (owed room : ℕ) (i : ℕ) (x0 : Kept V) (k : List ℕ)
      → IsSound V stands_for keys kept es owed room → i < length keys → get_or keys i [] ≡ k → state_after (calls_of keys es) k ≡ mode_of (get_or kept i x0)
  mode_there keys kept es owed room i x0 k h l e = subst (λ z. state_after (calls_of keys es) z ≡ mode_of (get_or kept i x0)) e (h.replays (get_or keys i []) ∙ look_up-at free mode_of keys kept i x0 (differ_of keys h.distinct) h.beside l)

  pub value_there : (keys : List (List ℕ)) (kept : List (Kept V)) (es : List Entry) (owed room : ℕ) (i : ℕ) (x0 : Kept V) (k : List ℕ)
      → IsSound V stands_for keys kept es owed room → i < length keys → get_or keys i [] ≡ k → look_up None value_of keys kept k ≡ value_of (get_or kept i x0)
  value_there keys kept es owed room i x0 k h l e = subst (λ z. look_up None value_of keys kept z ≡ value_of (get_or kept i x0)) e (look_up-at None value_of keys kept i x0 (differ_of keys h.distinct) h.beside l)

  -- the calls where one is added on a key that stands_for at i
  pub calls_more : (keys : List (List ℕ)) (es : List Entry) (i seat : ℕ) (act : Act) (k : List ℕ) → get_or keys i [] ≡ k → calls_of keys (es ++ entry seat i act ∷ []) ≡ calls_of keys es ++ call seat k act ∷ []
  calls_more keys es i seat act k e = calls_of-snoc keys es (entry seat i act) ∙ ap (λ z. calls_of keys es ++ call seat z act ∷ []) e

  -- the values where one cell changes
  pub value_set : (keys : List (List ℕ)) (kept : List (Kept V)) (es : List Entry) (owed room : ℕ) (i : ℕ) (c : Kept V) (k q : List ℕ)
      → IsSound V stands_for keys kept es owed room → i < length keys → get_or keys i [] ≡ k → look_up None value_of keys (set kept i c) q ≡ cond (bytes_eq k q) (value_of c) (look_up None value_of keys kept q)
  value_set keys kept es owed room i c k q h l e = look_up-set None value_of keys kept i c q (differ_of keys h.distinct) h.beside l ∙ ap (λ z. cond (bytes_eq z q) (value_of c) (look_up None value_of keys kept q)) e

  -- the values stay where the old cell and the new one have none
  pub value_kept : (keys : List (List ℕ)) (kept : List (Kept V)) (es : List Entry) (owed room : ℕ) (i : ℕ) (c x0 : Kept V) (q : List ℕ)
      → IsSound V stands_for keys kept es owed room → i < length keys → value_of c ≡ value_of (get_or kept i x0) → look_up None value_of keys (set kept i c) q ≡ look_up None value_of keys kept q
  value_kept keys kept es owed room i c x0 q h l same =
      look_up-set None value_of keys kept i c q (differ_of keys h.distinct) h.beside l ∙ (
      let k = get_or keys i [] in
      let P : Bool → Type 0 = λ t. bytes_eq k q ≡ t → cond t (value_of c) (look_up None value_of keys kept q) ≡ look_up None value_of keys kept q in
      elim (bytes_eq k q) as P [
        | true ↦ λ is. same ∙ sym (value_there keys kept es owed room i x0 q h l (bytes_true k q is))
        | false ↦ λ ne. refl
      ] refl
      )

  -- the same, where the old cell is known
  pub sound_step : (keys : List (List ℕ)) (kept : List (Kept V)) (es : List Entry) (owed room : ℕ) (i seat : ℕ) (act : Act) (c x0 old : Kept V) (owed' room' : ℕ)
      → IsSound V stands_for keys kept es owed room → i < length keys → get_or kept i x0 ≡ old
      → IsAllowed (length es) seat act (mode_of old) → mode_after seat act (mode_of old) ≡ mode_of c
      → Stands stands_for (get_or keys i []) c
      → holds c + takes act ≡ holds old + gives act → owed' + owes old ≡ owed + owes c → suc (length es) + owed' ≤ room'
      → IsSound V stands_for keys (set kept i c) (es ++ entry seat i act ∷ []) owed' room'
  sound_step keys kept es owed room i seat act c x0 old owed' room' h l is allowed mode stand tickets counts reserved =
      step_at keys kept es owed room i seat act c x0 owed' room' h l
      (subst (λ o. IsAllowed (length es) seat act (mode_of o)) (sym is) allowed)
      (subst (λ o. mode_after seat act (mode_of o) ≡ mode_of c) (sym is) mode)
      stand
      (subst (λ o. holds c + takes act ≡ holds o + gives act) (sym is) tickets)
      (subst (λ o. owed' + owes o ≡ owed + owes c) (sym is) counts)
      reserved

  pub sound_look : (keys : List (List ℕ)) (kept : List (Kept V)) (es : List Entry) (owed room : ℕ) (i seat : ℕ) (act : Act) (x0 old : Kept V) (room' : ℕ)
      → IsSound V stands_for keys kept es owed room → i < length keys → get_or kept i x0 ≡ old
      → IsAllowed (length es) seat act (mode_of old) → mode_after seat act (mode_of old) ≡ mode_of old
      → takes act ≡ gives act → suc (length es) + owed ≤ room'
      → IsSound V stands_for keys kept (es ++ entry seat i act ∷ []) owed room'
  sound_look keys kept es owed room i seat act x0 old room' h l is allowed mode tickets reserved =
      look_at keys kept es owed room i seat act x0 room' h l
      (subst (λ o. IsAllowed (length es) seat act (mode_of o)) (sym is) allowed)
      (subst (λ o. mode_after seat act (mode_of o) ≡ mode_of o) (sym is) mode)
      tickets reserved

  at_last : (kept : List (Kept V)) (c x0 : Kept V) → get_or (kept ++ c ∷ []) (length kept) x0 ≡ c
  at_last [] c x0 = refl
  at_last (b ∷ cs) c x0 = at_last cs c x0

  set_last : (kept : List (Kept V)) (b c : Kept V) → set (kept ++ b ∷ []) (length kept) c ≡ kept ++ c ∷ []
  set_last [] b c = refl
  set_last (x ∷ cs) b c = ap (λ ds. x ∷ ds) (set_last cs b c)

  -- a key more, which the seat holds
  pub sound_new : (keys : List (List ℕ)) (kept : List (Kept V)) (es : List Entry) (owed room : ℕ) (k : List ℕ) (seat room' : ℕ)
      → IsSound V stands_for keys kept es owed room → NoneIs k keys → suc (length es) + (owed + 2) ≤ room'
      → IsSound V stands_for (keys ++ k ∷ []) (kept ++ Held seat ∷ []) (es ++ entry seat (length keys) Yours ∷ []) (owed + 2) room'
  sound_new keys kept es owed room k seat room' h none reserved =
      let with_key = sound_key keys kept es owed room k h none in
      let there : length keys < length (keys ++ k ∷ []) = omega (arith, length-append keys (k ∷ [])) in
      let is : get_or (kept ++ Free ∷ []) (length keys) Free ≡ Free = subst (λ n. get_or (kept ++ Free ∷ []) n Free ≡ Free) h.beside (at_last kept Free Free) in
      let made : set (kept ++ Free ∷ []) (length keys) (Held seat) ≡ kept ++ Held seat ∷ [] = subst (λ n. set (kept ++ Free ∷ []) n (Held seat) ≡ kept ++ Held seat ∷ []) h.beside (set_last kept Free (Held seat)) in
      subst (λ ds. IsSound V stands_for (keys ++ k ∷ []) ds (es ++ entry seat (length keys) Yours ∷ []) (owed + 2) room') made
      (sound_step (keys ++ k ∷ []) (kept ++ Free ∷ []) es owed room (length keys) seat Yours (Held seat) Free Free (owed + 2) room' with_key there is refl refl tt refl (omega arith) (omega arith))

  pub value_new : (keys : List (List ℕ)) (kept : List (Kept V)) (es : List Entry) (owed room : ℕ) (k : List ℕ) (seat : ℕ) (q : List ℕ)
      → IsSound V stands_for keys kept es owed room → NoneIs k keys → look_up None value_of (keys ++ k ∷ []) (kept ++ Held seat ∷ []) q ≡ look_up None value_of keys kept q
  value_new keys kept es owed room k seat q h none =
      look_up-snoc None value_of keys kept k (Held seat) q none h.beside ∙ (
      let P : Bool → Type 0 = λ t. bytes_eq k q ≡ t → cond t None (look_up None value_of keys kept q) ≡ look_up None value_of keys kept q in
      elim (bytes_eq k q) as P [
        | true ↦ λ is. sym (subst (λ z. look_up None value_of keys kept z ≡ None) (bytes_true k q is) (look_up-none None value_of keys kept k none))
        | false ↦ λ ne. refl
      ] refl
      )

  pub calls_new : (keys : List (List ℕ)) (kept : List (Kept V)) (es : List Entry) (owed room : ℕ) (k : List ℕ) (seat : ℕ)
      → IsSound V stands_for keys kept es owed room → calls_of (keys ++ k ∷ []) (es ++ entry seat (length keys) Yours ∷ []) ≡ calls_of keys es ++ call seat k Yours ∷ []
  calls_new keys kept es owed room k seat h =
      calls_more (keys ++ k ∷ []) es (length keys) seat Yours k (at_snoc_key k keys) ∙ ap (λ cs. cs ++ call seat k Yours ∷ []) (calls_of-more keys (k ∷ []) es h.placed)

  -- a key that is nowhere is free
  pub mode_nowhere : (keys : List (List ℕ)) (kept : List (Kept V)) (es : List Entry) (owed room : ℕ) (k : List ℕ)
      → IsSound V stands_for keys kept es owed room → NoneIs k keys → state_after (calls_of keys es) k ≡ free
  mode_nowhere keys kept es owed room k h none = h.replays k ∙ look_up-none free mode_of keys kept k none

  held_kept : (c : Kept V) (s : ℕ) → mode_of c ≡ held s → c ≡ Held s
  held_kept Free s e = absurd (cc)
  held_kept (Held t) s e = cc
  held_kept (Filled n v) s e = absurd (cc)

  -- the cell of a held key
  pub held_there : (keys : List (List ℕ)) (kept : List (Kept V)) (es : List Entry) (owed room : ℕ) (i : ℕ) (k : List ℕ) (s : ℕ)
      → IsSound V stands_for keys kept es owed room → i < length keys → get_or keys i [] ≡ k → state_after (calls_of keys es) k ≡ held s → get_or kept i Free ≡ Held s
  held_there keys kept es owed room i k s h l e m = held_kept (get_or kept i Free) s (sym (mode_there keys kept es owed room i Free k h l e) ∙ m)

  -- the calls that a key owes are among those that are owed
  pub owed_there : (keys : List (List ℕ)) (kept : List (Kept V)) (es : List Entry) (owed room : ℕ) (i : ℕ) (x : Kept V)
      → IsSound V stands_for keys kept es owed room → i < length keys → get_or kept i Free ≡ x → owes x ≤ owed
  owed_there keys kept es owed room i x h l is =
      let i_kept : i < length kept = let b = h.beside in omega arith in
      let sum_is : sum_by owes (set kept i Free) + owes (get_or kept i Free) ≡ sum_by owes kept + 0 = sum_by-set owes kept i Free Free i_kept in
      let here : owes (get_or kept i Free) ≡ owes x = ap owes is in
      let t = h.counted in omega arith

-- what is not held has no holder
pub not_held : {V : Type 0} (c : Kept V) → ((s : ℕ) → c ≡ Held s → ⊥) → None ≡ holder_of (mode_of c)
not_held Free h = refl
not_held (Held s) h = absurd (h s refl)
not_held (Filled n v) h = refl
