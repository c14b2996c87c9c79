-- Deques, passes and workers as a crew begins with them.
use Rattle.std.proofs.Common.{Global, Vec, ◌≡◌, ◌⊎◌, inl, inr, ℕ, zero, suc, ◌+◌, ◌%◌, ◌<◌, ◌≤◌, List, [], ◌∷◌, ◌++◌, length, true, refl, sym, ap, ◌∙◌, subst, arith, append_assoc, length-append}
use Rattle.std.proofs.Math.Nat.{mod-eq_of_lt}
use Rattle.crossbeam_deque.specs.Handles.{view, IsPassOf, stealer_deque, worker_deque, worker_view, SameWorker}
use Rattle.work_crew.specs.declared.seat.Seat.{Seat}
use Rattle.work_crew.specs.declared.seat.Worked.{Worked}
use Rattle.work_crew.specs.Times.{times, once_below, every_in, every}
use Rattle.work_crew.specs.Hands.{hand, IsBelow}
use Rattle.work_crew.specs.Reach.{Owner, Thief, Note, Paired, tally, puts_of, AreBelow}
use Rattle.work_crew.specs.Settle.{AllFirst, Owned, SameOwners, put_by}
use Rattle.work_crew.specs.Setup.{IsDealt, AreDealt, AllFixed, AreThieves, KeepsOwner, KeepsOwners, IsNoted, AreNoted, AllNoted, AllIdle, seats_of}
use Rattle.work_crew.proofs.Counting.{zero_or, every_step, every_end, every_facts, every_below}

append_none : (xs : List ℕ) → xs ++ [] ≡ xs
append_none [] = refl
append_none (x ∷ xs) = ap (λ r. x ∷ r) (append_none xs)

-- the jobs before next are dealt
pub record Dealing (first step count next : ℕ) (jobs : List ℕ) : Type 0 where
  pub fuel : ℕ
  pub numbers : every first step count ≡ jobs ++ every_in fuel next step count
  pub enough : count ≤ fuel + next

pub deal_begins : (first step count : ℕ) → Dealing first step count first []
deal_begins first step count = record { fuel = count; numbers = refl; enough = omega arith }

pub deal_goes : (first step count next : ℕ) (jobs : List ℕ) → next < count → 0 < step → Dealing first step count next jobs → Dealing first step count (next + step) (jobs ++ next ∷ [])
deal_goes first step count next jobs l some h = go h.fuel h.numbers h.enough
  where
    go : (fuel : ℕ) → every first step count ≡ jobs ++ every_in fuel next step count → count ≤ fuel + next → Dealing first step count (next + step) (jobs ++ next ∷ [])
    go zero n e = absurd (omega arith)
    go (suc f) n e = record {
      fuel = f;
      numbers = n ∙ ap (λ r. jobs ++ r) (every_step f next step count l) ∙ sym (append_assoc jobs (next ∷ []) (every_in f (next + step) step count));
      enough = omega arith;
    }

pub deal_ends : (first step count next : ℕ) (jobs : List ℕ) → count ≤ next → Dealing first step count next jobs → jobs ≡ every first step count
deal_ends first step count next jobs l h = sym (h.numbers ∙ ap (λ r. jobs ++ r) (every_end h.fuel next step count l) ∙ append_none jobs)

pub dealt_snoc : (j step count : ℕ) (os : List Owner) (o : Owner) → AreDealt j step count os → IsDealt (every (j + length os) step count) o → AreDealt j step count (os ++ o ∷ [])
dealt_snoc j step count [] o h d = (subst (λ n. IsDealt (every n step count) o) (omega arith) d, tt)
dealt_snoc j step count (x ∷ os) o h d = (h.0, dealt_snoc (suc j) step count os o h.1 (subst (λ n. IsDealt (every n step count) o) (omega arith) d))

pub thieves_snoc : (os : List Owner) (ss : List Thief) (o : Owner) (s : Thief) → AreThieves os ss → stealer_deque s ≡ worker_deque o → AreThieves (os ++ o ∷ []) (ss ++ s ∷ [])
thieves_snoc [] [] o s h e = (e, tt)
thieves_snoc (x ∷ os) (y ∷ ss) o s h e = (h.0, thieves_snoc os ss o s h.1 e)
thieves_snoc [] (y ∷ ss) o s h e = absurd h
thieves_snoc (x ∷ os) [] o s h e = absurd h

pub thieves_length : (os : List Owner) (ss : List Thief) → AreThieves os ss → length ss ≡ length os
thieves_length [] [] h = refl
thieves_length (o ∷ os) (s ∷ ss) h = ap suc (thieves_length os ss h.1)
thieves_length [] (s ∷ ss) h = absurd h
thieves_length (o ∷ os) [] h = absurd h

pub keeps_refl : (os : List Owner) → KeepsOwners os os
keeps_refl [] = tt
keeps_refl (o ∷ os) = (record { same = (refl, refl, refl, omega arith); put = refl; taken = refl }, keeps_refl os)

keep_trans : (o p q : Owner) → KeepsOwner o p → KeepsOwner p q → KeepsOwner o q
keep_trans o p q h k = record {
  same = (k.same.0 ∙ h.same.0, k.same.1 ∙ h.same.1, k.same.2 ∙ h.same.2, (let a = h.same.3 in let b = k.same.3 in omega arith));
  put = k.put ∙ h.put;
  taken = k.taken ∙ h.taken;
}

pub keeps_trans : (os ps qs : List Owner) → KeepsOwners os ps → KeepsOwners ps qs → KeepsOwners os qs
keeps_trans [] [] [] h k = tt
keeps_trans (o ∷ os) (p ∷ ps) (q ∷ qs) h k = (keep_trans o p q h.0 k.0, keeps_trans os ps qs h.1 k.1)
keeps_trans [] [] (q ∷ qs) h k = absurd k
keeps_trans [] (p ∷ ps) qs h k = absurd h
keeps_trans (o ∷ os) [] qs h k = absurd h
keeps_trans (o ∷ os) (p ∷ ps) [] h k = absurd k

pub keeps_length : (os ps : List Owner) → KeepsOwners os ps → length ps ≡ length os
keeps_length [] [] h = refl
keeps_length (o ∷ os) (p ∷ ps) h = ap suc (keeps_length os ps h.1)
keeps_length [] (p ∷ ps) h = absurd h
keeps_length (o ∷ os) [] h = absurd h

pub keeps_snoc : (os ps : List Owner) (o p : Owner) → KeepsOwners os ps → KeepsOwner o p → KeepsOwners (os ++ o ∷ []) (ps ++ p ∷ [])
keeps_snoc [] [] o p h k = (k, tt)
keeps_snoc (x ∷ os) (y ∷ ps) o p h k = (h.0, keeps_snoc os ps o p h.1 k)
keeps_snoc [] (y ∷ ps) o p h k = absurd h
keeps_snoc (x ∷ os) [] o p h k = absurd h

pub fixed_snoc : (os : List Owner) (o : Owner) → AllFixed os → (worker_view o).fixed ≡ true → AllFixed (os ++ o ∷ [])
fixed_snoc [] o h f = (f, tt)
fixed_snoc (x ∷ os) o h f = (h.0, fixed_snoc os o h.1 f)

pub noted_snoc : (os : List Owner) (ns : List Note) (o : Owner) (n : Note) → AreNoted os ns → IsNoted o n → AreNoted (os ++ o ∷ []) (ns ++ n ∷ [])
noted_snoc [] [] o n h k = (k, tt)
noted_snoc (x ∷ os) (y ∷ ns) o n h k = (h.0, noted_snoc os ns o n h.1 k)
noted_snoc [] (y ∷ ns) o n h k = absurd h
noted_snoc (x ∷ os) [] o n h k = absurd h

pub noted_length : (os : List Owner) (ns : List Note) → AreNoted os ns → length ns ≡ length os
noted_length [] [] h = refl
noted_length (o ∷ os) (n ∷ ns) h = ap suc (noted_length os ns h.1)
noted_length [] (n ∷ ns) h = absurd h
noted_length (o ∷ os) [] h = absurd h

pub all_noted_snoc : (os : List Owner) (rs : List (Vec Note Global)) (r : Vec Note Global) → AllNoted os rs → AreNoted os r.items → AllNoted os (rs ++ r ∷ [])
all_noted_snoc os [] r h k = (k, tt)
all_noted_snoc os (x ∷ rs) r h k = (h.0, all_noted_snoc os rs r h.1 k)

-- what holds of owners that are kept

pub keeps_first : (os ps : List Owner) → KeepsOwners os ps → AllFirst os → AllFirst ps
keeps_first [] [] k h = tt
keeps_first (o ∷ os) (p ∷ ps) k h = (k.0.same.2 ∙ h.0, keeps_first os ps k.1 h.1)
keeps_first [] (p ∷ ps) k h = absurd k
keeps_first (o ∷ os) [] k h = absurd k

pub keeps_dealt : (j step count : ℕ) (os ps : List Owner) → KeepsOwners os ps → AreDealt j step count os → AreDealt j step count ps
keeps_dealt j step count [] [] k h = tt
keeps_dealt j step count (o ∷ os) (p ∷ ps) k h = (
  record { port = k.0.same.2 ∙ h.0.port; flavor = k.0.same.1 ∙ h.0.flavor; put = k.0.put ∙ h.0.put; none_taken = k.0.taken ∙ h.0.none_taken },
  keeps_dealt (suc j) step count os ps k.1 h.1,
)
keeps_dealt j step count [] (p ∷ ps) k h = absurd k
keeps_dealt j step count (o ∷ os) [] k h = absurd k

pub keeps_thieves : (os ps : List Owner) (ss : List Thief) → KeepsOwners os ps → AreThieves os ss → AreThieves ps ss
keeps_thieves [] [] ss k h = h
keeps_thieves (o ∷ os) (p ∷ ps) (s ∷ ss) k h = (h.0 ∙ sym k.0.same.0, keeps_thieves os ps ss k.1 h.1)
keeps_thieves (o ∷ os) (p ∷ ps) [] k h = absurd h
keeps_thieves [] (p ∷ ps) ss k h = absurd k
keeps_thieves (o ∷ os) [] ss k h = absurd k

keep_noted : (o p : Owner) (n : Note) → KeepsOwner o p → IsNoted o n → IsNoted p n
keep_noted o p n k h = record {
  pass = subst (λ d. IsPassOf d n) (sym k.same.0) h.pass;
  view_is = h.view_is ∙ ap (λ jobs. hand true jobs []) (sym k.put);
}

pub keeps_noted : (os ps : List Owner) (ns : List Note) → KeepsOwners os ps → AreNoted os ns → AreNoted ps ns
keeps_noted [] [] ns k h = h
keeps_noted (o ∷ os) (p ∷ ps) (n ∷ ns) k h = (keep_noted o p n k.0 h.0, keeps_noted os ps ns k.1 h.1)
keeps_noted (o ∷ os) (p ∷ ps) [] k h = absurd h
keeps_noted [] (p ∷ ps) ns k h = absurd k
keeps_noted (o ∷ os) [] ns k h = absurd k

pub keeps_rows : (os ps : List Owner) (rs : List (Vec Note Global)) → KeepsOwners os ps → AllNoted os rs → AllNoted ps rs
keeps_rows os ps [] k h = tt
keeps_rows os ps (r ∷ rs) k h = (keeps_noted os ps r.items k h.0, keeps_rows os ps rs k h.1)

pub dealt_first : (j step count : ℕ) (os : List Owner) → AreDealt j step count os → AllFirst os
dealt_first j step count [] h = tt
dealt_first j step count (o ∷ os) h = (h.0.port, dealt_first (suc j) step count os h.1)

-- an owner from which a pass is made
pub share_step : (o p : Owner) (n : Note) → SameWorker o p → worker_view p ≡ hand true (worker_view o).put (worker_view o).taken → IsPassOf (worker_deque o) n → view n ≡ hand true (worker_view o).put []
    → KeepsOwner o p × ((worker_view p).fixed ≡ true) × IsNoted p n
share_step o p n same after pass is =
    let k : KeepsOwner o p = record { same = same; put = ap (λ v. v.put) after; taken = ap (λ v. v.taken) after } in
    (k, ap (λ v. v.fixed) after, keep_noted o p n k (record { pass = pass; view_is = is }))

-- passes that are dealt may be used by a worker

pub paired_noted : (os : List Owner) (ss : List Thief) (ns : List Note) → AreThieves os ss → AreNoted os ns → Paired ss ns
paired_noted [] [] [] h k = tt
paired_noted (o ∷ os) (s ∷ ss) (n ∷ ns) h k = (subst (λ d. IsPassOf d n) (sym h.0) k.0.pass, paired_noted os ss ns h.1 k.1)
paired_noted [] [] (n ∷ ns) h k = absurd k
paired_noted [] (s ∷ ss) ns h k = absurd h
paired_noted (o ∷ os) [] ns h k = absurd h
paired_noted (o ∷ os) (s ∷ ss) [] h k = absurd k

pub noted_tally : (k : ℕ) (os : List Owner) (ns : List Note) → AreNoted os ns → tally k ns ≡ 0
noted_tally k [] [] h = refl
noted_tally k (o ∷ os) (n ∷ ns) h = let e = ap (λ v. times k v.taken) h.0.view_is in let i = noted_tally k os ns h.1 in omega arith
noted_tally k [] (n ∷ ns) h = absurd h
noted_tally k (o ∷ os) [] h = absurd h

pub noted_below : (j step count : ℕ) (os : List Owner) (ns : List Note) → 0 < step → AreDealt j step count os → AreNoted os ns → AreBelow count (puts_of ns)
noted_below j step count [] [] some d h = tt
noted_below j step count (o ∷ os) (n ∷ ns) some d h = (
  record {
    is_fixed = ap (λ v. v.fixed) h.0.view_is;
    below = λ k l. ap (λ v. times k v.put) h.0.view_is ∙ (ap (times k) d.0.put ∙ every_below j step count k some l);
  },
  noted_below (suc j) step count os ns some d.1 h.1,
)
noted_below j step count [] (n ∷ ns) some d h = absurd h
noted_below j step count (o ∷ os) [] some d h = absurd h

pub owner_below : (j step count : ℕ) (o : Owner) → 0 < step → IsDealt (every j step count) o → (worker_view o).fixed ≡ true → IsBelow count (worker_view o).fixed (worker_view o).put
owner_below j step count o some d f = record { is_fixed = f; below = λ k l. ap (times k) d.put ∙ every_below j step count k some l }

-- each job is put at most once, by the worker of its turn
pub dealt_once : (j step count k : ℕ) (os : List Owner) → 0 < step → j + length os ≤ step → AreDealt j step count os → (put_by k os ≤ once_below k count) × (1 ≤ put_by k os → j ≤ k % step)
dealt_once j step count k [] some l h = (omega arith, λ i. absurd (omega arith))
dealt_once j step count k (o ∷ os) some l h = both (dealt_once (suc j) step count k os some (omega arith) h.1) (zero_or (put_by k os))
  where
    below : j < step
    below = let a = l in omega arith

    facts : (times k (worker_view o).put ≤ once_below k count) × (1 ≤ times k (worker_view o).put → k % step ≡ j)
    facts =
        let e = every_facts count j step count k some in
        let a = ap (times k) h.0.put in
        (let p = e.0 in omega arith, λ i. (e.1 (omega arith)).1 ∙ mod-eq_of_lt below)

    none_of : (n : ℕ) → (1 ≤ n → ⊥) → n ≡ 0
    none_of zero h = refl
    none_of (suc n) h = absurd (h (omega arith))

    both : (put_by k os ≤ once_below k count) × (1 ≤ put_by k os → suc j ≤ k % step) → (put_by k os ≡ 0) ⊎ (1 ≤ put_by k os) → (times k (worker_view o).put + put_by k os ≤ once_below k count) × (1 ≤ times k (worker_view o).put + put_by k os → j ≤ k % step)
    both r (inl z) = (let p = facts.0 in omega arith, λ i. let q = facts.1 (omega arith) in omega arith)
    both r (inr s) =
        let far = r.1 s in
        let none = none_of (times k (worker_view o).put) (λ i. let q = facts.1 i in omega arith) in
        (let p = r.0 in omega arith, λ i. omega arith)

-- passes of deques that are used are of them still
pub owned_paired : (os ps : List Owner) (ss : List Thief) (ns : List Note) → AreThieves os ss → SameOwners os ps → AllFirst os → Paired ss ns → Owned ps ns
owned_paired [] [] [] [] h s f k = tt
owned_paired (o ∷ os) (p ∷ ps) (t ∷ ts) (n ∷ ns) h s f k = (s.1 ∙ f.0, subst (λ d. IsPassOf d n) (h.0 ∙ sym s.0) k.0, owned_paired os ps ts ns h.1 s.3 f.1 k.1)
owned_paired [] [] [] (n ∷ ns) h s f k = absurd k
owned_paired [] [] (t ∷ ts) ns h s f k = absurd h
owned_paired [] (p ∷ ps) ts ns h s f k = absurd s
owned_paired (o ∷ os) [] ts ns h s f k = absurd s
owned_paired (o ∷ os) (p ∷ ps) [] ns h s f k = absurd h
owned_paired (o ∷ os) (p ∷ ps) (t ∷ ts) [] h s f k = absurd k

pub idle_snoc : {O : Type 0} (ws : List (Worked O)) (w : Worked O) → AllIdle ws → w.taken.items ≡ [] → w.done.items ≡ [] → AllIdle (ws ++ w ∷ [])
idle_snoc [] w h t d = (t, d, tt)
idle_snoc (x ∷ ws) w h t d = (h.0, h.1, idle_snoc ws w h.2 t d)

pub seats_length : {O : Type 0} (L : Type 0) (j : ℕ) (os : List Owner) (rs : List (Vec Note Global)) (ws : List (Worked O)) → length rs ≡ length os → length ws ≡ length os → length (seats_of {O = O} {L = L} j os rs ws) ≡ length os
seats_length L j [] rs ws a b = refl
seats_length L j (x ∷ os) (y ∷ rs) (z ∷ ws) a b = ap suc (seats_length L (suc j) os rs ws (omega arith) (omega arith))
seats_length L j (x ∷ os) [] ws a b = absurd (omega arith)
seats_length L j (x ∷ os) (y ∷ rs) [] a b = absurd (omega arith)

module _ {O L : Type 0} where
  abbrev seat_at : ℕ → ℕ → Owner → Vec Note Global → Worked O → Seat O L
  seat_at j m o r w = record { reach = record { number = j; owner = o; notes = r }; worked = w; meter = m }

  pub seats_snoc : (j : ℕ) (os : List Owner) (rs : List (Vec Note Global)) (ws : List (Worked O)) (o : Owner) (r : Vec Note Global) (w : Worked O) → length rs ≡ length os → length ws ≡ length os
      → seats_of {O = O} {L = L} j (os ++ o ∷ []) (rs ++ r ∷ []) (ws ++ w ∷ []) ≡ seats_of j os rs ws ++ seat_at (j + length os) 0 o r w ∷ []
  seats_snoc j [] [] [] o r w a b = let e : j ≡ j + 0 = omega arith in ap (λ n. seat_at n 0 o r w ∷ []) e
  seats_snoc j (x ∷ os) (y ∷ rs) (z ∷ ws) o r w a b =
      let e : suc j + length os ≡ j + length (x ∷ os) = omega arith in
      ap (λ ss. seat_at j 0 x y z ∷ ss) (seats_snoc (suc j) os rs ws o r w (omega arith) (omega arith) ∙ ap (λ n. seats_of {O = O} {L = L} (suc j) os rs ws ++ seat_at n 0 o r w ∷ []) e)
  seats_snoc j [] (y ∷ rs) ws o r w a b = absurd (omega arith)
  seats_snoc j [] [] (z ∷ ws) o r w a b = absurd (omega arith)
  seats_snoc j (x ∷ os) [] ws o r w a b = absurd (omega arith)
  seats_snoc j (x ∷ os) (y ∷ rs) [] o r w a b = absurd (omega arith)

  -- one more worker is seated
  pub seats_grow : (os os' : List Owner) (rs rs' : List (Vec Note Global)) (ws ws' : List (Worked O)) (o : Owner) (r : Vec Note Global) (w : Worked O) (number meter : ℕ) (before after : List (Seat O L))
      → os' ≡ os ++ o ∷ [] → rs' ≡ rs ++ r ∷ [] → ws' ≡ ws ++ w ∷ [] → length rs' ≡ length os' → length ws' ≡ length os' → number ≡ length os → meter ≡ 0
      → before ≡ seats_of 0 os rs ws → after ≡ before ++ seat_at number meter o r w ∷ []
      → after ≡ seats_of 0 os' rs' ws'
  seats_grow os os' rs rs' ws ws' o r w number meter before after a b c l m n z e f =
      let lr : length rs ≡ length os = (let x = ap length a in let y = ap length b in omega (arith, length-append os (o ∷ []), length-append rs (r ∷ []))) in
      let lw : length ws ≡ length os = (let x = ap length a in let y = ap length c in omega (arith, length-append os (o ∷ []), length-append ws (w ∷ []))) in
      let place : number ≡ 0 + length os = omega arith in
      f ∙ ap (λ ss. ss ++ seat_at number meter o r w ∷ []) e
      ∙ ap (λ k. seats_of {O = O} {L = L} 0 os rs ws ++ seat_at k meter o r w ∷ []) place
      ∙ ap (λ k. seats_of {O = O} {L = L} 0 os rs ws ++ seat_at (0 + length os) k o r w ∷ []) z
      ∙ sym (seats_snoc 0 os rs ws o r w lr lw)
      ∙ ap (λ xs. seats_of {O = O} {L = L} 0 xs (rs ++ r ∷ []) (ws ++ w ∷ [])) (sym a)
      ∙ ap (λ xs. seats_of {O = O} {L = L} 0 os' xs (ws ++ w ∷ [])) (sym b)
      ∙ ap (λ xs. seats_of {O = O} {L = L} 0 os' rs' xs) (sym c)
