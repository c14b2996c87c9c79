-- What the workers did together.
use Rattle.std.proofs.Common.{Global, Vec, ◌≡◌, ℕ, suc, ◌+◌, ◌<◌, ◌≤◌, List, [], ◌∷◌, ◌++◌, length, map, Some, None, replicate, refl, sym, ap, ◌∙◌, subst, arith}
use Rattle.std.specs.List.{AllByRecursion}
use Rattle.rtl_bits.specs.Counts.{risen}
use Rattle.work_crew.specs.declared.seat.Seat.{Seat}
use Rattle.work_crew.specs.declared.seat.Worked.{Worked}
use Rattle.work_crew.specs.declared.setup.Room.{Room}
use Rattle.work_crew.specs.Times.{times, once_below}
use Rattle.work_crew.specs.Pairs.{AllReady, AllRan}
use Rattle.work_crew.specs.Reach.{Owner, Thief, Note, took}
use Rattle.work_crew.specs.Settle.{AllFirst, AllOwned, SameOwners, taken_by, put_by, tallies}
use Rattle.work_crew.specs.Along.{numbers_of, AllFit}
use Rattle.work_crew.specs.Seats.{MayWork, HasWorked}
use Rattle.work_crew.specs.Setup.{AreDealt, AllFixed, AreThieves, AllNoted, AllIdle, seats_of, IsSetUp}
use Rattle.work_crew.specs.Gather.{put_all, dones, metered}
use Rattle.work_crew.specs.Outcome.{Way, all_numbers, all_ticks, all_done, all_taken, AllGone, Finished, Stopped}
use Rattle.work_crew.proofs.Counting.{times_append}
use Rattle.work_crew.proofs.OwnerLists.{put_same, first_same}
use Rattle.work_crew.proofs.Setups.{thieves_length, dealt_first, dealt_once, paired_noted, noted_tally, noted_below, owner_below, owned_paired, seats_length}
use Rattle.work_crew.proofs.Outcomes.{finished}

fit_append : {O : Type 0} (fits : ℕ → O → Type 0) (xs ys : List (ℕ × O)) → AllFit fits xs → AllFit fits ys → AllFit fits (xs ++ ys)
fit_append fits [] ys a b = b
fit_append fits (x ∷ xs) ys a b = (a.0, fit_append fits xs ys a.1 b)

module _ {O L : Type 0} where
  abbrev pub owners_in : List (Seat O L) → List Owner
  owners_in ss = map (λ (s : Seat O L). s.reach.owner) ss

  abbrev pub rows_in : List (Seat O L) → List (Vec Note Global)
  rows_in ss = map (λ (s : Seat O L). s.reach.notes) ss

  -- workers that have taken nothing
  abbrev pub AllFresh : List (Seat O L) → Type 0
  AllFresh [] = Unit {0}
  AllFresh (s ∷ ss) = ((k : ℕ) → took k s.reach ≡ 0) × (s.meter ≡ 0) × AllFresh ss

owners_seats : {O : Type 0} (L : Type 0) (j : ℕ) (os : List Owner) (rs : List (Vec Note Global)) (ws : List (Worked O)) → length rs ≡ length os → length ws ≡ length os → owners_in (seats_of {O = O} {L = L} j os rs ws) ≡ os
owners_seats L j [] rs ws a b = refl
owners_seats L j (o ∷ os) (r ∷ rs) (w ∷ ws) a b = ap (λ ps. o ∷ ps) (owners_seats L (suc j) os rs ws (omega arith) (omega arith))
owners_seats L j (o ∷ os) [] ws a b = absurd (omega arith)
owners_seats L j (o ∷ os) (r ∷ rs) [] a b = absurd (omega arith)

fresh_seats : {O : Type 0} (L : Type 0) (j i step count : ℕ) (all os : List Owner) (rs : List (Vec Note Global)) (ws : List (Worked O)) → AreDealt i step count os → AllNoted all rs → AllFresh (seats_of {O = O} {L = L} j os rs ws)
fresh_seats L j i step count all [] rs ws d n = tt
fresh_seats L j i step count all (o ∷ os) [] ws d n = tt
fresh_seats L j i step count all (o ∷ os) (r ∷ rs) [] d n = tt
fresh_seats L j i step count all (o ∷ os) (r ∷ rs) (w ∷ ws) d n = (
  λ k. let a = ap (times k) d.0.none_taken in let b = noted_tally k all r.items n.0 in omega arith,
  refl,
  fresh_seats L (suc j) (suc i) step count all os rs ws d.1 n.1,
)

module _ {J O T : Type 0} (L : Type 0) (is_job : J → ℕ → Type 0) (token_fits : J → T → Type 0) (jobs : J) (count : ℕ) where
  -- each worker may begin
  all_ready : (j i step : ℕ) (ss : List Thief) (all os : List Owner) (rs : List (Vec Note Global)) (ws : List (Worked O)) (ts : List T) → ((k : ℕ) → k < count → is_job jobs k) → 0 < step → length ss ≤ 64 → j + length os ≤ length ss
      → AreDealt 0 step count all → AreDealt i step count os → AllFixed os → AreThieves all ss → AllNoted all rs → AllIdle ws → AllByRecursion (token_fits jobs) ts
      → AllReady (MayWork is_job token_fits jobs ss) (seats_of {O = O} {L = L} j os rs ws) ts
  all_ready j i step ss all [] rs ws ts are some few l whole d f h n e t = tt
  all_ready j i step ss all (o ∷ os) [] ws ts are some few l whole d f h n e t = tt
  all_ready j i step ss all (o ∷ os) (r ∷ rs) [] ts are some few l whole d f h n e t = tt
  all_ready j i step ss all (o ∷ os) (r ∷ rs) (w ∷ ws) [] are some few l whole d f h n e t = tt
  all_ready j i step ss all (o ∷ os) (r ∷ rs) (w ∷ ws) (u ∷ ts) are some few l whole d f h n e t = (
    record {
      count = count;
      jobs_are = are;
      below = (owner_below i step count o some d.0 f.0, noted_below 0 step count all r.items some whole n.0);
      can = record { number = omega arith; few = few; flavor = d.0.flavor; paired = paired_noted all ss r.items h n.0 };
      token = t.0;
      none_taken = e.0;
      none_done = e.1;
    },
    all_ready (suc j) (suc i) step ss all os rs ws ts are some few (omega arith) whole d.1 f.1 h n.1 e.2 t.1,
  )

module _ {J O T L : Type 0} (is_job : J → ℕ → Type 0) (token_fits : J → T → Type 0) (output_fits : J → ℕ → O → Type 0) (does : J → ℕ → O → T → T → ℕ → Type 0) (fails : J → ℕ → T → T → ℕ → Type 0) (jobs : J) (count : ℕ) where
  pub record Crewed (ss ws : List (Seat O L)) (ts us : List T) : Type 0 where
    pub ways : List (Way O)
    pub gone : AllGone (does jobs) (fails jobs) ways ts us
    pub numbers : (k : ℕ) → times k (all_numbers ways) ≡ taken_by k (owners_in ws) + tallies k (rows_in ws)
    pub done : dones ws ≡ all_done ways
    pub taken : map (λ v. v.items) (map (λ (s : Seat O L). s.worked.taken) ws) ≡ all_taken ways
    pub meter : (old : ℕ) → metered old ws ≡ risen old (all_ticks ways)
    pub fit : AllFit (output_fits jobs) (all_done ways)
    pub tokens : AllByRecursion (token_fits jobs) us
    pub same : SameOwners (owners_in ss) (owners_in ws)

  crewed_more : (thieves : List Thief) (s w : Seat O L) (ss ws : List (Seat O L)) (t u : T) (ts us : List T) → ((k : ℕ) → took k s.reach ≡ 0) → s.meter ≡ 0
      → HasWorked token_fits output_fits does fails jobs thieves s w t u → Crewed ss ws ts us → Crewed (s ∷ ss) (w ∷ ws) (t ∷ ts) (u ∷ us)
  crewed_more thieves s w ss ws t u ts us none meter h rest = record {
    ways = record { done = w.worked.done.items; failed = h.went.failed; ticks = h.went.ticks } ∷ rest.ways;
    gone = (h.went.ran, rest.gone);
    numbers = λ k.
        let a = times_append k (numbers_of w.worked.done.items ++ h.went.failed) (all_numbers rest.ways) in
        let b = rest.numbers k in
        let c = h.went.numbers k in
        let d = none k in
        omega arith;
    done = ap (λ r. w.worked.done.items ++ r) rest.done;
    taken = ap (λ r. w.worked.taken.items ∷ r) rest.taken ∙ ap (λ r. r ∷ all_taken rest.ways) h.taken;
    meter = λ old. let a = rest.meter old in let b = h.went.meter in omega arith;
    fit = fit_append (output_fits jobs) w.worked.done.items (all_done rest.ways) h.fit rest.fit;
    tokens = (h.token, rest.tokens);
    same = (h.same.owner.0, h.same.owner.2, h.same.put, rest.same);
  }

  pub crewed : (thieves : List Thief) (ss ws : List (Seat O L)) (ts us : List T) → AllFresh ss → AllRan (HasWorked token_fits output_fits does fails jobs thieves) ss ws ts us → Crewed ss ws ts us
  crewed thieves [] [] [] [] f h = record {
    ways = [];
    gone = tt;
    numbers = λ k. omega arith;
    done = refl;
    taken = refl;
    meter = λ old. omega arith;
    fit = tt;
    tokens = tt;
    same = tt;
  }
  crewed thieves (s ∷ ss) (w ∷ ws) (t ∷ ts) (u ∷ us) f h = crewed_more thieves s w ss ws t u ts us f.0 f.1 h.0 (crewed thieves ss ws ts us f.2 h.1)
  crewed thieves [] [] [] (u ∷ us) f h = absurd h
  crewed thieves [] [] (t ∷ ts) us f h = absurd h
  crewed thieves [] (w ∷ ws) ts us f h = absurd h
  crewed thieves (s ∷ ss) [] ts us f h = absurd h
  crewed thieves (s ∷ ss) (w ∷ ws) [] us f h = absurd h
  crewed thieves (s ∷ ss) (w ∷ ws) (t ∷ ts) [] f h = absurd h

  -- the passes that the workers leave are of the deques
  pub all_owned : (thieves : List Thief) (os ps : List Owner) (ss ws : List (Seat O L)) (ts us : List T) → AreThieves os thieves → SameOwners os ps → AllFirst os → AllRan (HasWorked token_fits output_fits does fails jobs thieves) ss ws ts us → AllOwned ps (rows_in ws)
  all_owned thieves os ps [] [] [] [] a s f h = tt
  all_owned thieves os ps (x ∷ ss) (w ∷ ws) (t ∷ ts) (u ∷ us) a s f h = (owned_paired os ps thieves w.reach.notes.items a s f h.0.can.paired, all_owned thieves os ps ss ws ts us a s f h.1)
  all_owned thieves os ps [] [] [] (u ∷ us) a s f h = absurd h
  all_owned thieves os ps [] [] (t ∷ ts) us a s f h = absurd h
  all_owned thieves os ps [] (w ∷ ws) ts us a s f h = absurd h
  all_owned thieves os ps (x ∷ ss) [] ts us a s f h = absurd h
  all_owned thieves os ps (x ∷ ss) (w ∷ ws) [] us a s f h = absurd h
  all_owned thieves os ps (x ∷ ss) (w ∷ ws) (t ∷ ts) [] a s f h = absurd h

  -- no number stands twice, since each job was put once
  pub crew_once : (step : ℕ) (os : List Owner) (ss ws : List (Seat O L)) (ts us : List T) (h : Crewed ss ws ts us) → owners_in ss ≡ os → 0 < step → length os ≤ step → AreDealt 0 step count os
      → ((k : ℕ) → taken_by k (owners_in ws) + tallies k (rows_in ws) ≤ put_by k (owners_in ws)) → (k : ℕ) → times k (all_numbers h.ways) ≤ once_below k count
  crew_once step os ss ws ts us h are some l d most k =
      let a = h.numbers k in
      let b = most k in
      let c = put_same k (owners_in ss) (owners_in ws) h.same in
      let e = ap (put_by k) are in
      let z : 0 + length os ≤ step = omega arith in
      let o = (dealt_once 0 step count k os some z d).0 in
      omega arith

  pub is_finished : (ss ws : List (Seat O L)) (ts us : List T) (items : List O) (lists : List (List ℕ)) (old now : ℕ) (h : Crewed ss ws ts us) → ((k : ℕ) → times k (all_numbers h.ways) ≤ once_below k count)
      → map Some items ≡ put_all (dones ws) (replicate count None) → lists ≡ map (λ v. v.items) (map (λ (s : Seat O L). s.worked.taken) ws) → now ≡ metered old ws
      → Finished (output_fits jobs) (does jobs) count items lists ts us old now
  is_finished ss ws ts us items lists old now h once put taken meter =
      subst (λ ls. Finished (output_fits jobs) (does jobs) count items ls ts us old now) (sym (taken ∙ h.taken))
      (finished (does jobs) (fails jobs) (output_fits jobs) count items h.ways ts us old now h.gone once h.fit (put ∙ ap (λ xs. put_all xs (replicate count None)) h.done) (meter ∙ h.meter old))

  pub is_stopped : (ss ws : List (Seat O L)) (ts us : List T) (old now : ℕ) (h : Crewed ss ws ts us) → ((k : ℕ) → times k (all_numbers h.ways) ≤ once_below k count) → now ≡ metered old ws → Stopped (does jobs) (fails jobs) count ts us old now
  is_stopped ss ws ts us old now h once meter = record { ways = h.ways; gone = h.gone; once = once; meter = meter ∙ h.meter old }

  -- a crew that was set up for the jobs below count
  module _ (workers : ℕ) (room : Room O L) (up : IsSetUp workers count room) (thieves : List Thief) (same : thieves ≡ room.thieves.items) where
    own_thieves : AreThieves up.owners thieves
    own_thieves = subst (AreThieves up.owners) (sym same) up.thieves

    own_rows : length up.rows ≡ length up.owners
    own_rows = up.rows_len ∙ sym up.owners_len

    own_works : length up.works ≡ length up.owners
    own_works = up.works_len ∙ sym up.owners_len

    own_seats : owners_in room.seats.items ≡ up.owners
    own_seats = ap owners_in up.seats ∙ owners_seats L 0 up.owners up.rows up.works own_rows own_works

    own_first : AllFirst up.owners
    own_first = dealt_first 0 workers count up.owners up.dealt

    pub setup_length : length room.seats.items ≡ workers
    setup_length = ap length up.seats ∙ (seats_length L 0 up.owners up.rows up.works own_rows own_works ∙ up.owners_len)

    pub setup_ready : (ts : List T) → ((k : ℕ) → k < count → is_job jobs k) → 0 < workers → workers ≤ 64 → AllByRecursion (token_fits jobs) ts → AllReady (MayWork is_job token_fits jobs thieves) room.seats.items ts
    setup_ready ts are some few fit =
        let l = thieves_length up.owners thieves own_thieves in
        let o = up.owners_len in
        subst (λ ss. AllReady (MayWork is_job token_fits jobs thieves) ss ts) (sym up.seats)
        (all_ready L is_job token_fits jobs count 0 0 workers thieves up.owners up.owners up.rows up.works ts are some (omega arith) (omega arith) up.dealt up.dealt up.fixed own_thieves up.noted up.idle fit)

    module _ (ws : List (Seat O L)) (ts us : List T) (ran : AllRan (HasWorked token_fits output_fits does fails jobs thieves) room.seats.items ws ts us) where
      pub setup_crewed : Crewed room.seats.items ws ts us
      setup_crewed = crewed thieves room.seats.items ws ts us (subst AllFresh (sym up.seats) (fresh_seats L 0 0 workers count up.owners up.owners up.rows up.works up.dealt up.noted)) ran

      own_same : SameOwners up.owners (owners_in ws)
      own_same = subst (λ os. SameOwners os (owners_in ws)) own_seats setup_crewed.same

      pub setup_first : AllFirst (owners_in ws)
      setup_first = first_same up.owners (owners_in ws) own_same own_first

      pub setup_owned : AllOwned (owners_in ws) (rows_in ws)
      setup_owned = all_owned thieves up.owners (owners_in ws) room.seats.items ws ts us own_thieves own_same own_first ran

      pub setup_once : 0 < workers → ((k : ℕ) → taken_by k (owners_in ws) + tallies k (rows_in ws) ≤ put_by k (owners_in ws)) → (k : ℕ) → times k (all_numbers setup_crewed.ways) ≤ once_below k count
      setup_once some most = crew_once workers up.owners room.seats.items ws ts us setup_crewed own_seats some (let o = up.owners_len in omega arith) up.dealt most
