-- The calls of a seat that asks for a key, one after another.
use Rattle.std.proofs.Common.{◌≡◌, ◌≢◌, ◌⊎◌, inl, inr, ℕ, ◌+◌, ◌≤◌, List, [], ◌∷◌, ◌++◌, Bool, true, false, true≢false, cond, refl, sym, ap, subst, ◌∙◌, arith, append_assoc}
use Rattle.std.proofs.lemmas.List.{append-nil}
use Rattle.std.specs.Str.{bytes_eq}
use Rattle.result_cache.specs.declared.call.Act.{Act}
use Rattle.result_cache.specs.declared.call.Act.TheVariants.{Hit, Busy, Yours, Fill, GiveBack}
use Rattle.result_cache.specs.declared.call.Call.{Call}
use Rattle.result_cache.specs.declared.shard.Ticket.{Ticket}
use Rattle.result_cache.specs.History.{call}
use Rattle.result_cache.specs.Counts.{claims, fills, give_backs, drops, count_of, times_of}
use Rattle.result_cache.specs.Seats.{Seated, Made, HasFilled, HasWaited, seen_of, shard_at}
use Rattle.result_cache.specs.Shared.{StartsWith}
use Rattle.result_cache.specs.Tickets.{HoldsNoTicket, HoldsOnly}
use Rattle.result_cache.proofs.Keys.{bytes_same}
use Rattle.result_cache.proofs.Spending.{none_after_hit, none_after_busy, one_after_yours}
use Rattle.work_crew.proofs.Counting.{same_or}
use Rattle.build_crew.specs.Calls.{hits, ClaimsOnly, MadeMore, SpendsNone, IsAsking, HasAsked, HasFound, HasFailed}

pub times_append : (counts : Act → ℕ) (key : List ℕ) (xs ys : List Call) → times_of counts key (xs ++ ys) ≡ times_of counts key xs + times_of counts key ys
times_append counts key [] ys = omega arith
times_append counts key (c ∷ xs) ys = let e = times_append counts key xs ys in omega (arith, e)

pub count_append : (counts : Act → ℕ) (xs ys : List Call) → count_of counts (xs ++ ys) ≡ count_of counts xs + count_of counts ys
count_append counts [] ys = omega arith
count_append counts (c ∷ xs) ys = let e = count_append counts xs ys in omega (arith, e)

-- a call on a key counts for this key
pub times_here : (counts : Act → ℕ) (key : List ℕ) (xs : List Call) (seat : ℕ) (act : Act) → times_of counts key (xs ++ call seat key act ∷ []) ≡ times_of counts key xs + counts act
times_here counts key xs seat act =
    times_append counts key xs (call seat key act ∷ [])
    ∙ ap (λ (b : Bool). times_of counts key xs + (cond b (counts act) 0 + 0)) (bytes_same key key refl)
    ∙ (let e : times_of counts key xs + (counts act + 0) ≡ times_of counts key xs + counts act = omega arith in e)

-- one that does not count, counts for no key
pub times_none : (counts : Act → ℕ) (q key : List ℕ) (xs : List Call) (seat : ℕ) (act : Act) → counts act ≡ 0 → times_of counts q (xs ++ call seat key act ∷ []) ≡ times_of counts q xs
times_none counts q key xs seat act none =
    times_append counts q xs (call seat key act ∷ [])
    ∙ ap (λ (n : ℕ). times_of counts q xs + (n + 0)) (by (bytes_eq key q))
    ∙ (let e : times_of counts q xs + (0 + 0) ≡ times_of counts q xs = omega arith in e)
  where
    by : (b : Bool) → cond b (counts act) 0 ≡ 0
    by true = none
    by false = refl

-- one on another key does not count for a key
pub times_other : (counts : Act → ℕ) (q key : List ℕ) (xs : List Call) (seat : ℕ) (act : Act) → bytes_eq key q ≡ false → times_of counts q (xs ++ call seat key act ∷ []) ≡ times_of counts q xs
times_other counts q key xs seat act other =
    times_append counts q xs (call seat key act ∷ [])
    ∙ ap (λ (b : Bool). times_of counts q xs + (cond b (counts act) 0 + 0)) other
    ∙ (let e : times_of counts q xs + (0 + 0) ≡ times_of counts q xs = omega arith in e)

pub count_one : (counts : Act → ℕ) (xs : List Call) (seat : ℕ) (key : List ℕ) (act : Act) → count_of counts (xs ++ call seat key act ∷ []) ≡ count_of counts xs + counts act
count_one counts xs seat key act =
    count_append counts xs (call seat key act ∷ [])
    ∙ (let e : count_of counts xs + (counts act + 0) ≡ count_of counts xs + counts act = omega arith in e)

pub starts_itself : (log : List Call) → StartsWith log log
starts_itself log = ([], sym (append-nil log))

pub starts_then : (a b c : List Call) → StartsWith b a → StartsWith c b → StartsWith c a
starts_then a b c (xs, is) (ys, on) = (xs ++ ys, on ∙ ap (λ (l : List Call). l ++ ys) is ∙ append_assoc a xs ys)

-- what a seat has seen of each shard, where it saw more of one
pub grown : (old new : Seated) (at : ℕ) → StartsWith (seen_of new at) (seen_of old at) → ((j : ℕ) → j ≢ at → seen_of new j ≡ seen_of old j) → (i : ℕ) → StartsWith (seen_of new i) (seen_of old i)
grown old new at here others i = by (same_or i at)
  where
    by : (i ≡ at) ⊎ (i ≢ at) → StartsWith (seen_of new i) (seen_of old i)
    by (inl e) = subst (λ j. StartsWith (seen_of new j) (seen_of old j)) (sym e) here
    by (inr ne) = subst (λ l. StartsWith l (seen_of old i)) (sym (others i ne)) (starts_itself (seen_of old i))

pub made_grows : (old new : Seated) (key : List ℕ) (act : Act) → Made old new key act → (i : ℕ) → StartsWith (seen_of new i) (seen_of old i)
made_grows old new key act m =
    let c = call old.number key act in
    grown old new (shard_at old key) (m.between ++ c ∷ [], m.grows ∙ append_assoc (seen_of old (shard_at old key)) m.between (c ∷ [])) m.others

-- a seat that made calls makes one more
pub made_one : (old mid new : Seated) (more : List Call) (key : List ℕ) (act : Act) → MadeMore old mid more → Made mid new key act → MadeMore old new (more ++ call mid.number key act ∷ [])
made_one old mid new more key act h m = record {
  cache = m.cache ∙ h.cache;
  number = m.number ∙ h.number;
  callers = m.callers ∙ h.callers;
  shards = m.shards ∙ h.shards;
  calls = m.calls ∙ ap (λ (l : List Call). l ++ call mid.number key act ∷ []) h.calls ∙ append_assoc old.calls more (call mid.number key act ∷ []);
  grows = λ i. starts_then (seen_of old i) (seen_of mid i) (seen_of new i) (h.grows i) (made_grows mid new key act m i);
}

pub made_none : (s : Seated) → MadeMore s s []
made_none s = record { cache = refl; number = refl; callers = refl; shards = refl; calls = sym (append-nil s.calls); grows = λ i. starts_itself (seen_of s i) }

-- a seat that made calls makes others
pub made_both : (old mid new : Seated) (more others : List Call) → MadeMore old mid more → MadeMore mid new others → MadeMore old new (more ++ others)
made_both old mid new more others f g = record {
  cache = g.cache ∙ f.cache;
  number = g.number ∙ f.number;
  callers = g.callers ∙ f.callers;
  shards = g.shards ∙ f.shards;
  calls = g.calls ∙ ap (λ (l : List Call). l ++ others) f.calls ∙ append_assoc old.calls more others;
  grows = λ i. starts_then (seen_of old i) (seen_of mid i) (seen_of new i) (f.grows i) (g.grows i);
}

spends_one : (more : List Call) (seat : ℕ) (key : List ℕ) (act : Act) → fills act ≡ 0 → drops act ≡ 0 → give_backs act ≡ 0 → SpendsNone more → SpendsNone (more ++ call seat key act ∷ [])
spends_one more seat key act f d g h = record {
  filled = λ q. times_none fills q key more seat act f ∙ h.filled q;
  dropped = λ q. times_none drops q key more seat act d ∙ h.dropped q;
  gave = let a = count_one give_backs more seat key act in let b = h.gave in omega (arith, a, b, g);
}

only_one : (key : List ℕ) (more : List Call) (seat : ℕ) (act : Act) → ClaimsOnly key more → ClaimsOnly key (more ++ call seat key act ∷ [])
only_one key more seat act h = λ q other. times_other claims q key more seat act other ∙ h q other

pub asking_first : (key : List ℕ) (s : Seated) → HoldsNoTicket s.calls → IsAsking key s s
asking_first key s idle = record {
  more = [];
  made = made_none s;
  none = record { filled = λ q. refl; dropped = λ q. refl; gave = refl };
  only = λ q other. refl;
  idle = idle;
}

-- another seat holds the key
pub asking_busy : (old mid new : Seated) (key : List ℕ) (by : ℕ) → IsAsking key old mid → Made mid new key (Busy by) → IsAsking key old new
asking_busy old mid new key by h m = record {
  more = h.more ++ call mid.number key (Busy by) ∷ [];
  made = made_one old mid new h.more key (Busy by) h.made m;
  none = spends_one h.more mid.number key (Busy by) refl refl refl h.none;
  only = only_one key h.more mid.number (Busy by) h.only;
  idle = subst HoldsNoTicket (sym m.calls) (none_after_busy mid.calls mid.number by key h.idle);
}

pub asking_waited : (old mid new : Seated) (key : List ℕ) → IsAsking key old mid → HasWaited mid new key → IsAsking key old new
asking_waited old mid new key h w = record {
  more = h.more;
  made = record {
    cache = w.kept.cache ∙ h.made.cache;
    number = w.kept.number ∙ h.made.number;
    callers = w.kept.callers ∙ h.made.callers;
    shards = w.kept.shards ∙ h.made.shards;
    calls = w.kept.calls ∙ h.made.calls;
    grows = λ i. starts_then (seen_of old i) (seen_of mid i) (seen_of new i) (h.made.grows i) (grown mid new (shard_at mid key) w.grows w.others i);
  };
  none = h.none;
  only = h.only;
  idle = subst HoldsNoTicket (sym w.kept.calls) h.idle;
}

-- the key is filled
pub asking_hit : (old mid new : Seated) (key : List ℕ) (number : ℕ) → IsAsking key old mid → Made mid new key (Hit number) → HasFound key false old new 0
asking_hit old mid new key number h m = record {
  more = h.more ++ call mid.number key (Hit number) ∷ [];
  made = made_one old mid new h.more key (Hit number) h.made m;
  claimed = let a = times_here claims key h.more mid.number (Hit number) in omega (arith, a);
  only = only_one key h.more mid.number (Hit number) h.only;
  filled = λ q. times_none fills q key h.more mid.number (Hit number) refl ∙ h.none.filled q;
  dropped = λ q. times_none drops q key h.more mid.number (Hit number) refl ∙ h.none.dropped q;
  hit = λ e. let a = times_here hits key h.more mid.number (Hit number) in omega (arith, a);
  gave = let a = count_one give_backs h.more mid.number key (Hit number) in let b = h.none.gave in omega (arith, a, b);
  ticks = omega arith;
}

pub hit_idle : (old mid new : Seated) (key : List ℕ) (number : ℕ) → IsAsking key old mid → Made mid new key (Hit number) → HoldsNoTicket new.calls
hit_idle old mid new key number h m = subst HoldsNoTicket (sym m.calls) (none_after_hit mid.calls mid.number number key h.idle)

-- the key was free
pub asking_yours : (old mid new : Seated) (key : List ℕ) (ticket : Ticket) → IsAsking key old mid → ticket.seat ≡ mid.number → ticket.key ≡ key → Made mid new key Yours → HasAsked key old new ticket
asking_yours old mid new key ticket h own is m = record {
  more = h.more ++ call mid.number key Yours ∷ [];
  made = made_one old mid new h.more key Yours h.made m;
  none = spends_one h.more mid.number key Yours refl refl refl h.none;
  claimed = let a = times_here claims key h.more mid.number Yours in omega (arith, a);
  only = only_one key h.more mid.number Yours h.only;
  own = own ∙ sym m.number;
  key_is = is;
  one = subst (HoldsOnly key) (sym m.calls) (one_after_yours mid.calls mid.number key h.idle);
}

-- the ticket is spent: the key is filled
pub asked_filled : (old mid new : Seated) (key : List ℕ) (ticket : Ticket) (ticks : ℕ) → HasAsked key old mid ticket → HasFilled mid new key → ticks ≡ 1 → HasFound key true old new ticks
asked_filled old mid new key ticket ticks h (number, m) one = record {
  more = h.more ++ call mid.number key (Fill number) ∷ [];
  made = made_one old mid new h.more key (Fill number) h.made m;
  claimed = let a = times_here claims key h.more mid.number (Fill number) in let b = h.claimed in omega (arith, a, b);
  only = only_one key h.more mid.number (Fill number) h.only;
  filled = λ q.
      let a = times_append fills q h.more (call mid.number key (Fill number) ∷ []) in
      let b = h.none.filled q in
      omega (arith, a, b);
  dropped = λ q. times_none drops q key h.more mid.number (Fill number) refl ∙ h.none.dropped q;
  hit = λ e. absurd (true≢false e);
  gave = let a = count_one give_backs h.more mid.number key (Fill number) in let b = h.none.gave in omega (arith, a, b);
  ticks = one;
}

-- or given back
pub asked_given : (old mid new : Seated) (key : List ℕ) (ticket : Ticket) (ticks : ℕ) → HasAsked key old mid ticket → Made mid new key GiveBack → ticks ≤ 1 → HasFailed old new ticks
asked_given old mid new key ticket ticks h m few = record {
  more = h.more ++ call mid.number key GiveBack ∷ [];
  made = made_one old mid new h.more key GiveBack h.made m;
  filled = λ q. times_none fills q key h.more mid.number GiveBack refl ∙ h.none.filled q;
  dropped = λ q. times_none drops q key h.more mid.number GiveBack refl ∙ h.none.dropped q;
  ticks = let a = count_one give_backs h.more mid.number key GiveBack in omega (arith, a, few);
}

-- there was no memory to ask
pub asking_failed : (key : List ℕ) (old new : Seated) → IsAsking key old new → HasFailed old new 0
asking_failed key old new h = record { more = h.more; made = h.made; filled = h.none.filled; dropped = h.none.dropped; ticks = omega arith }

pub failed_none : (s : Seated) → HasFailed s s 0
failed_none s = record { more = []; made = made_none s; filled = λ key. refl; dropped = λ key. refl; ticks = omega arith }
