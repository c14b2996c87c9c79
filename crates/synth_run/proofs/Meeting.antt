-- How many builds the seats of several desks made, once they have met.
use Rattle.std.proofs.Common.{◌≡◌, ℕ, zero, suc, ◌+◌, ◌≤◌, ◌<◌, List, [], ◌∷◌, ◌++◌, Bool, true, false, cond, Some, length, refl, sym, ap, subst, ◌∙◌, arith}
use Rattle.std.specs.Prelude.{All}
use Rattle.std.specs.List.{slice_get}
use Rattle.std.specs.Str.{bytes_eq}
use Rattle.atomic_table.specs.Seated.{TableId}
use Rattle.rtl_sig.specs.Names.{has_name}
use Rattle.result_cache.specs.declared.call.Act.{Act}
use Rattle.result_cache.specs.declared.call.Act.TheVariants.{Hit, Busy, Yours, Fill, GiveBack, Forget}
use Rattle.result_cache.specs.declared.call.Call.{Call}
use Rattle.result_cache.specs.Counts.{count_of, drops, fills, times_of}
use Rattle.result_cache.specs.Filled.{new_count}
use Rattle.result_cache.specs.Meet.{HasMet}
use Rattle.result_cache.specs.Seats.{IsIdle, Seated, new_seats, seen_of}
use Rattle.result_cache.specs.Shared.{StartsWith}
use Rattle.result_cache.proofs.Keys.{bytes_same}
use Rattle.work_crew.specs.Outcome.{AllWent, Went}
use Rattle.build_crew.specs.Kept.{kept_by, times_by}
use Rattle.build_crew.specs.Rises.{RisesUpTo}
use Rattle.build_crew.proofs.Asking.{starts_itself, starts_then, times_append}
use Rattle.build_crew.proofs.Counts.{Tallies, met_seats}
use Rattle.build_crew.proofs.Ending.{met_times}
use Rattle.build_crew.proofs.Going.{AllGrew, Find, all_built, built_of}
use Rattle.build_crew.proofs.Keeping.{AllAmong, built_few}
use Rattle.build_crew.proofs.Seats.{AllSame, SameSeat, seats_met, seats_same}
use Rattle.many_desks.specs.Serving.{Does, DoesDesk, HaveServed}
use Rattle.desk_read.specs.declared.command.Command.{Command}
use Rattle.reply_lines.specs.declared.reply.Reply.{Reply}
use Rattle.desk_core.specs.Ages.{texts_of}
use Rattle.desk_core.specs.Builds.{asked_by}
use Rattle.desk_core.specs.Solo.{HasBuilt}
use Rattle.desk_core.specs.State.{State}
use Rattle.desk_core.specs.Step.{IsStep}
use Rattle.desk_core.proofs.Starting.{new_are_seated, none_kept}
use Rattle.synth_run.proofs.Answering.{AllAsked, AreAsked, has_left, has_right, same_asked}

-- ---- what a seat filled

-- a call that fills a key finds it
abbrev found_by : List ℕ → Act → List Find
found_by key (Fill number) = (key, true) ∷ []
found_by key other = []

-- what calls filled
abbrev finds_of : List Call → List Find
finds_of [] = []
finds_of (c ∷ calls) = found_by c.key c.act ++ finds_of calls

built_append : (q : List ℕ) (xs ys : List Find) → built_of q (xs ++ ys) ≡ built_of q xs + built_of q ys
built_append q [] ys = omega arith
built_append q (x ∷ xs) ys = let e = built_append q xs ys in omega (arith, e)

all_built_append : (xs ys : List Find) → all_built (xs ++ ys) ≡ all_built xs + all_built ys
all_built_append [] ys = omega arith
all_built_append (x ∷ xs) ys = let e = all_built_append xs ys in omega (arith, e)

among_append : (keys : List (List ℕ)) (xs ys : List Find) → AllAmong keys xs → AllAmong keys ys → AllAmong keys (xs ++ ys)
among_append keys [] ys h g = g
among_append keys (x ∷ xs) ys h g = (h.0, among_append keys xs ys h.1 g)

none_counts : (b : Bool) → ◌≡◌ {A = ℕ} 0 (cond b 0 0)
none_counts true = refl
none_counts false = refl

built_one : (q key : List ℕ) (act : Act) → built_of q (found_by key act) ≡ cond (bytes_eq key q) (fills act) 0
built_one q key (Fill number) = omega arith
built_one q key (Hit number) = none_counts (bytes_eq key q)
built_one q key (Busy by) = none_counts (bytes_eq key q)
built_one q key Yours = none_counts (bytes_eq key q)
built_one q key GiveBack = none_counts (bytes_eq key q)
built_one q key (Forget number) = none_counts (bytes_eq key q)

all_built_one : (key : List ℕ) (act : Act) → all_built (found_by key act) ≡ fills act
all_built_one key (Fill number) = refl
all_built_one key (Hit number) = refl
all_built_one key (Busy by) = refl
all_built_one key Yours = refl
all_built_one key GiveBack = refl
all_built_one key (Forget number) = refl

built_is : (q : List ℕ) (calls : List Call) → built_of q (finds_of calls) ≡ times_of fills q calls
built_is q [] = refl
built_is q (c ∷ calls) =
    let a = built_append q (found_by c.key c.act) (finds_of calls) in
    let b = built_one q c.key c.act in
    let d = built_is q calls in
    omega (arith, a, b, d)

all_built_is : (calls : List Call) → all_built (finds_of calls) ≡ count_of fills calls
all_built_is [] = refl
all_built_is (c ∷ calls) =
    let a = all_built_append (found_by c.key c.act) (finds_of calls) in
    let b = all_built_one c.key c.act in
    let d = all_built_is calls in
    omega (arith, a, b, d)

-- each key that was filled is one of these
among_is : (keys : List (List ℕ)) (calls : List Call) → ((q : List ℕ) → 1 ≤ times_of fills q calls → has_name keys q ≡ true) → AllAmong keys (finds_of calls)
among_is keys [] h = tt
among_is keys (c ∷ calls) h = among_append keys (found_by c.key c.act) (finds_of calls) (one c.act refl) (among_is keys calls (λ q some. h q (omega (arith, some))))
  where
    one : (act : Act) → c.act ≡ act → AllAmong keys (found_by c.key act)
    one (Fill number) is =
        let a : cond (bytes_eq c.key c.key) (fills c.act) 0 ≡ 1 = ap (λ (b : Bool). cond b (fills c.act) 0) (bytes_same c.key c.key refl) ∙ ap fills is in
        (h c.key (omega (arith, a)), tt)
    one (Hit number) is = tt
    one (Busy by) is = tt
    one Yours is = tt
    one GiveBack is = tt
    one (Forget number) is = tt

-- a seat made so many builds, each of one of these keys, and gave no value up
record Spends (keys : List (List ℕ)) (xs : List Find) (old new : Seated) (n : ℕ) : Type 0 where
  same : SameSeat old new
  grows : (i : ℕ) → StartsWith (seen_of new i) (seen_of old i)
  filled : (q : List ℕ) → times_of fills q new.calls ≡ times_of fills q old.calls + built_of q xs
  dropped : (q : List ℕ) → times_of drops q new.calls ≡ times_of drops q old.calls
  among : AllAmong keys xs
  ticks : n ≡ all_built xs

spends_none : (keys : List (List ℕ)) (s : Seated) → Spends keys [] s s 0
spends_none keys s = record {
  same = record { number = refl; callers = refl; shards = refl };
  grows = λ i. starts_itself (seen_of s i);
  filled = λ q. omega arith;
  dropped = λ q. refl;
  among = tt;
  ticks = refl;
}

spends_both : (keys : List (List ℕ)) (xs ys : List Find) (s t u : Seated) (m n : ℕ) → Spends keys xs s t m → Spends keys ys t u n → Spends keys (xs ++ ys) s u (m + n)
spends_both keys xs ys s t u m n f g = record {
  same = record { number = g.same.number ∙ f.same.number; callers = g.same.callers ∙ f.same.callers; shards = g.same.shards ∙ f.same.shards };
  grows = λ i. starts_then (seen_of s i) (seen_of t i) (seen_of u i) (f.grows i) (g.grows i);
  filled = λ q. let a = f.filled q in let b = g.filled q in let c = built_append q xs ys in omega (arith, a, b, c);
  dropped = λ q. g.dropped q ∙ f.dropped q;
  among = among_append keys xs ys f.among g.among;
  ticks = let a = f.ticks in let b = g.ticks in let c = all_built_append xs ys in omega (arith, a, b, c);
}

spends_built : (kept asked keys : List (List ℕ)) (s t : Seated) (n : ℕ) → HasBuilt kept asked s t n → ((q : List ℕ) → has_name asked q ≡ true → has_name keys q ≡ true)
    → (xs : List Find) × Spends keys xs s t n
spends_built kept asked keys s t n h within = (
  finds_of h.more,
  record {
    same = record { number = h.made.number; callers = h.made.callers; shards = h.made.shards };
    grows = h.made.grows;
    filled = λ q. ap (times_of fills q) h.made.calls ∙ times_append fills q s.calls h.more ∙ ap (λ (k : ℕ). times_of fills q s.calls + k) (sym (built_is q h.more));
    dropped = λ q.
        let a = ap (times_of drops q) h.made.calls ∙ times_append drops q s.calls h.more in
        let b = h.dropped q in
        omega (arith, a, b);
    among = among_is keys h.more (λ q some. within q (h.filled q some));
    ticks = h.ticks ∙ sym (all_built_is h.more);
  },
)

-- what a command makes of the seat of its desk
abbrev pub Builds : Command → State → Seated → Seated → ℕ → Type 0
Builds command before old new n = HasBuilt (texts_of before.kept) (asked_by command before) old new n

-- the commands of a desk
spends_desk : (keys : List (List ℕ)) (s : State) (cs : List Command) (rs : List Reply) (old new : Seated) (n : ℕ) → Does IsStep Builds s cs rs old new n
    → (asked : List (List ℕ)) × AreAsked s cs rs asked × (((q : List ℕ) → has_name asked q ≡ true → has_name keys q ≡ true) → (xs : List Find) × Spends keys xs old new n)
spends_desk keys s [] [] old new n (same, none) =
    ([], refl, λ within. ([], subst (λ (m : ℕ). Spends keys [] old new m) (sym none) (subst (λ (t : Seated). Spends keys [] old t 0) same (spends_none keys old))))
spends_desk keys s (c ∷ cs) (r ∷ rs) old new n (t, seat, a, b, step, built, rest, sum) =
    let more = spends_desk keys t cs rs seat new b rest in (
      asked_by c s ++ more.0,
      (t, more.0, step, more.1, refl),
      λ within.
          let one = spends_built (texts_of s.kept) (asked_by c s) keys old seat a built (λ q is. within q (has_left (asked_by c s) more.0 q is)) in
          let others = more.2 (λ q is. within q (has_right (asked_by c s) more.0 q is)) in
          (one.0 ++ others.0, subst (Spends keys (one.0 ++ others.0) old new) (sym sum) (spends_both keys one.0 others.0 old seat new a b one.1 others.1)),
    )
spends_desk keys s [] (r ∷ rs) old new n h = absurd h
spends_desk keys s (c ∷ cs) [] old new n h = absurd h

-- ---- all seats

-- all seats made so many builds, each of one of these keys, and gave no value up
record AllSpend (keys : List (List ℕ)) (xs : List Find) (olds news : List Seated) (n : ℕ) : Type 0 where
  same : AllSame olds news
  grows : AllGrew olds news
  filled : (q : List ℕ) → times_by fills q news ≡ times_by fills q olds + built_of q xs
  dropped : (q : List ℕ) → times_by drops q news ≡ times_by drops q olds
  among : AllAmong keys xs
  ticks : n ≡ all_built xs

all_spend_none : (keys : List (List ℕ)) → AllSpend keys [] [] [] 0
all_spend_none keys = record { same = tt; grows = tt; filled = λ q. refl; dropped = λ q. refl; among = tt; ticks = refl }

all_spend_more : (keys : List (List ℕ)) (xs ys : List Find) (s t : Seated) (olds news : List Seated) (m n : ℕ) → Spends keys xs s t m → AllSpend keys ys olds news n
    → AllSpend keys (xs ++ ys) (s ∷ olds) (t ∷ news) (m + n)
all_spend_more keys xs ys s t olds news m n f g = record {
  same = (f.same, g.same);
  grows = (f.grows, g.grows);
  filled = λ q. let a = f.filled q in let b = g.filled q in let c = built_append q xs ys in omega (arith, a, b, c);
  dropped = λ q. let a = f.dropped q in let b = g.dropped q in omega (arith, a, b);
  among = among_append keys xs ys f.among g.among;
  ticks = let a = f.ticks in let b = g.ticks in let c = all_built_append xs ys in omega (arith, a, b, c);
}

-- the keys of a list of commands and its answers
asked_place : (s : State) (lists : List (List Command)) (answers : List (List Reply)) (keys : List (List (List ℕ))) (k : ℕ) (cs : List Command) (rs : List Reply)
    → AllAsked s lists answers keys → slice_get lists k ≡ Some cs → slice_get answers k ≡ Some rs → (ks : List (List ℕ)) × AreAsked s cs rs ks × (slice_get keys k ≡ Some ks)
asked_place s (l ∷ lists) (a ∷ answers) (ks ∷ keys) zero cs rs h at is =
    let same : l ≡ cs = cc in
    let also : a ≡ rs = cc in
    (ks, subst (λ (x : List Command). AreAsked s x rs ks) same (subst (λ (x : List Reply). AreAsked s l x ks) also h.0), refl)
asked_place s (l ∷ lists) (a ∷ answers) (ks ∷ keys) (suc k) cs rs h at is = asked_place s lists answers keys k cs rs h.1 at is
asked_place s [] [] [] k cs rs h at is = absurd cc
asked_place s [] [] (ks ∷ keys) k cs rs h at is = absurd h
asked_place s [] (a ∷ answers) keys k cs rs h at is = absurd h
asked_place s (l ∷ lists) [] keys k cs rs h at is = absurd h
asked_place s (l ∷ lists) (a ∷ answers) [] k cs rs h at is = absurd h

module _ (keys : List (List ℕ)) (s : State) (lists : List (List Command)) (answers : List (List Reply)) (asked : List (List (List ℕ))) (all : AllAsked s lists answers asked)
    (within : (k : ℕ) (ks : List (List ℕ)) (q : List ℕ) → slice_get asked k ≡ Some ks → has_name ks q ≡ true → has_name keys q ≡ true) where
  -- one list of commands, done by a seat
  spends_job : (k : ℕ) (o : List Reply) (old new : Seated) (n : ℕ) → slice_get answers k ≡ Some o → DoesDesk IsStep Builds s lists k o old new n
      → (xs : List Find) × Spends keys xs old new n
  spends_job k o old new n is (commands, at, does) =
      let here = spends_desk keys s commands o old new n does in
      let place = asked_place s lists answers asked k commands o all at is in
      let same : here.0 ≡ place.0 = same_asked s commands o here.0 place.0 here.1 place.1 in
      here.2 (λ q has. within k place.0 q place.2 (ap (λ (l : List (List ℕ)). has_name l q) (sym same) ∙ has))

  spends_went : (ks : List ℕ) (old new : Seated) (n : ℕ) → Went (DoesDesk IsStep Builds s lists) answers ks old new n → (xs : List Find) × Spends keys xs old new n
  spends_went [] old new n (same, none) =
      ([], subst (λ (m : ℕ). Spends keys [] old new m) (sym none) (subst (λ (t : Seated). Spends keys [] old t 0) same (spends_none keys old)))
  spends_went (k ∷ ks) old new n (o, mid, a, b, is, does, more, sum) =
      let one = spends_job k o old mid a is does in
      let others = spends_went ks mid new b more in
      (one.0 ++ others.0, subst (Spends keys (one.0 ++ others.0) old new) (sym sum) (spends_both keys one.0 others.0 old mid new a b one.1 others.1))

  all_spend : (taken : List (List ℕ)) (olds news : List Seated) (n : ℕ) → AllWent (DoesDesk IsStep Builds s lists) answers taken olds news n
      → (xs : List Find) × AllSpend keys xs olds news n
  all_spend [] [] [] n none = ([], subst (AllSpend keys [] [] []) (sym none) (all_spend_none keys))
  all_spend (l ∷ ls) (t ∷ olds) (u ∷ news) n (a, b, went, more, sum) =
      let one = spends_went l t u a went in
      let others = all_spend ls olds news b more in
      (one.0 ++ others.0, subst (AllSpend keys (one.0 ++ others.0) (t ∷ olds) (u ∷ news)) (sym sum) (all_spend_more keys one.0 others.0 t u olds news a b one.1 others.1))
  all_spend [] [] (u ∷ news) n h = absurd h
  all_spend [] (t ∷ olds) news n h = absurd h
  all_spend (l ∷ ls) [] news n h = absurd h
  all_spend (l ∷ ls) (t ∷ olds) [] n h = absurd h

  -- ---- seats of a new cache that served the lists, and met
  pub desks_build : (cache : TableId) (shards : ℕ) (taken : List (List ℕ)) (olds mids news : List Seated) (old now : ℕ) → 0 < shards → 1 ≤ length lists → length lists ≤ 64
      → olds ≡ new_seats cache (length lists) shards
      → HaveServed IsStep Builds s lists answers taken olds mids old now → All (IsIdle cache) mids → ((i : ℕ) → i < shards → (log : List Call) × HasMet i log mids news)
      → RisesUpTo (new_count [] keys) old now
  desks_build cache shards taken olds mids news old now some any few are served idle met =
      let seated = new_are_seated cache (length lists) shards olds any few are in
      let spent = all_spend taken olds mids served.ticks served.went in
      let xs = spent.0 in
      let one = met 0 some in
      let callers = length olds in
      let all_news = seats_met cache callers shards 0 0 one.0 mids news (seats_same cache callers shards 0 olds mids seated.all spent.1.same idle) one.1 in
      let tallied : (q : List ℕ) → Tallies q olds news = λ q. met_seats cache callers shards olds mids news some seated.some seated.all seated.shared spent.1.grows all_news met q in
      let few_built : all_built xs ≤ new_count (kept_by olds) keys =
      built_few keys xs olds news (λ q. met_times fills q 0 one.0 mids news one.1 ∙ spent.1.filled q) (λ q. met_times drops q 0 one.0 mids news one.1 ∙ spent.1.dropped q) tallied spent.1.among in
      let none = ap (λ (kept : List (List ℕ)). new_count kept keys) (none_kept cache (length lists) shards olds are) in
      record {
        steps = served.ticks;
        few = let ticks = spent.1.ticks in omega (arith, few_built, none, ticks);
        risen = served.meter;
      }
