-- What a call under a lock means for the seat that makes it.
use Rattle.std.proofs.Common.{◌≡◌, ◌≢◌, ℕ, ◌+◌, ◌<◌, List, [], ◌∷◌, ◌++◌, length, set, get_or, drop, Bool, true, false, cond, true≢false, eqb, refl, sym, ap, ◌∙◌, subst, ⊎_elim, arith}
use Rattle.std.specs.Str.{bytes_eq}
use Rattle.std.proofs.lemmas.Bool.Decides.{eqb_tells}
use Rattle.std.proofs.Math.Seq.{drop-append_seam}
use Rattle.atomic_table.specs.Seated.{TableId}
use Rattle.atomic_table.specs.Table.{Me}
use Rattle.result_cache.specs.declared.call.Act.{Act}
use Rattle.result_cache.specs.declared.call.Act.TheVariants.{Hit, Busy, Yours, Forget}
use Rattle.result_cache.specs.declared.call.Call.{Call}
use Rattle.result_cache.specs.declared.shard.Claim as claim
use Rattle.result_cache.specs.declared.shard.Claim.TheVariants as reply
use Rattle.result_cache.specs.declared.shard.Forget as forget
use Rattle.result_cache.specs.declared.shard.Forget.TheVariants as answered
use Rattle.result_cache.specs.declared.view.Known.{Known}
use Rattle.result_cache.specs.declared.view.View.{View}
use Rattle.result_cache.specs.History.{Mode, free, held, filled, all_free, IsAllowed, state_after, IsLegal, call}
use Rattle.result_cache.specs.Tickets.{calls_by, ticket_after, ticket_from, has_ticket}
use Rattle.result_cache.specs.Stored.{Contents, mode_at, AddsCall}
use Rattle.result_cache.specs.Claims.{Claimed, Forgot, IfHit}
use Rattle.result_cache.specs.Shared.{StartsWith, AreBelow, shard_of, on_shard, AreOf, seen_at, view_of, holding, seat_of, alone, Agrees, Entered, TakenIf, seat_after, released, MayGive, MayGiveUp, Swaps}
use Rattle.result_cache.specs.Counts.{claims, fills, give_backs, drops, count_of}
use Rattle.result_cache.specs.Seats.{Seated, seat_at, first_view, capped, IsSeat, Made, HasClaimed, HasForgot, HasLooked}
use Rattle.result_cache.proofs.Keys.{bytes_true}
use Rattle.result_cache.proofs.Sounds.{legal_snoc}
use Rattle.result_cache.proofs.Holders.{own_ticket}
use Rattle.result_cache.proofs.Histories.{append_none, by-append, on-append, by_all, on_all, below-append, list_here, list_else}

-- calls on other shards say nothing of the tickets of a key
on_own : (m : ℕ) (key : List ℕ) (b : Bool) (cs : List Call) → ticket_from b key (on_shard m (shard_of m key) cs) ≡ ticket_from b key cs
on_own m key b [] = refl
on_own m key b (c ∷ cs) =
    let b' = cond (bytes_eq c.key key) (ticket_after c.act b) b in
    let P : Bool → Type 0 = λ t. ticket_from b key (cond t (c ∷ on_shard m (shard_of m key) cs) (on_shard m (shard_of m key) cs)) ≡ ticket_from b' key cs in
    ⊎_elim
    (λ (t : (eqb (shard_of m c.key) (shard_of m key) ≡ true) × (shard_of m c.key ≡ shard_of m key)). subst P (sym t.0) (on_own m key b' cs))
    (λ (t : (eqb (shard_of m c.key) (shard_of m key) ≡ false) × (shard_of m c.key ≢ shard_of m key)).
    subst P (sym t.0) (on_own m key b cs ∙ ap (λ z. ticket_from z key cs) (sym (stays t.1))))
    (eqb_tells (shard_of m c.key) (shard_of m key))
  where
    stays : shard_of m c.key ≢ shard_of m key → cond (bytes_eq c.key key) (ticket_after c.act b) b ≡ b
    stays ne =
        let P : Bool → Type 0 = λ t. bytes_eq c.key key ≡ t → cond t (ticket_after c.act b) b ≡ b in
        elim (bytes_eq c.key key) as P [ true ↦ λ is. absurd (ne (ap (shard_of m) (bytes_true c.key key is))) | false ↦ λ is. refl ] refl

ticket_is : (k : Known) (key : List ℕ) (at : ℕ) (log : List Call) → at ≡ shard_of k.shards key → Agrees log at k → has_ticket (calls_by k.number log) key ≡ has_ticket k.calls key
ticket_is k key at log is h = ap (λ cs. has_ticket cs key) (h.own ∙ ap (λ i. on_shard k.shards i k.calls) is) ∙ on_own k.shards key false k.calls

-- the seat holds no key that it has no ticket of
pub not_mine : (k : Known) (key : List ℕ) (at : ℕ) (log : List Call) → at ≡ shard_of k.shards key → Agrees log at k → has_ticket k.calls key ≡ false → state_after log key ≡ held k.number → ⊥
not_mine k key at log is h none e = true≢false (sym ((own_ticket log k.number key h.legal).0 e) ∙ ticket_is k key at log is h ∙ none)

-- the seat holds the keys that it has tickets of
pub mine : (k : Known) (key : List ℕ) (at : ℕ) (log : List Call) → at ≡ shard_of k.shards key → Agrees log at k → has_ticket k.calls key ≡ true → state_after log key ≡ held k.number
mine k key at log is h one = (own_ticket log k.number key h.legal).1 (ticket_is k key at log is h ∙ one)

legal_more : (log : List Call) (n : ℕ) (key : List ℕ) (act : Act) → IsLegal log → IsAllowed (length log) n act (state_after log key) → IsLegal (log ++ call n key act ∷ [])
legal_more log n key act legal a =
    let e : 0 + length log ≡ length log = omega arith in
    legal_snoc 0 all_free log (call n key act) legal (subst (λ m. IsAllowed m n act (state_after log key)) (sym e) a)

count-append : (f : Act → ℕ) (xs ys : List Call) → count_of f (xs ++ ys) ≡ count_of f xs + count_of f ys
count-append f [] ys = sym (omega arith)
count-append f (x ∷ xs) ys = omega (arith, count-append f xs ys)

-- the thread steps for this seat, and holds no lock
pub record Rests (V : Type 0) (k : Known) (me : Me (Contents V) View) : Type 0 where
  pub is : me ≡ (view_of (k ∷ []), [])

-- the thread took the lock of a shard, and changed the shard as P says
pub record Turned (V : Type 0) (k : Known) (at : ℕ) (P : Contents V → Contents V → Type 0) (me : Me (Contents V) View) : Type 0 where
  pub y : Contents V
  pub z : Contents V
  pub me_is : me ≡ (holding k at y.history, (at, z) ∷ [])
  pub agrees : Agrees y.history at k
  pub holds : P y z

-- and made one call on it
pub record OneCall (V : Type 0) (k : Known) (at : ℕ) (key : List ℕ) (act : Act) (me : Me (Contents V) View) : Type 0 where
  pub y : Contents V
  pub z : Contents V
  pub me_is : me ≡ (holding k at y.history, (at, z) ∷ [])
  pub agrees : Agrees y.history at k
  pub grown : z.history ≡ y.history ++ call k.number key act ∷ []
  pub allowed : IsAllowed (length y.history) k.number act (state_after y.history key)

module _ (V : Type 0) where
  pub rests : (views given : List View) (me : Me (Contents V) View) → views ≡ view_of (seat_of (first_view views) ∷ []) ∷ [] → given ≡ views → given ≡ me.0 ∷ [] → me.1 ≡ [] → Rests V (seat_of (first_view views)) me
  rests views given me one same is none = record { is = λ j. ((ap first_view (sym is ∙ same ∙ one)) j, none j) }

  pub resting : (k : Known) (me : Me (Contents V) View) → Rests V k me → me ≡ (view_of (seat_of me.0 ∷ []), [])
  resting k me r = r.is ∙ (λ j. (view_of (seat_of (sym r.is j).0 ∷ []), []))

  pub entered : (k : Known) (at : ℕ) (me me' : Me (Contents V) View) → Rests V k me → TakenIf V at true me me' → Entered V k at me'
  entered k at me me' r t = record {
    y = t.0;
    me_is = t.1 ∙ (λ j. (holding (seat_of (r.is j).0) at t.0.history, (at, t.0) ∷ []));
    agrees = subst (λ (m : Me (Contents V) View). Agrees t.0.history at (seat_of m.0)) r.is t.2;
  }

  value_in : Contents V → List (ℕ × Contents V) → Contents V
  value_in d [] = d
  value_in d (x ∷ xs) = x.1

  -- what a thread holds is one thing
  one_thing : (i : ℕ) (l : List (ℕ × Contents V)) (y z : Contents V) → l ≡ (i, y) ∷ [] → l ≡ (i, z) ∷ [] → y ≡ z
  unfolding value_in
  one_thing i l y z e f = ap (λ (r : List (ℕ × Contents V)). value_in y r) (sym e ∙ f)

  pub turned : (k : Known) (at : ℕ) (P : Contents V → Contents V → Type 0) (me me' : Me (Contents V) View) → Entered V k at me → Swaps V at me me' P → Turned V k at P me'
  turned k at P me me' e s =
      let same : e.y ≡ s.0 = one_thing at me.1 e.y s.0 (ap (λ (m : Me (Contents V) View). m.1) e.me_is) s.2 in
      record {
        y = s.0;
        z = s.1;
        me_is = s.3 ∙ (λ j. ((e.me_is j).0, (at, s.1) ∷ [])) ∙ (λ j. (holding k at (same j).history, (at, s.1) ∷ []));
        agrees = subst (λ (y : Contents V). Agrees y.history at k) same e.agrees;
        holds = s.4;
      }

  pub may_give : (k : Known) (at : ℕ) (key : List ℕ) (act : Act) (me : Me (Contents V) View) → OneCall V k at key act me → at ≡ shard_of k.shards key → k.number < k.callers → MayGive V at me
  may_give k at key act me o is below = record {
    k = k;
    log = o.y.history;
    y = o.z;
    more = call k.number key act ∷ [];
    me_is = o.me_is;
    grown = o.grown;
    own = (refl, sym is, tt);
    legal = subst IsLegal (sym o.grown) (legal_more o.y.history k.number key act o.agrees.legal o.allowed);
    below = below;
  }

  -- the seat after the call
  abbrev pub after_call : Known → ℕ → List ℕ → Act → Contents V → Known
  after_call k at key act z = seat_after k at (call k.number key act ∷ []) z.history

  pub left : (k : Known) (at : ℕ) (key : List ℕ) (act : Act) (me : Me (Contents V) View) → (o : OneCall V k at key act me) → released me ≡ view_of (after_call k at key act o.z ∷ [])
  left k at key act me o =
      let new : drop (length o.y.history) o.z.history ≡ call k.number key act ∷ [] = ap (λ r. drop (length o.y.history) r) o.grown ∙ drop-append_seam o.y.history (call k.number key act ∷ []) in
      ap (λ (m : Me (Contents V) View). released m) o.me_is ∙ (λ j. view_of (seat_after k at (new j) o.z.history ∷ []))

  pub seat_made : (cache cache' : TableId) (k : Known) (at : ℕ) (key : List ℕ) (act : Act) (z : Contents V) (n cl fi gi dr cl' fi' gi' dr' : ℕ) (old new : List View)
      → IsSeat cache n cl fi gi dr old → k ≡ seat_of (first_view old) → cache' ≡ cache → new ≡ view_of (after_call k at key act z ∷ []) ∷ []
      → cl' ≡ capped (cl + claims act) → fi' ≡ capped (fi + fills act) → gi' ≡ capped (gi + give_backs act) → dr' ≡ capped (dr + drops act) → IsSeat cache' n cl' fi' gi' dr' new
  seat_made cache cache' k at key act z n cl fi gi dr cl' fi' gi' dr' old new h is same new_is c_is f_is g_is d_is =
      subst (λ us. IsSeat cache' n cl' fi' gi' dr' us) (sym new_is) (record {
        view_is = refl;
        number_is = ap (λ (x : Known). x.number) is ∙ h.number_is;
        below = subst (λ (x : Known). n < x.callers) (sym is) h.below;
        shards_are = ap (λ (x : Known). x.shards) is ∙ h.shards_are ∙ ap (λ (i : TableId). i.slots) (sym same);
        claims_are = counted claims cl cl' c_is h.claims_are;
        fills_are = counted fills fi fi' f_is h.fills_are;
        give_backs_are = counted give_backs gi gi' g_is h.give_backs_are;
        drops_are = counted drops dr dr' d_is h.drops_are;
      })
    where
      counted : (f : Act → ℕ) (a a' : ℕ) → a' ≡ capped (a + f act) → a ≡ capped (count_of f (seat_of (first_view old)).calls) → a' ≡ capped (count_of f (after_call k at key act z).calls)
      counted f a a' new_a old_a =
          let more = count-append f k.calls (call k.number key act ∷ []) in
          let was = ap (λ (x : Known). count_of f x.calls) is in
          omega arith

  -- one call, as contracts see it
  pub made : (cache : TableId) (k : Known) (at : ℕ) (key : List ℕ) (act : Act) (me : Me (Contents V) View) → (o : OneCall V k at key act me) → at ≡ shard_of k.shards key → k.number < k.callers
      → Made (seat_at cache k) (seat_at cache (after_call k at key act o.z)) key act
  made cache k at key act me o is below =
      let z = o.z.history in
      let c = call k.number key act in
      let seen_in : at < length k.seen = let b = o.agrees.within in let w = o.agrees.wide in omega arith in
      let here : get_or (set k.seen at z) (shard_of k.shards key) [] ≡ z = subst (λ i. get_or (set k.seen at z) i [] ≡ z) is (list_here k.seen at z seen_in) in
      let all : AreOf k.shards at k.number (c ∷ []) = (refl, sym is, tt) in
      record {
        cache = refl;
        number = refl;
        callers = refl;
        shards = refl;
        calls = refl;
        between = o.agrees.begins.0;
        grows = here ∙ o.grown ∙ ap (λ r. r ++ c ∷ []) (o.agrees.begins.1 ∙ ap (λ i. seen_at k i ++ o.agrees.begins.0) is);
        legal = subst IsLegal (sym (here ∙ o.grown)) (legal_more o.y.history k.number key act o.agrees.legal o.allowed);
        numbers = subst (AreBelow k.callers) (sym (here ∙ o.grown)) (below-append k.callers o.y.history (c ∷ []) o.agrees.numbers (below, tt));
        own = ap (calls_by k.number) (here ∙ o.grown) ∙ by-append k.number o.y.history (c ∷ []) ∙ (λ i. o.agrees.own i ++ by_all k.shards at k.number (c ∷ []) all i)
            ∙ (λ i. on_shard k.shards at k.calls ++ sym (on_all k.shards at k.number (c ∷ []) all) i) ∙ sym (on-append k.shards at k.calls (c ∷ [])) ∙ ap (λ i. on_shard k.shards i (k.calls ++ c ∷ [])) is;
        others = λ j ne. list_else k.seen at j z (λ e. ne (e ∙ is));
      }

-- what a claim that was answered is: one call, and what its reply says
pub record Answered (V : Type 0) (stands_for : V → List ℕ → Type 0) (k : Known) (at : ℕ) (key : List ℕ) (reply : claim.Claim V) (me : Me (Contents V) View) : Type 0 where
  pub act : Act
  pub one : OneCall V k at key act me
  pub a_claim : claims act ≡ 1
  pub no_fill : fills act ≡ 0
  pub no_return : give_backs act ≡ 0
  pub no_drop : drops act ≡ 0
  pub means : (old new : Seated) → old.number ≡ k.number → Made old new key act → HasClaimed stands_for old new key reply

module _ (V : Type 0) (stands_for : V → List ℕ → Type 0) where
  one_call : (k : Known) (at : ℕ) (key : List ℕ) (act : Act) (me : Me (Contents V) View) (y z : Contents V) → me ≡ (holding k at y.history, (at, z) ∷ []) → Agrees y.history at k
      → AddsCall y z k.number key act → IsAllowed (length y.history) k.number act (state_after y.history key) → OneCall V k at key act me
  one_call k at key act me y z is h grown allowed = record { y = y; z = z; me_is = is; agrees = h; grown = grown; allowed = allowed }

  answer : (k : Known) (at : ℕ) (key : List ℕ) (c : claim.Claim V) (me : Me (Contents V) View) (y z : Contents V) → me ≡ (holding k at y.history, (at, z) ∷ []) → Agrees y.history at k → (mode_at y key ≡ held k.number → ⊥)
      → Claimed y z k.number key c → IfHit c (λ value. stands_for value key) → Answered V stands_for k at key c me
  answer k at key (reply.Hit v) me y z is h ne got st = record {
    act = Hit got.0;
    one = one_call k at key (Hit got.0) me y z is h got.3 got.1;
    a_claim = refl;
    no_fill = refl;
    no_return = refl;
    no_drop = refl;
    means = λ old new num m. (st, (got.0, m));
  }
  answer k at key (reply.Busy by) me y z is h ne got st = record {
    act = Busy by;
    one = one_call k at key (Busy by) me y z is h got.1 (got.0, λ e. ne (got.0 ∙ ap held e));
    a_claim = refl;
    no_fill = refl;
    no_return = refl;
    no_drop = refl;
    means = λ old new num m. ((λ e. ne (got.0 ∙ ap held (e ∙ num))), m);
  }
  answer k at key (reply.Yours ticket) me y z is h ne got st = record {
    act = Yours;
    one = one_call k at key Yours me y z is h got.3 got.0;
    a_claim = refl;
    no_fill = refl;
    no_return = refl;
    no_drop = refl;
    means = λ old new num m. (got.1 ∙ sym num, got.2, m);
  }

  -- a claim that was answered
  pub claimed : (k : Known) (at : ℕ) (key : List ℕ) (n : ℕ) (c : claim.Claim V) (P : Contents V → Contents V → Type 0) (me me' : Me (Contents V) View)
      → Entered V k at me → k.number ≡ n → at ≡ shard_of k.shards key → has_ticket k.calls key ≡ false → (s : Swaps V at me me' P) → Claimed s.0 s.1 n key c → IfHit c (λ value. stands_for value key) → Answered V stands_for k at key c me'
  unfolding turned
  claimed k at key n c P me me' e num is none s got st =
      let t = turned V k at P me me' e s in
      answer k at key c me' s.0 s.1 t.me_is t.agrees (not_mine k key at s.0.history is t.agrees none) (subst (λ m. Claimed s.0 s.1 m key c) (sym num) got) st

  -- a ticket that was spent
  pub spent : (k : Known) (at : ℕ) (key : List ℕ) (n : ℕ) (act : Act) (P : Contents V → Contents V → Type 0) (me me' : Me (Contents V) View)
      → Entered V k at me → k.number ≡ n → (s : Swaps V at me me' P) → AddsCall s.0 s.1 n key act → (state_after s.0.history key ≡ held k.number → IsAllowed (length s.0.history) k.number act (state_after s.0.history key))
      → at ≡ shard_of k.shards key → has_ticket k.calls key ≡ true → OneCall V k at key act me'
  unfolding turned
  spent k at key n act P me me' e num s grown allowed is one =
      let t = turned V k at P me me' e s in
      one_call k at key act me' s.0 s.1 t.me_is t.agrees (subst (λ m. AddsCall s.0 s.1 m key act) (sym num) grown) (allowed (mine k key at s.0.history is t.agrees one))

module _ (V : Type 0) where
  -- the shard that was entered is free of what the seat has no ticket of
  pub holds_other : (k : Known) (at : ℕ) (key : List ℕ) (n : ℕ) (me : Me (Contents V) View) → Entered V k at me → k.number ≡ n → at ≡ shard_of k.shards key → has_ticket k.calls key ≡ false
      → (y : Contents V) × (me.1 ≡ (at, y) ∷ []) × (mode_at y key ≢ held n)
  holds_other k at key n me e num is none = (e.y, ap (λ (m : Me (Contents V) View). m.1) e.me_is, λ h. not_mine k key at e.y.history is e.agrees none (h ∙ ap held (sym num)))

  -- and holds what it has a ticket of
  pub holds_own : (k : Known) (at : ℕ) (key : List ℕ) (n : ℕ) (me : Me (Contents V) View) → Entered V k at me → k.number ≡ n → at ≡ shard_of k.shards key → has_ticket k.calls key ≡ true
      → (y : Contents V) × (me.1 ≡ (at, y) ∷ []) × (mode_at y key ≡ held n)
  holds_own k at key n me e num is one = (e.y, ap (λ (m : Me (Contents V) View). m.1) e.me_is, mine k key at e.y.history is e.agrees one ∙ ap held num)

  pub holds_some : (k : Known) (at : ℕ) (me : Me (Contents V) View) → Entered V k at me → (y : Contents V) × (me.1 ≡ (at, y) ∷ []) × Unit {0}
  holds_some k at me e = (e.y, ap (λ (m : Me (Contents V) View). m.1) e.me_is, tt)

  pub may_give_up : (k : Known) (at : ℕ) (P : Contents V → Contents V → Type 0) (me me' : Me (Contents V) View) → Entered V k at me → (s : Swaps V at me me' P) → s.1 ≡ s.0 → MayGiveUp V at me'
  unfolding turned
  may_give_up k at P me me' e s same =
      let t = turned V k at P me me' e s in
      record { k = k; y = s.0; me_is = t.me_is ∙ (λ j. (holding k at s.0.history, (at, same j) ∷ [])) }

  -- the seat is as it was
  pub left_alone : (k : Known) (at : ℕ) (P : Contents V → Contents V → Type 0) (me me' : Me (Contents V) View) → Entered V k at me → (s : Swaps V at me me' P) → alone me'.0 ≡ view_of (k ∷ [])
  unfolding turned
  left_alone k at P me me' e s = let t = turned V k at P me me' e s in ap (λ (m : Me (Contents V) View). alone m.0) t.me_is

  -- the lock was taken for a look
  pub may_give_seen : (k : Known) (at : ℕ) (P : Contents V → Contents V → Type 0) (me me' : Me (Contents V) View) → Entered V k at me → (s : Swaps V at me me' P) → s.1 ≡ s.0 → k.number < k.callers → MayGive V at me'
  unfolding turned
  may_give_seen k at P me me' e s same below =
      let t = turned V k at P me me' e s in
      record {
        k = k;
        log = s.0.history;
        y = s.0;
        more = [];
        me_is = t.me_is ∙ (λ j. (holding k at s.0.history, (at, same j) ∷ []));
        grown = sym (append_none s.0.history);
        own = tt;
        legal = t.agrees.legal;
        below = below;
      }

  drop_all : (xs : List Call) → drop (length xs) xs ≡ []
  drop_all xs = ap (λ r. drop (length xs) r) (sym (append_none xs)) ∙ drop-append_seam xs []

  pub left_seen : (k : Known) (at : ℕ) (P : Contents V → Contents V → Type 0) (me me' : Me (Contents V) View) → Entered V k at me → (s : Swaps V at me me' P) → s.1 ≡ s.0 → released me' ≡ view_of (seat_after k at [] s.0.history ∷ [])
  unfolding turned
  left_seen k at P me me' e s same =
      let t = turned V k at P me me' e s in
      ap (λ (m : Me (Contents V) View). released m) (t.me_is ∙ (λ j. (holding k at s.0.history, (at, same j) ∷ []))) ∙ (λ j. view_of (seat_after k at (drop_all s.0.history j) s.0.history ∷ []))

  pub agrees_seen : (k : Known) (at : ℕ) (P : Contents V → Contents V → Type 0) (me me' : Me (Contents V) View) → Entered V k at me → (s : Swaps V at me me' P) → Agrees s.0.history at k
  unfolding turned
  agrees_seen k at P me me' e s = (turned V k at P me me' e s).agrees

pub seat_looked : (cache cache' : TableId) (k : Known) (at : ℕ) (log : List Call) (n cl fi gi dr : ℕ) (old new : List View)
    → IsSeat cache n cl fi gi dr old → k ≡ seat_of (first_view old) → cache' ≡ cache → new ≡ view_of (seat_after k at [] log ∷ []) ∷ [] → IsSeat cache' n cl fi gi dr new
seat_looked cache cache' k at log n cl fi gi dr old new h is same new_is =
    let calls_are : (seat_of (first_view old)).calls ≡ k.calls ++ [] = ap (λ (x : Known). x.calls) (sym is) ∙ sym (append_none k.calls) in
    subst (λ us. IsSeat cache' n cl fi gi dr us) (sym new_is) (record {
      view_is = refl;
      number_is = ap (λ (x : Known). x.number) is ∙ h.number_is;
      below = subst (λ (x : Known). n < x.callers) (sym is) h.below;
      shards_are = ap (λ (x : Known). x.shards) is ∙ h.shards_are ∙ ap (λ (i : TableId). i.slots) (sym same);
      claims_are = h.claims_are ∙ ap (λ cs. capped (count_of claims cs)) calls_are;
      fills_are = h.fills_are ∙ ap (λ cs. capped (count_of fills cs)) calls_are;
      give_backs_are = h.give_backs_are ∙ ap (λ cs. capped (count_of give_backs cs)) calls_are;
      drops_are = h.drops_are ∙ ap (λ cs. capped (count_of drops cs)) calls_are;
    })

-- a look, as contracts see it
pub looked : (cache : TableId) (k : Known) (at : ℕ) (key : List ℕ) (P : Mode ℕ → Type 0) (log : List Call) → Agrees log at k → at ≡ shard_of k.shards key → P (state_after log key)
    → HasLooked (seat_at cache k) (seat_at cache (seat_after k at [] log)) key P
looked cache k at key P log h is holds =
    let seen_in : at < length k.seen = let b = h.within in let w = h.wide in omega arith in
    let here : get_or (set k.seen at log) (shard_of k.shards key) [] ≡ log = subst (λ i. get_or (set k.seen at log) i [] ≡ log) is (list_here k.seen at log seen_in) in
    record {
      kept = record { cache = refl; number = refl; callers = refl; shards = refl; calls = append_none k.calls };
      grows = subst (λ (x : List Call × List Call). StartsWith x.0 x.1) (λ j. (sym here j, seen_at k (is j))) h.begins;
      legal = subst IsLegal (sym here) h.legal;
      numbers = subst (AreBelow k.callers) (sym here) h.numbers;
      own = ap (calls_by k.number) here ∙ h.own ∙ ap (λ i. on_shard k.shards i k.calls) is;
      others = λ j ne. list_else k.seen at j log (λ e. ne (e ∙ is));
      mode_is = subst (λ l. P (state_after l key)) (sym here) holds;
    }

pub in_place : (cache cache' : TableId) (k : Known) (key : List ℕ) (at shards : ℕ) → k.shards ≡ cache.slots → cache ≡ cache' → cache'.slots ≡ shards → at ≡ shard_of shards key → at ≡ shard_of k.shards key
in_place cache cache' k key at shards k_is same is place = place ∙ ap (λ m. shard_of m key) (sym (k_is ∙ ap (λ (i : TableId). i.slots) same ∙ is))

pub seat_stays : (cache cache' : TableId) (n cl fi gi dr : ℕ) (old new : List View) → IsSeat cache n cl fi gi dr old → cache' ≡ cache → new ≡ old → IsSeat cache' n cl fi gi dr new
seat_stays cache cache' n cl fi gi dr old new h same is = subst (λ (x : TableId × List View). IsSeat x.0 n cl fi gi dr x.1) (λ j. (sym same j, sym is j)) h

-- an answer that hands no value out leaves the shard as it was
pub stays_same : {V : Type 0} (y z : Contents V) (n : ℕ) (key : List ℕ) (r : forget.Forget V) → ((value : V) → r ≡ answered.Dropped value → ⊥) → Forgot y z n key r → z ≡ y
stays_same y z n key (answered.Dropped value) other h = absurd (other value refl)
stays_same y z n key answered.Free other h = h.1
stays_same y z n key (answered.Busy by) other h = h.1

-- and tells the key's mode
pub stays_seen : {V : Type 0} (stands_for : V → List ℕ → Type 0) (y z : Contents V) (n : ℕ) (key : List ℕ) (r : forget.Forget V) (old new : Seated) → ((value : V) → r ≡ answered.Dropped value → ⊥)
    → Forgot y z n key r → ((P : Mode ℕ → Type 0) → P (mode_at y key) → HasLooked old new key P) → HasForgot stands_for old new key r
stays_seen stands_for y z n key (answered.Dropped value) old new other h look = absurd (other value refl)
stays_seen stands_for y z n key answered.Free old new other h look = look (λ mode. mode ≡ free) h.0
stays_seen stands_for y z n key (answered.Busy by) old new other h look = look (λ mode. mode ≡ held by) h.0

module _ (V : Type 0) where
  -- a value that was given up
  pub dropped : (k : Known) (at : ℕ) (key : List ℕ) (n number : ℕ) (P : Contents V → Contents V → Type 0) (me me' : Me (Contents V) View)
      → Entered V k at me → k.number ≡ n → (s : Swaps V at me me' P) → AddsCall s.0 s.1 n key (Forget number) → state_after s.0.history key ≡ filled number → OneCall V k at key (Forget number) me'
  unfolding turned
  dropped k at key n number P me me' e num s grown is =
      let t = turned V k at P me me' e s in
      record { y = s.0; z = s.1; me_is = t.me_is; agrees = t.agrees; grown = subst (λ m. AddsCall s.0 s.1 m key (Forget number)) (sym num) grown; allowed = is }
