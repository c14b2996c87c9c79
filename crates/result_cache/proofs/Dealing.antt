-- Handing out the seats of a new cache.
use Rattle.std.proofs.Common.{◌≡◌, ℕ, suc, ◌+◌, ◌-◌, ◌<◌, ◌≤◌, List, [], ◌∷◌, ◌++◌, refl, sym, ap, ◌∙◌, subst, arith, append_assoc}
use Rattle.atomic_table.specs.Seated.{TableId}
use Rattle.result_cache.specs.declared.view.Known.{Known}
use Rattle.result_cache.specs.declared.view.View.{View}
use Rattle.result_cache.specs.Shared.{newcomer, newcomers, view_of, seat_of, rest_of, alone}
use Rattle.result_cache.specs.Seats.{Seated, seat_at, first_view, new_seats_from, new_seats, IsNew}
use Rattle.result_cache.proofs.Histories.{append_none}

-- the seat of the view that was cut off
pub dealt : (k : Known) (ks : List Known) (v w : View) (views : List View) → v ≡ view_of (k ∷ ks) → w ≡ alone v → views ≡ w ∷ [] → seat_of (first_view views) ≡ k
dealt k ks v w views v_is w_is is = ap (λ vs. seat_of (first_view vs)) is ∙ ap seat_of w_is ∙ ap (λ u. seat_of (alone u)) v_is

pub dealt_new : (cache cache' : TableId) (callers shards n : ℕ) (k : Known) → k ≡ newcomer callers shards n → n < callers → cache'.slots ≡ shards → cache ≡ cache' → IsNew n cache k
dealt_new cache cache' callers shards n k is l slots same = subst (λ x. IsNew n cache x) (sym is) (record {
  number_is = refl;
  below = l;
  shards_are = sym slots ∙ ap (λ (i : TableId). i.slots) (sym same);
  no_calls = refl;
})

one_less : (callers n : ℕ) → n < callers → callers - n ≡ suc (callers - (n + 1))
one_less callers n l = omega arith

none_left : (callers n : ℕ) → callers ≤ n → callers - n ≡ 0
none_left callers n l = omega arith

-- the next of the newcomers, and those after it
pub next_of : (callers shards n : ℕ) → n < callers → newcomers callers shards n (callers - n) ≡ newcomer callers shards n ∷ newcomers callers shards (n + 1) (callers - (n + 1))
next_of callers shards n l = ap (newcomers callers shards n) (one_less callers n l)

pub next_view : (callers shards n : ℕ) (v : View) → n < callers → v ≡ view_of (newcomers callers shards n (callers - n)) → v ≡ view_of (newcomer callers shards n ∷ newcomers callers shards (n + 1) (callers - (n + 1)))
next_view callers shards n v l is = is ∙ ap view_of (next_of callers shards n l)

pub has_first : (k : Known) (ks : List Known) (v : View) → v ≡ view_of (k ∷ ks) → v ≡ view_of (seat_of v ∷ rest_of v.seats)
has_first k ks v is = is ∙ (λ j. view_of (seat_of (sym is j) ∷ rest_of (sym is j).seats))

-- one seat more was handed out
pub seats_more : (cache : TableId) (callers shards n : ℕ) (items : List Seated) (s : Seated) → n < callers → items ++ new_seats_from cache callers shards n (callers - n) ≡ new_seats cache callers shards → s ≡ seat_at cache (newcomer callers shards n)
    → (items ++ s ∷ []) ++ new_seats_from cache callers shards (n + 1) (callers - (n + 1)) ≡ new_seats cache callers shards
seats_more cache callers shards n items s l so_far is =
    append_assoc items (s ∷ []) (new_seats_from cache callers shards (n + 1) (callers - (n + 1)))
    ∙ (λ j. items ++ is j ∷ new_seats_from cache callers shards (n + 1) (callers - (n + 1)))
    ∙ ap (λ r. items ++ r) (sym (ap (new_seats_from cache callers shards n) (one_less callers n l)))
    ∙ so_far

-- all were handed out
pub seats_all : (cache : TableId) (callers shards n : ℕ) (items : List Seated) → callers ≤ n → items ++ new_seats_from cache callers shards n (callers - n) ≡ new_seats cache callers shards → items ≡ new_seats cache callers shards
seats_all cache callers shards n items l so_far = sym (append_none items) ∙ ap (λ r. items ++ new_seats_from cache callers shards n r) (sym (none_left callers n l)) ∙ so_far
