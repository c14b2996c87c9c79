use Rattle.std.proofs.Common.{◌≡◌, ◌+◌, ◌-◌, ◌++◌, ap, ◌∙◌, arith}
use Rattle.atomic_table.specs.Table.{Me}
use Rattle.result_cache.specs.declared.view.View.{View}
use Rattle.result_cache.specs.Stored.{Contents}
use Rattle.result_cache.specs.Shared.{newcomer, newcomers, others, seat_of}
use Rattle.result_cache.specs.Seats.{seat_at, first_view, new_seats_from}
use Rattle.result_cache.proofs.Steps.{parts_as}
use Rattle.result_cache.proofs.Dealing.{next_view, has_first, dealt, dealt_new, seats_more}
use Rattle.result_cache.proofs.cache.SharedCache.deal.Goals as goal

pub split_seat-pass-requires : goal.split_seat-pass-requires
split_seat-pass-requires g c =
    let i = c.loop-number.invariant in
    let cache = c.args.self.now in
    let key = cache.table.shared.key in
    let n = c.loop-number.number in
    let v = c.loop-number.dealer.me.0 in
    let is = next_view c.args.callers cache.shards n v c.loop-number-test.true (ap (λ (m : Me (Contents g.row.V.Denot) View). m.0) i.view) in (
      i.cache,
      (let w = cache.words in let s = cache.some.0 in omega arith),
      parts_as g.row.V.Denot key.0 key.1 c.loop-number.dealer.id v (has_first (newcomer c.args.callers cache.shards n) (newcomers c.args.callers cache.shards (n + 1) (c.args.callers - (n + 1))) v is),
    )

pub new_seat-requires-clause-seat : goal.new_seat-requires-clause-seat
new_seat-requires-clause-seat g c =
    let i = c.loop-number.invariant in
    let cache = c.args.self.now in
    let n = c.loop-number.number in
    let v = c.loop-number.dealer.me.0 in
    let is = next_view c.args.callers cache.shards n v c.loop-number-test.true (ap (λ (m : Me (Contents g.row.V.Denot) View). m.0) i.view) in
    let is_new = dealt (newcomer c.args.callers cache.shards n) (newcomers c.args.callers cache.shards (n + 1) (c.args.callers - (n + 1))) v c.split_seat-pass.result.me.0 c.into_badge.result.views is
    (ap (λ (m : Me (Contents g.row.V.Denot) View). m.0) c.split_seat-pass.ensures.4) c.into_badge.ensures.2 in
    dealt_new c.into_badge.result.table_id cache.table.shared.table_id c.args.callers cache.shards n (seat_of (first_view c.into_badge.result.views)) is_new c.loop-number-test.true cache.slots
    (c.into_badge.ensures.0 ∙ c.split_seat-pass.ensures.3 ∙ i.cache)

pub loop-number-preserved : goal.loop-number-preserved
loop-number-preserved g c =
    let i = c.loop-number.invariant in
    let cache = c.args.self.now in
    let n = c.loop-number.number in
    let v = c.loop-number.dealer.me.0 in
    let is = next_view c.args.callers cache.shards n v c.loop-number-test.true (ap (λ (m : Me (Contents g.row.V.Denot) View). m.0) i.view) in
    let is_new = dealt (newcomer c.args.callers cache.shards n) (newcomers c.args.callers cache.shards (n + 1) (c.args.callers - (n + 1))) v c.split_seat-pass.result.me.0 c.into_badge.result.views is
    (ap (λ (m : Me (Contents g.row.V.Denot) View). m.0) c.split_seat-pass.ensures.4) c.into_badge.ensures.2 in
    let table_is : c.into_badge.result.table_id ≡ cache.table.shared.table_id = c.into_badge.ensures.0 ∙ c.split_seat-pass.ensures.3 ∙ i.cache in
    let seat_is : c.new_seat.result ≡ seat_at cache.table.shared.table_id (newcomer c.args.callers cache.shards n) = c.new_seat.ensures.value ∙ (λ j. seat_at (table_is j) (is_new j)) in
    let rest = new_seats_from cache.table.shared.table_id c.args.callers cache.shards (n + 1) (c.args.callers - (n + 1)) in
    record {
      cache = c.split_seat-pass.ensures.0 ∙ i.cache;
      view = c.split_seat-pass.ensures.2 ∙ (λ j. (others (is j), (i.view j).1));
      so_far = ap (λ items. items ++ rest) c.in_ok-push.ensures.items ∙ seats_more cache.table.shared.table_id c.args.callers cache.shards n c.loop-number.seats.items c.new_seat.result c.loop-number-test.true i.so_far seat_is;
    }
