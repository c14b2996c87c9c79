use denote.Param.Send.{sendable}
use Rattle.std.proofs.Common.{◌≡◌, ℕ, ◌<◌, List, ◌++◌, Some, length, set, slice_get, take, drop, sym, ap, subst, ◌∙◌, arith}
use Rattle.std.proofs.lemmas.List.{length-set}
use Rattle.result_cache.specs.Counts.{claims}
use Rattle.result_cache.specs.declared.call.Call.{Call}
use Rattle.result_cache.specs.Meet.{HasMet}
use Rattle.result_cache.specs.Seats.{AreSeatsOf, Seated}
use Rattle.build_crew.specs.Forgetting.{GaveUp, HasForgotten}
use Rattle.build_crew.specs.Kept.{given_back, kept_by, times_by}
use Rattle.script_core.specs.declared.built.Built.{Built}
use Rattle.desk_core.specs.Results.{AreSeated}
use Rattle.desk_core.specs.Standing.{StandsFor}
use Rattle.desk_core.proofs.Finding.{back_whole, got_at}
use Rattle.desk_core.proofs.Giving.{given_up, seated_still, seats_of}
use Rattle.desk_core.proofs.Sending.{kept_send}
use Rattle.desk_core.proofs.results.Results.end.Goals as goal

pub meet-requires-send-V : goal.meet-requires-send-V
meet-requires-send-V g c κs within = search (sendable, kept_send) depth 40

pub meet-requires-clause-cache : goal.meet-requires-clause-cache
meet-requires-clause-cache g c κs within =
    let seats = c.args.self.now.seats in
    let cache = c.args.self.now.cache in
    let gone = c.args.needed.now.too_old.items in
    let first = c.index_mut.result.now in
    let mid = c.give_up_all.new.seat in
    let some = c.requires.seats.some in
    let is_first : slice_get seats.items 0 ≡ Some first = got_at seats.items 0 first first (omega (arith, some)) (sym c.index_mut.ensures.value) in
    let gave : GaveUp (λ (built : Built) text. StandsFor built text) gone first mid =
    subst (λ (ks : List (List ℕ)). GaveUp (λ (built : Built) text. StandsFor built text) ks first mid) c.as_slice.ensures.value c.give_up_all.ensures.gave_up in
    subst (AreSeatsOf cache.table.shared.table_id) (sym c.as_mut_slice.ensures.value) (seats_of cache.table.shared.table_id cache.shards gone seats.items first mid c.requires.seats is_first gave)

pub returns-clause-seats : goal.returns-clause-seats
returns-clause-seats g c =
    let seats = c.args.self.now.seats in
    let cache = c.args.self.now.cache in
    let gone = c.args.needed.now.too_old.items in
    let first = c.index_mut.result.now in
    let mid = c.give_up_all.new.seat in
    let some = c.requires.seats.some in
    let is_first : slice_get seats.items 0 ≡ Some first = got_at seats.items 0 first first (omega (arith, some)) (sym c.index_mut.ensures.value) in
    let gave : GaveUp (λ (built : Built) text. StandsFor built text) gone first mid =
    subst (λ (ks : List (List ℕ)). GaveUp (λ (built : Built) text. StandsFor built text) ks first mid) c.as_slice.ensures.value c.give_up_all.ensures.gave_up in
    let news = c.meet.new.seats in
    let met : (i : ℕ) → i < cache.shards → (log : List Call) × HasMet i log (set seats.items 0 mid) news =
    subst (λ (s : List Seated). (i : ℕ) → i < cache.shards → (log : List Call) × HasMet i log s news) c.as_mut_slice.ensures.value c.meet.ensures.met in
    let f : HasForgotten cache.table.shared.table_id cache.shards gone seats.items news = given_up cache.table.shared.table_id cache.shards gone seats.items news first mid cache.some.0 c.requires.seats is_first gave met in
    let lent = ap length c.as_mut_slice.ensures.value in
    let kept = c.meet.auto.seats in
    let size = seats.ok.0 in
    let put = length-set seats.items 0 mid in
    let back : take seats.len (news ++ drop (length news) (set seats.items 0 mid)) ≡ news = back_whole seats.len (set seats.items 0 mid) news (omega (arith, lent, kept, size, put)) in
    subst (AreSeated cache.table.shared.table_id cache.shards) (sym back)
    (seated_still cache.table.shared.table_id cache.shards gone seats.items (set seats.items 0 mid) news c.requires.seats f (omega (arith, lent, kept, put)) met)

pub returns-clause-kept : goal.returns-clause-kept
returns-clause-kept g c =
    let seats = c.args.self.now.seats in
    let cache = c.args.self.now.cache in
    let gone = c.args.needed.now.too_old.items in
    let first = c.index_mut.result.now in
    let mid = c.give_up_all.new.seat in
    let some = c.requires.seats.some in
    let is_first : slice_get seats.items 0 ≡ Some first = got_at seats.items 0 first first (omega (arith, some)) (sym c.index_mut.ensures.value) in
    let gave : GaveUp (λ (built : Built) text. StandsFor built text) gone first mid =
    subst (λ (ks : List (List ℕ)). GaveUp (λ (built : Built) text. StandsFor built text) ks first mid) c.as_slice.ensures.value c.give_up_all.ensures.gave_up in
    let news = c.meet.new.seats in
    let met : (i : ℕ) → i < cache.shards → (log : List Call) × HasMet i log (set seats.items 0 mid) news =
    subst (λ (s : List Seated). (i : ℕ) → i < cache.shards → (log : List Call) × HasMet i log s news) c.as_mut_slice.ensures.value c.meet.ensures.met in
    let f : HasForgotten cache.table.shared.table_id cache.shards gone seats.items news = given_up cache.table.shared.table_id cache.shards gone seats.items news first mid cache.some.0 c.requires.seats is_first gave met in
    let lent = ap length c.as_mut_slice.ensures.value in
    let kept = c.meet.auto.seats in
    let size = seats.ok.0 in
    let put = length-set seats.items 0 mid in
    let back : take seats.len (news ++ drop (length news) (set seats.items 0 mid)) ≡ news = back_whole seats.len (set seats.items 0 mid) news (omega (arith, lent, kept, size, put)) in
    ap kept_by back ∙ f.kept

pub returns-clause-claims : goal.returns-clause-claims
returns-clause-claims g c =
    let seats = c.args.self.now.seats in
    let cache = c.args.self.now.cache in
    let gone = c.args.needed.now.too_old.items in
    let first = c.index_mut.result.now in
    let mid = c.give_up_all.new.seat in
    let some = c.requires.seats.some in
    let is_first : slice_get seats.items 0 ≡ Some first = got_at seats.items 0 first first (omega (arith, some)) (sym c.index_mut.ensures.value) in
    let gave : GaveUp (λ (built : Built) text. StandsFor built text) gone first mid =
    subst (λ (ks : List (List ℕ)). GaveUp (λ (built : Built) text. StandsFor built text) ks first mid) c.as_slice.ensures.value c.give_up_all.ensures.gave_up in
    let news = c.meet.new.seats in
    let met : (i : ℕ) → i < cache.shards → (log : List Call) × HasMet i log (set seats.items 0 mid) news =
    subst (λ (s : List Seated). (i : ℕ) → i < cache.shards → (log : List Call) × HasMet i log s news) c.as_mut_slice.ensures.value c.meet.ensures.met in
    let f : HasForgotten cache.table.shared.table_id cache.shards gone seats.items news = given_up cache.table.shared.table_id cache.shards gone seats.items news first mid cache.some.0 c.requires.seats is_first gave met in
    let lent = ap length c.as_mut_slice.ensures.value in
    let kept = c.meet.auto.seats in
    let size = seats.ok.0 in
    let put = length-set seats.items 0 mid in
    let back : take seats.len (news ++ drop (length news) (set seats.items 0 mid)) ≡ news = back_whole seats.len (set seats.items 0 mid) news (omega (arith, lent, kept, size, put)) in
    λ key. ap (times_by claims key) back ∙ f.claimed key

pub returns-clause-given : goal.returns-clause-given
returns-clause-given g c =
    let seats = c.args.self.now.seats in
    let cache = c.args.self.now.cache in
    let gone = c.args.needed.now.too_old.items in
    let first = c.index_mut.result.now in
    let mid = c.give_up_all.new.seat in
    let some = c.requires.seats.some in
    let is_first : slice_get seats.items 0 ≡ Some first = got_at seats.items 0 first first (omega (arith, some)) (sym c.index_mut.ensures.value) in
    let gave : GaveUp (λ (built : Built) text. StandsFor built text) gone first mid =
    subst (λ (ks : List (List ℕ)). GaveUp (λ (built : Built) text. StandsFor built text) ks first mid) c.as_slice.ensures.value c.give_up_all.ensures.gave_up in
    let news = c.meet.new.seats in
    let met : (i : ℕ) → i < cache.shards → (log : List Call) × HasMet i log (set seats.items 0 mid) news =
    subst (λ (s : List Seated). (i : ℕ) → i < cache.shards → (log : List Call) × HasMet i log s news) c.as_mut_slice.ensures.value c.meet.ensures.met in
    let f : HasForgotten cache.table.shared.table_id cache.shards gone seats.items news = given_up cache.table.shared.table_id cache.shards gone seats.items news first mid cache.some.0 c.requires.seats is_first gave met in
    let lent = ap length c.as_mut_slice.ensures.value in
    let kept = c.meet.auto.seats in
    let size = seats.ok.0 in
    let put = length-set seats.items 0 mid in
    let back : take seats.len (news ++ drop (length news) (set seats.items 0 mid)) ≡ news = back_whole seats.len (set seats.items 0 mid) news (omega (arith, lent, kept, size, put)) in
    ap given_back back ∙ f.given
