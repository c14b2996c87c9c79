-- What a crew leaves, once its seats have met.
use Rattle.std.proofs.Common.{ℕ, List, Bool, length}
use Rattle.std.specs.Prelude.{map}
use Rattle.std.specs.List.{range_with_len}
use Rattle.atomic_table.specs.Seated.{TableId}
use Rattle.result_cache.specs.Seats.{Seated}
use Rattle.work_crew.specs.Outcome.{Finished, Stopped}
use Rattle.build_crew.specs.Calls.{Does, Fails}
use Rattle.build_crew.specs.Kept.{AreAllSeats}
use Rattle.build_crew.specs.Leaves.{AreCrew, HasRun, StoppedLeaves, new_among}
use Rattle.build_crew.proofs.Counts.{Tallies, met_seats}
use Rattle.build_crew.proofs.Going.{AllGrew, all_gone, all_went}
use Rattle.build_crew.proofs.Ending.{finished_run, stopped_run}
use Rattle.build_crew.proofs.Seats.{AllSame, same_all_went, same_gone, seats_same, seats_met}

module _ {O : Type 0} (key_of : ℕ → List ℕ) (new_of : O → Bool) (cache : TableId) (shards count : ℕ) (olds mids news : List Seated) (old now : ℕ)
    (crew : AreCrew cache shards olds mids news) where
  seats_after : AllSame olds mids → AreAllSeats cache (length olds) shards 0 news
  seats_after same =
      let m = crew.met 0 crew.some in
      seats_met cache (length olds) shards 0 0 m.0 mids news (seats_same cache (length olds) shards 0 olds mids crew.all same crew.idle) m.1

  facts : AllSame olds mids → AllGrew olds mids → (q : List ℕ) → Tallies q olds news
  facts same grew q = met_seats cache (length olds) shards olds mids news crew.some crew.any crew.all crew.shared grew (seats_after same) crew.met q

  pub run_seats : (output_fits : ℕ → O → Type 0) (items : List O) (taken : List (List ℕ)) → Finished output_fits (Does key_of new_of) count items taken olds mids old now
      → AreAllSeats cache (length olds) shards 0 news
  run_seats output_fits items taken f = seats_after (same_all_went key_of new_of items taken olds mids f.ticks f.went)

  pub run_leaves : (output_fits : ℕ → O → Type 0) (items : List O) (taken : List (List ℕ)) → Finished output_fits (Does key_of new_of) count items taken olds mids old now
      → HasRun (map key_of (range_with_len 0 count)) (new_among new_of items) olds news old now
  run_leaves output_fits items taken f =
      let m = crew.met 0 crew.some in
      finished_run key_of new_of count output_fits items taken olds mids news old now m.0 f m.1 (facts (same_all_went key_of new_of items taken olds mids f.ticks f.went) (all_went key_of new_of items taken olds mids f.ticks f.went).grows)

  pub stopped_seats : Stopped (Does key_of new_of) (Fails key_of new_of) count olds mids old now → AreAllSeats cache (length olds) shards 0 news
  stopped_seats s = seats_after (same_gone key_of new_of s.ways olds mids s.gone)

  pub stopped_leaves : StoppedLeaves key_of new_of count olds mids news old now
  stopped_leaves s =
      let m = crew.met 0 crew.some in
      stopped_run key_of new_of count olds mids news old now m.0 s m.1 (facts (same_gone key_of new_of s.ways olds mids s.gone) (all_gone key_of new_of s.ways olds mids s.gone).1.grows)
