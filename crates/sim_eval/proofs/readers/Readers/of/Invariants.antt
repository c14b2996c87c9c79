-- The parts so far are among the readers of what they read.
use Rattle.std.proofs.Common.{◌≡◌, ◌<◌, ℕ, Some, length, true}
use Rattle.std.specs.Prelude.{slice_get}
use Rattle.flat_net.specs.declared.net.Part.{Part}
use Rattle.flat_net.specs.declared.net.Point.TheVariants.{At}
use Rattle.net_model.specs.Lists.{In}
use Rattle.sim_eval.specs.Reads.{is_among, present_points, readers_at}
use Rattle.sim_eval.proofs.readers.Readers.of.Given as goal

abbrev pub invariant-loop-place : goal.invariant-loop-place
invariant-loop-place l = record {
  count : length l.readers.lists.items ≡ l.count;
  reads : (at : ℕ) (p : Part) → at < l.place → slice_get l.parts at ≡ Some p → (n : ℕ) → n < l.count → In (At n) (present_points p) → is_among at (readers_at l.readers n) ≡ true;
}
