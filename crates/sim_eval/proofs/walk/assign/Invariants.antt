-- What the assigns left make of the bits is what all make of them.
use Rattle.std.proofs.Common.{◌≡◌, ◌<◌, ℕ, drop, length}
use Rattle.sim_eval.specs.Trees.{bit_of}
use Rattle.sim_eval.specs.Walk.{walked_assigns}
use Rattle.sim_eval.proofs.walk.assign.Given as goal

abbrev pub invariant-loop-assign : goal.invariant-loop-assign
invariant-loop-assign l =
    (at : ℕ) → at < length l.fn.bits → walked_assigns l.walk at (drop l.assign-index l.assigns) (bit_of l.bits at) ≡ walked_assigns l.walk at l.assigns (bit_of l.fn.bits at)
