-- The rows so far have x where a value of before may be left, and the others are as they were.
use Rattle.std.proofs.Common.{◌≡◌, ℕ, ◌<◌, ◌≤◌, ◌++◌, ◌∷◌, [], length}
use Rattle.rtl_bits.specs.declared.bit.Bit.TheVariants.{X}
use Rattle.rtl_sig.specs.declared.sig.SigBit.TheVariants.{Fixed}
use Rattle.process_trees.specs.Reach.{if_kept}
use Rattle.process_trees.specs.Walk.{sources_at, unset_at}
use Rattle.process_trees.proofs.reaching.ended.Given as goal

abbrev pub invariant-loop-at : goal.invariant-loop-at
invariant-loop-at l = record {
  size : length l.sources.items ≡ length l.initial.sources.items;
  done : (k : ℕ) → k < l.at → sources_at l.sources.items k ≡ sources_at l.initial.sources.items k ++ if_kept (unset_at l.unset.items k) (Fixed X ∷ []);
  left : (k : ℕ) → l.at ≤ k → sources_at l.sources.items k ≡ sources_at l.initial.sources.items k;
}
