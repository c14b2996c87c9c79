use Rattle.std.proofs.Common.{◌≡◌, arith, subst}
use Rattle.flat_net.specs.Memories.{AreColumns}
use Rattle.flat_net.proofs.Fetching.{AreColumns-end}
use Rattle.flat_net.proofs.Kept.{within-Keeps}
use Rattle.flat_net.proofs.Reading.{Extends-then}
use Rattle.flat_net.proofs.places.Places.columns.Goals as goal

pub column-requires : goal.column-requires
column-requires c = record { in_range = within-Keeps _ _ _ c.loop-at.invariant.grows.paths c.requires.in_range }

pub loop-at-preserved : goal.loop-at-preserved
loop-at-preserved c = record {
  grows = Extends-then _ _ _ c.loop-at.invariant.grows c.in_ok-column.ensures.grows;
  made = λ p path.
      AreColumns-end _ _ p c.args.store.now _ _ c.loop-at.at _ _ c.in_ok-column.ensures.grows.places (c.loop-at.invariant.made p path)
      (c.in_ok-column.ensures.value p (c.loop-at.invariant.grows.paths _ _ path)) c.in_ok-place.ensures.value c.in_ok-push.ensures.items;
}

pub returns-clause-value : goal.returns-clause-value
returns-clause-value c = λ p path.
    let end : c.loop-at.at ≡ c.args.width = omega arith in
    rw c.from_vec.ensures.value (subst (AreColumns c.loop-at.self.places p c.args.store.now c.loop-at.columns.items) end (c.loop-at.invariant.made p path))
