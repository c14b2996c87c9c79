use Rattle.std.proofs.Common.{List, ℕ, ◌⊎◌, subst, sym}
use Rattle.net_model.specs.Lists.{In}
use Rattle.opt_merge.specs.Late.{late_at}
use Rattle.opt_merge.proofs.Entering.{settles}
use Rattle.opt_merge.proofs.entries.Entries.settle.Goals as goal

pub returns-clause-settles : goal.returns-clause-settles
returns-clause-settles c =
    settles c.args.self.now c.enter_places.new.self c.take-places.new.self c.args.cells.now c.args.row c.as_slice.result.now c.take-places.ensures.none
    (subst (λ (ps : List ℕ). (other at : ℕ) → In at (late_at c.args.self.now.late other) → In at (late_at c.take-places.new.self other) ⊎ In at ps) (sym c.as_slice.ensures.keys) c.take-places.ensures.others)
    c.in_ok-enter_places.ensures.notes c.in_ok-enter_places.ensures.enters
