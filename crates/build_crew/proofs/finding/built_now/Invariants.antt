use Rattle.std.proofs.Common.{◌≡◌, ◌≤◌, ◌+◌, drop}
use Rattle.build_crew.specs.declared.finding.Found.{Found}
use Rattle.build_crew.specs.Leaves.{new_among}
use Rattle.build_crew.proofs.finding.built_now.Given as goal

abbrev pub invariant-loop-found : goal.invariant-loop-found
invariant-loop-found g l =
    (l.built ≤ l.found-index) × (l.built + new_among (λ (found : Found g.row.V.Denot). found.is_new) (drop l.found-index l.items) ≡ new_among (λ (found : Found g.row.V.Denot). found.is_new) l.items)
