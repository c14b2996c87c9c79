use Rattle.std.proofs.Common.{◌≡◌, ◌++◌, drop}
use Rattle.map_gates.specs.Parts.{hits_for}
use Rattle.map_gates.proofs.parts.hits_for.Given as goal

-- the bits so far, below those of the places that are left
abbrev pub invariant-loop-at : goal.invariant-loop-at
invariant-loop-at l = l.hits ++ hits_for (drop l.at l.s) (drop l.at l.inverses) l.rest ≡ hits_for l.s l.inverses l.part
