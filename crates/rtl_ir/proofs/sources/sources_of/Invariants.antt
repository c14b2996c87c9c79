-- The sources so far are those of the places from the place on.
use Rattle.std.proofs.Common.{drop}
use Rattle.rtl_ir.specs.Sources.{AreSources}
use Rattle.rtl_ir.proofs.sources.sources_of.Given as goal

abbrev pub invariant-loop-at : goal.invariant-loop-at
invariant-loop-at l = AreSources l.sources (drop l.at l.places)
