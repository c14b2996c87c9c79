use Rattle.std.proofs.Common.{◌≡◌, drop}
use Rattle.cell_types.specs.Given.{value_in}
use Rattle.cell_types.proofs.given.value_in.Given as goal

-- the parameters so far have other names
abbrev pub invariant-loop-param : goal.invariant-loop-param
invariant-loop-param l = value_in l.params l.name ≡ value_in (drop l.param-index l.params) l.name
