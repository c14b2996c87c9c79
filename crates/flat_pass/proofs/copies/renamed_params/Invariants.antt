-- The copies of the parameters so far.
use Rattle.std.proofs.Common.{◌≡◌, map, take}
use Rattle.flat_pass.specs.Copies.{renamed_param}
use Rattle.flat_pass.specs.Renames.{copying}
use Rattle.flat_pass.proofs.copies.renamed_params.Given as goal

abbrev pub invariant-loop-param : goal.invariant-loop-param
invariant-loop-param l = l.copies.items ≡ map (renamed_param (copying l.renames)) (take l.param-index l.params)
