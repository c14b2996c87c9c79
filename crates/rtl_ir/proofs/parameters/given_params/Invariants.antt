-- The parameters so far and those that are left are all.
use Rattle.std.proofs.Common.{◌≡◌, ◌++◌, drop}
use Rattle.rtl_ir.specs.Parameters.{given_params}
use Rattle.rtl_ir.proofs.parameters.given_params.Given as goal

abbrev pub invariant-loop-param : goal.invariant-loop-param
invariant-loop-param l = l.given.items ++ given_params (drop l.param-index l.params) ≡ given_params l.params
