-- The value stands among the parameters from here on.
use Rattle.std.proofs.Common.{◌≡◌, drop}
use Rattle.cell_types.specs.Given.{value_in}
use Rattle.rtl_ir.specs.Parameters.{given_params}
use Rattle.rtl_ir.proofs.parameters.value_in.Given as goal

abbrev pub invariant-loop-param : goal.invariant-loop-param
invariant-loop-param l = value_in (given_params (drop l.param-index l.params)) l.fn.name ≡ value_in (given_params l.params) l.fn.name
