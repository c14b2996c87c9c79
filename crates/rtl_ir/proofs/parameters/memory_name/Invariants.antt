-- The name stands among the parameters from here on.
use Rattle.std.proofs.Common.{◌≡◌, drop}
use Rattle.rtl_ir.specs.Parameters.{memory_name}
use Rattle.rtl_ir.proofs.parameters.memory_name.Given as goal

abbrev pub invariant-loop-param : goal.invariant-loop-param
invariant-loop-param l = memory_name (drop l.param-index l.params) ≡ memory_name l.params
