-- The parameters so far, and those that are left, are all of them.
use Rattle.std.proofs.Common.{◌≡◌, ◌++◌, drop}
use Rattle.net_index.specs.Builder.{new_params}
use Rattle.net_index.proofs.builder_params.new_params.Given as goal

abbrev pub invariant-loop-param : goal.invariant-loop-param
invariant-loop-param l = l.made.items ++ new_params (drop l.param-index l.params) ≡ new_params l.params
