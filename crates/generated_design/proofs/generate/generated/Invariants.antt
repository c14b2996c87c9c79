use Rattle.std.proofs.Common.{◌≡◌}
use Rattle.std.specs.Prelude.{map}
use Rattle.std.specs.List.{range_with_len}
use Rattle.generated_design.specs.Generate.{generated_module}
use Rattle.generated_design.proofs.generate.generated.Given as goal

abbrev pub invariant-loop-number : goal.invariant-loop-number
invariant-loop-number l = l.modules ≡ map generated_module (range_with_len 0 l.number)
