use Rattle.std.proofs.Common.{◌≡◌, ◌++◌, take}
use Rattle.std.specs.List.{flat_map}
use Rattle.rtl_write.specs.Text.{parameter_text}
use Rattle.rtl_write.proofs.whole.put_parameters.Given as goal

-- what was passed so far is written
abbrev pub invariant-loop-parameter : goal.invariant-loop-parameter
invariant-loop-parameter l = l.out ≡ l.initial.out ++ flat_map parameter_text (take l.parameter-index l.parameters)
