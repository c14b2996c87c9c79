use Rattle.std.proofs.Common.{◌≡◌, ◌++◌, take}
use Rattle.std.specs.List.{flat_map}
use Rattle.rtl_write.specs.Text.{cell_param_text}
use Rattle.rtl_write.proofs.statement.put_cell_params.Given as goal

-- what was passed so far is written
abbrev pub invariant-loop-param : goal.invariant-loop-param
invariant-loop-param l = l.out ≡ l.initial.out ++ flat_map cell_param_text (take l.param-index l.params)
