-- The edits so far are noted.
use Rattle.std.proofs.Common.{take}
use Rattle.rtl_ir.specs.Types.{design_ports}
use Rattle.net_model.specs.Within.{Each}
use Rattle.rtl_check.specs.Due.{IsNoted}
use Rattle.rtl_check.proofs.due.Due.of_edits.Given as goal

abbrev pub invariant-loop-edit : goal.invariant-loop-edit
invariant-loop-edit l = Each (IsNoted (design_ports l.modules) l.due) (take l.edit-index l.edits)
