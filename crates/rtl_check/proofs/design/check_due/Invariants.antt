-- The modules so far that are due have no fault.
use Rattle.std.proofs.Common.{◌≡◌, drop, flat_map}
use Rattle.std.specs.Prelude.{filter}
use Rattle.rtl_ir.specs.Faults.{module_faults}
use Rattle.rtl_ir.specs.Scope.{everything}
use Rattle.rtl_ir.specs.Types.{design_ports}
use Rattle.rtl_check.specs.Due.{is_due}
use Rattle.rtl_check.proofs.design.check_due.Given as goal

abbrev pub invariant-loop-body : goal.invariant-loop-body
invariant-loop-body l =
    flat_map (module_faults everything (design_ports l.modules)) (filter (is_due l.due) (drop l.body-index l.modules)) ≡ flat_map (module_faults everything (design_ports l.modules)) (filter (is_due l.due) l.modules)
