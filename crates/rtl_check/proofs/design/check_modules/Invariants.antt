-- The modules so far have no fault.
use Rattle.std.proofs.Common.{◌≡◌, drop, flat_map}
use Rattle.rtl_ir.specs.Faults.{module_faults}
use Rattle.rtl_ir.specs.Scope.{everything}
use Rattle.rtl_ir.specs.Types.{design_ports}
use Rattle.rtl_check.proofs.design.check_modules.Given as goal

abbrev pub invariant-loop-body : goal.invariant-loop-body
invariant-loop-body l = flat_map (module_faults everything (design_ports l.modules)) (drop l.body-index l.modules) ≡ flat_map (module_faults everything (design_ports l.modules)) l.modules
