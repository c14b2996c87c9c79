-- What a pass owes of the check: a module without faults becomes one without.
use Rattle.std.specs.Prelude.{◌≡◌, true, []}
use Rattle.rtl_ir.specs.Faults.{module_faults}
use Rattle.rtl_ir.specs.Scope.{Scope}
use Rattle.rtl_ir.specs.Types.{Ports}
use Rattle.rtl_ir.specs.declared.module.Module.{Module}

-- where the first module has no faults, the second has none, whatever part of designs is taken and whatever modules there are; a
-- module with memories where clocks are not compared
abbrev pub StaysFaultless : Module → Module → Type 0
StaysFaultless before after =
    (scope : Scope) (ports : Ports) → (scope.clocks ≡ true → before.memories ≡ []) → module_faults scope ports before ≡ [] →
    module_faults scope ports after ≡ []
