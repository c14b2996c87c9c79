-- A module that is added to, as its parts: by their codes it is told from any other.
use Rattle.std.specs.Prelude.{ℕ, refl}
use Rattle.std.specs.Coded.{Coded, code_by, coded×, coded_ℕ}
use Rattle.rtl_ir.specs.Build.{Building}
use Rattle.rtl_ir.specs.contracts.module.Module as modules
use Rattle.rtl_ir.specs.declared.module.Module.{Module}

abbrev pub building_code : Coded Building
building_code =
    code_by (Module × ℕ) (coded× modules.the_row.coded coded_ℕ) (λ b. (b.body, b.next)) (λ p. record { body = p.0; next = p.1 }) (λ _. refl)
