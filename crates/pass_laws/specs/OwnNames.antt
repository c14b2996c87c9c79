-- The memories of a module have names of their own.
use Rattle.std.specs.Prelude.{map}
use Rattle.rtl_ir.specs.declared.module.Module.{Module}
use Rattle.rtl_ir.specs.declared.store.Store.{Store}
use Rattle.net_model.specs.Lists.{Distinct}

-- no two memories have one name
abbrev pub HaveOwnNames : Module → Type 0
HaveOwnNames m = Distinct (map (λ (s : Store). s.name) m.memories)
