-- Modules that are lent, each under a name of its own.
use Rattle.std.specs.Prelude.{◌≡◌, List, [], map}
use Rattle.std.specs.List.{AllByRecursion}
use Rattle.rtl_ir.specs.declared.module.Design.{Design}
use Rattle.rtl_ir.specs.declared.module.Module.{Module}
use Rattle.flat_net.specs.declared.titled.Titled.{Titled}

-- the module under its name
abbrev pub titled_module : Titled → Module
titled_module t = record t.body.now { id = t.id.now }

-- the design of such modules
abbrev pub titled_design : List Titled → Design
titled_design modules = record { modules = map titled_module modules }

-- none of them has a process
abbrev pub HaveNoProcess : List Titled → Type 0
HaveNoProcess modules = AllByRecursion (λ (t : Titled). t.body.now.processes ≡ []) modules
