-- Rules that act, one by one.
use Rattle.std.specs.Prelude.{List, Option, Some, None}
use Rattle.rtl_ir.specs.Build.{Building}
use Rattle.rtl_ir.specs.declared.follow.Join.{Join}
use Rattle.rtl_ir.specs.declared.module.Link.{Link}
use Rattle.proc_sync.specs.Rules.{lines_step}
use Rattle.proc_sync.specs.declared.rules.Form.{Form}

-- the lines of a rule of a form, where there is one
abbrev pub form_step : Option Form → List Join → List Link → Building → Building
form_step None levels lines b = b
form_step (Some form) levels lines b = lines_step form levels lines b

-- two that are both there
abbrev pub both_of : {A B : Type 0} → Option A → Option B → Option (A × B)
both_of (Some a) (Some b) = Some (a, b)
both_of a b = None
