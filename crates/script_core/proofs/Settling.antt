-- Modules of which it is known that `opt` changes nothing.
use Rattle.std.proofs.Common.{◌≡◌, Bool, true, cond, length, Some, None, ◌∙◌, ap, sym, subst}
use Rattle.std.specs.Prelude.{◌==◌}
use Rattle.rtl_ir.specs.declared.module.Module.{Module}
use Rattle.rtl_ir.specs.declared.ports.PortTable.{PortTable}
use Rattle.net_model.specs.Mem.Expand.{memory_of}
use Rattle.mem_steps.specs.Within.{memory_within}
use Rattle.mem_steps.proofs.Turns.{at_end, end_within}
use Rattle.script_core.specs.Fold.{IsSettledIf}

-- where there is no memory `memory` changes nothing
pub no_memory : (m : Module) → (length m.memories == 0) ≡ true → memory_within m ≡ Some m
no_memory m e = ap (λ (t : Bool). cond t (Some (memory_of m)) None) (end_within m e) ∙ ap Some (sym (at_end m e))

-- what is known of a module is known of the same one
pub still_settled : (known : Bool) (table : PortTable) (m after : Module) → after ≡ m → IsSettledIf known table m → IsSettledIf known table after
still_settled known table m after same h = subst (λ (k : Module). IsSettledIf known table k) (sym same) h
