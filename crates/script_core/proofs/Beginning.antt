-- What `proc` is given where a module has a process, and what it answers.
use Rattle.std.proofs.Common.{◌≡◌, List, [], ◌∷◌, Some, None, Result, Ok, Err, inl, inr, refl}
use Rattle.std.specs.Prelude.{IfOk}
use Rattle.rtl_ir.specs.Types.{table_ports}
use Rattle.rtl_ir.specs.declared.module.Module.{Module}
use Rattle.rtl_ir.specs.declared.ports.PortTable.{PortTable}
use Rattle.rtl_ir.specs.declared.process.Process.{Process}
use Rattle.net_index.specs.declared.builder_fault.PassFault.{PassFault}
use Rattle.net_index.specs.declared.builder_fault.PassFault.TheVariants as faults
use Rattle.pass_laws.proofs.Faultless.{plain}
use Rattle.proc_steps.specs.Steps.{MayBegin, proc_result, proc_within}
use Rattle.script_core.specs.declared.word.Word.TheVariants.{Proc}
use Rattle.script_core.specs.Fold.{MayBeGiven}

module _ (table : PortTable) (m : Module) (some : m.processes ≡ [] → ⊥) where
  pub begins : MayBeGiven table Proc m → MayBegin table m
  begins (inl h) = h.begins
  begins (inr h) = absurd (some ((plain (table_ports table.modules) m h.ready.faultless).processes))

  within : (P : (List Process → Type 0)) → ((p : Process) (ps : List Process) → P (p ∷ ps)) → P m.processes
  within P h = by m.processes refl
    where
      by : (ps : List Process) → m.processes ≡ ps → P ps
      by [] e = absurd (some e)
      by (p ∷ ps) e = h p ps

  pub answered : (r : Result Module PassFault) → IfOk r (λ after. proc_result (table_ports table.modules) m ≡ Some after) → IfOk r (λ after. proc_within (table_ports table.modules) m m.processes ≡ Some after)
  answered (Ok after) e = within (λ ps. proc_within (table_ports table.modules) m ps ≡ Some after) (λ p ps. e)
  answered (Err fault) e = tt

  pub passed : (r : Result Module PassFault) → (r ≡ Err faults.Over → proc_result (table_ports table.modules) m ≡ None) → r ≡ Err faults.Over → proc_within (table_ports table.modules) m m.processes ≡ None
  passed r h e = within (λ ps. proc_within (table_ports table.modules) m ps ≡ None) (λ p ps. h e)
