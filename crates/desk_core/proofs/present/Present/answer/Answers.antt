use Rattle.std.proofs.Common.{◌≡◌, ℕ, List, Result, sym, subst}
use Rattle.std.specs.Prelude.{IfOk}
use Rattle.rtl_bits.specs.declared.memory.Memory.{Memory}
use Rattle.desk_read.specs.declared.command.Command.{Command}
use Rattle.desk_read.specs.declared.command.Command.TheVariants.{Load, Edit, Remove, Script, Show, Version, Modules, Ports, SimSource}
use Rattle.reply_lines.specs.declared.reply.Reply.{Reply}
use Rattle.desk_core.specs.Answers.{IsEditAnswer, IsLoadAnswer, modules_answer, ports_answer, remove_answer, script_answer, show_answer, version_answer}
use Rattle.desk_core.specs.Present.{state_with}
use Rattle.desk_core.specs.State.{State, answer}
use Rattle.desk_core.specs.Step.{IsStep}
use Rattle.desk_core.proofs.present.Present.answer.Goals as goal

-- the step of the command that it is
answered : (command other : Command) (before after : State) (r : Result Reply Memory) → command ≡ other → IfOk r (λ reply. IsStep other before reply after) → IfOk r (λ reply. IsStep command before reply after)
answered command other before after r is step = subst (λ (m : Command). IfOk r (λ reply. IsStep m before reply after)) (sym is) step

pub returns-in-Load-clause-step : goal.returns-in-Load-clause-step
returns-in-Load-clause-step c = λ kept.
    answered c.args.command.now (Load c.in-Load.text) (state_with kept c.args.self.now) (state_with kept c.load.new.self) c.load.result c.in-Load.is
    (subst (λ (t : List ℕ). IfOk c.load.result (λ reply. IsLoadAnswer (state_with kept c.args.self.now) t (answer reply (state_with kept c.load.new.self)))) c.as_slice.ensures.value (c.load.ensures.ok kept))

pub returns-in-Edit-clause-step : goal.returns-in-Edit-clause-step
returns-in-Edit-clause-step c = λ kept.
    answered c.args.command.now (Edit c.in-Edit.text) (state_with kept c.args.self.now) (state_with kept c.edit.new.self) c.edit.result c.in-Edit.is
    (subst (λ (t : List ℕ). IfOk c.edit.result (λ reply. IsEditAnswer (state_with kept c.args.self.now) t (answer reply (state_with kept c.edit.new.self)))) c.as_slice-in-Edit.ensures.value (c.edit.ensures.ok kept))

pub returns-in-Remove-clause-step : goal.returns-in-Remove-clause-step
returns-in-Remove-clause-step c = λ kept.
    answered c.args.command.now (Remove c.in-Remove.name) (state_with kept c.args.self.now) (state_with kept c.remove.new.self) c.remove.result c.in-Remove.is
    (subst (λ (t : List ℕ). IfOk c.remove.result (λ reply. answer reply (state_with kept c.remove.new.self) ≡ remove_answer (state_with kept c.args.self.now) t)) c.as_slice-in-Remove.ensures.value (c.remove.ensures.ok kept))

pub returns-in-Script-clause-step : goal.returns-in-Script-clause-step
returns-in-Script-clause-step c = λ kept.
    answered c.args.command.now (Script c.in-Script.text) (state_with kept c.args.self.now) (state_with kept c.set_script.new.self) c.set_script.result c.in-Script.is
    (subst (λ (t : List ℕ). IfOk c.set_script.result (λ reply. answer reply (state_with kept c.set_script.new.self) ≡ script_answer (state_with kept c.args.self.now) t)) c.as_slice-in-Script.ensures.value (c.set_script.ensures.ok kept))

pub returns-in-Show-clause-step : goal.returns-in-Show-clause-step
returns-in-Show-clause-step c = λ kept.
    answered c.args.command.now (Show c.in-Show.name) (state_with kept c.args.self.now) (state_with kept c.args.self.now) c.show.result c.in-Show.is
    (subst (λ (t : List ℕ). IfOk c.show.result (λ reply. answer reply (state_with kept c.args.self.now) ≡ show_answer (state_with kept c.args.self.now) t)) c.as_slice-in-Show.ensures.value (c.show.ensures.ok kept))

pub returns-in-Version-clause-step : goal.returns-in-Version-clause-step
returns-in-Version-clause-step c = λ kept.
    answered c.args.command.now Version (state_with kept c.args.self.now) (state_with kept c.args.self.now) c.version.result c.in-Version.is (c.version.ensures.ok kept)

pub returns-in-Modules-clause-step : goal.returns-in-Modules-clause-step
returns-in-Modules-clause-step c = λ kept.
    answered c.args.command.now Modules (state_with kept c.args.self.now) (state_with kept c.args.self.now) c.modules.result c.in-Modules.is (c.modules.ensures.ok kept)

pub returns-in-Ports-clause-step : goal.returns-in-Ports-clause-step
returns-in-Ports-clause-step c = λ kept.
    answered c.args.command.now (Ports c.in-Ports.name) (state_with kept c.args.self.now) (state_with kept c.args.self.now) c.ports.result c.in-Ports.is
    (subst (λ (t : List ℕ). IfOk c.ports.result (λ reply. answer reply (state_with kept c.args.self.now) ≡ ports_answer (state_with kept c.args.self.now) t)) c.as_slice-in-Ports.ensures.value (c.ports.ensures.ok kept))

pub returns-in-SimSource-clause-step : goal.returns-in-SimSource-clause-step
returns-in-SimSource-clause-step c = λ kept.
    answered c.args.command.now (SimSource c.in-SimSource.ask) (state_with kept c.args.self.now) (state_with kept c.args.self.now) c.run_source.result c.in-SimSource.is (c.run_source.ensures.ok kept)
