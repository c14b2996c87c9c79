use Rattle.std.proofs.Common.{◌≡◌}
use Rattle.std.proofs.lemmas.Result.{IfOk-weaker}
use Rattle.rtl_ir.specs.Types.{table_ports}
use Rattle.fsm_steps.specs.declared.Recoded.{Recoded}
use Rattle.pass_laws.specs.Pass.{IsPass, StaysDriven}
use Rattle.pass_laws.proofs.Faultless.{plain}
use Rattle.fsm_steps.proofs.Giving.{Gives, answer_gives, answered, passed}
use Rattle.fsm_steps.proofs.recode_all.Goals as goal

pub each_machine-requires : goal.each_machine-requires
each_machine-requires c = record { process_free = (plain (table_ports c.args.ports.now.modules) c.args.module c.requires.ready.faultless).processes }

pub returns : goal.returns
returns c =
    let m = c.args.module in
    let table = c.args.ports.now in
    let ports = table_ports table.modules in
    let r = c.each_machine.result in
    let within = answered ports m r c.each_machine.ensures.exact c.each_machine.ensures.within in
    let gives = answer_gives table m c.requires.ready r within in
    record {
      exact = within;
      same = c.each_machine.ensures.same;
      over = λ e. passed ports m (c.each_machine.ensures.over e);
      pass = IfOk-weaker r (λ (done : Recoded). Gives table m done.after) (λ done. IsPass table m done.after) (λ done g. g.pass) gives;
      driven = IfOk-weaker r (λ (done : Recoded). Gives table m done.after) (λ done. StaysDriven m done.after) (λ done g. g.driven) gives;
      same_memories = IfOk-weaker r (λ (done : Recoded). Gives table m done.after) (λ done. done.after.memories ≡ m.memories) (λ done g. g.memories) gives;
    }
