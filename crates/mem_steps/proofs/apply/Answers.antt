use Rattle.std.proofs.Common.{◌≡◌, [], false}
use Rattle.std.proofs.lemmas.Result.{IfOk-weaker}
use Rattle.rtl_ir.specs.Flat.Cell.{cell_kind}
use Rattle.rtl_ir.specs.declared.cell.Cell.{Cell}
use Rattle.rtl_ir.specs.declared.module.Module.{Module}
use Rattle.net_model.specs.Mem.Expand.{is_memory_kind}
use Rattle.net_model.specs.Within.{Each}
use Rattle.pass_laws.specs.Pass.{IsPass, StaysDriven}
use Rattle.mem_steps.proofs.Giving.{Gives, answer_gives, answered, passed}
use Rattle.mem_steps.proofs.apply.Goals as goal

pub returns : goal.returns
returns c =
    let m = c.args.module in
    let table = c.args.ports.now in
    let r = c.each_memory.result in
    let within = answered m r c.each_memory.ensures.exact c.each_memory.ensures.within in
    let gives = answer_gives table m c.requires.ready c.requires.named r within in
    record {
      exact = c.each_memory.ensures.exact;
      over = λ e. passed m (c.each_memory.ensures.over e);
      within = within;
      pass = IfOk-weaker r (Gives table m) (IsPass table m) (λ n g. g.pass) gives;
      driven = IfOk-weaker r (Gives table m) (StaysDriven m) (λ n g. g.driven) gives;
      memories_gone = IfOk-weaker r (Gives table m) (λ (n : Module). n.memories ≡ []) (λ n g. g.memories) gives;
      cells_gone = IfOk-weaker r (Gives table m) (λ (n : Module). Each (λ (k : Cell). is_memory_kind (cell_kind k) ≡ false) n.cells) (λ n g. g.cells) gives;
    }
