use Rattle.std.proofs.Common.{◌≡◌, ◌∙◌}
use Rattle.rtl_ir.specs.declared.module.Module.{Module}
use Rattle.rtl_read.specs.declared.read_fault.ReadFault.TheVariants as faults
use Rattle.rtl_write.proofs.BodyLaws.{alone}
use Rattle.rtl_write.proofs.BodyAnswers.{named, given, modules_given, refused_memory, no_answer}
use Rattle.rtl_write.proofs.bodies.read_body.Goals as goal

pub returns-in-Ok : goal.returns-in-Ok
returns-in-Ok c = record {
  round_trip = λ m is e.
      let gives = c.read.ensures.only (alone (named m)) (given m c.args.text.now c.as_slice.result.now is e (c.as_slice.ensures.value ∙ c.in_ok-named.ensures.value)) in
      c.first_under.ensures.value (named m) (modules_given m c.read.result c.in-Ok.design gives c.in-Ok.is);
}

pub returns : goal.returns
returns c = record {
  round_trip = λ m is e.
      let gives = c.read.ensures.only (alone (named m)) (given m c.args.text.now c.as_slice.result.now is e (c.as_slice.ensures.value ∙ c.in_ok-named.ensures.value)) in
      no_answer (λ (read : Module). read ≡ record m { id = c.args.id.now }) c.unread.result (c.in-Err.fault ≡ faults.Memory) (refused_memory m c.read.result c.in-Err.fault gives c.in-Err.is) c.unread.ensures;
}
