use Rattle.std.proofs.Common.{[], ◌∙◌}
use Rattle.rtl_ir.specs.Types.{table_ports}
use Rattle.rtl_ir.specs.Signals.{same_place}
use Rattle.memory_check.proofs.clocks.have_same_end.Goals as goal

pub returns : goal.returns
returns c = record {
  value = λ m is.
      let here = c.follow-here.ensures.value (table_ports []) m is in
      let there = c.follow-there.ensures.value (table_ports []) m is in
      c.same_place.ensures.value ∙ (λ i. same_place (here i) (there i));
}
