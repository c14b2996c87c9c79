use Rattle.rtl_ir.specs.Decisions.{expanded}
use Rattle.proc_reset.proofs.places.is_held.Goals as goal

pub returns : goal.returns
returns c = record {
  value = λ root bits are. c.are_all.ensures.value _ (expanded root bits c.args.source) (c.of_source.ensures.value root bits are);
}
