use Rattle.std.proofs.Common.{refl, sym, ◌∙◌, ap}
use Rattle.net_model.specs.Fsm.Find.{followed_bits, meets_any}
use Rattle.fsm_find.proofs.Comparing.{port_well}
use Rattle.fsm_find.proofs.readers.port_reads_well.Goals as goal

pub returns : goal.returns
returns c = record {
  value = λ ports m bits view marks.
      port_well _ c.meets-met.result _ (sym c.is_output.ensures.value ∙ c.if-not-is_output.false)
      (c.meets-met.ensures.value ports m bits view marks ∙ ap (λ s. meets_any (followed_bits m s) bits) (c.as_slice.ensures.value ∙ c.in_ok-signal.ensures.value c.args.wire.now refl));
}
