use Rattle.std.proofs.Common.{◌≡◌, Some, sym, subst}
use Rattle.std.specs.Prelude.{slice_get}
use Rattle.net_model.specs.Proc.Start.{wire_starts}
use Rattle.proc_tree.proofs.Placing.{begun_there, kept_wire}
use Rattle.proc_tree.proofs.wires.begun_wire.Goals as goal

pub returns-then-not-is_begun : goal.returns-then-not-is_begun
returns-then-not-is_begun c = record {
  value = kept_wire c.args.starts.now c.args.place c.args.wire.now c.is_begun.result c.is_begun.ensures.value c.if-not-is_begun.true c.copy.result c.copy.ensures.value;
}

pub returns : goal.returns
returns c = record {
  value =
      begun_there c.args.starts.now c.args.place c.args.wire.now c.is_begun.result c.is_begun.ensures.value c.if-not-is_begun.false c.in_ok-bits.bits
      (λ m are there. subst (λ place. c.in_ok-bits.bits ≡ wire_starts m place c.args.wire.now.width) c.in_ok-place.ensures.value
      (c.in_ok-bits.ensures.value m are (subst (λ place. slice_get m.wires place ≡ Some c.args.wire.now) (sym c.in_ok-place.ensures.value) there)))
      c.with_starts.result c.with_starts.ensures.value;
}
