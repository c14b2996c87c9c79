use Rattle.std.proofs.Common.{◌∙◌, ap, arith}
use Rattle.opt_merge.specs.Traits.{output_of}
use Rattle.opt_merge.proofs.Sofar.{get_at, get_there, get_within}
use Rattle.opt_merge.proofs.Stepping.{found, state_joined}
use Rattle.opt_merge.proofs.merger.Merger.merge.Goals as goal

pub returns-then-first-cells : goal.returns-then-first-cells
returns-then-first-cells c = record {
  state = λ wires before s d here own row settled is.
      absurd (
      let f = found wires before c.args.cells.now c.args.at s d here c.args.kind own c.args.self.now is settled c.args.first row in
      let lt = get_within c.args.cells.now c.args.first f.cell f.there in
      omega (arith, lt, c.if-first-cells.true));
}

pub returns : goal.returns
returns c = record {
  state = λ wires before s d here own row settled is.
      state_joined wires before c.args.cells.now c.args.at s d here c.args.kind own c.args.self.now c.join.new.self is settled c.args.first row c.index-cells-first.result
      (get_at c.args.cells.now c.args.first c.index-cells-first.result c.index-cells-first.result (omega (arith, c.if-first-cells.false)) c.index-cells-first.is)
      c.output_of.result.now c.output_of-2.result.now
      (c.output_of.ensures.value ∙ ap (output_of c.args.kind) (c.index-cells-at.is ∙ get_there c.args.cells.now c.args.at d here c.index-cells-at.result)) c.output_of-2.ensures.value
      c.in_ok-join.ensures.rest.0 c.in_ok-join.ensures.rest.1 c.in_ok-join.ensures.links (c.in_ok-join.ensures.entries wires s.links is.view);
}
