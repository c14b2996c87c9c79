use Rattle.opt_merge.specs.Merge.{first_of}
use Rattle.opt_merge.proofs.Whole.{state_over, swept_cells, swept_links}
use Rattle.opt_merge.proofs.swept.Goals as goal

pub returns : goal.returns
returns c =
    let m = c.args.module.now in
    let seen = c.as_slice.ensures.value in
    record {
      kept = λ once. swept_cells m c.as_slice.result.now c.visit_all.new.self seen (c.in_ok-visit_all.ensures.state m.wires m.links (first_of m) (state_over m c.as_slice.result.now c.in_ok-merger.merger seen (c.in_ok-merger.ensures.state once)));
      links = λ once. swept_links m c.as_slice.result.now c.visit_all.new.self seen (c.in_ok-visit_all.ensures.state m.wires m.links (first_of m) (state_over m c.as_slice.result.now c.in_ok-merger.merger seen (c.in_ok-merger.ensures.state once)));
    }
