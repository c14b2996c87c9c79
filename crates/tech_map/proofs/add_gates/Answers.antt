use Rattle.std.proofs.Common.{◌≡◌, ◌++◌, ap, rules, subst, sym}
use Rattle.tech_map.specs.InPlace.{counts_of}
use Rattle.tech_map.specs.Techmap.{with_all_gates}
use Rattle.tech_map.proofs.Growing.{AreWhole, counts_here, gates_here, over_here, whole_here}
use Rattle.tech_map.proofs.add_gates.Goals as goal

pub returns-in_err-add_gates_of-clause-over : goal.returns-in_err-add_gates_of-clause-over
returns-in_err-add_gates_of-clause-over c e =
    over_here c.loop-cell.cell-iterator.rest.items c.next.new.self.rest.items c.in-Some.cell c.loop-cell.builder c.in-Some.ensures.steps.0 c.loop-cell.invariant.whole _ c.loop-cell.invariant.gates
    (search (rules, c.add_gates_of.ensures.over, e, c.from_residual.ensures))

pub loop-cell-init : goal.loop-cell-init
loop-cell-init c =
    let all : c.into_iter-cell-iterator.result.rest.items ≡ c.args.cells.items = c.into_iter-cell-iterator.ensures.into_iter_gives.0 in
    record {
      gates = ap (λ cells. with_all_gates cells c.args.builder.now) all;
      counts = (λ i. c.new-counts.ensures.items i ++ counts_of (all i) c.args.builder.now);
      whole = subst (λ cells. AreWhole cells c.args.builder.now) (sym all) c.requires.whole;
      within = λ h. h;
    }

pub loop-cell-preserved : goal.loop-cell-preserved
loop-cell-preserved c = record {
  gates = gates_here c.loop-cell.cell-iterator.rest.items c.next.new.self.rest.items c.in-Some.cell c.loop-cell.builder c.in-Some.ensures.steps.0 _ c.in_ok-add_gates_of.ensures.exact _ c.loop-cell.invariant.gates;
  counts = counts_here c.loop-cell.cell-iterator.rest.items c.next.new.self.rest.items c.in-Some.cell c.loop-cell.builder c.in-Some.ensures.steps.0 _ c.in_ok-add_gates_of.ensures.exact _ _ _ c.in_ok-add_gates_of.ensures.counts c.loop-cell.invariant.counts;
  whole = whole_here c.loop-cell.cell-iterator.rest.items c.next.new.self.rest.items c.in-Some.cell c.loop-cell.builder c.in-Some.ensures.steps.0 _ c.in_ok-add_gates_of.ensures.exact c.loop-cell.invariant.whole;
  within = λ h. c.in_ok-add_gates_of.ensures.within (c.loop-cell.invariant.within h);
}
