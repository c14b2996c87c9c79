use Rattle.std.proofs.Common.{◌<◌, ◌∙◌, ap, length, subst, sym}
use Rattle.process_check.specs.Ends.{AreBelow, AreEnding}
use Rattle.process_check.specs.Search.{rows_of}
use Rattle.process_check.proofs.Endings.{popped_below, rest_below, row_below}
use Rattle.process_check.proofs.ends.ending_places.Goals as goal

pub end-requires-clause-in_range : goal.end-requires-clause-in_range
end-requires-clause-in_range c = popped_below (length c.args.graph.now) c.loop-at.ends.waiting.items c.pop.new.self.items c.in-Some.at c.in-Some.ensures.items c.loop-at.invariant.waiting

pub index-requires : goal.index-requires
index-requires c =
    subst (λ n. c.in-Some.at < n) (sym (c.in_ok-leading.leading.ok.0 ∙ c.in_ok-leading.ensures.size))
    (popped_below (length c.args.graph.now) c.loop-at.ends.waiting.items c.pop.new.self.items c.in-Some.at c.in-Some.ensures.items c.loop-at.invariant.waiting)

pub free_all-requires-clause-below : goal.free_all-requires-clause-below
free_all-requires-clause-below c =
    row_below c.in_ok-leading.leading.items c.in-Some.at c.index.result.now
    (subst (λ n. c.in-Some.at < n) (sym c.in_ok-leading.ensures.size) (popped_below (length c.args.graph.now) c.loop-at.ends.waiting.items c.pop.new.self.items c.in-Some.at c.in-Some.ensures.items c.loop-at.invariant.waiting))
    c.index.ensures c.in_ok-leading.ensures.graph (length c.end.new.self.left.items)
    (c.in_ok-leading.ensures.size ∙ sym (ap (λ left. length left.items) c.end.ensures.left ∙ c.loop-at.invariant.left)) c.as_slice.result.now c.as_slice.ensures.value

pub free_all-requires-clause-waiting : goal.free_all-requires-clause-waiting
free_all-requires-clause-waiting c =
    subst (λ n. AreBelow n c.end.new.self.waiting.items) (sym (ap (λ left. length left.items) c.end.ensures.left ∙ c.loop-at.invariant.left))
    (subst (λ waiting. AreBelow (length c.args.graph.now) waiting.items) (sym c.end.ensures.waiting)
    (rest_below (length c.args.graph.now) c.loop-at.ends.waiting.items c.pop.new.self.items c.in-Some.at c.in-Some.ensures.items c.loop-at.invariant.waiting))

pub loop-at-preserved : goal.loop-at-preserved
loop-at-preserved c = record {
  ending = subst (λ marks. AreEnding (rows_of c.args.graph.now) marks.items) (sym c.in_ok-free_all.ensures.ending) c.end.ensures.ending;
  left = c.in_ok-free_all.ensures.left ∙ ap (λ left. length left.items) c.end.ensures.left ∙ c.loop-at.invariant.left;
  waiting = subst (λ n. AreBelow n c.free_all.new.self.waiting.items) (ap (λ left. length left.items) c.end.ensures.left ∙ c.loop-at.invariant.left) c.in_ok-free_all.ensures.waiting;
}
