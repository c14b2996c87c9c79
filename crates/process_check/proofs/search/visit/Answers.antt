use Rattle.std.proofs.Common.{◌∙◌}
use Rattle.process_check.proofs.Searches.{found_next, goes_on, next_fits, visited_all}
use Rattle.process_check.proofs.search.visit.Goals as goal

pub returns-then-next-start-clause-back : goal.returns-then-next-start-clause-back
returns-then-next-start-clause-back c =
    found_next c.args.graph.now c.args.start c.args.at c.index-graph-at.result c.deref-next-items.result.now (record { inside = c.requires.visiting.here.0; is = c.index-graph-at.is; items_are = c.deref-next-items.ensures.value })
    c.loop-next.next-index c.loop-next-test.true c.if-next-start.true c.loop-next.search.seen.items c.loop-next.search.waiting.items _ c.loop-next.invariant.visiting

pub look_at-requires : goal.look_at-requires
look_at-requires c = record {
  in_range =
      next_fits c.args.graph.now c.args.start c.args.at c.index-graph-at.result c.deref-next-items.result.now (record { inside = c.requires.visiting.here.0; is = c.index-graph-at.is; items_are = c.deref-next-items.ensures.value })
      c.loop-next.next-index c.loop-next-test.true c.requires.graph c.loop-next.search.seen.items c.loop-next.invariant.visiting.are;
}

pub loop-next-preserved : goal.loop-next-preserved
loop-next-preserved c =
    let on =
    goes_on c.args.graph.now c.args.start c.args.at c.index-graph-at.result c.deref-next-items.result.now (record { inside = c.requires.visiting.here.0; is = c.index-graph-at.is; items_are = c.deref-next-items.ensures.value })
    c.loop-next.next-index c.loop-next-test.true c.if-next-start.false c.requires.graph c.loop-next.search.seen.items c.loop-next.search.waiting.items c.loop-next.invariant.visiting
    c.look_at.new.search.seen.items c.look_at.new.search.waiting.items c.in_ok-look_at.ensures.seen c.in_ok-look_at.ensures.waiting in
    record { visiting = on.visiting; work = on.work ∙ c.loop-next.invariant.work }

pub returns-clause-searching : goal.returns-clause-searching
returns-clause-searching c =
    visited_all c.args.graph.now c.args.start c.args.at c.index-graph-at.result c.deref-next-items.result.now (record { inside = c.requires.visiting.here.0; is = c.index-graph-at.is; items_are = c.deref-next-items.ensures.value })
    c.loop-next.next-index c.loop-next-test.false c.loop-next.search.seen.items c.loop-next.search.waiting.items c.loop-next.invariant.visiting
