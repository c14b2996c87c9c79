use Rattle.std.proofs.Common.{subst, sym, length}
use Rattle.std.specs.Bool.{OnTrue}
use Rattle.process_check.specs.Search.{Searching, Within, rows_of}
use Rattle.process_check.proofs.Searches.{popped, searched, within_true, none_left}
use Rattle.process_check.proofs.search.leads_back.Goals as goal

pub visit-requires-clause-visiting : goal.visit-requires-clause-visiting
visit-requires-clause-visiting c =
    popped (rows_of c.args.graph.now) c.args.start c.loop-at.search.seen.items c.pop.new.self.items c.in-Some.at
    (subst (Searching (rows_of c.args.graph.now) c.args.start c.loop-at.search.seen.items) c.in-Some.ensures.items c.loop-at.invariant)

pub returns-then-branch : goal.returns-then-branch
returns-then-branch c = record {
  value = sym (within_true (rows_of c.args.graph.now) (length c.args.graph.now) c.args.start c.args.start
      (subst (λ b. OnTrue b (Within (rows_of c.args.graph.now) (length c.args.graph.now) c.args.start c.args.start)) c.if-branch.true c.in_ok-visit.ensures.back));
}

pub returns : goal.returns
returns c = record {
  value = sym (searched (rows_of c.args.graph.now) c.args.start c.loop-at.search.seen.items (subst (Searching (rows_of c.args.graph.now) c.args.start c.loop-at.search.seen.items) (none_left _ _ _ c.in_default.ensures.items c.in_default.ensures.rest c.in_default.ensures.cases.0) c.loop-at.invariant) (length c.args.graph.now));
}
