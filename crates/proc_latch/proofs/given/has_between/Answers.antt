use Rattle.std.proofs.Common.{ltb-false, ltb-true, sym}
use Rattle.proc_latch.proofs.Searching.{found_at, none_at}
use Rattle.proc_latch.proofs.given.has_between.Goals as goal

pub returns-in-Some : goal.returns-in-Some
returns-in-Some c = record {
  value =
      sym
      (found_at c.args.given.now c.requires.in_order c.args.low c.args.high c.first_from.result c.first_from.ensures.before c.first_from.ensures.behind _
      (ltb-true _ _ (sym c.in-Some.ensures.lookup.0)) c.in-Some.one.now c.in-Some.ensures.lookup.1);
}

pub returns-in-None : goal.returns-in-None
returns-in-None c = record {
  value =
      sym
      (none_at c.args.given.now c.requires.in_order c.args.low c.args.high c.first_from.result c.first_from.ensures.before c.first_from.ensures.behind
      (ltb-false _ _ (sym c.in-None.ensures.lookup.0)));
}
