use Rattle.std.proofs.Common.{arith}
use Rattle.process_check.proofs.Updating.{given_more, given_same}
use Rattle.process_check.proofs.updates.put_bit.Goals as goal

pub returns-then-count_of-count : goal.returns-then-count_of-count
returns-then-count_of-count c = record {
  ok = λ before own given.
      given_same c.args.given.now.items c.args.most.now c.args.here.now c.one_more.new.counts before own c.args.bit c.in_ok-count.count given
      c.in_ok-count.ensures.count c.in_ok-count.ensures.counts (let low = c.if-count_of-count.true in let is = c.count_of.ensures.value in omega (arith, low, is));
}

pub returns : goal.returns
returns c = record {
  ok = λ before own given.
      rw c.in_ok-push.ensures.items
      (given_more c.args.given.now.items c.args.most.now c.set_count.new.counts c.args.here.now c.one_more.new.counts before own c.args.bit c.in_ok-count.count given
      c.in_ok-count.ensures.count c.in_ok-count.ensures.counts (let more = c.if-count_of-count.false in let is = c.count_of.ensures.value in omega (arith, more, is)) c.in_ok-set_count.ensures.counts);
}
