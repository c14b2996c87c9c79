use Rattle.std.proofs.Common.{◌∙◌, ap, sym, subst, take, take_all, add-one}
use Rattle.std.proofs.Math.Seq.{take-suc}
use Rattle.process_check.specs.Updates.{AreGiven, AreRaised}
use Rattle.process_check.proofs.updates.put_bits.Goals as goal

pub loop-bit-preserved : goal.loop-bit-preserved
loop-bit-preserved c = λ counts.
    let own = c.args.own.now in
    let i = c.loop-bit.bit-index in
    subst (AreGiven c.put_bit.new.given.items c.put_bit.new.most c.put_bit.new.here c.args.given.now.items)
    (sym (ap (λ n. take n own) (add-one i) ∙ take-suc own i _ c.loop-bit-test.true))
    (c.in_ok-put_bit.ensures.ok c.args.given.now.items (take i own) (c.loop-bit.invariant counts))

pub returns-clause-raised : goal.returns-clause-raised
returns-clause-raised c = λ counts.
    subst (λ own. AreRaised c.args.given.now.items own c.loop-bit.given.items) (take_all c.loop-bit.bit-index c.args.own.now c.loop-bit-test.false) (c.loop-bit.invariant counts).raised
