use Rattle.std.proofs.Common.{sym, ◌∙◌, ap, drop}
use Rattle.rtl_ir.specs.Signals.{has_bit}
use Rattle.net_index.proofs.DriverMarks.{once_same}
use Rattle.proc_latch.proofs.bits.each_once.Goals as goal

pub returns-clause-table : goal.returns-clause-table
returns-clause-table c = λ b.
    c.loop-at.invariant.seen b
    ∙ sym (once_same (drop c.loop-at.at c.args.bits.now) b)
    ∙ ap (λ bits. has_bit bits b) (sym (c.reverse.ensures.items ∙ c.loop-at.invariant.once))
