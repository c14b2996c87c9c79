use Rattle.std.proofs.Common.{rules}
use Rattle.match_cells.proofs.Patterns.{pattern_over}
use Rattle.match_cells.proofs.cells.pattern_bits.Goals as goal

pub returns-in_err-pattern_bit-clause-over : goal.returns-in_err-pattern_bit-clause-over
returns-in_err-pattern_bit-clause-over c e =
    pattern_over c.args.signal.now c.args.patterns.now c.loop-pattern.pattern-index c.pattern-item.result c.loop-pattern-test.true c.pattern-item.is
    c.loop-pattern.bits c.loop-pattern.builder _ c.loop-pattern.invariant.all
    c.as_slice-in-loop-pattern.result.now (cc (c.as_slice-in-loop-pattern.ensures.value, c.in_ok-places.ensures.value, c.as_slice.ensures.value))
    (search (rules, c.pattern_bit.ensures.over, e, c.from_residual-in_err-pattern_bit.ensures))
