use Rattle.std.proofs.Common.{rules}
use Rattle.match_cells.specs.Trees.{new_match, seen}
use Rattle.match_cells.proofs.Steps.{match_over}
use Rattle.match_cells.proofs.trees.Trees.new_match.Goals as goal

pub returns-in_err-bits-clause-over : goal.returns-in_err-bits-clause-over
unfolding new_match
returns-in_err-bits-clause-over c e = match_over c.args.node c.args.signal.now c.args.patterns.now (seen c.args.self.now) (search (rules, c.pattern_bits.ensures.over, e, c.from_residual.ensures))
