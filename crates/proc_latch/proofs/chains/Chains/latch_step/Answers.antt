use Rattle.std.proofs.Common.{rules}
use Rattle.rtl_ir.specs.Assigns.{tree_bits}
use Rattle.match_cells.specs.Trees.{seen}
use Rattle.proc_latch.proofs.Stepping.{data_over}
use Rattle.proc_latch.proofs.chains.Chains.latch_step.Goals as goal

pub returns-in_err-new-clause-over : goal.returns-in_err-new-clause-over
returns-in_err-new-clause-over c e =
    data_over c.args.root.now (tree_bits c.args.root.now) (record { bit = c.args.own; source = c.args.source }) (seen c.args.self.now.trees) (search (rules, c.side_value.ensures.over, e, c.from_residual.ensures))
