use Rattle.readable_passes.proofs.Clean.{clean_reads}
use Rattle.readable_passes.proofs.Dff.{dff_reads}
use Rattle.readable_passes.proofs.Expr.{expr_reads}
use Rattle.readable_passes.proofs.Merge.{merge_reads}
use Rattle.readable_passes.proofs.Muxtree.{muxtree_reads}
use Rattle.readable_passes.proofs.Reduce.{reduce_reads}
use Rattle.readable_passes.proofs.Rounds.{opt_reads}
use Rattle.readable_passes.proofs.laws.optimized_modules_are_readable.Goals as goal

pub returns : goal.returns
returns c = record {
  folded = expr_reads;
  merged = merge_reads;
  cleaned = clean_reads;
  rounds = opt_reads;
  chosen = muxtree_reads;
  gathered = reduce_reads;
  settled = dff_reads;
}
