use Rattle.std.proofs.Common.{ltb, ltb-true, ltb-false, arith, rules}
use Rattle.std.proofs.lemmas.List.Sorted.{IsPartitionPoint-from_clause, IsPartitionedBy-ltb}
use Rattle.proc_latch.proofs.Searching.{below_take, from_drop, non_decreasing}
use Rattle.proc_latch.specs.declared.given.Given.{Given}
use Rattle.proc_latch.proofs.given.first_from.Goals as goal

pub returns : goal.returns
returns c =
    let given = c.args.given.now in
    let node = c.args.node in
    let parted = IsPartitionedBy-ltb (λ (g : Given). g.node) given node (non_decreasing given c.requires.in_order) in
    let point = IsPartitionPoint-from_clause (λ (g : Given). ltb g.node node) _ _ c.partition_point.ensures.partitioned parted (λ a r q k. search rules) in
    record {
      bound = c.partition_point.ensures.bound;
      before = below_take node given c.partition_point.result c.partition_point.ensures.bound (λ k d h. ltb-true _ _ (point.0 k d (omega arith) h));
      behind = from_drop node given c.partition_point.result (λ k d h i. ltb-false _ _ (point.1 k d h i));
    }
