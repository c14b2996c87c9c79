use Rattle.std.proofs.Common.{◌∙◌, ap, sym, Some}
use Rattle.rtl_check.specs.declared.fault.CheckFault.TheVariants as check
use Rattle.process_check.specs.Search.{rows_of}
use Rattle.rtl_check.proofs.Recursions.{graph_is, id_is, recursive_is, recursion_here, recursion_next}
use Rattle.rtl_check.proofs.recursion.check_recursion.Goals as goal

pub ending_places-requires : goal.ending_places-requires
ending_places-requires c = record {
  graph = graph_is c.args.modules.now c.as_slice.result.now (ap (λ rows. rows_of rows) c.as_slice.ensures.value ∙ c.in_ok-graph.ensures.rows);
}

pub is_recursive-requires-clause-graph : goal.is_recursive-requires-clause-graph
is_recursive-requires-clause-graph c = graph_is c.args.modules.now c.as_slice-in-loop-at.result.now (ap (λ rows. rows_of rows) c.as_slice-in-loop-at.ensures.value ∙ c.in_ok-graph.ensures.rows)

pub returns-then-branch : goal.returns-then-branch
returns-then-branch c = record {
  first = recursion_here c.args.modules.now c.loop-at.at c.loop-at-test.true
      (sym (recursive_is c.args.modules.now c.as_slice-in-loop-at.result.now (ap (λ rows. rows_of rows) c.as_slice-in-loop-at.ensures.value ∙ c.in_ok-graph.ensures.rows) c.loop-at.at c.in_ok-is_recursive.field-0 c.in_ok-is_recursive.ensures.value) ∙ c.if-branch.true)
      c.loop-at.invariant
      ∙ ap (λ id. Some (check.Recursion id)) (id_is c.args.modules.now c.loop-at.at c.index-modules-at.result c.loop-at-test.true c.in_ok-copy.field-0 c.in_ok-copy.ensures.value);
}

pub loop-at-preserved : goal.loop-at-preserved
loop-at-preserved c = recursion_next c.args.modules.now c.loop-at.at c.loop-at-test.true
    (sym (recursive_is c.args.modules.now c.as_slice-in-loop-at.result.now (ap (λ rows. rows_of rows) c.as_slice-in-loop-at.ensures.value ∙ c.in_ok-graph.ensures.rows) c.loop-at.at c.in_ok-is_recursive.field-0 c.in_ok-is_recursive.ensures.value) ∙ c.if-branch.false)
    c.loop-at.invariant
