use Rattle.std.proofs.Common.{ap, length, subst, ◌∙◌}
use Rattle.match_cells.proofs.Numbering.{has_root}
use Rattle.process_trees.specs.Reaching.{AreReaching}
use Rattle.proc_latch.proofs.reading.tables_of.Goals as goal

pub returns : goal.returns
returns c = record {
  tables = record {
    nodes = has_root c.args.root.now _ c.in_ok-nodes_behind.ensures.value;
    count = ap length c.in_ok-nodes_behind.ensures.value;
    bits = c.in_ok-bits.ensures.list;
    listed = c.in_ok-bits.ensures.table;
    given = c.in_ok-of.ensures.value;
    reaching = subst (AreReaching c.in_ok-reaching.reaching c.args.root.now) (c.as_slice.ensures.value ∙ c.in_ok-bits.ensures.list) c.in_ok-reaching.ensures.value;
  };
}
