use Rattle.std.proofs.Common.{◌∙◌, sym, subst, ap, length}
use Rattle.process_check.specs.Ends.{AreMarked}
use Rattle.process_check.proofs.Endings.{row_below, row_marked}
use Rattle.process_check.proofs.Searches.{length-rows}
use Rattle.process_check.proofs.ends.Ends.end.Goals as goal

pub are_marked-requires : goal.are_marked-requires
are_marked-requires c = record {
  below = row_below c.args.graph.now c.args.at c.index-graph-at.result c.requires.in_range c.index-graph-at.is c.requires.graph _
      (sym (length-rows c.args.graph.now) ∙ sym c.requires.ending.size ∙ ap length (sym c.as_slice.ensures.value)) c.as_slice-2.result.now c.as_slice-2.ensures.value;
}

pub returns-then-are_marked-clause-ending : goal.returns-then-are_marked-clause-ending
returns-then-are_marked-clause-ending c =
    row_marked c.args.graph.now c.args.self.now.ending.items c.args.at c.index-graph-at.result c.requires.in_range c.index-graph-at.is c.requires.ending c.as_slice-2.result.now c.as_slice-2.ensures.value
    (subst (λ marks. AreMarked marks c.as_slice-2.result.now) c.as_slice.ensures.value (c.if-are_marked.ensures.value))
