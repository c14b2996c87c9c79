use Rattle.std.proofs.Common.{◌∙◌}
use Rattle.fsm_find.proofs.Searching.{no_tree, with_tree}
use Rattle.fsm_find.proofs.TreeFound.{none_case, some_case}
use Rattle.fsm_find.proofs.finder.Finder.of_cell.Goals as goal

pub returns-in_ok-machine-in-Some : goal.returns-in_ok-machine-in-Some
returns-in_ok-machine-in-Some c = record {
  exact = λ ports is view start cell.
      let found = some_case _ _ _ _ c.in-Some.is (c.in_ok-reach.ensures.value ports view) in
      c.in_ok-machine-in-Some.ensures.exact ports found.0 is view start found.2
      ∙ with_tree ports c.args.self.now.body.now c.args.candidate.now.place c.args.candidate.now.view.state c.args.candidate.now.flop c.args.cell.now cell found.0 found.1;
}

pub returns-in-None : goal.returns-in-None
returns-in-None c = record {
  exact = λ ports is view start cell. no_tree ports c.args.self.now.body.now c.args.candidate.now.place c.args.candidate.now.view.state c.args.candidate.now.flop c.args.cell.now cell (none_case _ _ _ c.in-None.is (c.in_ok-reach.ensures.value ports view));
}
