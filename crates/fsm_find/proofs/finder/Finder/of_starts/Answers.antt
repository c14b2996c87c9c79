use Rattle.std.proofs.Common.{length}
use Rattle.net_model.specs.Fsm.Find.{made_machine}
use Rattle.fsm_find.proofs.Machining.{found_draft, found_few}
use Rattle.fsm_find.proofs.TreeFound.{none_case, some_case}
use Rattle.fsm_find.proofs.finder.Finder.of_starts.Goals as goal

pub returns-in_ok-machine-in-Some : goal.returns-in_ok-machine-in-Some
returns-in_ok-machine-in-Some c = record {
  exact = λ ports k t is view are found.
      let m = c.args.self.now.body.now in
      let state = c.args.candidate.now.view.state in
      let s = some_case _ _ _ _ c.in-Some.is c.in_ok-states.ensures.value in
      c.in_ok-machine-in-Some.ensures.exact ports k (made_machine m c.args.candidate.now.place state c.args.candidate.now.flop k t) is view
      (found_draft ports m c.args.candidate.now.place state c.args.candidate.now.flop k t c.args.reach found (length c.as_slice-width.result.now) c.args.starts are c.in_ok-states.ensures.told c.in-Some.states.items s.0 s.1);
}

pub returns-in-None : goal.returns-in-None
returns-in-None c = record {
  exact = λ ports k t is view are found.
      found_few ports c.args.self.now.body.now c.args.candidate.now.place c.args.candidate.now.view.state c.args.candidate.now.flop k t c.args.reach found (length c.as_slice-width.result.now) c.args.starts are c.in_ok-states.ensures.told
      (none_case _ _ _ c.in-None.is c.in_ok-states.ensures.value);
}
