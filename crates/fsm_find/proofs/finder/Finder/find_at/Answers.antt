use Rattle.std.proofs.Common.{Some, ◌∙◌, ap, sym, refl}
use Rattle.net_model.specs.Fsm.Find.{start_bits, whole_wire}
use Rattle.fsm_parts.specs.SignalTable.{place_in}
use Rattle.fsm_find.proofs.Searching.{of_flop}
use Rattle.fsm_find.proofs.Stating.{start_is}
use Rattle.fsm_find.proofs.finder.Finder.find_at.Goals as goal

pub returns-in_ok-machine-in-Some : goal.returns-in_ok-machine-in-Some
returns-in_ok-machine-in-Some c = record {
  exact = λ ports is at.
      let m = c.args.self.now.body.now in
      let w = c.args.wire.now in
      let state = c.in_ok-state.ensures.value w refl in
      let flop = sym c.in-Some.is ∙ c.in_ok-flop.ensures.value ∙ ap (place_in c.args.self.now.flops) (c.as_slice.ensures.value ∙ state) ∙ is.flops (whole_wire c.args.place w) in
      c.in_ok-machine-in-Some.ensures.exact ports is (record { index = is.index; forks = is.forks }) (ap (start_bits m) state ∙ start_is m c.args.place w is.no_process at)
      ∙ of_flop ports m c.args.place w at (sym c.in_ok-may_be_state.ensures.value ∙ c.if-not-branch.false) (Some c.in-Some.flop) flop c.in_ok-state.state state;
}
