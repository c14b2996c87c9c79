use Rattle.std.proofs.Common.{[], ◌+◌, ◌∙◌, ap, subst, sym}
use Rattle.rtl_ir.specs.Flat.Start.{start_of}
use Rattle.opt_merge.specs.Merge.{after_kind}
use Rattle.opt_merge.specs.State.{IsState}
use Rattle.opt_merge.specs.Traits.{merging_kind}
use Rattle.opt_merge.proofs.Sofar.{get_there}
use Rattle.opt_merge.proofs.merger.Merger.visit.Goals as goal

pub returns-in_ok-compare-in-Some : goal.returns-in_ok-compare-in-Some
returns-in_ok-compare-in-Some c = record {
  state = λ wires before s d here is.
      let own = ap merging_kind (sym (c.index-cells-at.is ∙ get_there c.args.cells.now c.args.at d here c.index-cells-at.result)) ∙ sym c.in_ok-kind.ensures.value ∙ c.in-Some.is in
      subst (λ o. IsState c.compare.new.self wires before c.args.cells.now (c.args.at + 1) (after_kind (start_of wires []) s d o)) (sym own) (c.in_ok-compare-in-Some.ensures.state wires before s d here own is);
}

pub returns-in_ok-stay-in-None : goal.returns-in_ok-stay-in-None
returns-in_ok-stay-in-None c = record {
  state = λ wires before s d here is.
      let none = ap merging_kind (sym (c.index-cells-at.is ∙ get_there c.args.cells.now c.args.at d here c.index-cells-at.result)) ∙ sym c.in_ok-kind.ensures.value ∙ c.in-None.is in
      subst (λ o. IsState c.stay.new.self wires before c.args.cells.now (c.args.at + 1) (after_kind (start_of wires []) s d o)) (sym none) (c.in_ok-stay-in-None.ensures.state c.args.cells.now wires before s d here none is);
}
