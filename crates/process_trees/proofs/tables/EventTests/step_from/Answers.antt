use Rattle.std.proofs.Common.{◌≡◌, Some, None, IfOk, sym, ◌∙◌, ap, subst}
use Rattle.std.specs.Prelude.{option_map}
use Rattle.cell_types.specs.Kind.{kind_of}
use Rattle.process_trees.specs.Steps.{combinational, step_as}
use Rattle.process_trees.proofs.Stepping.{behind_fits, step_of}
use Rattle.process_trees.proofs.tables.EventTests.step_from.Goals as goal

pub returns-in-Some-combinational : goal.returns-in-Some-combinational
returns-in-Some-combinational c = record {
  value = λ ports are fit.
      let m = c.args.module.now in
      let cell = c.in-Some.cell.now in
      let kind = c.in-Some-combinational.kind in
      let e = c.in-Some.ensures.value ports are in
      let is = sym c.in-Some-combinational.is ∙ c.combinational.ensures.value ∙ ap (λ n. combinational (kind_of n)) c.as_slice.ensures.value in
      subst (λ z. IfOk c.step_through.result (λ step. option_map step_as step ≡ z)) (step_of ports m c.args.bit cell (Some kind) e is)
      (c.step_through.ensures.value m.links are.links (behind_fits ports m c.args.bit cell kind fit e is));
}

pub returns-in-None : goal.returns-in-None
returns-in-None c = record {
  value = λ ports are fit.
      let m = c.args.module.now in
      let cell = c.in-Some.cell.now in
      let e = c.in-Some.ensures.value ports are in
      let is = sym c.in-None.is ∙ c.combinational.ensures.value ∙ ap (λ n. combinational (kind_of n)) c.as_slice.ensures.value in
      step_of ports m c.args.bit cell None e is;
}
