use Rattle.std.proofs.Common.{◌++◌, Some, option_map, sym, ◌∙◌, ap}
use Rattle.net_model.specs.Proc.Reset.{reset_by}
use Rattle.process_trees.specs.Edge.{edge_as}
use Rattle.proc_reset.proofs.Choosing.{answer_is}
use Rattle.proc_reset.proofs.process.by_second.Goals as goal

pub returns-in-Some : goal.returns-in-Some
returns-in-Some c = record {
  value = λ ports is.
      let m = c.args.setting.now.outer.now.«module».now in
      let others = c.args.setting.now.others.now.before.now ++ c.args.setting.now.others.now.after.now in
      let edge = sym (ap (option_map edge_as) c.in-Some.is) ∙ c.edge_bit.ensures.value in
      answer_is c.by_edges.result _ _ (λ i. reset_by ports m others c.args.setting.now.process.now (c.as_slice.ensures.value i) (Some (edge_as c.args.one)) (edge i)) (c.by_edges.ensures.value ports is);
}

pub returns-in-None : goal.returns-in-None
returns-in-None c = record {
  value = λ ports is.
      let m = c.args.setting.now.outer.now.«module».now in
      let others = c.args.setting.now.others.now.before.now ++ c.args.setting.now.others.now.after.now in
      let edge = sym (ap (option_map edge_as) c.in-None.is) ∙ c.edge_bit.ensures.value in
      answer_is c.copy.result _ _ (λ i. reset_by ports m others c.args.setting.now.process.now c.args.first.now.updates (Some (edge_as c.args.one)) (edge i)) c.copy.ensures.value;
}
