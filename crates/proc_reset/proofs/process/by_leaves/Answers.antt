use Rattle.std.proofs.Common.{◌++◌, refl, ◌∙◌, ap}
use Rattle.net_model.specs.Proc.Reset.{reset_rule, with_level, with_reset}
use Rattle.process_trees.specs.Edge.{edge_as}
use Rattle.proc_reset.specs.Places.{leaves_at}
use Rattle.proc_reset.proofs.Choosing.{answer_is}
use Rattle.proc_reset.proofs.Leveled.{leveled}
use Rattle.proc_reset.proofs.process.by_leaves.Goals as goal

pub returns : goal.returns
returns c = record {
  value = λ ports active is active_is leaves.
      let p = c.args.setting.now.process.now in
      let m = c.args.setting.now.outer.now.«module».now in
      let others = c.args.setting.now.others.now.before.now ++ c.args.setting.now.others.now.after.now in
      let reset = edge_as c.args.reset in
      let lines = c.args.lines.now in
      let rule = reset_rule (leaves_at active c.args.bits.now) reset lines in
      answer_is c.process_with.result _ (with_level ports m others p reset lines)
      (leveled ports m others p reset lines c.args.bits.now c.requires.bits active active_is rule refl
      c.in_ok-syncs.syncs (c.in_ok-syncs.ensures.value active c.args.bits.now leaves ∙ ap (λ rs. with_reset reset.bit rule rs) c.as_slice.ensures.value)
      _ refl c.in_ok-root.root (c.in_ok-root.ensures.value ports active is leaves) p.name refl p.attributes refl)
      c.process_with.ensures.value;
}
