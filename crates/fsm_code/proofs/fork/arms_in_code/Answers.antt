-- The arms are followed, and then coded.
use Rattle.std.proofs.Common.{◌∙◌, ap, map}
use Rattle.net_model.specs.Fsm.Code.{coded}
use Rattle.fsm_code.specs.Outputs.{coding_of}
use Rattle.fsm_code.proofs.Placing.{arms_are}
use Rattle.fsm_code.proofs.fork.arms_in_code.Goals as goal

pub returns : goal.returns
returns c = record {
  value = λ ports m is t.
      arms_are m (coding_of c.args.coding.now) c.args.cell.now c.in_ok-old.old.items c.in_ok-new.new.items
      (c.in_ok-new.ensures.value t ∙ ap (map (coded (coding_of c.args.coding.now))) c.as_slice.ensures.value)
      (c.in_ok-old.ensures.value ports m is);
}
