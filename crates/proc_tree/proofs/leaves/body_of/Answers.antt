use Rattle.std.proofs.Common.{[], ◌∷◌, ◌++◌, ◌∙◌, ap}
use Rattle.rtl_ir.specs.declared.module.Module.{Module}
use Rattle.proc_tree.proofs.LeafWays.{one_line}
use Rattle.proc_tree.proofs.leaves.body_of.Goals as goal

pub returns : goal.returns
returns c = record {
  value =
      one_line c.args.places.now c.in_ok-from_vec.field-0 c.in_ok-from_vec-2.field-0 (c.in_ok-from_vec.ensures.value ∙ c.in_ok-left.ensures.value) (c.in_ok-from_vec-2.ensures.value ∙ c.in_ok-right.ensures.value)
      c.push-2.new.self (c.in_ok-push.ensures.ok ∙ ap (λ (m : Module). m.links ++ record { left = c.in_ok-from_vec.field-0; right = c.in_ok-from_vec-2.field-0 } ∷ []) c.in_ok-body.ensures.value);
}
