use Rattle.std.proofs.Common.{subst, ap, ◌∙◌}
use Rattle.std.specs.Prelude.{map}
use Rattle.rtl_ir.specs.Types.{cell_type}
use Rattle.net_index.specs.Types.{IsType}
use Rattle.follow_laws.specs.Inputs.{followed_pin}
use Rattle.opt_clean.proofs.followed.followed_cell.Goals as goal

pub returns : goal.returns
returns c = record {
  value = λ ports m are is.
      let type = cell_type ports c.args.cell.kind_name in
      let t : IsType c.find-cell_type.result type = subst (λ name. IsType c.find-cell_type.result (cell_type ports name)) c.as_slice.ensures.value (c.find-cell_type.ensures.value ports are) in
      let pins = c.in_ok-turned.ensures.value type ports m t is ∙ ap (map (followed_pin type m.links)) c.into_vec.ensures.value in
      λ i. record c.args.cell { pins = pins i };
  same = λ e. let pins = c.in_ok-turned.ensures.same e ∙ c.into_vec.ensures.value in λ i. record c.args.cell { pins = pins i };
}
