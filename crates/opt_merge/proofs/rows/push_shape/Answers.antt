use Rattle.std.proofs.Common.{◌∙◌, ap, ◌++◌}
use Rattle.opt_merge.specs.Rows.{bits_numbers}
use Rattle.opt_merge.proofs.Numbers.{shape_pushed}
use Rattle.opt_merge.proofs.rows.push_shape.Goals as goal

pub returns : goal.returns
returns c = record {
  ok = shape_pushed c.args.shape.now c.args.row.now.items _ _ _ _ _ _ c.in_ok-push.ensures.items c.in_ok-push_numbers.ensures.ok
      (c.in_ok-push_bits.ensures.ok ∙ ap (λ bs. c.push_numbers.new.row.items ++ bits_numbers bs) c.as_slice.ensures.value)
      (c.in_ok-push_bits-2.ensures.ok ∙ ap (λ bs. c.push_bits.new.row.items ++ bits_numbers bs) c.as_slice-2.ensures.value)
      (c.in_ok-push_bits-3.ensures.ok ∙ ap (λ bs. c.push_bits-2.new.row.items ++ bits_numbers bs) c.as_slice-3.ensures.value)
      (c.in_ok-push_bits-4.ensures.ok ∙ ap (λ bs. c.push_bits-3.new.row.items ++ bits_numbers bs) c.as_slice-4.ensures.value);
}
