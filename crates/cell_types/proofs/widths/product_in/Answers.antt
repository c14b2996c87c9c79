use Rattle.std.proofs.Common.{◌^◌, ◌-◌, arith}
use Rattle.cell_types.proofs.NumberLemmas.{product_is}
use Rattle.cell_types.proofs.widths.product_in.Goals as goal

pub returns : goal.returns
returns c = record {
  value = product_is _ _ _ _ (2 ^ 128 - 1) (2 ^ 64) _ (omega arith) (omega arith) c.number_in.ensures.value c.number_in-2.ensures.value (omega arith);
}
