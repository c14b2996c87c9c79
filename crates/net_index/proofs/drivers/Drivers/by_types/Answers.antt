use Rattle.std.proofs.Common.{subst, ◌∙◌, ap}
use Rattle.rtl_ir.specs.Follow.{all_joins}
use Rattle.net_index.specs.IndexWays.{AreWays}
use Rattle.net_index.proofs.drivers.Drivers.by_types.Goals as goal

pub returns : goal.returns
returns c = record {
  value = λ ports are. record {
    table = c.in_ok-drivers_of.ensures.value ports are;
    ways =
        let joins = c.as_slice-4.ensures.value ∙ c.in_ok-joins.ensures.value ∙ ap all_joins c.as_slice.ensures.value in
        subst (AreWays c.in_ok-of.field-0) joins c.in_ok-of.ensures.ways;
  };
}
