use Rattle.rtl_ir.specs.Types.{table_ports}
use Rattle.net_index.proofs.index.Index.of.Goals as goal

pub of-requires : goal.of-requires
of-requires c = record { typed = (table_ports c.args.ports.now.modules, c.in_ok-types.ensures.value) }

pub returns : goal.returns
returns c = record {
  value = record {
    drivers = c.in_ok-by_types.ensures.value (table_ports c.args.ports.now.modules) c.in_ok-types.ensures.value;
    readers = c.in_ok-of.ensures.value (table_ports c.args.ports.now.modules) c.in_ok-types.ensures.value;
  };
}
