use Rattle.std.proofs.lemmas.Result.{IfOk-weaker}
use Rattle.rtl_ir.specs.Types.{Ports, table_ports}
use Rattle.net_index.specs.Drivers.{AreDrivers}
use Rattle.net_index.specs.Types.{AreTypes}
use Rattle.net_index.specs.declared.drivers.Drivers.{Drivers}
use Rattle.net_index.proofs.drivers.Drivers.of.Goals as goal

pub returns : goal.returns
returns c = record {
  value =
      let m = c.args.module.now in
      let types = c.in_ok-types.types in
      let ports = table_ports c.args.ports.now.modules in
      IfOk-weaker c.by_types.result (λ (drivers : Drivers). (p : Ports) → AreTypes types p → AreDrivers drivers p m) (λ (drivers : Drivers). AreDrivers drivers ports m)
      (λ drivers all. all ports c.in_ok-types.ensures.value) c.by_types.ensures.value;
}
