-- The tables so far are those of the instances so far.
use Rattle.std.proofs.Common.{◌≡◌, map, take}
use Rattle.rtl_ir.specs.Ports.{ports_by_module}
use Rattle.rtl_ir.proofs.table.DesignPorts.table_of.Given as goal

abbrev pub invariant-loop-instance : goal.invariant-loop-instance
invariant-loop-instance l = l.tables.items ≡ map ports_by_module (map (λ m. m.now) (take l.instance-index l.instance-items))
