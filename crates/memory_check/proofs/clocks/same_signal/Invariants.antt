-- The places from here on decide.
use Rattle.std.proofs.Common.{◌≡◌, [], drop, map}
use Rattle.rtl_ir.specs.declared.module.Module.{Module}
use Rattle.rtl_ir.specs.Follow.{follow}
use Rattle.rtl_ir.specs.Types.{table_ports}
use Rattle.rtl_ir.specs.Signals.{same_signal}
use Rattle.net_index.specs.Drivers.{AreDrivers}
use Rattle.memory_check.proofs.clocks.same_signal.Given as goal

abbrev pub invariant-loop-at : goal.invariant-loop-at
invariant-loop-at l =
    (m : Module) → AreDrivers l.index (table_ports []) m
    → same_signal (map (follow m.links) (drop l.at l.one)) (map (follow m.links) (drop l.at l.other)) ≡ same_signal (map (follow m.links) l.one) (map (follow m.links) l.other)
