-- The ports so far made this of the bit.
use Rattle.std.proofs.Common.{◌≡◌, List, [], drop, length, map, take}
use Rattle.std.specs.List.{AllByRecursion}
use Rattle.rtl_ir.specs.Flat.Place.{Place}
use Rattle.net_model.specs.Words.{after_ports}
use Rattle.flat_net.specs.Points.{AreApart}
use Rattle.flat_net.specs.Within.{IsWritePortWithin}
use Rattle.flat_net.specs.Words.{ported_of, ports_at}
use Rattle.sim_eval.specs.Shown.{shown}
use Rattle.sim_eval.specs.Written.{number_hit, writers_of}
use Rattle.sim_eval.proofs.written.written.Given as goal

abbrev pub invariant-loop-port : goal.invariant-loop-port
invariant-loop-port l = record {
  writers : l.writers.items ≡ writers_of l.values l.bit.address l.bit.at (take l.port-index l.ports);
  goes : (ps : List Place) → AreApart ps → length ps ≡ length l.values → AllByRecursion (IsWritePortWithin (length ps)) l.ports →
      after_ports (shown ps l.values) l.bit.address [] (ports_at l.bit.at [] (map (ported_of ps) l.ports)) l.fn.old
      ≡ after_ports (shown ps l.values) l.bit.address (map (number_hit l.values l.bit.address l.bit.at) (take l.port-index l.ports))
      (ports_at l.bit.at (map (ported_of ps) (take l.port-index l.ports)) (map (ported_of ps) (drop l.port-index l.ports))) l.value;
}
