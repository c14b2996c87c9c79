use Rattle.std.proofs.Common.{◌≡◌, ◌++◌, take}
use Rattle.std.specs.List.{flat_map}
use Rattle.rtl_write.specs.Ports.{port_text}
use Rattle.rtl_write.proofs.ports.put_ports.Given as goal

-- what was passed so far is written
abbrev pub invariant-loop-port : goal.invariant-loop-port
invariant-loop-port l = l.out ≡ l.initial.out ++ flat_map port_text (take l.port-index l.ports)
