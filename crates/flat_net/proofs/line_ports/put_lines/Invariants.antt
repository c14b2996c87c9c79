-- The ports so far and those of the lines that are left are all.
use Rattle.std.proofs.Common.{◌≡◌, ◌+◌, ◌++◌, [], drop, length, map}
use Rattle.rtl_ir.specs.declared.process.Event.{Event}
use Rattle.rtl_ir.specs.Flat.Access.{line_accesses}
use Rattle.net_model.specs.Mem.Gather.{write_port}
use Rattle.flat_net.proofs.line_ports.put_lines.Given as goal

abbrev pub invariant-loop-line : goal.invariant-loop-line
invariant-loop-line l = (event : Event) →
    l.fn.ports.items ++ map write_port (line_accesses l.name event (l.number + length l.fn.ports.items) [] l.lines)
    ≡ l.ports.items ++ map write_port (line_accesses l.name event (l.number + length l.ports.items) l.before.items (drop l.line-index l.lines))
