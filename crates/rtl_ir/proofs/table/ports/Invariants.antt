-- The lines so far are those of the ports so far.
use Rattle.std.proofs.Common.{◌≡◌, map, take}
use Rattle.rtl_ir.specs.Ports.{line_of}
use Rattle.rtl_ir.proofs.table.ports.Given as goal

abbrev pub invariant-loop-wire : goal.invariant-loop-wire
invariant-loop-wire l = l.lines.items ≡ map line_of (map (λ w. w.now) (take l.wire-index l.wire-items))
