-- The ports so far are those of the wires so far, each with its place.
use Rattle.std.proofs.Common.{◌≡◌, map, take}
use Rattle.net_model.specs.Within.{Each}
use Rattle.rtl_ir.specs.Ports.{line_of}
use Rattle.flat_pass.specs.Ports.{HasPlace, port_line}
use Rattle.flat_pass.proofs.ports.ports.Given as goal

abbrev pub invariant-loop-wire : goal.invariant-loop-wire
invariant-loop-wire l = record {
  lines : map port_line l.ports.items ≡ map (λ w. line_of w.now) (take l.wire-index l.wire-items);
  places : Each (HasPlace l.wires) l.ports.items;
}
