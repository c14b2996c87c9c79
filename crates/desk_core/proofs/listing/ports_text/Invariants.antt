use Rattle.std.proofs.Common.{◌≡◌, map, take}
use Rattle.std.specs.List.{flat_map}
use Rattle.rtl_ir.specs.Ports.{line_of}
use Rattle.desk_core.specs.Answers.{port_line}
use Rattle.desk_core.proofs.listing.ports_text.Given as goal

-- the lines of the ports so far are written
abbrev pub invariant-loop-wire : goal.invariant-loop-wire
invariant-loop-wire l = l.text ≡ flat_map port_line (map line_of (map (λ w. w.now) (take l.wire-index l.wire-items)))
