use Rattle.std.proofs.Common.{◌≡◌, filter, map, take}
use Rattle.rtl_ir.specs.Ports.{line_of}
use Rattle.sim_text.specs.Ports.{same_role}
use Rattle.sim_text.proofs.ports.port_widths.Given as goal

-- the widths so far are those of the ports so far
abbrev pub invariant-loop-wire : goal.invariant-loop-wire
invariant-loop-wire l =
    l.widths.items
    ≡ map (λ p. p.width) (filter (λ p. same_role l.role p.role) (map line_of (map (λ w. w.now) (take l.wire-index l.wire-items))))
