-- The pins so far, and those of the names that are left, are all of them.
use Rattle.std.proofs.Common.{◌≡◌, ◌++◌, drop}
use Rattle.std.specs.Prelude.{map}
use Rattle.map_flop.specs.Pins.{gate_bit, gate_pin}
use Rattle.map_flop.proofs.pins.gate_pins.Given as goal

abbrev pub invariant-loop-name : goal.invariant-loop-name
invariant-loop-name l =
    l.pins.items ++ map (λ name. gate_pin name (gate_bit l.kind l.cell l.at l.q name)) (drop l.name-index l.names)
    ≡ map (λ name. gate_pin name (gate_bit l.kind l.cell l.at l.q name)) l.names
