-- The attributes so far have other names.
use Rattle.std.proofs.Common.{◌≡◌, ◌+◌, drop}
use Rattle.std.specs.Option.{option_map}
use Rattle.proc_tree.specs.Attributes.{place_of}
use Rattle.proc_tree.proofs.wires.place_of.Given as goal

abbrev pub invariant-loop-place : goal.invariant-loop-place
invariant-loop-place l = place_of l.name l.attributes ≡ option_map (λ k. l.place + k) (place_of l.name (drop l.place l.attributes))
