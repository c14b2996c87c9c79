-- The wires of the bits of the connections so far are noted.
use Rattle.std.proofs.Common.{◌≡◌, drop}
use Rattle.std.specs.List.{flat_map}
use Rattle.opt_clean.specs.Moving.{noted}
use Rattle.opt_clean.specs.Wires.{link_bits}
use Rattle.opt_clean.proofs.wires.note_links.Given as goal

abbrev pub invariant-loop-link : goal.invariant-loop-link
invariant-loop-link l =
    noted l.named.items (flat_map link_bits (drop l.link-index l.links)) ≡ noted l.fn.named.items (flat_map link_bits l.links)
