-- What is counted so far and what is left give all.
use Rattle.std.proofs.Common.{◌≡◌, drop, flat_map}
use Rattle.rtl_check.specs.Tallies.{bits_of_link, with_bits}
use Rattle.rtl_check.proofs.bits.count_links.Given as goal

abbrev pub invariant-loop-link : goal.invariant-loop-link
invariant-loop-link l =
    with_bits l.tally (flat_map bits_of_link (drop l.link-index l.links)) ≡ with_bits l.fn.tally (flat_map bits_of_link l.links)
