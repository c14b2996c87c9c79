-- The characters from the place on.
use Rattle.std.proofs.Common.{◌≡◌, ◌*◌, drop}
use Rattle.net_index.specs.Builder.{chars_of}
use Rattle.net_index.proofs.builder_params.chars_of.Given as goal

abbrev pub invariant-loop-at : goal.invariant-loop-at
invariant-loop-at l = l.chars ≡ chars_of (drop (8 * l.at) l.bits)
