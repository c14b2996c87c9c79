-- The word so far, moved by the bits that are left, is the moved word.
use Rattle.std.proofs.Common.{◌≡◌, drop}
use Rattle.net_index.specs.Builder.{IsInLimits}
use Rattle.map_shift.specs.Shift.{shifted_from, shifted_of}
use Rattle.map_shift.proofs.shift.shifted.Given as goal

abbrev pub invariant-loop-place : goal.invariant-loop-place
invariant-loop-place l = record {
  net : shifted_from l.way l.fill l.place l.so_far (drop l.place l.distance) l.builder ≡ shifted_of l.fn.way l.fn.fill l.fn.bits l.fn.distance l.fn.builder;
  within : IsInLimits l.fn.builder → IsInLimits l.builder;
}
