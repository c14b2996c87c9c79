-- The set has what it had, and the places so far.
use Rattle.std.proofs.Common.{take}
use Rattle.opt_merge.specs.Among.{AreAmong}
use Rattle.opt_merge.proofs.readers.add_places.Given as goal

abbrev pub invariant-loop-place : goal.invariant-loop-place
invariant-loop-place l = record {
  stays : AreAmong l.fn.places.keys l.places.keys;
  all : AreAmong (take l.place-index l.more) l.places.keys;
}
