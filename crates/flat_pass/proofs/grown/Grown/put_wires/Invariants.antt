-- What is left to put on the module so far makes what all makes of the first.
use Rattle.std.proofs.Common.{◌≡◌, drop}
use Rattle.flat_pass.specs.Flat.{put_all, put_wire}
use Rattle.flat_pass.specs.Grown.{IsSound, built}
use Rattle.flat_pass.proofs.grown.Grown.put_wires.Given as goal

abbrev pub invariant-loop-wire : goal.invariant-loop-wire
invariant-loop-wire l = record {
  left : put_all (put_wire l.instance) (drop l.wire-index l.wires) (built l.self) ≡ put_all (put_wire l.instance) l.wires (built l.initial.self);
  sound : IsSound l.self;
}
