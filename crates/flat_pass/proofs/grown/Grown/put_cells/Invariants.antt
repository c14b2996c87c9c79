-- What is left to put on the module so far makes what all makes of the first.
use Rattle.std.proofs.Common.{◌≡◌, drop}
use Rattle.flat_pass.specs.Flat.{put_all, put_cell}
use Rattle.flat_pass.specs.Grown.{IsSound, built}
use Rattle.flat_pass.specs.Renames.{copying}
use Rattle.flat_pass.proofs.grown.Grown.put_cells.Given as goal

abbrev pub invariant-loop-cell : goal.invariant-loop-cell
invariant-loop-cell l = record {
  left : put_all (put_cell (copying l.renames)) (drop l.cell-index l.cells) (built l.self) ≡ put_all (put_cell (copying l.renames)) l.cells (built l.initial.self);
  sound : IsSound l.self;
}
