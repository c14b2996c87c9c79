use Rattle.std.proofs.Common.{refl}
use Rattle.process_check.proofs.Endings.{below_at}
use Rattle.process_check.proofs.ends.are_marked.Goals as goal

pub bounds-marks-place : goal.bounds-marks-place
bounds-marks-place c = below_at _ c.args.places.now c.loop-place.place-index _ c.requires.below c.loop-place-test.true refl
