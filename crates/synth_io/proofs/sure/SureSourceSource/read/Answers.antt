use Rattle.std.proofs.Common.{refl}
use Rattle.synth_io.proofs.Bytes.{copied_front}
use Rattle.synth_io.proofs.sure.SureSourceSource.read.Goals as goal

pub returns-clause-bytes : goal.returns-clause-bytes
returns-clause-bytes c = rw (← c.self.view_is, ← c.as_slice.ensures.value)
    (copied_front c.as_slice.result.now _ _ c.self.inside.at _ _ refl c.copy_front-count.ensures.count c.copy_front-count.ensures.copied)
