use Rattle.std.proofs.Common.{sym}
use Rattle.synth_run.proofs.Cutting.{parts_at}
use Rattle.synth_run.proofs.lines.split_line.Goals as goal

-- src/lines.rt: the bytes at the place of the first LF
pub returns-in-Some : goal.returns-in-Some
returns-in-Some c = record { parts = parts_at c.args.bytes.now c.in-Some.at (sym c.in-Some.ensures.value) }
