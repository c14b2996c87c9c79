use Rattle.std.proofs.Common.{◌≡◌, ℕ, List, [], length, sym, subst, arith}
use Rattle.std.specs.Prelude.{false}
use Rattle.std.proofs.lemmas.Grind.{common_steps}
use Rattle.synth_run.specs.Lines.{last_line}
use Rattle.synth_run.specs.Session.{Turn}
use Rattle.synth_run.specs.Taking.{Speaks, TakesLines}
use Rattle.synth_run.proofs.Turning.{no_line, none_left}
use Rattle.synth_run.proofs.session.Session.take_last.Goals as goal

pub returns-then-is_empty-clause-ok : goal.returns-then-is_empty-clause-ok
returns-then-is_empty-clause-ok g c =
    let size : length c.args.self.now.line ≡ 0 = grind (arith, common_steps) in
    let none : c.args.self.now.line ≡ [] = none_left c.args.self.now.line size in
    subst (λ (line : List ℕ). (turns : List Turn) × TakesLines c.args.self.now.reader (last_line line) turns c.args.self.now.reader
    × Speaks c.args.self.now.speaker c.args.self.now.speaker false turns (g.K.Sink.held c.args.sink.now) (g.K.Sink.held c.args.sink.now) c.args.meter.now c.args.meter.now) (sym none)
    (no_line c.args.self.now.reader c.args.self.now.speaker (g.K.Sink.held c.args.sink.now) c.args.meter.now)
