use Rattle.std.proofs.Common.{subst}
use Rattle.std.proofs.lemmas.List.{take_all}
use Rattle.flat_net.specs.Starts.{Gains, starts_by}
use Rattle.flat_net.proofs.Beginning.{gains_line, gains_none}
use Rattle.flat_net.proofs.starts.Starts.give_all.Goals as goal

pub loop-line-init : goal.loop-line-init
loop-line-init c = λ root bits are. gains_none c.args.self.now

pub loop-line-preserved : goal.loop-line-preserved
loop-line-preserved c = λ root bits are.
    gains_line root bits c.args.lines.now c.loop-line.line-index _ c.loop-line-test.true _ (c.in_ok-constant_of.ensures.value root bits are) c.args.self.now c.loop-line.self c.give.new.self
    (c.loop-line.invariant root bits are) c.in_ok-give.ensures.gains

pub returns : goal.returns
returns c = record {
  gains = λ root bits are.
      subst (λ ls. Gains c.args.self.now c.loop-line.self (starts_by root bits ls)) (take_all _ c.args.lines.now c.loop-line-test.false) (c.loop-line.invariant root bits are);
}
