use Rattle.std.proofs.Common.{arith, sym, subst}
use Rattle.net_model.specs.Refine.{IsWellDriven}
use Rattle.pass_laws.specs.Ready.{IsReady}
use Rattle.rtl_ir.specs.Flat.Tree as flat
use Rattle.rtl_ir.specs.Types.{table_ports}
use Rattle.opt_rounds.specs.Rounds.{opt_of}
use Rattle.opt_rounds.proofs.Rounding.{fewer_left, last_round, none_left, opt_settles, round_driven, round_ready}
use Rattle.opt_rounds.proofs.rounds.Goals as goal

pub returns-then-turn : goal.returns-then-turn
returns-then-turn c =
    let P = table_ports c.args.ports.now.modules in
    record {
      exact = last_round P c.loop-round._round c.loop-round.module c.in_ok-turn.turn.after (opt_of P c.args.module) c.in_ok-turn.ensures.exact (c.in_ok-turn.ensures.same c.if-turn.true) c.loop-round.invariant.0;
      settled = λ _. opt_settles P c.loop-round.module c.in_ok-turn.turn.after c.in_ok-turn.ensures.exact (c.in_ok-turn.ensures.same c.if-turn.true);
    }

pub loop-round-preserved : goal.loop-round-preserved
loop-round-preserved c =
    let P = table_ports c.args.ports.now.modules in
    let ready = round_ready c.args.ports.now c.loop-round.module c.loop-round.invariant.1 in
    let driven = round_driven c.args.ports.now c.loop-round.module c.loop-round.invariant.1 c.loop-round.invariant.2 in (
      fewer_left P c.loop-round._round c.loop-round.module c.in_ok-turn.turn.after (opt_of P c.args.module) c.loop-round-test.true c.in_ok-turn.ensures.exact c.loop-round.invariant.0,
      subst (IsReady P) (sym c.in_ok-turn.ensures.exact) ready,
      subst (IsWellDriven (flat.table_ports c.args.ports.now)) (sym c.in_ok-turn.ensures.exact) driven,
    )

pub returns-clause-exact : goal.returns-clause-exact
returns-clause-exact c =
    let P = table_ports c.args.ports.now.modules in
    none_left P c.loop-round._round c.loop-round.module (opt_of P c.args.module) (omega (arith, c.loop-round-test.false)) c.loop-round.invariant.0
