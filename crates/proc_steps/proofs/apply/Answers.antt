use Rattle.std.proofs.Common.{◌≡◌, Err, rules}
use Rattle.net_index.specs.declared.builder_fault.PassFault.TheVariants as faults
use Rattle.rtl_ir.specs.Scope.{with_processes}
use Rattle.rtl_ir.specs.Types.{table_ports}
use Rattle.proc_reset.proofs.Promised.{cells_fit}
use Rattle.proc_steps.proofs.Answering.{all_given, answered, clocked_over, clocking_inside, last_is, latched_over, latching_inside, level_is, muxed_over, next_always, next_edges, next_is, next_ready, next_ruled, next_starts, ruled_ready}
use Rattle.proc_steps.proofs.apply.Goals as goal

pub apply_owned-requires-2 : goal.apply_owned-requires-2
apply_owned-requires-2 c = record {
  fit = cells_fit with_processes (table_ports c.args.ports.now.modules) c.in_ok-ruled.ruled (ruled_ready c.args.ports.now c.args.module c.requires.begins c.in_ok-ruled.ruled c.in_ok-ruled.ensures.exact);
}

pub returns-in_err-latched-clause-over : goal.returns-in_err-latched-clause-over
returns-in_err-latched-clause-over c = λ e.
    let over : c.apply_owned-3.result ≡ Err faults.Over = search (rules, e, c.from_residual-in_err-latched.ensures, c.in_err-latched.is, c.in_err-latched.was) in
    latched_over (table_ports c.args.ports.now.modules) c.args.module c.in_ok-leveled.leveled
    (level_is c.args.ports.now c.args.module c.requires.begins c.in_ok-ruled.ruled c.in_ok-ruled.ensures.exact c.in_ok-leveled.leveled c.in_ok-leveled.ensures.exact) (c.apply_owned-3.ensures.over over)

pub apply-requires-clause-ready : goal.apply-requires-clause-ready
apply-requires-clause-ready c =
    next_ready c.args.ports.now c.args.module c.requires.begins c.in_ok-ruled.ruled c.in_ok-ruled.ensures.exact c.in_ok-leveled.leveled c.in_ok-leveled.ensures.exact
    c.in_ok-latched.latched c.in_ok-latched.ensures.exact c.in_ok-latched.ensures.within

pub apply-requires-clause-ruled : goal.apply-requires-clause-ruled
apply-requires-clause-ruled c =
    next_ruled c.args.ports.now c.args.module c.requires.begins c.in_ok-ruled.ruled c.in_ok-ruled.ensures.exact c.in_ok-leveled.leveled c.in_ok-leveled.ensures.exact
    c.in_ok-latched.latched c.in_ok-latched.ensures.exact c.in_ok-latched.ensures.within

pub apply-requires-clause-no_always : goal.apply-requires-clause-no_always
apply-requires-clause-no_always c =
    next_always c.args.ports.now c.args.module c.requires.begins c.in_ok-ruled.ruled c.in_ok-ruled.ensures.exact c.in_ok-leveled.leveled c.in_ok-leveled.ensures.exact
    c.in_ok-latched.latched c.in_ok-latched.ensures.exact c.in_ok-latched.ensures.within

pub apply-requires-clause-no_starts : goal.apply-requires-clause-no_starts
apply-requires-clause-no_starts c =
    next_starts c.args.ports.now c.args.module c.requires.begins c.in_ok-ruled.ruled c.in_ok-ruled.ensures.exact c.in_ok-leveled.leveled c.in_ok-leveled.ensures.exact
    c.in_ok-latched.latched c.in_ok-latched.ensures.exact c.in_ok-latched.ensures.within

pub apply-requires-clause-no_two_edges : goal.apply-requires-clause-no_two_edges
apply-requires-clause-no_two_edges c =
    next_edges c.args.ports.now c.args.module c.requires.begins c.in_ok-ruled.ruled c.in_ok-ruled.ensures.exact c.in_ok-leveled.leveled c.in_ok-leveled.ensures.exact
    c.in_ok-latched.latched c.in_ok-latched.ensures.exact c.in_ok-latched.ensures.within

pub returns-in_err-clocked-clause-over : goal.returns-in_err-clocked-clause-over
returns-in_err-clocked-clause-over c = λ e.
    let over : c.apply.result ≡ Err faults.Over = search (rules, e, c.from_residual-in_err-clocked.ensures, c.in_err-clocked.is, c.in_err-clocked.was) in
    clocked_over (table_ports c.args.ports.now.modules) c.args.module c.in_ok-latched.latched
    (next_is c.args.ports.now c.args.module c.requires.begins c.in_ok-ruled.ruled c.in_ok-ruled.ensures.exact c.in_ok-leveled.leveled c.in_ok-leveled.ensures.exact
    c.in_ok-latched.latched c.in_ok-latched.ensures.exact c.in_ok-latched.ensures.within) (c.apply.ensures.over over)

pub returns-clause-exact : goal.returns-clause-exact
returns-clause-exact c =
    answered (table_ports c.args.ports.now.modules) c.args.module c.in_ok-clocked.clocked
    (last_is c.args.ports.now c.args.module c.requires.begins c.in_ok-ruled.ruled c.in_ok-ruled.ensures.exact c.in_ok-leveled.leveled c.in_ok-leveled.ensures.exact
    c.in_ok-latched.latched c.in_ok-latched.ensures.exact c.in_ok-latched.ensures.within c.in_ok-clocked.clocked c.in_ok-clocked.ensures.exact c.in_ok-clocked.ensures.within)
    (latching_inside c.args.ports.now c.args.module c.requires.begins c.in_ok-ruled.ruled c.in_ok-ruled.ensures.exact c.in_ok-leveled.leveled c.in_ok-leveled.ensures.exact
    c.in_ok-latched.latched c.in_ok-latched.ensures.exact c.in_ok-latched.ensures.within)
    (clocking_inside c.args.ports.now c.args.module c.requires.begins c.in_ok-ruled.ruled c.in_ok-ruled.ensures.exact c.in_ok-leveled.leveled c.in_ok-leveled.ensures.exact
    c.in_ok-latched.latched c.in_ok-latched.ensures.exact c.in_ok-latched.ensures.within c.in_ok-clocked.clocked c.in_ok-clocked.ensures.exact c.in_ok-clocked.ensures.within)
    c.apply_owned-4.result c.apply_owned-4.ensures.exact c.apply_owned-4.ensures.within

pub returns-clause-over : goal.returns-clause-over
returns-clause-over c = λ e.
    muxed_over (table_ports c.args.ports.now.modules) c.args.module c.in_ok-clocked.clocked
    (last_is c.args.ports.now c.args.module c.requires.begins c.in_ok-ruled.ruled c.in_ok-ruled.ensures.exact c.in_ok-leveled.leveled c.in_ok-leveled.ensures.exact
    c.in_ok-latched.latched c.in_ok-latched.ensures.exact c.in_ok-latched.ensures.within c.in_ok-clocked.clocked c.in_ok-clocked.ensures.exact c.in_ok-clocked.ensures.within) (c.apply_owned-4.ensures.over e)

pub returns-clause-gives : goal.returns-clause-gives
returns-clause-gives c =
    all_given c.args.ports.now c.args.module c.requires.begins c.apply_owned-4.result
    (answered (table_ports c.args.ports.now.modules) c.args.module c.in_ok-clocked.clocked
    (last_is c.args.ports.now c.args.module c.requires.begins c.in_ok-ruled.ruled c.in_ok-ruled.ensures.exact c.in_ok-leveled.leveled c.in_ok-leveled.ensures.exact
    c.in_ok-latched.latched c.in_ok-latched.ensures.exact c.in_ok-latched.ensures.within c.in_ok-clocked.clocked c.in_ok-clocked.ensures.exact c.in_ok-clocked.ensures.within)
    (latching_inside c.args.ports.now c.args.module c.requires.begins c.in_ok-ruled.ruled c.in_ok-ruled.ensures.exact c.in_ok-leveled.leveled c.in_ok-leveled.ensures.exact
    c.in_ok-latched.latched c.in_ok-latched.ensures.exact c.in_ok-latched.ensures.within)
    (clocking_inside c.args.ports.now c.args.module c.requires.begins c.in_ok-ruled.ruled c.in_ok-ruled.ensures.exact c.in_ok-leveled.leveled c.in_ok-leveled.ensures.exact
    c.in_ok-latched.latched c.in_ok-latched.ensures.exact c.in_ok-latched.ensures.within c.in_ok-clocked.clocked c.in_ok-clocked.ensures.exact c.in_ok-clocked.ensures.within)
    c.apply_owned-4.result c.apply_owned-4.ensures.exact c.apply_owned-4.ensures.within)
