use Rattle.std.proofs.Common.{◌≡◌, ◌+◌, ◌-◌, Err, ap, rules, refl, sym, ◌∙◌, arith}
use Rattle.std.specs.Prelude.{◌&&◌}
use Rattle.rtl_ir.specs.Types.{table_ports}
use Rattle.net_index.specs.declared.builder_fault.PassFault.TheVariants as faults
use Rattle.net_model.specs.Fsm.Code.{recoded_of}
use Rattle.fsm_steps.specs.Within.{are_within}
use Rattle.fsm_steps.proofs.Turns.{all_left, all_within, goes_free, goes_left, goes_within, next_within, step_passes}
use Rattle.fsm_steps.proofs.each_machine.Goals as goal

pub returns-in_err-after-clause-over : goal.returns-in_err-after-clause-over
returns-in_err-after-clause-over c = λ e.
    let over : c.recode.result ≡ Err faults.Over = search (rules, e, c.from_residual-in_err-after.ensures, c.in_err-after.is, c.in_err-after.was) in
    let is = rw c.in-Some.is at c.in_ok-found.ensures.first in
    sym c.loop-after.invariant.within
    ∙ next_within (table_ports c.args.ports.now.modules) c.loop-after.after c.loop-after.from c.in_ok-end.end c.in-Some.found.wire c.in-Some.found.machine is _ _ refl refl
    ∙ ap (λ t. t && are_within (table_ports c.args.ports.now.modules) (c.in-Some.found.wire + 1) (c.in_ok-end.end - (c.in-Some.found.wire + 1)) (recoded_of c.loop-after.after c.in-Some.found.machine)) (step_passes (table_ports c.args.ports.now.modules) c.loop-after.after c.loop-after.from c.in_ok-end.end c.in-Some.found.wire c.in-Some.found.machine is (c.recode.ensures.over over))

pub loop-after-preserved-in_ok-after : goal.loop-after-preserved-in_ok-after
loop-after-preserved-in_ok-after c =
    let is = rw c.in-Some.is at c.in_ok-found.ensures.first in
    record {
      inside = omega (arith, is.before);
      free = goes_free (table_ports c.args.ports.now.modules) c.loop-after.after c.loop-after.from c.in_ok-end.end c.in-Some.found.wire c.in-Some.found.machine is c.in_ok-after.after c.in_ok-after.ensures.exact c.loop-after.invariant.free;
      left = goes_left (table_ports c.args.ports.now.modules) c.loop-after.after c.loop-after.from c.in_ok-end.end c.in-Some.found.wire c.in-Some.found.machine is c.in_ok-after.after c.in_ok-after.ensures.exact ∙ c.loop-after.invariant.left;
      same = λ e. let e = e in absurd (omega (arith, e));
      within = goes_within (table_ports c.args.ports.now.modules) c.loop-after.after c.loop-after.from c.in_ok-end.end c.in-Some.found.wire c.in-Some.found.machine is c.in_ok-after.after c.in_ok-after.ensures.exact c.in_ok-after.ensures.within ∙ c.loop-after.invariant.within;
    }

pub loop-after-preserved : goal.loop-after-preserved
loop-after-preserved c =
    let is = rw c.in-Some.is at c.in_ok-found.ensures.first in
    record {
      inside = omega (arith, is.before);
      free = goes_free (table_ports c.args.ports.now.modules) c.loop-after.after c.loop-after.from c.in_ok-end.end c.in-Some.found.wire c.in-Some.found.machine is c.in_ok-after.after c.in_ok-after.ensures.exact c.loop-after.invariant.free;
      left = goes_left (table_ports c.args.ports.now.modules) c.loop-after.after c.loop-after.from c.in_ok-end.end c.in-Some.found.wire c.in-Some.found.machine is c.in_ok-after.after c.in_ok-after.ensures.exact ∙ c.loop-after.invariant.left;
      same = λ e. let e = e in absurd (omega (arith, e));
      within = goes_within (table_ports c.args.ports.now.modules) c.loop-after.after c.loop-after.from c.in_ok-end.end c.in-Some.found.wire c.in-Some.found.machine is c.in_ok-after.after c.in_ok-after.ensures.exact c.in_ok-after.ensures.within ∙ c.loop-after.invariant.within;
    }

pub returns-clause-exact : goal.returns-clause-exact
returns-clause-exact c =
    sym (all_left (table_ports c.args.ports.now.modules) c.loop-after.after c.loop-after.from c.in_ok-end.end c.loop-after.invariant.inside (c.in_ok-found.ensures.none c.in_default.is))
    ∙ c.loop-after.invariant.left

pub returns-clause-within : goal.returns-clause-within
returns-clause-within c =
    sym c.loop-after.invariant.within
    ∙ all_within (table_ports c.args.ports.now.modules) c.loop-after.after c.loop-after.from c.in_ok-end.end c.loop-after.invariant.inside (c.in_ok-found.ensures.none c.in_default.is)
