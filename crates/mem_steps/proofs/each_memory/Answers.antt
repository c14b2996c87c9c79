use Rattle.std.proofs.Common.{◌≡◌, ◌∙◌, Err, ap, false, length, refl, rules, sym}
use Rattle.std.specs.Prelude.{◌==◌}
use Rattle.net_index.specs.declared.builder_fault.PassFault.TheVariants as faults
use Rattle.net_model.proofs.MemoryCells.{none_after}
use Rattle.mem_steps.proofs.FirstCells.{next_plain}
use Rattle.mem_steps.proofs.Turns.{goes, passes}
use Rattle.mem_steps.proofs.each_memory.Goals as goal

pub loop-alloc-init : goal.loop-alloc-init
loop-alloc-init c = record { end = refl; within = refl; first = none_after c.args.module.cells c.as_slice-first.result.now (length c.as_slice-first.result.now) refl c.as_slice-first.ensures.value }

pub returns-in_err-after-clause-over : goal.returns-in_err-after-clause-over
returns-in_err-after-clause-over c = λ e.
    let over : c.expand.result ≡ Err faults.Over = search (rules, e, c.from_residual-in_err-after.ensures, c.in_err-after.is, c.in_err-after.was) in
    let some : (length c.loop-alloc.after.memories == 0) ≡ false = sym (ap (λ stores. length stores == 0) c.as_slice.ensures.value) ∙ sym c.is_empty.ensures ∙ c.loop-alloc-test.true in
    sym c.loop-alloc.invariant.within ∙ passes c.loop-alloc.after c.in_ok-plan.plan c.in_ok-plan.ensures.exact some (c.expand.ensures.over over)

pub loop-alloc-smaller : goal.loop-alloc-smaller
loop-alloc-smaller c =
    let some : (length c.loop-alloc.after.memories == 0) ≡ false = sym (ap (λ stores. length stores == 0) c.as_slice.ensures.value) ∙ sym c.is_empty.ensures ∙ c.loop-alloc-test.true in
    (goes c.loop-alloc.after c.in_ok-plan.plan c.in_ok-plan.ensures.exact some c.in_ok-after.after c.in_ok-after.ensures.exact c.in_ok-after.ensures.within).fewer

pub loop-alloc-preserved : goal.loop-alloc-preserved
loop-alloc-preserved c =
    let some : (length c.loop-alloc.after.memories == 0) ≡ false = sym (ap (λ stores. length stores == 0) c.as_slice.ensures.value) ∙ sym c.is_empty.ensures ∙ c.loop-alloc-test.true in
    let next = goes c.loop-alloc.after c.in_ok-plan.plan c.in_ok-plan.ensures.exact some c.in_ok-after.after c.in_ok-after.ensures.exact c.in_ok-after.ensures.within in
    record {
      end = next.end ∙ c.loop-alloc.invariant.end;
      within = next.within ∙ c.loop-alloc.invariant.within;
      first =
          next_plain c.loop-alloc.after c.in_ok-plan.plan c.in_ok-plan.ensures.exact some c.in_ok-after.after c.in_ok-after.ensures.exact c.loop-alloc.first c.staying_first-left.result c.loop-alloc.invariant.first
          c.staying_first-left.ensures.value;
    }
