use Rattle.std.proofs.Common.{rules, ◌≤◌, ◌∙◌, ap, subst, arith, length}
use Rattle.net_index.specs.Builder.{PassesLimit}
use Rattle.match_cells.specs.Trees.{Numbered, seen}
use Rattle.proc_mux.specs.Trees.{run_step}
use Rattle.proc_mux.proofs.Exact.{numbers_are}
use Rattle.match_cells.proofs.Numbering.{has_root}
use Rattle.proc_mux.proofs.RunSteps.{run_goes, runs_end, runs_over}
use Rattle.proc_mux.proofs.process.process_step.Goals as goal

pub run_step-requires : goal.run_step-requires
run_step-requires c = record { table = has_root c.args.process.now.root c.as_slice.result.now (c.as_slice.ensures.value ∙ c.in_ok-table.ensures.value); rows = c.in_ok-rows.ensures.rows }

pub returns-in_err-run_step-clause-over : goal.returns-in_err-run_step-clause-over
returns-in_err-run_step-clause-over c e =
    subst PassesLimit (numbers_are c.args.builder c.args.process.now)
    (runs_over c.args.process.now.root c.as_slice-run-items.result.now c.loop-run.run-index c.run-item.result c.loop-run-test.true c.run-item.is (seen c.loop-run.trees) _ c.loop-run.invariant.all
    (search (rules, c.run_step.ensures.over, e, c.from_residual-in_err-run_step.ensures, c.as_slice-in-loop-run.ensures.value)))

pub loop-run-preserved : goal.loop-run-preserved
loop-run-preserved c = record {
  all =
      run_goes c.args.process.now.root c.as_slice-run-items.result.now c.loop-run.run-index c.run-item.result c.loop-run-test.true c.run-item.is (seen c.loop-run.trees) (seen c.run_step.new.trees) _
      (c.in_ok-run_step.ensures.exact ∙ ap (λ r. run_step c.args.process.now.root r (seen c.loop-run.trees)) c.as_slice-in-loop-run.ensures.value) c.loop-run.invariant.all;
  within = λ few. c.in_ok-run_step.ensures.within (c.loop-run.invariant.within few);
}

pub returns-clause-exact : goal.returns-clause-exact
returns-clause-exact c =
    let past : length c.as_slice-run-items.result.now ≤ c.loop-run.run-index = omega arith in
    ap (λ (t : Numbered). t.building) (runs_end c.args.process.now.root c.as_slice-run-items.result.now c.loop-run.run-index past (seen c.loop-run.trees) _ c.loop-run.invariant.all)
    ∙ numbers_are c.args.builder c.args.process.now
