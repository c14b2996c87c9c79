use Rattle.std.proofs.Common.{rules, ◌≡◌, ◌∙◌, ap}
use Rattle.proc_mux.specs.Rows.{run_given, tree_given}
use Rattle.match_cells.specs.Trees.{seen}
use Rattle.proc_mux.proofs.RunSteps.{run_made, run_over}
use Rattle.proc_mux.proofs.process.run_step.Goals as goal

pub returns-in_err-value-clause-over : goal.returns-in_err-value-clause-over
returns-in_err-value-clause-over c e =
    let are : c.as_slice-3.result.now ≡ tree_given c.args.root.now c.args.run.now =
    c.as_slice-3.ensures.value ∙ c.in_ok-given.ensures.value ∙ ap (λ rows. run_given rows c.args.run.now) (λ i b. c.requires.rows b i) in
    run_over c.args.root.now c.args.run.now (seen c.args.trees.now) c.as_slice-3.result.now c.in_ok-start.start are
    (cc (c.in_ok-start.ensures.value, c.as_slice-2.ensures.value, c.in_ok-prior.ensures.value, c.as_slice.ensures.value, c.as_slice-3.ensures.value))
    (search (rules, c.tree_value.ensures.over, e, c.from_residual-in_err-value.ensures))

pub returns-clause-exact : goal.returns-clause-exact
returns-clause-exact c =
    let are : c.as_slice-3.result.now ≡ tree_given c.args.root.now c.args.run.now =
    c.as_slice-3.ensures.value ∙ c.in_ok-given.ensures.value ∙ ap (λ rows. run_given rows c.args.run.now) (λ i b. c.requires.rows b i) in
    let made = run_made c.args.root.now c.args.run.now (seen c.args.trees.now) c.as_slice-3.result.now c.in_ok-start.start are
    (cc (c.in_ok-start.ensures.value, c.as_slice-2.ensures.value, c.in_ok-prior.ensures.value, c.as_slice.ensures.value, c.as_slice-3.ensures.value))
    (c.in_ok-value.value, seen c.tree_value.new.trees) c.in_ok-signal.signal c.in_ok-value.ensures.exact c.in_ok-signal.ensures.value in
    (λ i. record { building = c.in_ok-connect.ensures.exact i; made = c.tree_value.new.trees.made.items }) ∙ made
