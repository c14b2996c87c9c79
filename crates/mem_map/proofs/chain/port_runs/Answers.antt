use Rattle.std.proofs.Common.{rules, ◌∙◌, ap, drop-cons, subst, subst₂}
use Rattle.net_index.specs.Builder.{PassesLimit}
use Rattle.net_model.specs.Mem.Expand.{mux_of_signals, run_select}
use Rattle.mem_map.proofs.Going.{mux_over, select_over}
use Rattle.mem_map.proofs.chain.port_runs.Goals as goal

pub returns-in_err-select-clause-over : goal.returns-in_err-select-clause-over
returns-in_err-select-clause-over c e =
    select_over c.args.matched c.args.runs.now c.loop-count.count-index _ (drop-cons c.args.runs.now c.loop-count.count-index 0 c.loop-count-test.true) c.loop-count.acc.now c.loop-count.written.now c.loop-count.enable.now c.loop-count.builder c.loop-count.value _ c.loop-count.invariant.all
    (subst (λ s. PassesLimit (run_select c.args.matched s c.loop-count.builder).1) c.low_bit.ensures.value (search (rules, c.run_select.ensures.over, e, c.from_residual.ensures)))

pub returns-in_err-mux-clause-over : goal.returns-in_err-mux-clause-over
returns-in_err-mux-clause-over c e =
    mux_over c.args.matched c.args.runs.now c.loop-count.count-index _ (drop-cons c.args.runs.now c.loop-count.count-index 0 c.loop-count-test.true) c.loop-count.acc.now c.loop-count.written.now c.loop-count.enable.now c.loop-count.builder c.loop-count.value _ c.loop-count.invariant.all
    c.in_ok-select.select c.run_select.new.builder
    (c.in_ok-select.ensures.exact ∙ ap (λ s. run_select c.args.matched s c.loop-count.builder) c.low_bit.ensures.value)
    (subst₂ (λ a b. PassesLimit (mux_of_signals a b c.in_ok-select.select c.run_select.new.builder).1) c.cut.ensures.low c.cut-in-loop-count.ensures.low (search (rules, c.mux_cell.ensures.over, e, c.from_residual-in_err-mux.ensures)))
