use Rattle.std.proofs.Common.{◌∙◌, ap, ◌++◌, ◌-◌, map}
use Rattle.opt_clean.specs.Linked.{is_linked}
use Rattle.opt_clean.specs.Runs.{run_link, runs, source_of, wire_links}
use Rattle.opt_clean.proofs.Running.{bits_from, runs_begin, runs_end, runs_next}
use Rattle.opt_clean.proofs.links.add_links.Goals as goal

pub loop-at-init : goal.loop-at-init
loop-at-init c = λ ports m is.
    ap (λ run. c.args.links.now.items ++ map (run_link (source_of m.links)) (runs (is_linked ports m) run (bits_from c.args.wire 0 (c.args.width - 0)))) c.new-run.ensures.items
    ∙ runs_begin (is_linked ports m) (source_of m.links) c.args.wire c.args.width c.args.links.now.items

pub loop-at-preserved : goal.loop-at-preserved
loop-at-preserved c = λ ports m is.
    runs_next (is_linked ports m) (source_of m.links) c.args.wire c.loop-at.at c.args.width c.loop-at.links.items c.add_bit.new.links.items c.loop-at.run.items c.add_bit.new.run.items
    (c.args.links.now.items ++ wire_links (is_linked ports m) (source_of m.links) c.args.wire c.args.width) c.loop-at-test.true
    (c.in_ok-add_bit.ensures.links ports m is) (c.in_ok-add_bit.ensures.run ports m is) (c.loop-at.invariant ports m is)

pub returns : goal.returns
returns c = record {
  value = λ ports m is.
      runs_end (is_linked ports m) (source_of m.links) c.args.wire c.loop-at.at c.args.width c.loop-at.links.items c.end_run.new.links.items c.loop-at.run.items
      (c.args.links.now.items ++ wire_links (is_linked ports m) (source_of m.links) c.args.wire c.args.width) c.loop-at-test.false
      (c.in_ok-end_run.ensures.links ports m is) (c.loop-at.invariant ports m is);
}
