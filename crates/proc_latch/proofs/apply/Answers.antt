use Rattle.rtl_ir.specs.Types.{table_ports}
use Rattle.net_index.specs.Builder.{IsInLimits}
use Rattle.net_model.specs.Proc.Latch.{proc_latch_of}
use Rattle.pass_laws.specs.Pass.{KeepsInterface}
use Rattle.pass_laws.proofs.Promised.{answered, answered_within}
use Rattle.proc_laws.specs.Ready.{AreRuled, HaveNoStarts}
use Rattle.proc_laws.specs.Step.{IsStep, StaysReady}
use Rattle.proc_laws.specs.Kinds.{HaveNoAlways, HaveNoTwoEdges, HaveNoWrites}
use Rattle.latch_laws.proofs.Formed as formed
use Rattle.latch_laws.proofs.Left as left
use Rattle.proc_latch.specs.Limits.{latched}
use Rattle.proc_latch.proofs.Promised.{latch_keeps, latch_step}
use Rattle.proc_latch.proofs.apply.Goals as goal

pub returns : goal.returns
returns c =
    let m = c.args.module.now in
    let table = c.args.ports.now in
    let r = c.latched_module.result in
    let exact = c.latched_module.ensures.exact in
    let within = c.latched_module.ensures.within in
    record {
      exact = exact;
      over = c.latched_module.ensures.over;
      within = within;
      kept = answered r (proc_latch_of m) exact (KeepsInterface m) (latch_keeps table m c.requires.ready);
      step = λ edges.
          answered_within r (proc_latch_of m) exact (IsInLimits (latched m)) within (IsStep table m)
          (λ limits. latch_step table m c.requires.ready limits.names c.requires.ruled edges);
      ready = λ edges.
          answered_within r (proc_latch_of m) exact (IsInLimits (latched m)) within (StaysReady table m)
          (λ limits h. formed.latch_ready (table_ports table.modules) m h limits.names edges);
      ruled = answered r (proc_latch_of m) exact AreRuled (left.ruled m c.requires.ruled);
      no_always = answered r (proc_latch_of m) exact HaveNoAlways (left.no_always m);
      no_starts = λ h. answered r (proc_latch_of m) exact HaveNoStarts (left.no_starts m h);
      no_two_edges = λ h. answered r (proc_latch_of m) exact HaveNoTwoEdges (left.no_two_edges m h);
      no_writes = λ h. answered r (proc_latch_of m) exact HaveNoWrites (left.no_writes m h);
    }
