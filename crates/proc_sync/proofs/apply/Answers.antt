use Rattle.net_model.specs.Proc.Sync.{proc_sync_of}
use Rattle.pass_laws.proofs.Promised.{answered}
use Rattle.proc_laws.specs.Ready.{AreRuled, HaveNoLines}
use Rattle.proc_laws.specs.Step.{IsStep, StaysReady}
use Rattle.sync_laws.proofs.Formed.{stays_ready}
use Rattle.sync_laws.proofs.Steps.{are_ruled, is_step, none_left}
use Rattle.proc_sync.proofs.apply.Goals as goal

pub returns : goal.returns
returns c =
    let m = c.args.module.now in
    let table = c.args.ports.now in
    let r = c.synced_module.result in
    let exact = c.synced_module.ensures.exact in
    record {
      exact = exact;
      over = c.synced_module.ensures.over;
      within = c.synced_module.ensures.within;
      step = answered r (proc_sync_of m) exact (IsStep table m) (is_step table m c.requires.ready c.requires.no_always c.requires.no_two_edges c.requires.no_starts);
      ready = λ bits. answered r (proc_sync_of m) exact (StaysReady table m) (stays_ready table m c.requires.no_always c.requires.no_two_edges bits);
      ruled = answered r (proc_sync_of m) exact AreRuled (are_ruled m c.requires.ruled);
      no_lines = answered r (proc_sync_of m) exact HaveNoLines (none_left m);
    }
