use Rattle.rtl_ir.specs.Scope.{without_processes}
use Rattle.rtl_ir.specs.Types.{table_ports}
use Rattle.net_index.specs.Builder.{IsInLimits}
use Rattle.net_model.specs.Proc.Mux.{proc_mux_of}
use Rattle.pass_laws.proofs.Promised.{answered_within}
use Rattle.proc_laws.specs.Ready.{IsReady}
use Rattle.proc_laws.specs.Step.{IsStep}
use Rattle.mux_laws.proofs.FormingModule.{mux_ready, mux_step}
use Rattle.proc_mux.specs.Limits.{muxed}
use Rattle.proc_mux.proofs.apply.Goals as goal

pub returns : goal.returns
returns c =
    let m = c.args.module.now in
    let table = c.args.ports.now in
    let r = c.muxed_module.result in
    let exact = c.muxed_module.ensures.exact in
    let within = c.muxed_module.ensures.within in
    record {
      exact = exact;
      over = c.muxed_module.ensures.over;
      within = within;
      step =
          answered_within r (proc_mux_of m) exact (IsInLimits (muxed m)) within (IsStep table m)
          (λ limits. mux_step table m c.requires.ready c.requires.ruled c.requires.no_lines limits.names);
      ready =
          answered_within r (proc_mux_of m) exact (IsInLimits (muxed m)) within (IsReady without_processes (table_ports table.modules))
          (λ limits. mux_ready (table_ports table.modules) m c.requires.ready limits.names);
    }
