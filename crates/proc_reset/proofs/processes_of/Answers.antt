use Rattle.std.proofs.Common.{◌≡◌, [], IfOk, ◌∙◌, subst}
use Rattle.rtl_ir.specs.Signals.{wire_bits}
use Rattle.rtl_ir.specs.Types.{table_ports}
use Rattle.net_model.specs.Proc.Reset.{resets_step}
use Rattle.proc_reset.specs.Reads.{AreIn}
use Rattle.proc_reset.proofs.processes_of.Goals as goal

pub returns : goal.returns
returns c =
    let ports = table_ports c.args.ports.now.modules in
    let m = c.args.«module».now in
    let types = c.in_ok-types.ensures.value in
    let signals = c.as_slice.ensures.value ∙ c.in_ok-signals.ensures.value ports types in
    record {
      exact =
          subst (λ ps. IfOk c.reset_processes.result (λ done. done.items ≡ resets_step ports m [] ps)) c.as_slice-2.ensures.value
          (c.reset_processes.ensures.value ports (record {
            tests = c.in_ok-tests.ensures.value ports types;
            fit = c.requires.fit;
            reads = subst (λ s. AreIn c.in_ok-reads.reads (wire_bits s)) signals c.in_ok-reads.ensures.value;
          }));
    }
