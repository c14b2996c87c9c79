use Rattle.std.proofs.Common.{refl}
use Rattle.rtl_ir.specs.Scope.{with_processes}
use Rattle.rtl_ir.specs.Types.{table_ports}
use Rattle.net_model.specs.Proc.Reset.{proc_reset_of}
use Rattle.pass_laws.specs.Pass.{KeepsInterface}
use Rattle.pass_laws.proofs.Promised.{answered}
use Rattle.proc_reset.specs.Promise.{Levels}
use Rattle.proc_reset.proofs.Promised.{cells_fit, levels}
use Rattle.proc_reset.proofs.apply.Goals as goal

pub reset_of-requires : goal.reset_of-requires
reset_of-requires c = record { fit = cells_fit with_processes (table_ports c.args.ports.now.modules) c.args.«module».now c.requires.ready }

pub returns-clause-kept : goal.returns-clause-kept
returns-clause-kept c =
    let m = c.args.«module».now in
    answered c.reset_of.result (proc_reset_of (table_ports c.args.ports.now.modules) m) c.reset_of.ensures.exact (KeepsInterface m)
    (record { id = refl; ports = refl; instances = refl })

pub returns-clause-levels : goal.returns-clause-levels
returns-clause-levels c = λ starts placed trees.
    let m = c.args.«module».now in
    let table = c.args.ports.now in
    answered c.reset_of.result (proc_reset_of (table_ports table.modules) m) c.reset_of.ensures.exact (Levels table m)
    (levels table m c.requires.ready c.requires.ruled starts placed trees)
