-- The module with what the outside needs is a pass.
use Rattle.rtl_ir.specs.declared.module.Module.{Module}
use Rattle.rtl_ir.specs.declared.ports.PortTable.{PortTable}
use Rattle.rtl_ir.specs.Types as types
use Rattle.follow_laws.specs.Inputs.{followed}
use Rattle.follow_laws.proofs.Passing.{followed_all}
use Rattle.pass_laws.specs.Pass.{IsPass}
use Rattle.pass_laws.specs.Ready.{IsReady}
use Rattle.pass_laws.proofs.Passes.{IsPass_trans}
use Rattle.opt_clean.specs.Clean.{clean_of, reduced}
use Rattle.opt_clean.specs.Wires.{trimmed}
use Rattle.opt_clean.proofs.Ends.{inputs_end}
use Rattle.opt_clean.proofs.Reducing.{reduced_pass}
use Rattle.opt_clean.proofs.WiresLeft.{trimmed_pass}

pub clean_pass : (table : PortTable) (m : Module) → IsReady (types.table_ports table.modules) m → IsPass table m (clean_of (types.table_ports table.modules) m)
clean_pass table m ready =
    let ports : types.Ports = types.table_ports table.modules in
    let first : IsPass table m (followed ports m) = followed_all table m ready in
    let ready' : IsReady ports (followed ports m) = first.ready ready in
    let second : IsPass table (followed ports m) (reduced ports (followed ports m)) = reduced_pass table (followed ports m) ready' (inputs_end ports m) in
    let third : IsPass table (reduced ports (followed ports m)) (trimmed (reduced ports (followed ports m))) = trimmed_pass table (reduced ports (followed ports m)) (second.ready ready') in
    IsPass_trans table m (followed ports m) (trimmed (reduced ports (followed ports m))) first (IsPass_trans table (followed ports m) (reduced ports (followed ports m)) (trimmed (reduced ports (followed ports m))) second third)
