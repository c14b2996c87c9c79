-- A module without processes whose machine gets its code refines the module.
use Rattle.std.proofs.Common.{◌≡◌, ℕ, List, [], ◌++◌, sym, subst}
use Rattle.rtl_bits.specs.declared.bit.Bit.{Bit}
use Rattle.rtl_ir.specs.Flat.Cell.{Ports}
use Rattle.rtl_ir.specs.declared.cell.Cell.{Cell}
use Rattle.rtl_ir.specs.declared.module.Link.{Link}
use Rattle.rtl_ir.specs.declared.module.Module.{Module}
use Rattle.rtl_ir.specs.declared.process.Process.{Process}
use Rattle.rtl_ir.specs.declared.wire.Wire.{Wire}
use Rattle.net_model.specs.Fsm.Code.{Output}
use Rattle.net_model.specs.Refine.{RefinesOver}
use Rattle.net_model.specs.Within.{IsWithin}
use Rattle.fsm_laws.specs.Recodes.{Recodes}
use Rattle.fsm_laws.proofs.Relating.{recodes_refine}

pub refines : (n : Module) (fresh : List Wire) (cells : List Cell) (more : List Link) (width : ℕ) (states : List (List Bit)) (outputs : List Output) (code : ℕ) (over : Ports) → n.processes ≡ [] → IsWithin n → Recodes n fresh cells more width states outputs code over → RefinesOver n (record n { wires = n.wires ++ fresh; cells = cells; links = n.links ++ more }) over
refines n fresh cells more width states outputs code over none within asked =
    subst (λ (ps : List Process). RefinesOver (record n { processes = ps }) (record n { wires = n.wires ++ fresh; cells = cells; links = n.links ++ more; processes = ps }) over) (sym none)
    (recodes_refine n fresh cells more width states outputs code over asked (subst (λ (ps : List Process). IsWithin (record n { processes = ps })) none within))
