-- The pass is one, on a module that it may be given, within the limits.
use Rattle.std.proofs.Common.{◌∙◌, ap, sym}
use Rattle.rtl_ir.specs.Flat.Tree as flat
use Rattle.rtl_ir.specs.Ports.{ports_of}
use Rattle.rtl_ir.specs.Types.{table_ports}
use Rattle.rtl_ir.specs.declared.module.Module.{Module}
use Rattle.rtl_ir.specs.declared.ports.PortTable.{PortTable}
use Rattle.net_index.specs.Builder.{IsInLimits}
use Rattle.pass_laws.specs.Pass.{IsPass}
use Rattle.pass_laws.specs.Ready.{IsReady}
use Rattle.tech_map.specs.Techmap.{beside, techmap_of}
use Rattle.tech_map.proofs.Driving.{techmap_driven}
use Rattle.tech_map.proofs.Forming.{takable, techmap_ready}
use Rattle.tech_map.proofs.Standing.{IsTakable, swapped_children, swapped_is, swapped_ports, techmap_refines}

pub techmap_passes : (table : PortTable) (m : Module) → IsReady (table_ports table.modules) m → IsInLimits (beside m) → IsPass table m (techmap_of m)
techmap_passes table m ready limits =
    let fine : IsTakable m = takable (table_ports table.modules) m ready in
    record {
      refines = techmap_refines m fine (flat.table_ports table);
      ready = λ r. techmap_ready (table_ports table.modules) m r limits.names;
      driven = λ over agree. techmap_driven m fine limits.names over;
      id = sym (ap (λ (n : Module). n.id) (swapped_is m fine));
      ports = swapped_ports m fine ∙ sym (ap (λ (n : Module). ports_of n.wires) (swapped_is m fine));
      instances = swapped_children m fine;
    }
