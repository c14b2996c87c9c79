-- A module in which a memory becomes words refines the module.
use Rattle.std.proofs.Common.{◌≡◌, ℕ, [], Some, sym, subst}
use Rattle.std.specs.Prelude.{slice_get}
use Rattle.rtl_ir.specs.Flat.Cell as flat
use Rattle.rtl_ir.specs.Flat.Tree as tree
use Rattle.rtl_ir.specs.Types as types
use Rattle.rtl_ir.specs.declared.module.Module.{Module}
use Rattle.rtl_ir.specs.declared.ports.PortTable.{PortTable}
use Rattle.rtl_ir.specs.declared.store.Store.{Store}
use Rattle.net_model.specs.Mem.Expand.{expanded_memory}
use Rattle.net_model.specs.Mem.Gather.{gathered}
use Rattle.net_model.specs.Refine.{RefinesIn, RefinesOver}
use Rattle.net_model.specs.Within.{IsWithin}
use Rattle.pass_laws.specs.Ready.{IsReady}
use Rattle.pass_laws.specs.OwnNames.{HaveOwnNames}
use Rattle.memory_laws.proofs.Faultless.{few, none_there, others_apart, writes_wide}
use Rattle.pass_laws.proofs.Finding.{in_place}
use Rattle.memory_laws.proofs.MemoryThere.{before}
use Rattle.memory_laws.proofs.Relating.{memory_refines}

-- over any ports of the modules that are instantiated
pub refines_over : (ports : types.Ports) (over : flat.Ports) (m : Module) (s : Store) (at : ℕ) → IsReady ports m → HaveOwnNames m → slice_get m.memories at ≡ Some s → RefinesOver m (expanded_memory m (gathered m at s) s) over
refines_over ports over m s at ready named there =
    let none : m.processes ≡ [] = none_there ports m ready named in
    let same : before m s at ≡ m = (λ i. record m { processes = sym none i }) in
    subst (λ (k : Module). RefinesOver k (expanded_memory k (gathered k at s) s) over) same
    (memory_refines m s at there (others_apart m.memories at s named there) (few ports m ready named s (in_place m.memories at s there)) (writes_wide ports m ready named s (in_place m.memories at s there)) over (subst IsWithin (sym same) ready.within))

pub refines : (table : PortTable) (m : Module) (s : Store) (at : ℕ) → IsReady (types.table_ports table.modules) m → HaveOwnNames m → slice_get m.memories at ≡ Some s → RefinesIn m (expanded_memory m (gathered m at s) s) table
refines table m s at ready named there = refines_over (types.table_ports table.modules) (tree.table_ports table) m s at ready named there
