-- A module has the same rows once its switches are read by the rules and its start values are moved.
use Rattle.std.proofs.Common.{◌≡◌, List, ◌++◌, refl}
use Rattle.std.specs.Prelude.{map}
use Rattle.rtl_bits.specs.declared.bit.Bit.{Bit}
use Rattle.rtl_sig.specs.declared.sig.SigBit.{SigBit}
use Rattle.rtl_ir.specs.declared.module.Module.{Module}
use Rattle.rtl_ir.specs.declared.process.Process.{Process}
use Rattle.rtl_ir.specs.declared.wire.Wire.{Wire}
use Rattle.rtl_ir.specs.Flat.Cell.{Ports}
use Rattle.rtl_ir.specs.Flat.Place.{Path}
use Rattle.rtl_ir.specs.Flat.Rows.{rows_of}
use Rattle.rtl_ir.specs.Flat.Start.{start_of}
use Rattle.net_model.specs.Within.{Each}
use Rattle.net_model.specs.Proc.Start.{begun_wires, proc_tree_of, ruled_process}
use Rattle.proc_laws.specs.Ready.{HasItsBits}
use Rattle.proc_tree.proofs.Naming.{SamePlaces, cells_named, links_named, memories_named}
use Rattle.proc_tree.proofs.NamingProcesses.{processes_named}
use Rattle.proc_tree.proofs.Ruled.{WritesNoStart, accesses_ruled, process_ruled, syncs_of}
use Rattle.proc_tree.proofs.Starting.{begun_places, start_begun}

pub rows_stay : (ports : Ports) (p : Path) (m : Module) → HasItsBits m → Each WritesNoStart (syncs_of m.processes) → rows_of ports p (proc_tree_of m) ≡ rows_of ports p m
rows_stay ports p m placed quiet =
    let vs : List Wire = begun_wires m 0 m.wires in
    let qs : List Process = map ruled_process m.processes in
    let new : SigBit → Bit = start_of vs qs in
    let old : SigBit → Bit = start_of m.wires m.processes in
    let same : SamePlaces p vs m.wires = begun_places m p in
    λ i. cells_named p vs m.wires same new old ports m.cells (λ c j pin k s l. start_begun m s (placed.pins c j pin k s l)) i
    ++ (links_named p vs m.wires same m.links i
    ++ (processes_named p vs m.wires same new old (proc_tree_of m) m refl refl ruled_process (process_ruled new p vs (proc_tree_of m)) m.processes (λ q j r k l n s o. start_begun m s (placed.updates q j r k l n s o)) i
    ++ memories_named p vs m.wires same m.cells qs m.processes (accesses_ruled m.cells m.processes quiet) m.memories i))
