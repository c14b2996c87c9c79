use Rattle.std.proofs.Common.{subst}
use Rattle.rtl_ir.specs.Flat.Cell.{cells_rows}
use Rattle.rtl_ir.specs.Flat.Link.{link_rows}
use Rattle.rtl_ir.specs.Flat.Memory.{memories_rows}
use Rattle.rtl_ir.specs.Flat.Process.{processes_rows}
use Rattle.rtl_ir.specs.Flat.Start.{start_of}
use Rattle.rtl_ir.specs.Flat.Tree.{design_ports}
use Rattle.flat_net.specs.Adds.{Adds}
use Rattle.flat_net.specs.Starts.{IsStart}
use Rattle.flat_net.proofs.Kept.{within-Keeps}
use Rattle.flat_net.proofs.Reading.{Extends-then}
use Rattle.flat_net.proofs.Adding.{Adds-then}
use Rattle.flat_net.proofs.Results.{if_ok}
use Rattle.flat_net.proofs.builder.Builder.add_module.Goals as goal

pub add_links-requires : goal.add_links-requires
add_links-requires c = record { in_range = within-Keeps _ _ _ c.in_ok-add_cells.ensures.grows.paths c.requires.in_range }

pub add_processes-requires : goal.add_processes-requires
add_processes-requires c =
    let e = Extends-then _ _ _ c.in_ok-add_cells.ensures.grows c.in_ok-add_links.ensures.grows in
    record { in_range = within-Keeps _ _ _ e.paths c.requires.in_range }

pub add_memories-requires : goal.add_memories-requires
add_memories-requires c =
    let e = Extends-then _ _ _ (Extends-then _ _ _ c.in_ok-add_cells.ensures.grows c.in_ok-add_links.ensures.grows) c.in_ok-add_processes.ensures.grows in
    record { in_range = within-Keeps _ _ _ e.paths c.requires.in_range }

pub returns-clause-grows : goal.returns-clause-grows
returns-clause-grows c =
    let e = Extends-then _ _ _ (Extends-then _ _ _ c.in_ok-add_cells.ensures.grows c.in_ok-add_links.ensures.grows) c.in_ok-add_processes.ensures.grows in
    if_ok c.add_memories.result c.add_memories.ensures.grows (λ _ f. Extends-then _ _ _ e f)

pub returns-clause-rows : goal.returns-clause-rows
returns-clause-rows c = λ p path d table.
    let m = c.args.body.now in
    let start = start_of m.wires m.processes in
    let e = Extends-then _ _ _ c.in_ok-add_cells.ensures.grows c.in_ok-add_links.ensures.grows in
    let f = Extends-then _ _ _ e c.in_ok-add_processes.ensures.grows in
    let wires = c.as_slice-wires.ensures.value in
    let is = subst (IsStart c.in_ok-starts.starts) (λ i. start_of (wires i) (c.as_slice.ensures.value i)) c.in_ok-starts.ensures.value in
    let cells = c.in_ok-add_cells.ensures.rows p path d table start is in
    let first = subst (Adds c.args.self.now c.add_cells.new.self) (λ i. cells_rows start (design_ports d) p (wires i) (c.as_slice-2.ensures.value i)) cells in
    let links = subst (Adds c.add_cells.new.self c.add_links.new.self) (λ i. link_rows p (wires i) (c.as_slice-3.ensures.value i)) (c.in_ok-add_links.ensures.rows p (c.in_ok-add_cells.ensures.grows.paths _ _ path)) in
    let processes =
    subst (Adds c.add_links.new.self c.add_processes.new.self) (λ i. processes_rows start p (wires i) m m.processes) (c.in_ok-add_processes.ensures.rows p (e.paths _ _ path) start is) in
    if_ok c.add_memories.result (c.add_memories.ensures.rows p (f.paths _ _ path))
    (λ _ added.
    let memories = subst (Adds c.add_processes.new.self c.add_memories.new.self) (λ i. memories_rows p (wires i) m.cells m.processes m.memories) added in
    Adds-then _ _ _ _ _ first (Adds-then _ _ _ _ _ links (Adds-then _ _ _ _ _ processes memories)))
