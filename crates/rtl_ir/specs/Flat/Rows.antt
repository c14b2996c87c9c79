-- The rows of one module.
use Rattle.std.specs.Prelude.{List, ◌++◌}
use Rattle.rtl_ir.specs.declared.module.Module.{Module}
use Rattle.rtl_ir.specs.Flat.Cell.{Ports, cells_rows}
use Rattle.rtl_ir.specs.Flat.Driver.{Driven}
use Rattle.rtl_ir.specs.Flat.Link.{link_rows}
use Rattle.rtl_ir.specs.Flat.Memory.{memories_rows}
use Rattle.rtl_ir.specs.Flat.Place.{Path}
use Rattle.rtl_ir.specs.Flat.Process.{processes_rows}
use Rattle.rtl_ir.specs.Flat.Start.{start_of}

-- what the connections, the processes and the memories of a module at this path drive
abbrev pub plain_rows : Path → Module → List Driven
plain_rows p m =
    link_rows p m.wires m.links
    ++ (processes_rows (start_of m.wires m.processes) p m.wires m m.processes
    ++ memories_rows p m.wires m.cells m.processes m.memories)

-- what a module at this path drives, over the ports of other modules
abbrev pub rows_of : Ports → Path → Module → List Driven
rows_of ports p m = cells_rows (start_of m.wires m.processes) ports p m.wires m.cells ++ plain_rows p m
