-- The cells that are none of a memory.
use Rattle.std.specs.Prelude.{Bool, not, ◌&&◌}
use Rattle.rtl_ir.specs.Flat.Cell.{cell_kind}
use Rattle.rtl_ir.specs.WritePorts.{is_of_memory}
use Rattle.rtl_ir.specs.declared.cell.Cell.{Cell}
use Rattle.rtl_ir.specs.declared.store.Store.{Store}
use Rattle.net_model.specs.Mem.Expand.{is_memory_kind}

-- a cell is none of this memory
abbrev pub stays : Store → Cell → Bool
stays s c = not (is_memory_kind (cell_kind c) && is_of_memory s.name c)
