-- A module that a text can give stays one where its cells and connections become others of the kind, under no further names.
use Rattle.std.proofs.Common.{List, arith}
use Rattle.rtl_ir.specs.declared.cell.Cell.{Cell}
use Rattle.rtl_ir.specs.declared.module.Link.{Link}
use Rattle.rtl_ir.specs.declared.module.Module.{Module}
use Rattle.rtl_readable.specs.Readable.{IsReadableModule, item_names}
use Rattle.rtl_readable.specs.Changing.{MayStand, recelled}
use Rattle.rtl_readable.proofs.Counting.{item_times, still_distinct}

pub recelled_reads : (m : Module) (cells : List Cell) (links : List Link) → IsReadableModule m → MayStand m cells links → IsReadableModule (recelled cells links m)
recelled_reads m cells links is may = record {
  id = is.id;
  attributes = is.attributes;
  parameters = is.parameters;
  wires = is.wires;
  memories = is.memories;
  cells = may.cells;
  processes = is.processes;
  links = may.links;
  distinct = still_distinct (item_names (recelled cells links m)) (item_names m)
      (λ name. omega (arith, item_times name (recelled cells links m), item_times name m, may.names name)) is.distinct;
  bits = is.bits;
  count = omega (arith, is.count, may.count);
}
