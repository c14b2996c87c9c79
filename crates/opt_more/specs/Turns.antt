-- The cells as they stand at the turn of one of them.
use Rattle.std.specs.Prelude.{List, Option}
use Rattle.rtl_ir.specs.declared.cell.Cell.{Cell}
use Rattle.opt_more.specs.Muxtree.{standing_now}
use Rattle.opt_more.specs.declared.others.Others.{Others}

-- all cells, of which this one stands between those that are done and the rest
abbrev pub slots_with : Others → Cell → List (Option Cell)
slots_with others cell = standing_now others.done.now cell others.rest.now.items
