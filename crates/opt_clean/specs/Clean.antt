-- The pass `opt_clean`: what the outside does not need goes.
use Rattle.rtl_ir.specs.Types.{Ports}
use Rattle.rtl_ir.specs.declared.module.Module.{Module}
use Rattle.follow_laws.specs.Inputs.{followed}
use Rattle.opt_clean.specs.Kept.{kept_marks, marked}
use Rattle.opt_clean.specs.Runs.{links_of}
use Rattle.opt_clean.specs.Wires.{trimmed}

-- the module with the connections of what the outside sees, and the cells that are kept
abbrev pub reduced : Ports → Module → Module
reduced ports m = record m {
  cells = marked (kept_marks ports m.wires (links_of m.wires m.links) m.cells) m.cells;
  links = links_of m.wires m.links;
}

-- the module after the pass
abbrev pub clean_of : Ports → Module → Module
clean_of ports m = trimmed (reduced ports (followed ports m))
