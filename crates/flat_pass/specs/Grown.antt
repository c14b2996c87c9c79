-- A module whose instances are replaced, as the code holds it.
use Rattle.std.specs.Prelude.{◌≡◌, ◌++◌, Option, Some, None}
use Rattle.rtl_ir.specs.declared.cell.Cell.{Cell}
use Rattle.rtl_ir.specs.Build.{Building}
use Rattle.net_index.specs.Numbering.{bit_count, widths_of}
use Rattle.flat_pass.specs.Counts.{AreNames}
use Rattle.flat_pass.specs.Flat.{first_instance, with_cells}
use Rattle.flat_pass.specs.declared.grown.Grown.{Grown}

-- the module so far: the cells that were visited, and those that wait
abbrev pub built : Grown → Building
built g = record { body = record g.body { cells = g.body.cells ++ g.waiting.items }; next = g.namer.next }

-- names and bits are those of the module, and no cell that was visited is an instance
pub record IsSound (g : Grown) : Type 0 where
  pub names : AreNames g.namer (built g)
  pub bits : g.bits ≡ bit_count (widths_of g.body.wires)
  pub library : first_instance g.body.cells ≡ None

-- the first instance of a module is taken out, where it has one
abbrev pub TakesFirst : Building → Building → Option Cell → Type 0
TakesFirst old new None = (first_instance old.body.cells ≡ None) × (new ≡ old)
TakesFirst old new (Some c) =
    (first_instance old.body.cells ≡ Some (c, new.body.cells)) × (new ≡ with_cells new.body.cells old)
