-- What a step adds to a module, so that a text can still give the module: wires, cells and connections, under fresh names.
use Rattle.std.specs.Prelude.{◌≡◌, ℕ, zero, suc, ◌+◌, ◌≤◌, List, [], ◌∷◌, ◌++◌, map}
use Rattle.std.specs.List.{All}
use Rattle.rtl_sig.specs.Names.{AreDistinct}
use Rattle.rtl_ir.specs.Build.{Building, made_name}
use Rattle.rtl_ir.specs.declared.cell.Cell.{Cell}
use Rattle.rtl_ir.specs.declared.module.Link.{Link}
use Rattle.rtl_ir.specs.declared.module.Module.{Module}
use Rattle.rtl_ir.specs.declared.wire.Wire.{Wire}
use Rattle.rtl_readable.specs.Readable.{AreAttributes, IsCell, IsLink, IsName, IsParameter, IsProcess, IsStore, IsWire, item_names}
use Rattle.rtl_readable.specs.Changing.{cell_names, times}

-- the items of a module are such as a text can give, however many there are
pub record HasReadableItems (m : Module) : Type 0 where
  pub id : IsName m.id
  pub attributes : AreAttributes m.attributes
  pub parameters : All IsParameter m.parameters
  pub wires : All IsWire m.wires
  pub memories : All IsStore m.memories
  pub cells : All (IsCell m.wires) m.cells
  pub processes : All (IsProcess m.wires) m.processes
  pub links : All (IsLink m.wires) m.links
  pub distinct : AreDistinct (item_names m)

-- the fresh names of so many numbers from one on
abbrev pub made_names : ℕ → ℕ → List (List ℕ)
made_names low zero = []
made_names low (suc n) = made_name low ∷ made_names (low + 1) n

-- the names of wires
abbrev pub wire_names : List Wire → List (List ℕ)
wire_names wires = map (λ (w : Wire). w.name) wires

-- wires, cells and connections that a text can give, in a module with these wires
pub record AreReadable (all : List Wire) (fresh : List Wire) (new : List Cell) (more : List Link) : Type 0 where
  pub wires : All IsWire fresh
  pub cells : All (IsCell all) new
  pub links : All (IsLink all) more

-- a module with further wires, cells and connections
abbrev pub further : List Wire → List Cell → List Link → Module → Module
further fresh new more m =
    record m { wires = m.wires ++ fresh; cells = m.cells ++ new; links = m.links ++ more }

-- the second module is the first with further items that a text can give, whose names are the fresh ones that were taken, as
-- far as these have nine digits
pub record Extends (old new : Building) : Type 0 where
  pub fresh : List Wire
  pub cells : List Cell
  pub links : List Link
  pub body : new.body ≡ further fresh cells links old.body
  -- how many fresh names were taken
  pub taken : ℕ
  pub next : new.next ≡ old.next + taken
  pub names :
      (name : List ℕ) → times name (wire_names fresh) + times name (cell_names cells) ≤ times name (made_names old.next taken)
  pub good : new.next ≤ 1000000000 → AreReadable new.body.wires fresh cells links
