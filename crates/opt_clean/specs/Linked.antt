-- Which bits are driven by connections, and which cells drive bits, by what drives a bit first.
use Rattle.std.specs.Prelude.{◌≡◌, ℕ, Bool, true, false, List, [], ◌∷◌, flat_map, Option, Some, None, slice_get}
use Rattle.rtl_sig.specs.declared.sig.SigBit.{SigBit}
use Rattle.rtl_sig.specs.declared.sig.WireBit.{WireBit}
use Rattle.rtl_ir.specs.Drivers.{Source, FromCell, FromLink, driver_in, drives_of}
use Rattle.rtl_ir.specs.Types.{Ports}
use Rattle.rtl_ir.specs.declared.cell.Cell.{Cell}
use Rattle.rtl_ir.specs.declared.module.Module.{Module}
use Rattle.net_model.specs.Lists.{In}
use Rattle.follow_laws.specs.Inputs.{followed}
use Rattle.opt_clean.specs.Keep.{output_bits}
use Rattle.opt_clean.specs.Runs.{is_connected, shown_links}

-- a connection
abbrev pub is_link : Option Source → Bool
is_link (Some (FromLink source)) = true
is_link (Some source) = false
is_link None = false

-- a connection drives the bit, and nothing before it does
abbrev pub is_linked : Ports → Module → WireBit → Bool
is_linked ports m b = is_link (driver_in (drives_of ports m) b)

-- the place of a cell
abbrev pub cell_place : Option Source → List ℕ
cell_place (Some (FromCell cell pin at)) = cell ∷ []
cell_place (Some source) = []
cell_place None = []

-- the places of the cells that drive bits
abbrev pub cell_places : Ports → Module → List WireBit → List ℕ
cell_places ports m bits = flat_map (λ b. cell_place (driver_in (drives_of ports m) b)) bits

-- what drives the bits of the cells: a cell that has a bit at an output drives it, and one that drives a bit has it there
pub record Drives (ports : Ports) (m : Module) (cells : List Cell) : Type 0 where
  pub forth :
      (i : ℕ) (c : Cell) → slice_get cells i ≡ Some c → (b : WireBit) → In b (output_bits ports c) →
      cell_place (driver_in (drives_of ports m) b) ≡ i ∷ []
  pub back :
      (b : WireBit) (i : ℕ) → In i (cell_place (driver_in (drives_of ports m) b)) →
      (c : Cell) × (slice_get cells i ≡ Some c) × In b (output_bits ports c)

-- what drives a bit of a wire first is the only thing that does: so the connections that the outside needs, and the cells
-- that drive bits, are told by it
pub record IsOnce (ports : Ports) (m : Module) : Type 0 where
  pub links :
      (source : WireBit → SigBit) →
      shown_links (is_linked ports m) source 0 m.wires ≡ shown_links (is_connected m.links) source 0 m.wires
  pub drives : Drives ports m (followed ports m).cells
