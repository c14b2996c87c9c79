-- The rows of cells: combinational cells, storage cells, and instances.
use Rattle.std.specs.Prelude.{ℕ, suc, List, [], ◌∷◌, ◌++◌, Option, Some, None}
use Rattle.rtl_bits.specs.declared.bit.Bit.{Bit}
use Rattle.rtl_sig.specs.declared.sig.SigBit.{SigBit}
use Rattle.cell_types.specs.declared.kind.CellKind.{CellKind}
use Rattle.cell_types.specs.declared.kind.CellKind.TheVariants.{Word, Gate, Storage, StorageGate, Memory}
use Rattle.cell_types.specs.declared.pin_name.PinName.TheVariants.{A, B, S, Y, Clk, En, Arst, Srst, Aload, Set, Clr, Ad, D, Q, C, E, R, L}
use Rattle.cell_types.specs.declared.shape.Shape.{Shape}
use Rattle.cell_types.specs.Kind.{kind_of}
use Rattle.cell_types.specs.PinName.{pin_text}
use Rattle.cell_types.specs.Shape.{made_shape}
use Rattle.rtl_ir.specs.declared.cell.Cell.{Cell}
use Rattle.rtl_ir.specs.declared.cell.CellParam.{CellParam}
use Rattle.rtl_ir.specs.declared.cell.Pin.{Pin}
use Rattle.rtl_ir.specs.declared.ports.PortLine.{PortLine}
use Rattle.rtl_ir.specs.declared.wire.Role.{Role}
use Rattle.rtl_ir.specs.declared.wire.Role.TheVariants.{Inner, Input, Output, Inout}
use Rattle.rtl_ir.specs.declared.wire.Wire.{Wire}
use Rattle.rtl_ir.specs.Flat.Driver.{StorePoints, Driven, Worked, Stored}
use Rattle.rtl_ir.specs.Flat.Link.{joins}
use Rattle.rtl_ir.specs.Flat.Place.{Frame, frame, Path}
use Rattle.rtl_ir.specs.Flat.Point.{Point, Constant, At, point_at, pin_points, points, wire_points}
use Rattle.rtl_ir.specs.Parameters.{given_params, signal_at}

-- the kind of a cell of the library, None for an instance
unfoldable pub cell_kind : Cell → Option CellKind
cell_kind c = kind_of c.kind_name

-- the shape of a cell of this kind with these parameters
unfoldable pub cell_shape : CellKind → List CellParam → Shape
cell_shape kind params = made_shape kind (given_params params)

-- the instance that a cell is, where it is one
abbrev pub instance_of : Cell → Option CellKind → Option Frame
instance_of c (Some kind) = None
instance_of c None = Some (frame c.name c.kind_name)

-- none or one
abbrev pub listed : {A : Type 0} → Option A → List A
listed None = []
listed (Some x) = x ∷ []

-- the instances among the cells
abbrev pub instances : List Cell → List Frame
instances [] = []
instances (c ∷ cells) = listed (instance_of c (cell_kind c)) ++ instances cells

-- the bits of the output of a combinational cell, from this place on
abbrev pub outputs : Shape → List (List Point) → List Point → ℕ → List Driven
outputs shape inputs [] at = []
outputs shape inputs (At q ∷ ys) at =
    record { place = q; driver = Worked shape inputs at } ∷ outputs shape inputs ys (suc at)
outputs shape inputs (Constant b ∷ ys) at = outputs shape inputs ys (suc at)

-- a combinational cell drives its pin Y, and reads its pins A, B and S
abbrev pub worked_rows : Path → List Wire → List Pin → Shape → List Driven
worked_rows p wires pins shape =
    outputs shape
    (pin_points p wires pins A ∷ pin_points p wires pins B ∷ pin_points p wires pins S ∷ [])
    (pin_points p wires pins Y) 0

-- what a bit of a storage cell on words reads: of the controls the one bit, else its own bit of the pin
abbrev pub word_store : Path → List Wire → List Pin → ℕ → StorePoints
word_store p wires pins at = record {
  clk = point_at (pin_points p wires pins Clk) 0;
  en = point_at (pin_points p wires pins En) 0;
  arst = point_at (pin_points p wires pins Arst) 0;
  srst = point_at (pin_points p wires pins Srst) 0;
  aload = point_at (pin_points p wires pins Aload) 0;
  ad = point_at (pin_points p wires pins Ad) at;
  set = point_at (pin_points p wires pins Set) at;
  clr = point_at (pin_points p wires pins Clr) at;
  d = point_at (pin_points p wires pins D) at;
}

-- what the bit of a storage gate reads: its pin R is the reset or the clear that it has
abbrev pub gate_store : Path → List Wire → List Pin → ℕ → StorePoints
gate_store p wires pins at = record {
  clk = point_at (pin_points p wires pins C) 0;
  en = point_at (pin_points p wires pins E) 0;
  arst = point_at (pin_points p wires pins R) 0;
  srst = point_at (pin_points p wires pins R) 0;
  aload = point_at (pin_points p wires pins L) 0;
  ad = point_at (pin_points p wires pins Ad) 0;
  set = point_at (pin_points p wires pins S) 0;
  clr = point_at (pin_points p wires pins R) 0;
  d = point_at (pin_points p wires pins D) 0;
}

-- the bits that a storage cell keeps, from this place on, with their start values
abbrev pub stores : (SigBit → Bit) → Shape → (ℕ → StorePoints) → List SigBit → List Point → ℕ → List Driven
stores start shape pins [] qs at = []
stores start shape pins (s ∷ signal) [] at = []
stores start shape pins (s ∷ signal) (At q ∷ qs) at =
    record { place = q; driver = Stored (start s) shape at (pins at) q } ∷ stores start shape pins signal qs (suc at)
stores start shape pins (s ∷ signal) (Constant b ∷ qs) at = stores start shape pins signal qs (suc at)

-- a storage cell drives its pin Q
abbrev pub stored_rows : (SigBit → Bit) → Path → List Wire → List Pin → Shape → (ℕ → StorePoints) → List Driven
stored_rows start p wires pins shape reads =
    stores start shape reads (signal_at pins (pin_text Q)) (pin_points p wires pins Q) 0

-- a cell of the library; the cells of memories have their rows with the memory
abbrev pub kind_rows : (SigBit → Bit) → Path → List Wire → Cell → CellKind → List Driven
kind_rows start p wires c (Word kind) = worked_rows p wires c.pins (cell_shape (Word kind) c.params)
kind_rows start p wires c (Gate kind) = worked_rows p wires c.pins (cell_shape (Gate kind) c.params)
kind_rows start p wires c (Storage kind) =
    stored_rows start p wires c.pins (cell_shape (Storage kind) c.params) (word_store p wires c.pins)
kind_rows start p wires c (StorageGate gate) =
    stored_rows start p wires c.pins (cell_shape (StorageGate gate) c.params) (gate_store p wires c.pins)
kind_rows start p wires c (Memory kind) = []

-- a port of an instance: an input is driven from the pin, an output drives it
abbrev pub port_joins : Role → List Point → List Point → List Driven
port_joins Inner outer inner = []
port_joins Input outer inner = joins inner outer
port_joins Output outer inner = joins outer inner
port_joins Inout outer inner = []

-- an instance in a module at this path, over the ports of its own module
abbrev pub instance_rows : Path → List Wire → List Pin → Frame → List PortLine → List Driven
instance_rows p wires pins f [] = []
instance_rows p wires pins f (port ∷ ports) =
    port_joins port.role (points p wires (signal_at pins port.name)) (wire_points (f ∷ p) port.name 0 port.width)
    ++ instance_rows p wires pins f ports

-- the ports of each module, by its name
abbrev pub Ports : Type 0
Ports = List ℕ → List PortLine

-- a cell: by its kind, or as an instance
abbrev pub cell_rows : (SigBit → Bit) → Ports → Path → List Wire → Cell → Option CellKind → List Driven
cell_rows start ports p wires c (Some kind) = kind_rows start p wires c kind
cell_rows start ports p wires c None =
    instance_rows p wires c.pins (frame c.name c.kind_name) (ports c.kind_name)

-- the rows of the cells of a module
abbrev pub cells_rows : (SigBit → Bit) → Ports → Path → List Wire → List Cell → List Driven
cells_rows start ports p wires [] = []
cells_rows start ports p wires (c ∷ cells) =
    cell_rows start ports p wires c (cell_kind c) ++ cells_rows start ports p wires cells
