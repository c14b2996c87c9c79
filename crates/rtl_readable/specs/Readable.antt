-- The designs that a text can give.
use Rattle.std.specs.Prelude.{◌≡◌, ℕ, ◌+◌, ◌*◌, ◌^◌, ◌<◌, ◌≤◌, ◌&&◌, nat_lt, ℤ, pos, Bool, true, false, List, [], ◌∷◌, ◌++◌, length, map, slice_get, IfSome, IsSomeAnd}
use Rattle.std.specs.List.{All, list_all, sum_by}
use Rattle.rtl_lex.specs.Bytes.{is_sigil, is_name}
use Rattle.rtl_lex.specs.Numbers.{in_range}
use Rattle.rtl_sig.specs.declared.sig.SigBit.{SigBit}
use Rattle.rtl_sig.specs.declared.sig.SigBit.TheVariants as bits
use Rattle.rtl_sig.specs.Names.{AreDistinct}
use Rattle.rtl_ir.specs.declared.value.Value.{Value}
use Rattle.rtl_ir.specs.declared.value.Value.TheVariants as values
use Rattle.rtl_ir.specs.declared.value.Attribute.{Attribute}
use Rattle.rtl_ir.specs.declared.wire.Role.TheVariants.{Inner}
use Rattle.rtl_ir.specs.declared.wire.Wire.{Wire}
use Rattle.rtl_ir.specs.declared.store.Store.{Store}
use Rattle.rtl_ir.specs.declared.cell.CellParam.{CellParam}
use Rattle.rtl_ir.specs.declared.cell.Pin.{Pin}
use Rattle.rtl_ir.specs.declared.cell.Cell.{Cell}
use Rattle.rtl_ir.specs.declared.module.Link.{Link}
use Rattle.rtl_ir.specs.declared.module.Parameter.{Parameter}
use Rattle.rtl_ir.specs.declared.module.Module.{Module}
use Rattle.rtl_ir.specs.declared.module.Design.{Design}
use Rattle.rtl_ir.specs.Tree.{Switches, Cases, NoSwitch, OneSwitch, NoCase, OneCase}
use Rattle.rtl_ir.specs.declared.process.Event.{Event}
use Rattle.rtl_ir.specs.declared.process.Event.TheVariants as events
use Rattle.rtl_ir.specs.declared.process.WriteLine.{WriteLine}
use Rattle.rtl_ir.specs.declared.process.SyncRule.{SyncRule}
use Rattle.rtl_ir.specs.declared.process.Process.{Process}
use Rattle.rtl_ir.specs.declared.limits.TheConstants.{MAX_MODULES, MAX_CELLS, MAX_BITS, MAX_WIDTH, MAX_DEPTH}

-- a backslash or a dollar sign, and one or more bytes above 32
abbrev pub is_identifier : List ℕ → Bool
is_identifier [] = false
is_identifier (b ∷ bs) = is_sigil b && (nat_lt 0 (length bs) && list_all is_name bs)

-- a name
abbrev pub IsName : List ℕ → Type 0
IsName text = is_identifier text ≡ true

-- an integer of 32 bits
abbrev pub IsInteger : ℤ → Type 0
IsInteger n = in_range n ≡ true

-- a character of a string: any byte but NUL
abbrev pub IsChar : ℕ → Type 0
IsChar c = (0 < c) × (c < 256)

-- a constant, within the limit on its width
abbrev pub IsConstant : Value → Type 0
IsConstant (values.Bits bits signed) = length bits ≤ MAX_WIDTH
IsConstant (values.Int n) = IsInteger n
IsConstant (values.Chars chars) = All IsChar chars × (8 * length chars ≤ MAX_WIDTH)

-- an attribute; attributes, each name once
pub record IsAttribute (a : Attribute) : Type 0 where
  pub name : IsName a.name
  pub value : IsConstant a.value

pub record AreAttributes (all : List Attribute) : Type 0 where
  pub each : All IsAttribute all
  pub distinct : AreDistinct (map (λ a. a.name) all)

-- a parameter of a module
pub record IsParameter (p : Parameter) : Type 0 where
  pub name : IsName p.name
  pub value : IfSome p.value IsConstant

-- a wire: it has a bit, and only a port has a number
pub record IsWire (w : Wire) : Type 0 where
  pub name : IsName w.name
  pub some : 0 < w.width
  pub width : w.width ≤ MAX_WIDTH
  pub offset : IsInteger w.offset
  pub number : IsInteger w.number
  pub inner : w.role ≡ Inner → w.number ≡ pos 0
  pub attributes : AreAttributes w.attributes

-- a memory
pub record IsStore (s : Store) : Type 0 where
  pub name : IsName s.name
  pub some : 0 < s.width
  pub width : s.width < 2 ^ 31
  pub size : IsInteger s.size
  pub offset : IsInteger s.offset
  pub attributes : AreAttributes s.attributes

-- a constant, or a bit that a wire has
abbrev pub IsBitOf : List Wire → SigBit → Type 0
IsBitOf wires (bits.Fixed bit) = Unit {0}
IsBitOf wires (bits.Wire bit) = IsSomeAnd (slice_get wires bit.wire) (λ w. bit.at < w.width)

-- a signal over the wires; and one with a bit
pub record IsSignal (wires : List Wire) (sig : List SigBit) : Type 0 where
  pub bits : All (IsBitOf wires) sig
  pub width : length sig ≤ MAX_BITS

pub record IsSomeSignal (wires : List Wire) (sig : List SigBit) : Type 0 where
  pub some : 0 < length sig
  pub signal : IsSignal wires sig

-- a pair of signals, each of which may be empty
pub record IsLink (wires : List Wire) (l : Link) : Type 0 where
  pub left : IsSignal wires l.left
  pub right : IsSignal wires l.right

-- a parameter and a pin of a cell, whose signal may be empty
pub record IsCellParam (p : CellParam) : Type 0 where
  pub name : IsName p.name
  pub value : IsConstant p.value

pub record IsPin (wires : List Wire) (p : Pin) : Type 0 where
  pub name : IsName p.name
  pub sig : IsSignal wires p.sig

-- a cell: each parameter and each pin once
pub record IsCell (wires : List Wire) (c : Cell) : Type 0 where
  pub kind_name : IsName c.kind_name
  pub name : IsName c.name
  pub params : All IsCellParam c.params
  pub distinct_params : AreDistinct (map (λ p. p.name) c.params)
  pub pins : All (IsPin wires) c.pins
  pub distinct_pins : AreDistinct (map (λ p. p.name) c.pins)
  pub attributes : AreAttributes c.attributes

abbrev mutual
  -- switches that stand in so many others
  pub AreSwitches : List Wire → ℕ → Switches → Type 0
  AreSwitches wires depth NoSwitch = Unit {0}
  AreSwitches wires depth (OneSwitch signal attributes cases rest) =
      (depth < MAX_DEPTH) × IsSomeSignal wires signal × AreAttributes attributes × AreCases wires (depth + 1) cases × AreSwitches wires depth rest

  -- cases of a switch
  pub AreCases : List Wire → ℕ → Cases → Type 0
  AreCases wires depth NoCase = Unit {0}
  AreCases wires depth (OneCase patterns assigns attributes switches rest) =
      All (IsSomeSignal wires) patterns × All (IsLink wires) assigns × AreAttributes attributes × AreSwitches wires depth switches × AreCases wires depth rest

-- an event
abbrev pub IsEvent : List Wire → Event → Type 0
IsEvent wires (events.Low signal) = IsSomeSignal wires signal
IsEvent wires (events.High signal) = IsSomeSignal wires signal
IsEvent wires (events.Posedge signal) = IsSomeSignal wires signal
IsEvent wires (events.Negedge signal) = IsSomeSignal wires signal
IsEvent wires (events.Edge signal) = IsSomeSignal wires signal
IsEvent wires events.Global = Unit {0}
IsEvent wires events.Init = Unit {0}
IsEvent wires events.Always = Unit {0}

-- a line that writes a memory
pub record IsWrite (wires : List Wire) (w : WriteLine) : Type 0 where
  pub memory : IsName w.memory
  pub address : IsSomeSignal wires w.address
  pub value : IsSomeSignal wires w.value
  pub enable : IsSomeSignal wires w.enable
  pub mask : IsConstant w.mask
  pub attributes : AreAttributes w.attributes

-- a rule
pub record IsRule (wires : List Wire) (s : SyncRule) : Type 0 where
  pub event : IsEvent wires s.event
  pub updates : All (IsLink wires) s.updates
  pub writes : All (IsWrite wires) s.writes

-- a process: its root has neither patterns nor attributes
pub record IsProcess (wires : List Wire) (p : Process) : Type 0 where
  pub name : IsName p.name
  pub patterns : p.root.patterns ≡ []
  pub plain : p.root.attributes ≡ []
  pub assigns : All (IsLink wires) p.root.assigns
  pub switches : AreSwitches wires 0 p.root.switches
  pub rules : All (IsRule wires) p.syncs
  pub attributes : AreAttributes p.attributes

-- the names of the wires, memories, cells and processes of a module
abbrev pub item_names : Module → List (List ℕ)
item_names m = map (λ w. w.name) m.wires ++ (map (λ s. s.name) m.memories ++ (map (λ c. c.name) m.cells ++ map (λ p. p.name) m.processes))

-- a module of a design that a text can give
pub record IsReadableModule (m : Module) : Type 0 where
  pub id : IsName m.id
  pub attributes : AreAttributes m.attributes
  pub parameters : All IsParameter m.parameters
  pub wires : All IsWire m.wires
  pub memories : All IsStore m.memories
  pub cells : All (IsCell m.wires) m.cells
  pub processes : All (IsProcess m.wires) m.processes
  pub links : All (IsLink m.wires) m.links
  pub distinct : AreDistinct (item_names m)
  pub bits : sum_by (λ w. w.width) m.wires ≤ MAX_BITS
  pub count : length m.cells ≤ MAX_CELLS

-- a design that a text can give
pub record IsReadable (d : Design) : Type 0 where
  pub modules : All IsReadableModule d.modules
  pub distinct : AreDistinct (map (λ m. m.id) d.modules)
  pub count : length d.modules ≤ MAX_MODULES
