-- What a pass owes under which bits go or change their meaning: a relation between the bits before and after, spot by spot.
use Rattle.std.specs.Prelude.{◌≡◌, ◌⊎◌, ◌<◌, ℕ, zero, suc, Bool, true, false, List, [], ◌∷◌}
use Rattle.rtl_bits.specs.declared.bit.Bit.{Bit}
use Rattle.rtl_bits.specs.declared.bit.Bit.TheVariants.{X}
use Rattle.rtl_bits.specs.Knowledge.{Below}
use Rattle.rtl_ir.specs.declared.module.Module.{Module}
use Rattle.rtl_ir.specs.declared.ports.PortLine.{PortLine}
use Rattle.rtl_ir.specs.declared.wire.Role.{Role}
use Rattle.rtl_ir.specs.declared.wire.Role.TheVariants.{Input, Output}
use Rattle.rtl_ir.specs.Ports.{ports_of}
use Rattle.rtl_ir.specs.Flat.Cell.{Ports, instances}
use Rattle.rtl_ir.specs.Flat.Driver.{Driven}
use Rattle.rtl_ir.specs.Flat.Place.{Frame, Path, Spot, OfWire, Place, wire_place}
use Rattle.rtl_ir.specs.Flat.Rows.{rows_of}
use Rattle.net_model.specs.Lists.{In}
use Rattle.net_model.specs.Run.{Time, Start, Step}
use Rattle.net_model.specs.Valuation.{Valuation}
use Rattle.net_model.specs.Value.{value_of}
use Rattle.net_model.specs.Refine.{Solved}

-- whether a number is 0
abbrev pub is_zero : ℕ → Bool
is_zero zero = true
is_zero (suc n) = false

-- a valuation solves rows so many steps after the start, and so did all the valuations before it
abbrev pub Reached : ℕ → List Driven → Time Place → Valuation → Type 0
Reached zero rows Start w = Solved rows Start w
Reached (suc n) rows (Step v x manner) w =
    Solved rows (Step v x manner) w × (manner.first ≡ is_zero n) × ((t : Time Place) × Reached n rows t v)
Reached zero rows (Step v x manner) w = ⊥
Reached (suc n) rows Start w = ⊥

-- the innermost instance of a path is of the module of this name
abbrev pub OwnerIs : List ℕ → Path → Type 0
OwnerIs id [] = ⊥
OwnerIs id (f ∷ p) = f.module_name ≡ id

-- what the valuation after a pass says of a spot of the module at a path: which value the bit may have had before the pass
abbrev pub Says : Type 1
Says = Path → Valuation → Spot → Bit → Type 0

-- the spot is one of the bits that a port has
abbrev pub IsBitOf : PortLine → Spot → Type 0
IsBitOf n spot = (at : ℕ) × (at < n.width) × (spot ≡ OfWire n.name at)

-- a bit that a port has, of this role, of one of these instances in a module at this path
abbrev pub PortOf : Role → Ports → List Frame → Path → Place → Type 0
PortOf role ports frames p q =
    (f : Frame) × (n : PortLine) × In f frames × In n (ports f.module_name) × (q.path ≡ f ∷ p) × IsBitOf n q.spot × (n.role ≡ role)

-- a bit of the module itself, or of a port of an instance
abbrev pub Reach : Role → Ports → List Frame → Path → Place → Type 0
Reach role ports frames p q = (q.path ≡ p) ⊎ PortOf role ports frames p q

-- two valuations are related in a module: its own bits as is said, the output ports of its instances by the order of knowledge
pub record Related (ports : Ports) (frames : List Frame) (says : Says) (p : Path) (v w : Valuation) : Type 0 where
  pub own : (s : Spot) → says p w s (v (record { path = p; spot = s }))
  pub outer : (q : Place) → PortOf Output ports frames p q → Below (v q) (w q)

-- the same step in both runs, from valuations that are related
abbrev pub SameMoment : Ports → List Frame → Says → Path → Time Place → Time Place → Type 0
SameMoment ports frames says p Start Start = Unit {0}
SameMoment ports frames says p (Step v x f) (Step w y g) =
    Related ports frames says p v w × (x ≡ y) × (f ≡ g)
SameMoment ports frames says p Start (Step w y g) = ⊥
SameMoment ports frames says p (Step v x f) Start = ⊥

-- a value is one that a bit may have: as is said of the module's own bit, by the order of knowledge at an input port of an instance
pub record KeepsTo (ports : Ports) (frames : List Frame) (says : Says) (p : Path) (w : Valuation) (q : Place) (a : Bit) : Type 0 where
  pub own : q.path ≡ p → says p w q.spot a
  pub outer : PortOf Input ports frames p q → Below a (w q)

-- what a pass owes: each row from before it keeps to what is said
pub record RowsRelate (b c : Module) (ports : Ports) (says : Says) : Type 0 where
  pub id : b.id ≡ c.id
  pub ports_same : ports_of b.wires ≡ ports_of c.wires
  pub children : instances b.cells ≡ instances c.cells
  -- of a bit that a port has it is said just that the bit before is below the bit after
  pub port_to :
      (p : Path) (w : Valuation) (n : PortLine) → In n (ports_of b.wires) → (at : ℕ) → at < n.width → (a : Bit) →
      Below a (w (wire_place p n.name at)) → says p w (OfWire n.name at) a
  pub port_from :
      (p : Path) (w : Valuation) (n : PortLine) → In n (ports_of b.wires) → (at : ℕ) → at < n.width → (a : Bit) →
      says p w (OfWire n.name at) a → Below a (w (wire_place p n.name at))
  -- x is allowed everywhere
  pub unknown : (p : Path) (w : Valuation) (s : Spot) → says p w s X
  -- at the same moment of two runs, the second of which solves the rows after the pass now and in all its past
  pub rows :
      (p : Path) (t u : Time Place) → SameMoment ports (instances b.cells) says p t u → (v w : Valuation) →
      Related ports (instances b.cells) says p v w → (n : ℕ) → Reached n (rows_of ports p c) u w → (x : Driven) →
      In x (rows_of ports p b) → KeepsTo ports (instances b.cells) says p w x.place (value_of x.driver t v)
