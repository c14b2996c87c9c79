-- When one design may stand for another.
use Rattle.std.specs.Prelude.{◌≡◌, List, [], ◌∷◌, ◌++◌, map}
use Rattle.rtl_bits.specs.declared.bit.Bit.{Bit}
use Rattle.rtl_bits.specs.Knowledge.{Below}
use Rattle.rtl_ir.specs.declared.module.Module.{Module}
use Rattle.rtl_ir.specs.declared.module.Design.{Design}
use Rattle.rtl_ir.specs.declared.ports.PortLine.{PortLine}
use Rattle.rtl_ir.specs.declared.ports.PortTable.{PortTable}
use Rattle.rtl_ir.specs.declared.wire.Role.TheVariants.{Input}
use Rattle.rtl_ir.specs.Ports.{ports_of}
use Rattle.rtl_ir.specs.Flat.Cell.{Ports, instances}
use Rattle.rtl_ir.specs.Flat.Driver.{Driven}
use Rattle.rtl_ir.specs.Flat.Place.{Frame, Path, Place, place_same, IsOf}
use Rattle.rtl_ir.specs.Flat.Rows.{rows_of}
use Rattle.rtl_ir.specs.Flat.Tree.{design_ports, table_ports, role_points, places, driven_rows, flat, output_places}
use Rattle.net_model.specs.declared.order.Order.{Order}
use Rattle.net_model.specs.Lists.{In, Distinct}
use Rattle.net_model.specs.Run.{Time, Start, Step, run, TraceBelow}
use Rattle.net_model.specs.Valuation.{Valuation}
use Rattle.net_model.specs.Value.{value_of, meanings}

-- the output vectors of a module of a design in an order of time, for a list of input vectors
abbrev pub run_of : Order → Design → Module → List (List Bit) → List (List Bit)
run_of order d m stimulus = run place_same (meanings (flat d m)) (output_places m) order stimulus

-- the second module has the name and the ports of the first, and in both orders of time and for every stimulus the trace of
-- the first is below its own
abbrev pub ModuleBelow : Design → Design → Module → Module → Type 0
ModuleBelow d e m n =
    (m.id ≡ n.id)
    × (ports_of m.wires ≡ ports_of n.wires)
    × ((order : Order) (stimulus : List (List Bit)) → TraceBelow (run_of order d m stimulus) (run_of order e n stimulus))

-- the same of each module of two lists
abbrev pub ModulesBelow : Design → Design → List Module → List Module → Type 0
ModulesBelow d e [] [] = Unit {0}
ModulesBelow d e (m ∷ ms) (n ∷ ns) = ModuleBelow d e m n × ModulesBelow d e ms ns
ModulesBelow d e [] (n ∷ ns) = ⊥
ModulesBelow d e (m ∷ ms) [] = ⊥

-- the second design refines the first: no known output bit of any module is lost, whatever the stimulus, in either order of time
abbrev pub Refines : Design → Design → Type 0
Refines d e = ModulesBelow d e d.modules e.modules

-- the bits of rows
abbrev pub places_of : List Driven → List Place
places_of rows = map (λ row. row.place) rows

-- no bit of a module has two drivers, in whatever design it stands
pub record IsWellDriven (ports : Ports) (m : Module) : Type 0 where
  -- no bit stands twice in its input ports
  pub inputs : (p : Path) → Distinct (places (role_points Input p (ports_of m.wires)))
  -- no bit has two rows
  pub rows : (p : Path) → Distinct (places_of (rows_of ports p m))
  -- no row drives a bit of an input port
  pub apart :
      (p : Path) (x : Driven) → In x (rows_of ports p m) → x.place.path ≡ p → (n : PortLine) → In n (ports_of m.wires) →
      n.role ≡ Input → IsOf n.name x.place.spot → ⊥
  -- no two instances have one name
  pub instances : Distinct (map (λ f. f.name) (instances m.cells))

-- no bit of a design has two drivers, module by module, and no two modules have one name
pub record AreWellDriven (d : Design) : Type 0 where
  pub ids : Distinct (map (λ m. m.id) d.modules)
  pub modules : (m : Module) → In m d.modules → IsWellDriven (design_ports d) m

-- no two modules have one name, and no bit of the flat netlist of a module has two drivers
pub record HasOneDriver (d : Design) : Type 0 where
  pub ids : Distinct (map (λ m. m.id) d.modules)
  pub rows : (m : Module) → In m d.modules → Distinct (places_of (driven_rows d m))

-- a design with this module among others
abbrev pub with_body : List Module → Module → List Module → Design
with_body pre b post = record { modules = pre ++ b ∷ post }

-- each of these instances is of a module whose ports are the same in two tables
abbrev pub AgreeOn : Ports → Ports → List Frame → Type 0
AgreeOn ports ports' [] = Unit {0}
AgreeOn ports ports' (f ∷ frames) = (ports f.module_name ≡ ports' f.module_name) × AgreeOn ports ports' frames

-- of any two designs that differ only in one module, which has the first body in the one and the second in the other, the
-- second design refines the first; the modules that the first body instantiates have these ports
pub record RefinesOver (b c : Module) (ports : Ports) : Type 0 where
  pub holds :
      (pre post : List Module) → AreWellDriven (with_body pre b post) → AreWellDriven (with_body pre c post) →
      AgreeOn ports (design_ports (with_body pre b post)) (instances b.cells) →
      Refines (with_body pre b post) (with_body pre c post)

-- the same with the ports in a table
abbrev pub RefinesIn : Module → Module → PortTable → Type 0
RefinesIn b c table = RefinesOver b c (table_ports table)

-- what a row gives is below what its bit has
abbrev pub IsMet : Driven → Time Place → Valuation → Type 0
IsMet d t w = Below (value_of d.driver t w) (w d.place)

-- what its bit has is below what a row gives
abbrev pub IsTight : Driven → Time Place → Valuation → Type 0
IsTight d t w = Below (w d.place) (value_of d.driver t w)

-- a valuation solves rows at a time: each bit has what its row gives, as far as either is known
pub record Solved (rows : List Driven) (t : Time Place) (w : Valuation) : Type 0 where
  pub met : (d : Driven) → In d rows → IsMet d t w
  pub tight : (d : Driven) → In d rows → IsTight d t w

-- the valuation of the step before solved them too
abbrev pub SolvedBefore : List Driven → Time Place → Type 0
SolvedBefore rows Start = Unit {0}
SolvedBefore rows (Step v x manner) = (t : Time Place) × Solved rows t v

-- what a pass that keeps all bits owes: each solution of the rows of the module after it meets each row from before it
pub record RowsRefine (b c : Module) (ports : Ports) : Type 0 where
  pub id : b.id ≡ c.id
  pub ports_same : ports_of b.wires ≡ ports_of c.wires
  pub children : instances b.cells ≡ instances c.cells
  pub rows :
      (p : Path) (t : Time Place) (w : Valuation) → Solved (rows_of ports p c) t w →
      SolvedBefore (rows_of ports p c) t → (d : Driven) → In d (rows_of ports p b) → IsMet d t w

-- one module after another: the same name and ports, no bit with two drivers before or after, and refined
abbrev pub EachRefines : Ports → List Module → List Module → Type 0
EachRefines ports [] [] = Unit {0}
EachRefines ports (b ∷ bs) (c ∷ cs) =
    ((b.id ≡ c.id)
    × (ports_of b.wires ≡ ports_of c.wires)
    × IsWellDriven ports b
    × IsWellDriven ports c
    × RefinesOver b c ports)
    × EachRefines ports bs cs
EachRefines ports [] (c ∷ cs) = ⊥
EachRefines ports (b ∷ bs) [] = ⊥
