-- What a simulation is at.
use Rattle.std.specs.Prelude.{◌≡◌, ◌<◌, not, List, length, map}
use Rattle.std.specs.List.{AllByRecursion}
use Rattle.rtl_bits.specs.declared.bit.Bit.{Bit}
use Rattle.rtl_ir.specs.declared.module.Design.{Design}
use Rattle.rtl_ir.specs.declared.module.Module.{Module}
use Rattle.rtl_ir.specs.Flat.Driver.{Driven}
use Rattle.rtl_ir.specs.Flat.Place.{Place, place_same}
use Rattle.rtl_ir.specs.Flat.Tree.{flat, output_places}
use Rattle.flat_net.specs.declared.net.Net.{Net}
use Rattle.flat_net.specs.Net.{IsNetOf}
use Rattle.flat_net.specs.Parts.{parts_rows}
use Rattle.flat_net.specs.Points.{place_at, AreApart}
use Rattle.flat_net.specs.Within.{ArePartsWithin}
use Rattle.net_model.specs.declared.order.Order.{Order}
use Rattle.net_model.specs.Lists.{In}
use Rattle.net_model.specs.Run.{Time, rows_at}
use Rattle.net_model.specs.Settle.{applied}
use Rattle.net_model.specs.Valuation.{Valuation}
use Rattle.net_model.specs.Within.{Each}
use Rattle.net_model.specs.Value.{value_of, meanings}
use Rattle.sim_eval.specs.declared.sim.Sim.{Sim}
use Rattle.sim_eval.specs.After.{is_first, valuation_after}
use Rattle.sim_eval.specs.Shapes.{HaveShapes}
use Rattle.sim_eval.specs.Shown.{shown}

-- all rows applied at once, at a time
abbrev pub applied_at : List Driven → Time Place → Valuation → Valuation
applied_at rows t v = applied place_same (rows_at t (meanings rows)) v

-- these rows are the flat netlist of a module of a design as far as it counts: they give each bit the same, and each of
-- them is the one that counts for its bit
pub record AreCounting (d : Design) (m : Module) (rows : List Driven) : Type 0 where
  pub same : (t : Time Place) (v : Valuation) (q : Place) → applied_at rows t v q ≡ applied_at (flat d m) t v q
  pub once :
      (r : Driven) → In r rows → (t : Time Place) (v : Valuation) → applied_at rows t v r.place ≡ value_of r.driver t v

-- the values of numbered bits are a valuation, in which any other bit is x
pub record AreAt (ps : List Place) (values : List Bit) (v : Valuation) : Type 0 where
  pub count : length ps ≡ length values
  pub shown : shown ps values ≡ v

-- a simulation is at a module of a design after these input vectors, in an order of time, where the bit of number n is the n-th of these
pub record IsAt (sim : Sim) (order : Order) (d : Design) (m : Module) (stimulus : List (List Bit)) (ps : List Place) : Type 0 where
  pub apart : AreApart ps
  pub within : ArePartsWithin (length ps) sim.parts
  pub counting : AreCounting d m (parts_rows ps sim.parts)
  pub outputs : map (place_at ps) sim.outputs ≡ output_places m
  pub outputs_within : AllByRecursion (λ number. number < length ps) sim.outputs
  pub values : AreAt ps sim.values.items (valuation_after order d m stimulus)
  pub started : not sim.started ≡ is_first stimulus
  pub ordered : sim.order ≡ order

-- a simulation is at a module of a design after these input vectors, in an order of time: it shows what all bits have then,
-- and whether a step was made
abbrev pub IsSimOf : Sim → Order → Design → Module → List (List Bit) → Type 0
IsSimOf sim order d m stimulus = (ps : List Place) × IsAt sim order d m stimulus ps

-- a netlist is that of a module of a design whose cells have shapes
pub record IsShapedNet (net : Net) : Type 0 where
  pub design : Design
  pub body : Module
  pub bits : List Place
  pub shapes : Each (λ (m : Module). HaveShapes m.cells) design.modules
  pub among : In body design.modules
  pub is : IsNetOf net design body bits
