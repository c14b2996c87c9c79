-- What `flatten` is given, and what it promises of the module that it makes.
use Rattle.std.specs.Prelude.{◌≡◌, List, [], map}
use Rattle.rtl_ir.specs.declared.module.Module.{Module}
use Rattle.rtl_ir.specs.Flat.Cell as flat
use Rattle.rtl_ir.specs.Flat.Place.{Frame}
use Rattle.rtl_ir.specs.Flat.Tree as tree
use Rattle.rtl_ir.specs.Ports.{ports_of}
use Rattle.rtl_ir.specs.Types as types
use Rattle.net_model.specs.Below.{RefinesBelow}
use Rattle.net_model.specs.Lists.{Distinct, In}
use Rattle.net_model.specs.Refine.{AgreeOn, IsWellDriven}
use Rattle.net_model.specs.Within.{Each}
use Rattle.pass_laws.specs.OwnNames.{HaveOwnNames}
use Rattle.pass_laws.specs.Ready.{IsReady}

-- the instances of a module have names of their own
abbrev pub HaveOwnInstances : Module → Type 0
HaveOwnInstances m = Distinct (map (λ (f : Frame). f.name) (flat.instances m.cells))

-- a module that a pass may be given over the ports of these modules, with own names of its memories and its instances
pub record IsUnfolded (below : List Module) (m : Module) : Type 0 where
  pub ready : IsReady (types.design_ports below) m
  pub memories : HaveOwnNames m
  pub instances : HaveOwnInstances m

-- a module over the modules that its instances lead to: all of them may be given to a pass, and it is none of them
pub record StandsOn (m : Module) (below : List Module) : Type 0 where
  pub own : IsUnfolded below m
  pub inner : Each (IsUnfolded below) below
  pub apart : (n : Module) → In n below → n.id ≡ m.id → ⊥

-- the ports of the modules in a list
abbrev pub ports_among : List Module → flat.Ports
ports_among modules = tree.design_ports (record { modules = modules })

-- what the pass promises of the module that it makes, where the module stands on the modules below it
pub record IsFlattened (below : List Module) (before after : Module) : Type 0 where
  -- no known output bit is lost
  pub refines : RefinesBelow before after below
  -- the answer may be given to the next pass, whatever modules there are
  pub ready : (ports : types.Ports) → IsReady ports after
  -- no bit gets a second driver, in whatever design has the modules below
  pub driven :
      (over : flat.Ports) → AgreeOn (ports_among below) over (flat.instances before.cells) →
      Each (λ (n : Module). AgreeOn (ports_among below) over (flat.instances n.cells)) below →
      IsWellDriven over before → Each (IsWellDriven over) below → IsWellDriven over after
  -- the name stays
  pub id : before.id ≡ after.id
  -- the ports stay
  pub ports : ports_of before.wires ≡ ports_of after.wires
  -- no instance is left
  pub library : flat.instances after.cells ≡ []
  -- the memories have names of their own
  pub memories : HaveOwnNames after
