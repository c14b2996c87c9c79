-- When one module may stand for another over all the modules that it reaches, and not their ports alone.
use Rattle.std.specs.Prelude.{◌≡◌, ◌⊎◌, ◌++◌, ◌∷◌, ℕ, zero, suc, List, Some}
use Rattle.rtl_ir.specs.declared.module.Design.{Design}
use Rattle.rtl_ir.specs.declared.module.Module.{Module}
use Rattle.rtl_ir.specs.Flat.Cell.{instances}
use Rattle.rtl_ir.specs.Flat.Place.{Frame}
use Rattle.rtl_ir.specs.Flat.Tree.{named}
use Rattle.net_model.specs.Lists.{In}
use Rattle.net_model.specs.Refine.{AreWellDriven, Refines, with_body}

-- an instance in a module leads to another module, through at most so many modules between the two
abbrev pub LeadsWithin : ℕ → Design → Module → Module → Type 0
LeadsWithin zero d m n = ⊥
LeadsWithin (suc steps) d m n =
    (f : Frame) × (l : Module) × In f (instances m.cells) × (named d.modules f.module_name ≡ Some l) × ((l ≡ n) ⊎ LeadsWithin steps d l n)

-- a module of a design reaches another through instances
abbrev pub Reaches : Design → Module → Module → Type 0
Reaches d m n = (steps : ℕ) × LeadsWithin steps d m n

-- the modules that a module of a design reaches are these
pub record AreReached (d : Design) (m : Module) (below : List Module) : Type 0 where
  pub all : (n : Module) → Reaches d m n → In n below
  pub just : (n : Module) → In n below → Reaches d m n

-- of any two designs that differ only in one module, which has the first body in the one and the second in the other, the
-- second design refines the first, where the modules that the first body reaches in its design are these
pub record RefinesBelow (b c : Module) (below : List Module) : Type 0 where
  pub holds :
      (pre post : List Module) → AreWellDriven (with_body pre b post) → AreWellDriven (with_body pre c post) →
      AreReached (with_body pre b post) b below → Refines (with_body pre b post) (with_body pre c post)
