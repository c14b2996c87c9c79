-- Designs whose modules have the same names and instances.
use Rattle.std.specs.Prelude.{◌≡◌, List, [], ◌∷◌}
use Rattle.rtl_ir.specs.Flat.Cell.{instances}
use Rattle.rtl_ir.specs.declared.module.Module.{Module}

-- modules in turn have the same names, and the same instances
abbrev pub HaveSameInstances : List Module → List Module → Type 0
HaveSameInstances [] [] = Unit {0}
HaveSameInstances (m ∷ ms) (n ∷ ns) = (m.id ≡ n.id) × (instances m.cells ≡ instances n.cells) × HaveSameInstances ms ns
HaveSameInstances [] (n ∷ ns) = ⊥
HaveSameInstances (m ∷ ms) [] = ⊥
