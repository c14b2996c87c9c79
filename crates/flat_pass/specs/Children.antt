-- The modules that instances may be of, as the code holds them.
use Rattle.std.specs.Prelude.{◌≡◌, ℕ, List, option_map}
use Rattle.rtl_ir.specs.declared.module.Module.{Module}
use Rattle.rtl_ir.specs.Flat.Tree.{named}
use Rattle.flat_pass.specs.ByName.{at_name}
use Rattle.flat_pass.specs.declared.child.Child.{Child}
use Rattle.flat_pass.specs.declared.children.Children.{Children}

-- the table has these modules, each by its name
abbrev pub AreChildren : Children → List Module → Type 0
AreChildren children modules =
    (id : List ℕ) → option_map (λ (c : Child). c.body.now) (at_name children.by_name id) ≡ named modules id
