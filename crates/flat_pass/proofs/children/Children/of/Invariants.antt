-- The table has the modules from the place on.
use Rattle.std.proofs.Common.{◌≡◌, ℕ, List, drop}
use Rattle.std.specs.Prelude.{option_map}
use Rattle.rtl_ir.specs.Flat.Tree.{named}
use Rattle.flat_pass.specs.ByName.{at_name}
use Rattle.flat_pass.specs.declared.child.Child.{Child}
use Rattle.flat_pass.proofs.children.Children.of.Given as goal

abbrev pub invariant-loop-at : goal.invariant-loop-at
invariant-loop-at l = (id : List ℕ) → option_map (λ (c : Child). c.body.now) (at_name l.by_name id) ≡ named (drop l.at l.modules) id
