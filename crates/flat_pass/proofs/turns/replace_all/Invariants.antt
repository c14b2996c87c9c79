-- The replacements that are left make of the module so far what all make of the first.
use Rattle.std.proofs.Common.{◌≡◌, ◌-◌, List}
use Rattle.rtl_ir.specs.declared.module.Module.{Module}
use Rattle.flat_pass.specs.Children.{AreChildren}
use Rattle.flat_pass.specs.Flat.{flat_after}
use Rattle.flat_pass.specs.Grown.{IsSound, built}
use Rattle.flat_pass.proofs.turns.replace_all.Given as goal

abbrev pub invariant-loop-turn : goal.invariant-loop-turn
invariant-loop-turn l = record {
  left : (below : List Module) → AreChildren l.children below → flat_after (1048576 - l._turn) below (built l.grown) ≡ flat_after 1048576 below (built l.initial.grown);
  sound : IsSound l.grown;
}
