-- Which choices of a tree test the reset of its process.
use Rattle.std.specs.Prelude.{◌≡◌, Option, Some, None}
use Rattle.process_trees.specs.declared.tables.EventTests.{EventTests}
use Rattle.process_trees.specs.Fitting.{DoCellsFit}
use Rattle.process_trees.specs.Tables.{AreTests}
use Rattle.rtl_ir.specs.declared.module.Module.{Module}
use Rattle.rtl_ir.specs.EventTests.{switch_test}
use Rattle.rtl_ir.specs.Faults.TwoEdges.{SwitchTest}
use Rattle.rtl_ir.specs.Flat.Pick.{no_test}
use Rattle.rtl_ir.specs.Flat.Process.{no_modules}
use Rattle.flat_net.specs.declared.resets.Reset.{Reset}

-- the tables are those of a module whose cells have no faults
pub record KnowsTests (table : EventTests) (m : Module) : Type 0 where
  pub tests : AreTests table no_modules m
  pub fit : DoCellsFit no_modules m

-- the switches that test this reset; without one none does
abbrev pub IsTest : Option Reset → SwitchTest → Type 0
IsTest None test = test ≡ no_test
IsTest (Some r) test = KnowsTests r.tests.table.now r.tests.body.now × (test ≡ switch_test no_modules r.tests.body.now r.bit)
