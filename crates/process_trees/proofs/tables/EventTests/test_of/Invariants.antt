-- The test from here on, through as many cells as are left, is the whole test.
use Rattle.std.proofs.Common.{◌≡◌, ℕ, ◌+◌}
use Rattle.std.specs.Prelude.{option_map}
use Rattle.rtl_ir.specs.EventTests.{differs, test_of, test_within}
use Rattle.rtl_ir.specs.Types.{Ports}
use Rattle.process_trees.specs.Fitting.{DoCellsFit}
use Rattle.process_trees.specs.Tables.{AreTests}
use Rattle.process_trees.proofs.tables.EventTests.test_of.Given as goal

abbrev pub invariant-loop-step : goal.invariant-loop-step
invariant-loop-step l =
    (ports : Ports) → AreTests l.self ports l.module → DoCellsFit ports l.module → (k : ℕ) → k + l._step ≡ 4
    → option_map (differs l.inverse) (test_within ports l.module k l.event l.at) ≡ test_of ports l.module l.event l.fn.place
