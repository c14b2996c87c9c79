-- The way from here on, with as many connections as are left, meets the bit where the whole way does.
use Rattle.std.proofs.Common.{◌≡◌, ℕ, ◌+◌, List, length}
use Rattle.rtl_ir.specs.declared.module.Link.{Link}
use Rattle.rtl_ir.specs.EventTests.{meets, meets_within}
use Rattle.rtl_ir.specs.Follow.{all_joins}
use Rattle.process_trees.specs.Tables.{AreLinks}
use Rattle.process_trees.proofs.tables.EventTests.meets.Given as goal

abbrev pub invariant-loop-step : goal.invariant-loop-step
invariant-loop-step l =
    (links : List Link) → AreLinks l.self links → (k : ℕ) → k + l._step ≡ length (all_joins links) → meets_within (all_joins links) k l.bit l.at ≡ meets (all_joins links) l.bit l.fn.place
