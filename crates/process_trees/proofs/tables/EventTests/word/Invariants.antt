-- The bits so far and those of the places that are left are all.
use Rattle.std.proofs.Common.{◌≡◌, ◌++◌, List, length, drop, map}
use Rattle.rtl_ir.specs.declared.module.Link.{Link}
use Rattle.rtl_ir.specs.EventTests.{probed}
use Rattle.rtl_ir.specs.Follow.{all_joins, follow_joins}
use Rattle.process_trees.specs.Tables.{AreLinks}
use Rattle.process_trees.proofs.tables.EventTests.word.Given as goal

abbrev pub invariant-loop-place : goal.invariant-loop-place
invariant-loop-place l = record {
  width : length l.word.items ≡ l.place-index;
  value : (links : List Link) → AreLinks l.self links
      → l.word.items ++ map (λ s. probed l.bit (follow_joins (all_joins links) s)) (drop l.place-index l.signal) ≡ map (λ s. probed l.bit (follow_joins (all_joins links) s)) l.signal;
}
