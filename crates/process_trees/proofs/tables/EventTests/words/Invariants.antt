-- The words so far and those of the signals that are left are all.
use Rattle.std.proofs.Common.{◌≡◌, ◌++◌, List, length, drop, map}
use Rattle.rtl_ir.specs.declared.module.Link.{Link}
use Rattle.rtl_ir.specs.EventTests.{probed}
use Rattle.rtl_ir.specs.Follow.{all_joins, follow_joins}
use Rattle.process_trees.specs.Tables.{AreLinks}
use Rattle.process_trees.proofs.tables.EventTests.words.Given as goal

abbrev pub invariant-loop-signal : goal.invariant-loop-signal
invariant-loop-signal l = record {
  widths : map length l.words.items ++ map length (map (λ s. s.now) (drop l.signal-index l.signals)) ≡ map length (map (λ s. s.now) l.signals);
  value : (links : List Link) → AreLinks l.self links
      → l.words.items ++ map (map (λ s. probed l.bit (follow_joins (all_joins links) s))) (map (λ s. s.now) (drop l.signal-index l.signals))
      ≡ map (map (λ s. probed l.bit (follow_joins (all_joins links) s))) (map (λ s. s.now) l.signals);
}
