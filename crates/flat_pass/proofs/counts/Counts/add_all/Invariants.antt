-- What is counted, and what the names that are left add to it.
use Rattle.std.proofs.Common.{◌≡◌, ℕ, ◌+◌, List, drop}
use Rattle.flat_pass.specs.Counts.{count_of, times}
use Rattle.flat_pass.specs.ByName.{names_now}
use Rattle.flat_pass.proofs.counts.Counts.add_all.Given as goal

abbrev pub invariant-loop-name : goal.invariant-loop-name
invariant-loop-name l =
    (n : List ℕ) → count_of l.self n + times (names_now (drop l.name-index l.names)) n ≡ count_of l.initial.self n + times (names_now l.names) n
