use Rattle.std.proofs.Common.{◌≡◌, ℕ, ◌<◌}
use Rattle.work_crew.specs.Reach.{Paired, puts_of, tally}
use Rattle.work_crew.proofs.reach.steal_any.Given as goal

abbrev pub invariant-loop-step : goal.invariant-loop-step
invariant-loop-step g l = record {
  few : l.empty < l.step;
  paired : Paired l.thieves l.notes.items;
  taken : (k : ℕ) → tally k l.notes.items ≡ tally k l.fn.notes.items;
  same : puts_of l.notes.items ≡ puts_of l.fn.notes.items;
}

abbrev pub invariant-loop : goal.invariant-loop
invariant-loop g l = record {
  paired : Paired l.thieves l.notes.items;
  taken : (k : ℕ) → tally k l.notes.items ≡ tally k l.fn.notes.items;
  same : puts_of l.notes.items ≡ puts_of l.fn.notes.items;
}
