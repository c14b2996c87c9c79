-- The ports so far are no wider.
use Rattle.std.proofs.Common.{◌≤◌, length, take}
use Rattle.std.specs.List.{AllByRecursion}
use Rattle.rtl_ir.specs.declared.plan.ReadPort.{ReadPort as PlanRead}
use Rattle.flat_net.proofs.fetches.widest.Given as goal

abbrev pub invariant-loop-read : goal.invariant-loop-read
invariant-loop-read l = AllByRecursion (λ (r : PlanRead). length r.«data» ≤ l.width) (take l.read-index l.reads)
