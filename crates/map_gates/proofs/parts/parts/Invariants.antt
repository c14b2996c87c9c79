-- The parts that are left, behind those so far, are all parts.
use Rattle.std.proofs.Common.{◌≡◌, ◌-◌, length}
use Rattle.net_index.specs.Builder.{IsInLimits}
use Rattle.map_gates.specs.Parts.{all_parts, parts_from}
use Rattle.map_gates.proofs.parts.parts.Given as goal

abbrev pub invariant-loop-part : goal.invariant-loop-part
invariant-loop-part l = record {
  gates : parts_from l.a l.s l.inverses l.part (length l.y - l.part) l.rest l.builder ≡ all_parts l.a l.s l.inverses l.y l.fn.builder;
  within : IsInLimits l.fn.builder → IsInLimits l.builder;
}
