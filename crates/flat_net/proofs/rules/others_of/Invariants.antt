-- The others so far, and those of the places that are left, are all.
use Rattle.std.proofs.Common.{◌≡◌, ◌++◌, List, drop}
use Rattle.std.specs.Prelude.{filter, not}
use Rattle.std.specs.Option.{is_some}
use Rattle.rtl_ir.specs.Follow.{source_at}
use Rattle.rtl_ir.specs.declared.follow.Join.{Join}
use Rattle.rtl_ir.specs.Sources.{AreSources}
use Rattle.flat_net.proofs.rules.others_of.Given as goal

abbrev pub invariant-loop-line : goal.invariant-loop-line
invariant-loop-line l =
    (js : List Join) → AreSources l.sources js
    → l.others.items ++ filter (λ (j : Join). not (is_some (source_at js j.bit))) (drop l.line-index l.lines)
    ≡ filter (λ (j : Join). not (is_some (source_at js j.bit))) l.lines
