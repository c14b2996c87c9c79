use Rattle.std.proofs.Common.{◌≡◌, ◌++◌, take}
use Rattle.std.specs.List.{flat_map}
use Rattle.std.specs.Prelude.{codes}
use Rattle.rtl_write.specs.Signal.{signal_text}
use Rattle.rtl_write.proofs.tree.put_more_patterns.Given as goal

-- what was passed so far is written
abbrev pub invariant-loop-pattern : goal.invariant-loop-pattern
invariant-loop-pattern l = l.out ≡ l.initial.out ++ flat_map (λ pattern. codes " , " ++ signal_text l.wires pattern) (take l.pattern-index l.patterns)
