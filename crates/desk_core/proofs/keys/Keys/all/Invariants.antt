use Rattle.std.proofs.Common.{◌≡◌, ℕ, map}
use Rattle.std.specs.List.{range_with_len}
use Rattle.script_core.specs.Keys.{key_of}
use Rattle.desk_core.proofs.keys.Keys.all.Given as goal

-- the keys of the modules so far
abbrev pub invariant-loop-at : goal.invariant-loop-at
invariant-loop-at l = l.all.items ≡ map (λ (n : ℕ). key_of l.self.design.now.design.modules n l.self.script.now) (range_with_len 0 l.at)
