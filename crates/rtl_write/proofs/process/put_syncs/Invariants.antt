use Rattle.std.proofs.Common.{◌≡◌, ◌++◌, take}
use Rattle.std.specs.List.{flat_map}
use Rattle.rtl_write.specs.Text.{sync_text}
use Rattle.rtl_write.proofs.process.put_syncs.Given as goal

-- what was passed so far is written
abbrev pub invariant-loop-rule : goal.invariant-loop-rule
invariant-loop-rule l = l.out ≡ l.initial.out ++ flat_map (sync_text l.wires) (take l.rule-index l.rules)
