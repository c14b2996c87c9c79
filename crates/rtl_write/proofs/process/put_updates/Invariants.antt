use Rattle.std.proofs.Common.{◌≡◌, ◌++◌, take}
use Rattle.std.specs.List.{flat_map}
use Rattle.rtl_write.specs.Text.{update_text}
use Rattle.rtl_write.proofs.process.put_updates.Given as goal

-- what was passed so far is written
abbrev pub invariant-loop-link : goal.invariant-loop-link
invariant-loop-link l = l.out ≡ l.initial.out ++ flat_map (update_text l.wires) (take l.link-index l.links)
