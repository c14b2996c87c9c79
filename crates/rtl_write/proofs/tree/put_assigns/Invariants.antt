use Rattle.std.proofs.Common.{◌≡◌, ◌++◌, take}
use Rattle.std.specs.List.{flat_map}
use Rattle.rtl_write.specs.Text.{assign_text}
use Rattle.rtl_write.proofs.tree.put_assigns.Given as goal

-- what was passed so far is written
abbrev pub invariant-loop-link : goal.invariant-loop-link
invariant-loop-link l = l.out ≡ l.initial.out ++ flat_map (assign_text l.wires l.blanks) (take l.link-index l.links)
