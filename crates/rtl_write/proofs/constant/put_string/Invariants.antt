use Rattle.std.proofs.Common.{◌≡◌, ◌++◌, take}
use Rattle.std.specs.List.{flat_map}
use Rattle.rtl_write.specs.Constant.{escaped}
use Rattle.rtl_write.proofs.constant.put_string.Given as goal

-- the characters so far are written
abbrev pub invariant-loop-char : goal.invariant-loop-char
invariant-loop-char l = l.out ≡ l.initial.out ++ flat_map escaped (take l.char-index l.chars)
