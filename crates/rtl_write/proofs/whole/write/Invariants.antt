use Rattle.std.proofs.Common.{◌≡◌, take}
use Rattle.std.specs.List.{flat_map}
use Rattle.rtl_write.specs.Text.{module_text}
use Rattle.rtl_write.proofs.whole.write.Given as goal

-- what was passed so far is written
abbrev pub invariant-loop-module : goal.invariant-loop-module
invariant-loop-module l = l.out ≡ flat_map module_text (take l.module-index l.design.modules)
