-- The texts of the modules so far are written.
use Rattle.std.proofs.Common.{◌≡◌, map, take}
use Rattle.std.specs.List.{flat_map}
use Rattle.rtl_write.specs.Text.{module_text}
use Rattle.script_core.proofs.key.modules_text.Given as goal

abbrev pub invariant-loop-module : goal.invariant-loop-module
invariant-loop-module l = l.out ≡ flat_map module_text (map (λ m. m.now) (take l.module-index l.modules))
