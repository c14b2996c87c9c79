use Rattle.std.proofs.Common.{◌≡◌, take}
use Rattle.std.specs.List.{flat_map}
use Rattle.rtl_write.specs.Ports.{ports_by_module_text}
use Rattle.rtl_write.proofs.ports.ports_text.Given as goal

-- what was passed so far is written
abbrev pub invariant-loop-module : goal.invariant-loop-module
invariant-loop-module l = l.out ≡ flat_map ports_by_module_text (take l.module-index l.ports.modules)
