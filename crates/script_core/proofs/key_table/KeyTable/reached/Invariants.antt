-- What was found is reached from the module at the place, and each module that is looked at leaves less to do.
use Rattle.std.proofs.Common.{◌≡◌, Some}
use Rattle.std.specs.Prelude.{slice_get}
use Rattle.rtl_ir.specs.declared.module.Module.{Module}
use Rattle.script_core.proofs.Searches.{IsSearching, work_left}
use Rattle.script_core.proofs.key_table.KeyTable.reached.Given as goal

abbrev pub invariant-loop-module : goal.invariant-loop-module
invariant-loop-module l = (start : Module) → slice_get l.self.modules.now l.at ≡ Some start → IsSearching l.self.modules.now start l.search

abbrev pub decreases-loop-module : goal.decreases-loop-module
decreases-loop-module l = work_left l.self.modules.now l.search
