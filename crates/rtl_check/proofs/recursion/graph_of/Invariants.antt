-- The rows so far and those of the modules that are left are those of all modules.
use Rattle.std.proofs.Common.{◌≡◌, ◌++◌, drop, map}
use Rattle.rtl_ir.specs.declared.module.Module.{Module}
use Rattle.rtl_ir.specs.Faults.Recursion.{instance_places}
use Rattle.process_check.specs.Search.{rows_of}
use Rattle.rtl_check.proofs.recursion.graph_of.Given as goal

abbrev pub invariant-loop-module : goal.invariant-loop-module
invariant-loop-module l = rows_of l.graph.items ++ map (λ (m : Module). instance_places l.modules m.cells) (drop l.module-index l.modules) ≡ map (λ (m : Module). instance_places l.modules m.cells) l.modules
