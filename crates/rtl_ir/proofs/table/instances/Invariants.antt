-- The modules that are found are those of the cells so far, in order.
use Rattle.std.proofs.Common.{◌≡◌, map, take}
use Rattle.rtl_ir.specs.Ports.{instances_of}
use Rattle.rtl_ir.proofs.PortLemmas.{module_of, AreNamed}
use Rattle.rtl_ir.proofs.table.instances.Given as goal

abbrev pub invariant-loop-cell : goal.invariant-loop-cell
invariant-loop-cell l = record {
  found : map module_of l.found.entries ≡ instances_of l.design.modules.now (take l.cell-index l.cells);
  named : AreNamed l.found.entries;
}
