-- The wires so far read well.
use Rattle.std.proofs.Common.{◌≡◌, List, drop}
use Rattle.rtl_sig.specs.declared.sig.WireBit.{WireBit}
use Rattle.rtl_ir.specs.declared.module.Module.{Module}
use Rattle.rtl_ir.specs.Types.{Ports}
use Rattle.net_model.specs.Fsm.Find.{ports_read_well}
use Rattle.fsm_find.specs.Readers.{AreMarks}
use Rattle.fsm_find.specs.View.{IsView}
use Rattle.fsm_find.proofs.readers.ports_read_well.Given as goal

abbrev pub invariant-loop-at : goal.invariant-loop-at
invariant-loop-at l = (ports : Ports) (m : Module) (bits : List WireBit) → IsView l.view ports m → AreMarks l.table bits → ports_read_well m bits 0 l.wires ≡ ports_read_well m bits l.at (drop l.at l.wires)
