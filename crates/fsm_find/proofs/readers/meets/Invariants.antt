-- The bits so far lead to no marked bit.
use Rattle.std.proofs.Common.{◌≡◌, List, drop}
use Rattle.rtl_sig.specs.declared.sig.WireBit.{WireBit}
use Rattle.rtl_ir.specs.declared.module.Module.{Module}
use Rattle.rtl_ir.specs.Types.{Ports}
use Rattle.net_model.specs.Fsm.Find.{followed_bits, meets_any}
use Rattle.fsm_find.specs.Readers.{AreMarks}
use Rattle.fsm_find.specs.View.{IsView}
use Rattle.fsm_find.proofs.readers.meets.Given as goal

abbrev pub invariant-loop-at : goal.invariant-loop-at
invariant-loop-at l = (ports : Ports) (m : Module) (bits : List WireBit) → IsView l.view ports m → AreMarks l.table bits → meets_any (followed_bits m l.signal) bits ≡ meets_any (followed_bits m (drop l.at l.signal)) bits
