-- The pins so far read well.
use Rattle.std.proofs.Common.{◌≡◌, ℕ, List, drop}
use Rattle.std.specs.List.{list_all}
use Rattle.rtl_sig.specs.declared.sig.WireBit.{WireBit}
use Rattle.rtl_ir.specs.declared.module.Module.{Module}
use Rattle.rtl_ir.specs.Types.{Ports}
use Rattle.net_index.specs.Types.{AreTypes}
use Rattle.net_model.specs.Fsm.Find.{reads_well}
use Rattle.fsm_find.specs.Readers.{AreMarks, ArePlaces, pin_reads_well}
use Rattle.fsm_find.specs.View.{IsView}
use Rattle.fsm_find.proofs.readers.reads_well.Given as goal

abbrev pub invariant-loop-pin : goal.invariant-loop-pin
invariant-loop-pin l =
    (ports : Ports) (m : Module) (places : List ℕ) (bits : List WireBit) → IsView l.readers.view.now ports m → AreTypes l.readers.types.now ports → ArePlaces places l.readers.machine.now.forks.items → AreMarks l.table bits
    → reads_well ports m places l.readers.machine.now.flop bits l.at l.cell ≡ list_all (pin_reads_well ports m places l.readers.machine.now.flop bits l.at l.cell) (drop l.pin-index l.cell.pins)
