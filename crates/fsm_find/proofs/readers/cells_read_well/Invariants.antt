-- The cells so far read well.
use Rattle.std.proofs.Common.{◌≡◌, ℕ, List, drop}
use Rattle.rtl_sig.specs.declared.sig.WireBit.{WireBit}
use Rattle.rtl_ir.specs.declared.module.Module.{Module}
use Rattle.rtl_ir.specs.Signals.{wire_bits}
use Rattle.rtl_ir.specs.Types.{Ports}
use Rattle.net_index.specs.Types.{AreTypes}
use Rattle.net_model.specs.Fsm.Find.{cells_read_well}
use Rattle.fsm_find.specs.Readers.{AreMarks, ArePlaces}
use Rattle.fsm_find.specs.View.{IsView}
use Rattle.fsm_find.proofs.readers.cells_read_well.Given as goal

abbrev pub invariant-loop-at : goal.invariant-loop-at
invariant-loop-at l =
    (ports : Ports) (m : Module) (places : List ℕ) (bits : List WireBit) → IsView l.readers.view.now ports m → AreTypes l.readers.types.now ports → ArePlaces places l.readers.machine.now.forks.items → AreMarks l.outputs bits → AreMarks l.state (wire_bits l.readers.view.now.state)
    → cells_read_well ports m places l.readers.machine.now.flop l.readers.view.now.state bits 0 l.cells ≡ cells_read_well ports m places l.readers.machine.now.flop l.readers.view.now.state bits l.at (drop l.at l.cells)
