-- The bits so far are those of the signal so far.
use Rattle.std.proofs.Common.{[], take}
use Rattle.rtl_bits.specs.declared.bit.Bit.{Bit}
use Rattle.rtl_sig.specs.declared.sig.SigBit.{SigBit}
use Rattle.flat_net.specs.Cells.{PutsStores}
use Rattle.flat_net.specs.Starts.{IsStart}
use Rattle.flat_net.proofs.stores.store_bits.Given as goal

abbrev pub invariant-loop-at : goal.invariant-loop-at
invariant-loop-at l = (start : SigBit → Bit) → IsStart l.scope.starts.now start → PutsStores start l.reads 0 [] l.bits.items (take l.at l.signal) (take l.at l.points)
