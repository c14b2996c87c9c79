-- The cells of a part of a machine by the signals that they drive as a whole.
use Rattle.std.specs.Prelude.{ℕ, Bool, ◌&&◌, List, Option}
use Rattle.rtl_sig.specs.declared.sig.SigBit.{SigBit}
use Rattle.cell_types.specs.declared.kind.CellKind.{CellKind}
use Rattle.cell_types.specs.declared.pin_name.PinName.{PinName}
use Rattle.cell_types.specs.declared.pin_name.PinName.TheVariants.{Y, Q}
use Rattle.rtl_ir.specs.declared.cell.Cell.{Cell}
use Rattle.rtl_ir.specs.Flat.Cell.{cell_kind}
use Rattle.rtl_ir.specs.Signals.{same_signal}
use Rattle.net_model.specs.Fsm.Find.{at_pin, is_flop, is_fork, place_where}
use Rattle.fsm_find.specs.declared.whole_drivers.Part.{Part}
use Rattle.fsm_find.specs.declared.whole_drivers.Part.TheVariants.{Tree, Flop}

-- a cell of this kind is such a part
abbrev pub is_part : Part → Option CellKind → Bool
is_part Tree kind = is_fork kind
is_part Flop kind = is_flop kind

-- the pin by which a part drives
abbrev pub driving_pin : Part → PinName
driving_pin Tree = Y
driving_pin Flop = Q

-- a cell is such a part, and drives a signal as a whole
abbrev pub gives : Part → Cell → List SigBit → Bool
gives part c signal = is_part part (cell_kind c) && same_signal (at_pin c (driving_pin part)) signal

-- the first of the cells that does
abbrev pub first_giving : Part → List Cell → List SigBit → Option ℕ
first_giving part cells signal = place_where (λ (c : Cell). gives part c signal) 0 cells

-- the first fork that drives a signal as a whole
abbrev pub fork_at : List Cell → List SigBit → Option ℕ
fork_at cells signal = first_giving Tree cells signal
