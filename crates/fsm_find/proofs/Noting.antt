-- Tables of cells by what they drive, as cells are noted from the last to the first.
use Rattle.std.proofs.Common.{◌≡◌, ℕ, ◌+◌, ◌-◌, ◌<◌, ◌≤◌, true, false, cond, List, length, get_or, drop, Some, sym, ◌∙◌, ap, arith}
use Rattle.std.specs.Prelude.{◌&&◌}
use Rattle.rtl_ir.proofs.PortLemmas.{drop-before}
use Rattle.rtl_sig.specs.declared.sig.SigBit.{SigBit}
use Rattle.rtl_ir.specs.declared.cell.Cell.{Cell}
use Rattle.rtl_ir.specs.Flat.Cell.{cell_kind}
use Rattle.rtl_ir.specs.Signals.{same_signal}
use Rattle.net_model.specs.Fsm.Find.{at_pin, place_where}
use Rattle.fsm_parts.specs.declared.signal_table.SignalTable.{SignalTable}
use Rattle.fsm_find.specs.declared.whole_drivers.Part.{Part}
use Rattle.fsm_parts.specs.SignalTable.{place_in}
use Rattle.fsm_find.specs.WholeDrivers.{driving_pin, gives, is_part}

-- a cell is noted before those behind it
pub noted_more : (part : Part) (old new : SignalTable) (cells : List Cell) (at : ℕ) (c : Cell) → 0 < at → at ≤ length cells → c ≡ get_or cells (at - 1) c
    → ((signal : List SigBit) → place_in old signal ≡ place_where (λ (c : Cell). gives part c signal) at (drop at cells))
    → ((signal : List SigBit) → place_in new signal ≡ cond (gives part c signal) (Some (at - 1)) (place_in old signal))
    → (signal : List SigBit) → place_in new signal ≡ place_where (λ (c : Cell). gives part c signal) (at - 1) (drop (at - 1) cells)
noted_more part old new cells at c some within is so noted signal =
    let next : at ≡ (at - 1) + 1 = omega arith in
    noted signal
    ∙ ap (λ r. cond (gives part c signal) (Some (at - 1)) r) (so signal ∙ ap (λ n. place_where (λ (c : Cell). gives part c signal) n (drop at cells)) next)
    ∙ ap (λ cs. place_where (λ (c : Cell). gives part c signal) (at - 1) cs) (sym (drop-before cells at c some within is))

-- a part is put by what it drives
pub noted_part : (part : Part) (old new : SignalTable) (c : Cell) (at : ℕ) (signal : List SigBit) → is_part part (cell_kind c) ≡ true → signal ≡ at_pin c (driving_pin part)
    → ((other : List SigBit) → place_in new other ≡ cond (same_signal signal other) (Some at) (place_in old other))
    → (other : List SigBit) → place_in new other ≡ cond (gives part c other) (Some at) (place_in old other)
noted_part part old new c at signal is_one is put other =
    put other ∙ ap (λ t. cond t (Some at) (place_in old other)) (ap (λ s. same_signal s other) is ∙ ap (λ t. t && same_signal (at_pin c (driving_pin part)) other) (sym is_one))

-- a cell that is none is not noted
pub noted_none : (part : Part) (old : SignalTable) (c : Cell) (at : ℕ) → is_part part (cell_kind c) ≡ false → (signal : List SigBit) → place_in old signal ≡ cond (gives part c signal) (Some at) (place_in old signal)
noted_none part old c at none signal = ap (λ t. cond (t && same_signal (at_pin c (driving_pin part)) signal) (Some at) (place_in old signal)) (sym none)
