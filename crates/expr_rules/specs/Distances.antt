-- The bits that a shift reads at a distance.
use Rattle.std.specs.Prelude.{ℕ, ◌+◌, ◌-◌, nat_le, Bool, if◌then◌else◌, List}
use Rattle.cell_types.specs.declared.word.ShiftKind.{ShiftKind}
use Rattle.cell_word.specs.Shifts.{below_of}
use Rattle.rtl_sig.specs.declared.sig.SigBit.{SigBit}
use Rattle.rtl_sig.specs.declared.sig.SigBit.TheVariants.{Fixed}
use Rattle.expr_rules.specs.Rules.Shift.{signal_at}
use Rattle.cell_word.specs.declared.shift.Distance.{Distance}

-- the bit that a kind reads for a place at a distance
abbrev pub signal_by : ShiftKind → Bool → List SigBit → ℕ → Distance → ℕ → SigBit
signal_by kind signed a width d at =
    if d.below
    then (if nat_le d.size at then signal_at kind signed a width (at - d.size) else Fixed (below_of kind))
    else signal_at kind signed a width (at + d.size)
