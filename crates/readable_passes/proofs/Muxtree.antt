-- What a text can give, it can give with multiplexers that read what others below them read.
use Rattle.std.proofs.Common.{Bool, true, false, List, [], ◌∷◌, ◌++◌, length, Option, ⊎_elim, refl, sym, subst}
use Rattle.std.specs.Prelude.{flat_map, if◌then◌else◌}
use Rattle.cell_types.specs.PinName.{pin_text}
use Rattle.cell_types.specs.declared.pin_name.PinName.{PinName}
use Rattle.cell_types.specs.declared.pin_name.PinName.TheVariants.{A, B}
use Rattle.rtl_ir.specs.Flat.Cell.{listed}
use Rattle.rtl_ir.specs.Parameters.{signal_at}
use Rattle.rtl_ir.specs.Types.{Ports}
use Rattle.rtl_ir.specs.declared.cell.Cell.{Cell}
use Rattle.rtl_ir.specs.declared.module.Link.{Link}
use Rattle.rtl_ir.specs.declared.module.Module.{Module}
use Rattle.follow_laws.specs.Inputs.{followed_cell}
use Rattle.opt_more.specs.Muxtree.{arm_end, is_mux, muxed_arms, muxtree_of, muxtree_visit, standing_now, with_arm}
use Rattle.opt_more.proofs.MuxSteps.{StandsNow, walked_keeps}
use Rattle.rtl_readable.specs.Readable.{IsCell, IsName, IsReadableModule, IsSignal}
use Rattle.rtl_readable.proofs.Signals.{pin_signal}
use Rattle.readable_passes.proofs.Follow.{cell_follows}
use Rattle.readable_passes.proofs.Replaced.{MayReplace}
use Rattle.readable_passes.proofs.Visits.{MayVisit, leads_is, one_may, other_is, own_is, rewired_is, sweep_reads}

module _ (m : Module) (done : List (Option Cell)) (c : Cell) (rest : List Cell) (links : List Link) (reads : IsReadableModule (record m { cells = flat_map listed done ++ c ∷ rest; links = links })) (cells : List Cell) where
  module _ (arm : PinName) (named : IsName (pin_text arm)) (d : Cell) (is : IsCell m.wires d) where
    standing_is : (e : Cell) → StandsNow done d rest e → IsCell m.wires e
    standing_is e stands =
        ⊎_elim (λ other. other_is m done c rest links reads e other) (λ own. subst (IsCell m.wires) (sym own) is) stands

    end_is : IsSignal m.wires (arm_end arm cells (standing_now done d rest) links d)
    end_is =
        walked_keeps arm links done d rest cells (IsSignal m.wires)
        (λ word next step h. subst (IsSignal m.wires) step.leads (leads_is m done c rest links reads step.cell (standing_is step.cell step.among) (pin_text arm)))
        (length (standing_now done d rest)) (signal_at d.pins (pin_text arm)) (pin_signal m.wires d.pins (pin_text arm) is.pins)

    pub arm_is : IsCell m.wires (with_arm arm cells done rest links d)
    arm_is = rewired_is m.wires arm (arm_end arm cells (standing_now done d rest) links d) end_is named d is

  arms_are : (d : Cell) → IsCell m.wires d → IsCell m.wires (muxed_arms cells done rest links d)
  arms_are d is = arm_is B refl (with_arm A cells done rest links d) (arm_is A refl d is)

-- a visit
mux_may : (ports : Ports) (m : Module) (cells : List Cell) → MayVisit m (muxtree_visit ports cells)
mux_may ports m cells done c rest links reads = by (is_mux c)
  where
    by : (t : Bool) → MayReplace (record m { cells = flat_map listed done ++ c ∷ rest; links = links }) c ((if t then muxed_arms cells done rest links (followed_cell ports links c) else c) ∷ []) []
    by true =
        one_may _ c (muxed_arms cells done rest links (followed_cell ports links c)) refl
        (arms_are m done c rest links reads cells (followed_cell ports links c) (cell_follows m.wires links reads.links ports c (own_is m done c rest links reads)))
    by false = one_may _ c c refl (own_is m done c rest links reads)

pub muxtree_reads : (ports : Ports) (m : Module) → IsReadableModule m → IsReadableModule (muxtree_of ports m)
muxtree_reads ports m reads = sweep_reads m (muxtree_visit ports m.cells) (mux_may ports m m.cells) reads
