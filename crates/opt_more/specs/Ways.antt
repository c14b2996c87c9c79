-- The way on from a word.
use Rattle.std.specs.Prelude.{◌≡◌, ℕ, suc, ◌<◌, ⊤, List, Option, Some}
use Rattle.std.specs.Arc.{arc_value}
use Rattle.rtl_sig.specs.declared.sig.SigBit.{SigBit}
use Rattle.cell_types.specs.declared.pin_name.PinName.{PinName}
use Rattle.rtl_ir.specs.declared.cell.Cell.{Cell}
use Rattle.rtl_ir.specs.declared.module.Link.{Link}
use Rattle.opt_more.specs.Ends.{EndsAt, LeadsTo, Passes}
use Rattle.opt_more.specs.Muxtree.{way_on}
use Rattle.opt_more.specs.declared.muxes.Way.{Way}
use Rattle.opt_more.specs.declared.muxes.Way.TheVariants.{Ends, On, Known}

-- what a way on from a word is, for a cell: none, one to the arm of a cell at a place, or as many as lead to its end
abbrev pub IsWay : PinName → List Cell → List (Option Cell) → List Link → Cell → List SigBit → Way → Type 0
IsWay arm cells slots links c word Ends = EndsAt (way_on arm cells slots links c) word
IsWay arm cells slots links c word (On place next) =
    (way_on arm cells slots links c word ≡ Some next) × Passes arm slots links c place next
IsWay arm cells slots links c word (Known end) =
    LeadsTo (way_on arm cells slots links c) (suc end.steps) word (arc_value end.word)

-- an end that is known is fewer than so many steps away
abbrev pub IsWithin : ℕ → Way → Type 0
IsWithin left (Known end) = end.steps < left
IsWithin left way = ⊤
