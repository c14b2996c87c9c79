-- What is kept so far and what is left give all.
use Rattle.std.proofs.Common.{◌≡◌, ℕ, ◌++◌, false, List, length}
use Rattle.rtl_ir.specs.Flat.Place.{Place}
use Rattle.flat_net.specs.Parts.{parts_rows}
use Rattle.flat_net.specs.Points.{AreApart}
use Rattle.flat_net.specs.Within.{ArePartsWithin}
use Rattle.sim_eval.specs.First.{firsts}
use Rattle.sim_eval.specs.Shown.{found}
use Rattle.sim_eval.proofs.first.first_of_parts.Given as goal

abbrev pub invariant-loop-part : goal.invariant-loop-part
invariant-loop-part l = record {
  rows : (ps : List Place) → AreApart ps → length ps ≡ length l.fn.seen → ArePartsWithin (length ps) l.fn.parts → parts_rows ps l.kept ++ firsts (found false ps l.seen) (parts_rows ps l.part-iterator.rest.items) ≡ firsts (found false ps l.fn.seen) (parts_rows ps l.fn.parts);
  kept : (count : ℕ) → ArePartsWithin count l.fn.parts → ArePartsWithin count l.kept;
  rest : (count : ℕ) → ArePartsWithin count l.fn.parts → ArePartsWithin count l.part-iterator.rest.items;
}
