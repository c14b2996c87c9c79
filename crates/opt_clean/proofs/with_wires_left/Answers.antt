use Rattle.std.proofs.Common.{◌≡◌, ◌∙◌, ◌++◌, Bool, List, ap, length, map, subst}
use Rattle.std.specs.Prelude.{flat_map}
use Rattle.opt_clean.specs.Kept.{marked}
use Rattle.opt_clean.specs.Moving.{AreMoves}
use Rattle.opt_clean.specs.Wires.{cell_bits, link_bits, moved_cell, moved_link, wire_marks}
use Rattle.opt_clean.proofs.Wholes.{marks_length}
use Rattle.opt_clean.proofs.with_wires_left.Goals as goal

pub wires-requires : goal.wires-requires
wires-requires c =
    let bits = flat_map cell_bits c.as_slice.result.now ++ flat_map link_bits c.as_slice-2.result.now in
    record { long = ap length (c.as_slice-4.ensures.value ∙ c.in_ok-marks.ensures.value) ∙ marks_length bits 0 c.as_slice-wires.result.now }

pub returns : goal.returns
returns c =
    let m = c.args.module in
    let marks : List Bool = wire_marks (flat_map cell_bits m.cells ++ flat_map link_bits m.links) 0 m.wires in
    let is : c.in_ok-marks.marks.items ≡ marks = c.in_ok-marks.ensures.value ∙ (λ i. wire_marks (flat_map cell_bits (c.as_slice.ensures.value i) ++ flat_map link_bits (c.as_slice-2.ensures.value i)) 0 (c.as_slice-wires.ensures.value i)) in
    let moves : AreMoves c.in_ok-moves.moves marks = subst (AreMoves c.in_ok-moves.moves) (c.as_slice-3.ensures.value ∙ is) c.in_ok-moves.ensures.value in
    let wires = c.from_vec.ensures.value ∙ c.in_ok-wires.ensures.value ∙ (λ i. marked ((c.as_slice-4.ensures.value ∙ is) i) (c.as_slice-wires.ensures.value i)) in
    let cells = c.from_vec-2.ensures.value ∙ c.in_ok-cells.ensures.value marks moves ∙ ap (map (moved_cell marks)) c.into_vec.ensures.value in
    let links = c.from_vec-3.ensures.value ∙ c.in_ok-links.ensures.value marks moves ∙ ap (map (moved_link marks)) c.as_slice-5.ensures.value in
    record { exact = λ i. record m { wires = wires i; cells = cells i; links = links i } }
