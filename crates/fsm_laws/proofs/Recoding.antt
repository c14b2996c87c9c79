-- The module with its code by its parts.
use Rattle.std.proofs.Common.{◌≡◌, ℕ, ◌+◌, Bool, true, false, cond, List, [], ◌∷◌, ◌++◌, length, map, Option, Some, None, append_assoc, append-nil, length-append, refl, sym, ◌∙◌, ap, arith}
use Rattle.std.specs.Prelude.{◌==◌, slice_get}
use Rattle.std.specs.Option.{option_map_or}
use Rattle.rtl_bits.specs.declared.bit.Bit.TheVariants.{S0}
use Rattle.rtl_sig.specs.declared.sig.SigBit.{SigBit}
use Rattle.rtl_sig.specs.declared.sig.SigBit.TheVariants.{Fixed}
use Rattle.cell_types.specs.declared.pin_name.PinName.TheVariants.{Y}
use Rattle.rtl_ir.specs.declared.cell.Cell.{Cell}
use Rattle.rtl_ir.specs.declared.machine.Machine.{Machine}
use Rattle.rtl_ir.specs.declared.module.Link.{Link}
use Rattle.rtl_ir.specs.declared.module.Module.{Module}
use Rattle.rtl_ir.specs.declared.wire.Wire.{Wire}
use Rattle.rtl_ir.specs.Build.{Building, building_of, first_number, fresh_wire, inner_wire, made_name, whole}
use Rattle.rtl_ir.specs.Flat.Cell.{cell_kind}
use Rattle.net_model.specs.Fsm.Code.{Coding, Output, code_init, coded_cell, coded_cells, coded_compare, coded_flop, coded_fork, fresh_outputs, inverse_cell, is_equal, link_all, recoded}
use Rattle.net_model.specs.Fsm.Find.{at_pin, has_place}
use Rattle.fsm_laws.specs.Recoded.{all_links_made, asked_bit, cell_made, cells_made, compare_cells, compare_links, link_of, linked_more, links_made, machine_coding, output_wires, outputs_made, recoded_with}

linked_none : (b : Building) → b ≡ linked_more b []
linked_none b = λ i. record b { body = record b.body { links = sym (append-nil b.body.links) i } }

linked_both : (b : Building) (xs ys : List Link) → linked_more (linked_more b xs) ys ≡ linked_more b (xs ++ ys)
linked_both b xs ys = λ i. record b { body = record b.body { links = append_assoc b.body.links xs ys i } }

link_is : (left right : List SigBit) (b : Building) → link_all left right b ≡ linked_more b (link_of left right)
link_is [] right b = linked_none b
link_is (l ∷ left) right b = refl

compare_is : (m : Module) (c : Coding) (cell : Cell) (equal : Bool) (bit : Option SigBit) (ys : List SigBit) (b : Building) → coded_compare m c cell equal bit ys b ≡ (compare_cells cell equal bit ys, linked_more b (compare_links equal bit ys))
compare_is m c cell true bit ys b = ap (λ z. ([], z)) (link_is ys _ b)
compare_is m c cell false None ys b = ap (λ z. ([], z)) (link_is ys _ b)
compare_is m c cell false (Some bit) [] b = ap (λ z. ([], z)) (linked_none b)
compare_is m c cell false (Some bit) (y ∷ ys) b =
    ap (λ z. (inverse_cell cell bit y ∷ [], z)) (link_is ys (map (λ s. Fixed S0) ys) b)

module _ (m : Module) (machine : Machine) (c : Coding) where
  cell_is : (at : ℕ) (cell : Cell) (b : Building) → coded_cell m machine c at cell b ≡ (cell_made m machine c at cell, linked_more b (links_made m machine c at cell))
  cell_is at cell b = by (at == machine.flop) (has_place machine.muxes at) (has_place machine.compares at)
    where
      by : (x y z : Bool)
          → cond x (coded_flop m c machine.reset cell ∷ [], b) (cond y (coded_fork m c cell ∷ [], b) (cond z (coded_compare m c cell (is_equal (cell_kind cell)) (asked_bit m c cell) (at_pin cell Y) b) (cell ∷ [], b)))
          ≡ (
            cond x (coded_flop m c machine.reset cell ∷ []) (cond y (coded_fork m c cell ∷ []) (cond z (compare_cells cell (is_equal (cell_kind cell)) (asked_bit m c cell) (at_pin cell Y)) (cell ∷ []))),
            linked_more b (cond x [] (cond y [] (cond z (compare_links (is_equal (cell_kind cell)) (asked_bit m c cell) (at_pin cell Y)) []))),
          )
      by true y z = ap (λ b'. (coded_flop m c machine.reset cell ∷ [], b')) (linked_none b)
      by false true z = ap (λ b'. (coded_fork m c cell ∷ [], b')) (linked_none b)
      by false false true = compare_is m c cell (is_equal (cell_kind cell)) (asked_bit m c cell) (at_pin cell Y) b
      by false false false = ap (λ b'. (cell ∷ [], b')) (linked_none b)

  pub cells_are : (at : ℕ) (cells : List Cell) (b : Building) → coded_cells m machine c at cells b ≡ (cells_made m machine c at cells, linked_more b (all_links_made m machine c at cells))
  cells_are at [] b = ap (λ z. ([], z)) (linked_none b)
  cells_are at (cell ∷ cells) b =
      ap (λ (r : List Cell × Building). (r.0 ++ (coded_cells m machine c (at + 1) cells r.1).0, (coded_cells m machine c (at + 1) cells r.1).1)) (cell_is at cell b)
      ∙ ap (λ (r : List Cell × Building). (cell_made m machine c at cell ++ r.0, r.1)) (cells_are (at + 1) cells (linked_more b (links_made m machine c at cell)))
      ∙ ap (λ z. (cells_made m machine c at (cell ∷ cells), z)) (linked_both b (links_made m machine c at cell) (all_links_made m machine c (at + 1) cells))

abbrev widened_by : Building → List Wire → ℕ → Building
widened_by b wires count = record { body = record b.body { wires = b.body.wires ++ wires }; next = b.next + count }

outputs_are : (width : ℕ) (cells : List Cell) (places : List ℕ) (b : Building) → fresh_outputs width cells places b ≡ (outputs_made width cells (length b.body.wires) places, widened_by b (output_wires width b.next places) (length places))
outputs_are width cells [] b =
    let none : b.next ≡ b.next + 0 = omega arith in
    λ i. ([], record { body = record b.body { wires = sym (append-nil b.body.wires) i }; next = none i })
outputs_are width cells (at ∷ places) b =
    let wire : Wire = inner_wire (made_name b.next) width [] in
    let then : Building = widened_by b (wire ∷ []) 1 in
    let more : length then.body.wires ≡ length b.body.wires + 1 = length-append b.body.wires (wire ∷ []) in
    let count : then.next + length places ≡ b.next + length (at ∷ places) = omega arith in
    ap (λ (r : List Output × Building). (option_map_or (λ (c : Cell). record { before = at_pin c Y; after = whole (length b.body.wires) width } ∷ []) (slice_get cells at) [] ++ r.0, r.1)) (outputs_are width cells places then)
    ∙ (λ i. (
      option_map_or (λ (c : Cell). record { before = at_pin c Y; after = whole (length b.body.wires) width } ∷ []) (slice_get cells at) [] ++ outputs_made width cells (more i) places,
      record { body = record b.body { wires = append_assoc b.body.wires (wire ∷ []) (output_wires width (b.next + 1) places) i }; next = count i },
    ))

-- a recoded module is the one with the parts
pub recoded_is : (m : Module) (machine : Machine) (state : List SigBit) → recoded m machine state ≡ recoded_with m machine state
recoded_is m machine state =
    ap (λ (r : List Output × Building). then r.0 r.1) (outputs_are width m.cells machine.muxes code.1)
    ∙ ap (λ n. then (outputs_made width m.cells n machine.muxes) grown) more
    ∙ ap (λ (r : List Cell × Building). record r.1.body { cells = r.0 }) (cells_are m machine (machine_coding m machine state) 0 m.cells grown)
    ∙ (λ i. record m { wires = append_assoc m.wires (wire ∷ []) (output_wires width (first_number m + 1) machine.muxes) i; cells = cells_made m machine (machine_coding m machine state) 0 m.cells; links = m.links ++ all_links_made m machine (machine_coding m machine state) 0 m.cells })
  where
    width : ℕ
    width = length machine.states

    wire : Wire
    wire = inner_wire (made_name (first_number m)) width (code_init machine.states machine.start)

    code : List SigBit × Building
    code = fresh_wire width (code_init machine.states machine.start) (building_of m)

    grown : Building
    grown = widened_by code.1 (output_wires width (first_number m + 1) machine.muxes) (length machine.muxes)

    more : length code.1.body.wires ≡ length m.wires + 1
    more = length-append m.wires (wire ∷ [])

    then : List Output → Building → Module
    then outputs b =
        let cells = coded_cells m machine (record { states = machine.states; state = state; code = code.0; outputs = outputs }) 0 m.cells b in
        record cells.1.body { cells = cells.0 }
