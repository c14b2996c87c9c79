-- What stands in the place of a compare, and so in each place.
use Rattle.std.proofs.Common.{◌≡◌, ℕ, ◌+◌, Bool, true, false, cond, List, [], ◌∷◌, ◌++◌, length, map, Option, Some, None, inl, inr, refl, sym, ◌∙◌, ap, subst}
use Rattle.std.specs.Prelude.{◌==◌, ◌||◌, codes, filter, slice_get}
use Rattle.std.specs.List.{list_any, range_with_len}
use Rattle.std.proofs.lemmas.Bool.{and_parts, or_parts}
use Rattle.rtl_bits.specs.declared.bit.Bit.TheVariants.{S0, S1}
use Rattle.rtl_sig.specs.declared.sig.SigBit.{SigBit}
use Rattle.rtl_sig.specs.declared.sig.SigBit.TheVariants.{Fixed}
use Rattle.cell_types.specs.declared.kind.CellKind.{CellKind}
use Rattle.cell_types.specs.declared.kind.CellKind.TheVariants.{Word}
use Rattle.cell_types.specs.declared.pin_name.PinName.TheVariants.{A, B, Y}
use Rattle.cell_types.specs.declared.word.EqualKind.TheVariants.{Eq, Ne}
use Rattle.cell_types.specs.declared.word.UnaryKind.TheVariants.{Not}
use Rattle.cell_types.specs.declared.word.WordKind.TheVariants.{Equal, Unary}
use Rattle.rtl_ir.specs.Build.{pin_of}
use Rattle.rtl_ir.specs.Flat.Cell.{cell_kind}
use Rattle.rtl_ir.specs.Outputs.{output_pin}
use Rattle.rtl_ir.specs.Signals.{has_constant, is_constant, wire_bits}
use Rattle.rtl_ir.specs.Types.{Ports}
use Rattle.rtl_ir.specs.declared.cell.Cell.{Cell}
use Rattle.rtl_ir.specs.declared.machine.Machine.{Machine}
use Rattle.rtl_ir.specs.declared.module.Module.{Module}
use Rattle.net_model.proofs.Ranges.{each_more, each_none}
use Rattle.net_model.specs.Fsm.Code.{Coding, coded_flop, coded_fork, compared, inverse_cell, is_equal, or_zero, with_zeros}
use Rattle.net_model.specs.Fsm.Find.{at_pin, cells_at_places, compares, compares_with, has_place, is_compare, whole_wire}
use Rattle.net_model.specs.Lists.{In}
use Rattle.net_model.specs.Within.{BitIn, CellIn, SigIn}
use Rattle.pass_laws.proofs.Outputs.{output_wires}
use Rattle.pass_laws.specs.Bits.{cells_bits}
use Rattle.pass_laws.specs.Ready.{IsReady}
use Rattle.fsm_laws.specs.Machines.{IsFoundMachine}
use Rattle.fsm_laws.specs.Recoded.{asked_bit, cell_made, compare_cells, compare_links, link_of, links_made, machine_coding}
use Rattle.fsm_laws.proofs.Fits.{Fits, fit_bits, inverse_fit}
use Rattle.fsm_laws.proofs.Places.{compares_at, has_in, in_passed}
use Rattle.fsm_laws.proofs.Signals.{IsSignal}
use Rattle.fsm_laws.proofs.Linking.{OptionIn, link_bits, link_good, no_links, or_zero_in, state_bit_in, two_bits, zeros, zeros_above}
use Rattle.fsm_laws.proofs.Standing.{Same, IsFit, IsReplaced, StandsAt, two_pins, codes_are, old_in, old_fits, flop_stands}
use Rattle.fsm_laws.proofs.Forking.{fork_stands}

module _ (ports : Ports) (m : Module) (wire : ℕ) (machine : Machine) (ready : IsReady ports m) (found : IsFoundMachine ports m wire machine) (at : ℕ) (cell : Cell) (there : slice_get m.cells at ≡ Some cell) where
  abbrev count : ℕ
  count = length m.wires + 1 + length machine.muxes

  abbrev state : List SigBit
  state = whole_wire wire found.wire

  abbrev coding : Coding
  coding = machine_coding m machine state

  -- a cell that compares
  compare_good : (kind : CellKind) → Fits kind cell → output_pin kind ≡ Some Y → (equal : Bool) (bit : Option SigBit) → OptionIn count bit → (ys : List SigBit) → at_pin cell Y ≡ ys → IsReplaced ports m wire machine ready found at cell (compare_cells cell equal bit ys) (compare_links equal bit ys)
  compare_good kind was out equal bit inside ys e = by equal bit inside ys e
    where
      wires : has_constant (at_pin cell Y) ≡ false
      wires = output_wires kind cell Y out was.output

      drove : cells_bits ports (cell ∷ []) ≡ wire_bits (at_pin cell Y)
      drove = fit_bits ports cell kind was Y out

      -- a connection of the whole output
      linked : (ys right : List SigBit) → at_pin cell Y ≡ ys → IsSignal (length ys) count right → IsReplaced ports m wire machine ready found at cell [] (link_of ys right)
      linked ys right e h = record {
        old = (kind, was);
        new = each_none IsFit;
        within = each_none (CellIn count);
        good = link_good count ys right (ap has_constant (sym e) ∙ wires) (subst (SigIn count) e (old_in ports m wire machine ready found at cell there Y)) h;
        drives = Same (link_bits ys right ∙ sym (ap wire_bits e) ∙ sym drove);
      }

      by : (equal : Bool) (bit : Option SigBit) → OptionIn count bit → (ys : List SigBit) → at_pin cell Y ≡ ys → IsReplaced ports m wire machine ready found at cell (compare_cells cell equal bit ys) (compare_links equal bit ys)
      by true bit h ys e = linked ys (with_zeros (or_zero bit) ys) e (zeros_above count (or_zero bit) (or_zero_in count bit h) ys)
      by false None h ys e = linked ys (with_zeros (Fixed S1) ys) e (zeros_above count (Fixed S1) tt ys)
      by false (Some bit) h [] e = record {
        old = (kind, was);
        new = each_none IsFit;
        within = each_none (CellIn count);
        good = no_links count;
        drives = Same (sym (ap wire_bits e) ∙ sym drove);
      }
      by false (Some bit) h (y ∷ ys) e =
          let all : has_constant (y ∷ ys) ≡ false = ap has_constant (sym e) ∙ wires in
          let parts = or_parts (is_constant y) (has_constant ys) all in
          let inside : SigIn count (y ∷ ys) = subst (SigIn count) e (old_in ports m wire machine ready found at cell there Y) in
          let d : Cell = inverse_cell cell bit y in
          let fits = inverse_fit cell bit y (ap (λ t. t || false) parts.0) in
          record {
            old = (kind, was);
            new = each_more IsFit d [] (Word (Unary Not), fits) (each_none IsFit);
            within =
                each_more (CellIn count) d []
                (two_pins count (pin_of (codes "\\A") (bit ∷ [])) (pin_of (codes "\\Y") (y ∷ [])) (each_more (BitIn count) bit [] (h bit refl) (each_none (BitIn count))) (each_more (BitIn count) y [] (inside y (inl refl)) (each_none (BitIn count))))
                (each_none (CellIn count));
            good = link_good count ys (map (λ s. Fixed S0) ys) parts.1 (λ s i. inside s (inr i)) (zeros count ys);
            drives =
                Same
                ((λ i. fit_bits ports d (Word (Unary Not)) fits Y refl i ++ link_bits ys (map (λ s. Fixed S0) ys) i)
                ∙ two_bits y ys ∙ sym (ap wire_bits e) ∙ sym drove);
          }

  compare_stands : has_place machine.compares at ≡ true → IsReplaced ports m wire machine ready found at cell (compare_cells cell (is_equal (cell_kind cell)) (asked_bit m coding cell) (at_pin cell Y)) (compare_links (is_equal (cell_kind cell)) (asked_bit m coding cell) (at_pin cell Y))
  compare_stands e =
      let i : In at (filter compare_at (range_with_len 0 (length m.cells))) = subst (In at) (ap (λ (z : Machine). z.compares) found.made) (has_in machine.compares at e) in
      let yes : compares m state cell ≡ true = compares_at m state at cell there (in_passed compare_at (range_with_len 0 (length m.cells)) at i) in
      let kind = and_parts (is_compare (cell_kind cell)) (compares_with m state cell (at_pin cell A) (at_pin cell B) || compares_with m state cell (at_pin cell B) (at_pin cell A)) yes in
      by (cell_kind cell) refl kind.0
    where
      compare_at : ℕ → Bool
      compare_at p = list_any (compares m state) (cells_at_places m.cells (p ∷ []))

      asked_in : OptionIn count (asked_bit m coding cell)
      asked_in = state_bit_in count machine.states coding.code (compared m coding cell) (codes_are ports m wire machine ready found).code.within

      by : (o : Option CellKind) → cell_kind cell ≡ o → is_compare o ≡ true → IsReplaced ports m wire machine ready found at cell (compare_cells cell (is_equal (cell_kind cell)) (asked_bit m coding cell) (at_pin cell Y)) (compare_links (is_equal (cell_kind cell)) (asked_bit m coding cell) (at_pin cell Y))
      by (Some (Word (Equal Eq))) own f =
          compare_good (Word (Equal Eq)) (old_fits ports m wire machine ready found at cell there (Word (Equal Eq)) own refl) refl (is_equal (cell_kind cell)) (asked_bit m coding cell) asked_in (at_pin cell Y) refl
      by (Some (Word (Equal Ne))) own f =
          compare_good (Word (Equal Ne)) (old_fits ports m wire machine ready found at cell there (Word (Equal Ne)) own refl) refl (is_equal (cell_kind cell)) (asked_bit m coding cell) asked_in (at_pin cell Y) refl
      by o own f = absurd (cc)

  -- what stands at a place
  pub stands : StandsAt ports m wire machine ready found at cell (cell_made m machine coding at cell) (links_made m machine coding at cell)
  stands = by (at == machine.flop) (has_place machine.muxes at) (has_place machine.compares at) refl refl refl
    where
      by : (t u v : Bool) → (at == machine.flop) ≡ t → has_place machine.muxes at ≡ u → has_place machine.compares at ≡ v
          → StandsAt ports m wire machine ready found at cell
          (cond t (coded_flop m coding machine.reset cell ∷ []) (cond u (coded_fork m coding cell ∷ []) (cond v (compare_cells cell (is_equal (cell_kind cell)) (asked_bit m coding cell) (at_pin cell Y)) (cell ∷ []))))
          (cond t [] (cond u [] (cond v (compare_links (is_equal (cell_kind cell)) (asked_bit m coding cell) (at_pin cell Y)) [])))
      by true u v e f g = inr (flop_stands ports m wire machine ready found at cell there e)
      by false true v e f g = inr (fork_stands ports m wire machine ready found at cell there f)
      by false false true e f g = inr (compare_stands g)
      by false false false e f g = inl (refl, refl)
