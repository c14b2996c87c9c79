-- A cell that is neither the flip-flop nor of the tree, and compares nothing, stays, and its rows name nothing of the state.
use Rattle.std.proofs.Common.{◌≡◌, ◌<◌, ℕ, zero, suc, ◌+◌, Bool, true, false, cond, List, [], ◌∷◌, ◌++◌, length, Some, inl, inr, refl, sym, ◌∙◌, ap, subst, arith}
use Rattle.std.specs.Prelude.{◌==◌, ◌||◌, filter, slice_get}
use Rattle.std.specs.List.{list_any, range_with_len}
use Rattle.std.specs.Option.{option_map_or}
use Rattle.std.proofs.lemmas.Bool.{eq-eqb}
use Rattle.cell_types.specs.declared.pin_name.PinName.TheVariants.{Y}
use Rattle.rtl_ir.specs.Flat.Cell as flat
use Rattle.rtl_ir.specs.Flat.Cell.{cell_kind, cell_rows}
use Rattle.rtl_ir.specs.Flat.Driver.{Driven}
use Rattle.rtl_ir.specs.Flat.Place.{Path}
use Rattle.rtl_ir.specs.Types.{Ports}
use Rattle.rtl_ir.specs.declared.cell.Cell.{Cell}
use Rattle.rtl_ir.specs.declared.machine.Machine.{Machine}
use Rattle.rtl_ir.specs.declared.module.Module.{Module}
use Rattle.rtl_ir.specs.declared.ports.PortLine.{PortLine}
use Rattle.net_model.specs.Fsm.Code.{Coding, coded_flop, coded_fork, is_equal}
use Rattle.net_model.specs.Fsm.Find.{at_pin, cells_at_places, compares, has_place}
use Rattle.net_model.specs.Lists.{In}
use Rattle.net_model.specs.Refine.{IsWellDriven}
use Rattle.pass_laws.specs.Ready.{IsReady}
use Rattle.fsm_laws.proofs.Made.{made_among}
use Rattle.fsm_laws.specs.Machines.{IsFoundMachine}
use Rattle.fsm_laws.specs.Recoded.{asked_bit, cell_made, compare_cells}
use Rattle.fsm_laws.specs.Recodes.{IsFreeRow, Stays}
use Rattle.fsm_laws.proofs.FreePins.{all_free}
use Rattle.fsm_laws.proofs.RowsFree.{free_cell}
use Rattle.fsm_laws.proofs.Setting.{IsPart, cells, coding, fresh, outputs, start, state}
use Rattle.pass_laws.proofs.Finding.{in_filtered}

-- a place that is there is among all
place_below : {A : Type 0} (xs : List A) (k : ℕ) (x : A) → slice_get xs k ≡ Some x → k < length xs
place_below [] k x e = absurd (cc)
place_below (y ∷ ys) zero x e = omega arith
place_below (y ∷ ys) (suc k) x e = omega (arith, place_below ys k x e)

in_range : (from n k : ℕ) → k < n → In (from + k) (range_with_len from n)
in_range from zero k lt = absurd (omega (arith, lt))
in_range from (suc n) zero lt = inl (omega arith)
in_range from (suc n) (suc k) lt =
    let next : (from + 1) + k ≡ from + suc k = omega arith in
    inr (subst (λ z. In z (range_with_len (from + 1) n)) next (in_range (from + 1) n k (omega (arith, lt))))

in_has : (places : List ℕ) (k : ℕ) → In k places → has_place places k ≡ true
in_has [] k i = absurd i
in_has (p ∷ places) k (inl e) = ap (λ t. t || has_place places k) (eq-eqb p k (sym e))
in_has (p ∷ places) k (inr i) = by (p == k) (in_has places k i)
  where
    by : (t : Bool) → has_place places k ≡ true → (t || has_place places k) ≡ true
    by true e = refl
    by false e = e

-- a cell at none of the places of compares does not compare
pub no_compare : (ports : Ports) (m : Module) (at : ℕ) (machine : Machine) (found : IsFoundMachine ports m at machine) (k : ℕ) (c : Cell) → slice_get m.cells k ≡ Some c → has_place machine.compares k ≡ false → compares m (state ports m at machine found) c ≡ false
no_compare ports m at machine found k c there e = by (compares m (state ports m at machine found) c) refl
  where
    compare_at : ℕ → Bool
    compare_at p = list_any (compares m (state ports m at machine found)) (cells_at_places m.cells (p ∷ []))

    by : (t : Bool) → compares m (state ports m at machine found) c ≡ t → t ≡ false
    by false f = refl
    by true f =
        let passes : compare_at k ≡ true = ap (λ o. list_any (compares m (state ports m at machine found)) (option_map_or (λ (d : Cell). d ∷ []) o [] ++ [])) there ∙ ap (λ t. t || false) f in
        let zero_more : 0 + k ≡ k = omega arith in
        let all : In k (range_with_len 0 (length m.cells)) = subst (λ z. In z (range_with_len 0 (length m.cells))) zero_more (in_range 0 (length m.cells) k (place_below m.cells k c there)) in
        let i : In k (filter compare_at (range_with_len 0 (length m.cells))) = in_filtered compare_at (range_with_len 0 (length m.cells)) k all passes in
        let yes : has_place machine.compares k ≡ true = in_has machine.compares k (subst (In k) (ap (λ (z : Machine). z.compares) (sym found.made)) i) in
        let no : true ≡ false = sym yes ∙ e in
        absurd (cc)

module _ (ports : Ports) (m : Module) (at : ℕ) (machine : Machine) (found : IsFoundMachine ports m at machine) (ready : IsReady ports m) (over : flat.Ports) (driven : IsWellDriven over m) (agree : (name : List ℕ) (lines : List PortLine) → ports name ≡ Some lines → over name ≡ lines) where
  pub other_part : (k : ℕ) (c : Cell) → slice_get m.cells k ≡ Some c → (k == machine.flop) ≡ false → has_place machine.muxes k ≡ false → has_place machine.compares k ≡ false → IsPart ports m at machine found over c
  other_part k c there flop fork compare = Stays made free
    where
      code : Coding
      code = coding ports m at machine found

      here : cell_made m machine code k c ≡ c ∷ []
      here =
          λ i. cond (flop i) (coded_flop m code machine.reset c ∷ []) (cond (fork i) (coded_fork m code c ∷ []) (cond (compare i) (compare_cells c (is_equal (cell_kind c)) (asked_bit m code c) (at_pin c Y)) (c ∷ [])))

      made : In c (cells ports m at machine found)
      made =
          let zero_more : k ≡ 0 + k = omega arith in
          made_among m machine code 0 k m.cells c there c (subst (λ n. In c (cell_made m machine code n c)) zero_more (subst (In c) (sym here) (inl refl)))

      free : (p : Path) (x : Driven) → In x (cell_rows (start ports m at machine found) over p (m.wires ++ fresh ports m at machine found) c (cell_kind c)) → IsFreeRow m.links m.wires (outputs ports m at machine found) p x
      free p =
          free_cell m.links m.wires (fresh ports m at machine found) ready.named (outputs ports m at machine found) p (start ports m at machine found) over c
          (all_free ports m at machine found ready over driven agree k c there flop fork (no_compare ports m at machine found k c there compare)) (cell_kind c)
