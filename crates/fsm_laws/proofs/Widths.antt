-- The arms of the cells of the tree, its leaves, the reset value and the start value of a machine that is found are as wide as its
-- state.
use Rattle.std.proofs.Common.{◌≡◌, ◌≤◌, ℕ, zero, suc, ◌+◌, ◌*◌, Bool, true, false, cond, List, [], ◌∷◌, ◌++◌, length, map, Option, Some, None, inl, inr, refl, sym, ◌∙◌, ap, subst, arith, length-drop}
use Rattle.std.specs.Prelude.{◌&&◌, ◌||◌, drop, nat_le, not, option_and_then, slice_get, take}
use Rattle.std.specs.List.{list_all, list_any, range_with_len}
use Rattle.std.proofs.lemmas.Bool.{and_parts, eqb-true}
use Rattle.rtl_bits.specs.Knowledge.{all_known, is_known}
use Rattle.rtl_bits.specs.declared.bit.Bit.{Bit}
use Rattle.rtl_sig.specs.declared.sig.SigBit.{SigBit}
use Rattle.rtl_sig.specs.declared.sig.WireBit.{WireBit}
use Rattle.cell_types.specs.Given.{number_in, value_in}
use Rattle.cell_types.specs.declared.kind.CellKind.{CellKind}
use Rattle.cell_types.specs.declared.kind.CellKind.TheVariants.{Storage, Word}
use Rattle.cell_types.specs.declared.param_name.ParamName.TheVariants.{ArstValue, SWidth, Width}
use Rattle.cell_types.specs.declared.pin_name.PinName.TheVariants.{A, B, D, Q, Y}
use Rattle.cell_types.specs.declared.storage.StorageKind.TheVariants.{Adff, Dff}
use Rattle.cell_types.specs.declared.word.WordKind.TheVariants.{Mux, Pmux}
use Rattle.rtl_ir.specs.Faults.Cells.{misfit}
use Rattle.rtl_ir.specs.Flat.Cell.{cell_kind}
use Rattle.rtl_ir.specs.Follow.{follow}
use Rattle.rtl_ir.specs.Parameters.{given_params}
use Rattle.rtl_ir.specs.Signals.{bits_of_wire, wire_bits, same_signal}
use Rattle.rtl_ir.specs.Types.{Ports}
use Rattle.rtl_ir.specs.declared.cell.Cell.{Cell}
use Rattle.rtl_ir.specs.declared.machine.Machine.{Machine}
use Rattle.rtl_ir.specs.declared.module.Module.{Module}
use Rattle.net_model.proofs.Ranges.{each_both, each_more, each_none}
use Rattle.net_model.specs.Fsm.Find.{Tree, above_tree, all_trees, arms_of, at_pin, both_trees, cells_at_places, cells_read_well, fits_code, has_reset, is_flop, is_fork, is_leaf, option_state, parts_of, place_where, ports_read_well, reset_value, start_bits, tree_outputs, tree_within}
use Rattle.net_model.specs.Within.{Each}
use Rattle.pass_laws.proofs.Alone.{shape_of}
use Rattle.pass_laws.proofs.Forming.{own_cells}
use Rattle.pass_laws.specs.Ready.{IsReady}
use Rattle.pass_laws.proofs.PinWidths.{param_reads, pin_fits}
use Rattle.fsm_laws.proofs.Machines.{place_found}
use Rattle.fsm_laws.specs.Machines.{IsFoundMachine}
use Rattle.fsm_laws.proofs.Trees.{then_some}
use Rattle.fsm_laws.proofs.OneDriver.{cell_there}
use Rattle.fsm_laws.proofs.Setting.{state}
use Rattle.pass_laws.proofs.SamePlaces.{signal_is}

length_mapped : {A B : Type 0} (f : A → B) (xs : List A) → length (map f xs) ≡ length xs
length_mapped f [] = refl
length_mapped f (x ∷ xs) = ap suc (length_mapped f xs)

range_length : (from n : ℕ) → length (range_with_len from n) ≡ n
range_length from zero = refl
range_length from (suc n) = ap suc (range_length (from + 1) n)

take_length : {A : Type 0} (n : ℕ) (xs : List A) → n ≤ length xs → length (take n xs) ≡ n
take_length zero xs h = refl
take_length (suc n) [] h = absurd (omega (arith, h))
take_length (suc n) (x ∷ xs) h = ap suc (take_length n xs (omega (arith, h)))

-- the parts of a signal of whole parts
parts_wide : (n width k : ℕ) (signal : List SigBit) → length signal ≡ k * width → Each (λ (part : List SigBit). length part ≡ width) (parts_of n width signal)
parts_wide zero width k signal e = each_none (λ (part : List SigBit). length part ≡ width)
parts_wide (suc n) width k [] e = each_none (λ (part : List SigBit). length part ≡ width)
parts_wide (suc n) width zero (s ∷ signal) e = absurd (omega (arith, e))
parts_wide (suc n) width (suc k) (s ∷ signal) e =
    let more : suc k * width ≡ width + k * width = grind arith in
    let left : length (drop width (s ∷ signal)) ≡ k * width = omega (arith, length-drop width (s ∷ signal), e, more) in
    let long : width ≤ length (s ∷ signal) = omega (arith, e, more) in
    each_more (λ (part : List SigBit). length part ≡ width) (take width (s ∷ signal)) (parts_of n width (drop width (s ∷ signal)))
    (take_length width (s ∷ signal) long) (parts_wide n width k (drop width (s ∷ signal)) left)

above_leaves : (at : ℕ) (o : Option Tree) (t : Tree) → above_tree at o ≡ Some t → (s : Tree) × ((o ≡ Some s) × (t.leaves ≡ s.leaves))
above_leaves at None t e = absurd (cc)
above_leaves at (Some s) t e =
    let same : record { forks = at ∷ s.forks; leaves = s.leaves } ≡ t = cc in
    (s, (refl, ap (λ (z : Tree). z.leaves) (sym same)))

both_leaves : (a b : Option Tree) (t : Tree) → both_trees a b ≡ Some t → (x : Tree) × ((y : Tree) × ((a ≡ Some x) × (b ≡ Some y) × (t.leaves ≡ x.leaves ++ y.leaves)))
both_leaves None b t e = absurd (cc)
both_leaves (Some x) None t e = absurd (cc)
both_leaves (Some x) (Some y) t e =
    let same : record { forks = x.forks ++ y.forks; leaves = x.leaves ++ y.leaves } ≡ t = cc in
    (x, (y, (refl, refl, ap (λ (z : Tree). z.leaves) (sym same))))

module _ (ports : Ports) (m : Module) (ready : IsReady ports m) (width : ℕ) where
  abbrev IsWide : List SigBit → Type 0
  IsWide signal = length signal ≡ width

  shape : (at : ℕ) (c : Cell) → slice_get m.cells at ≡ Some c → (kind : CellKind) → cell_kind c ≡ Some kind → misfit kind c ≡ None
  shape at c there kind own = (shape_of ports c kind own (own_cells ports m ready c (cell_there m.cells at c there))).fit

  fork_wide : (at : ℕ) (c : Cell) → slice_get m.cells at ≡ Some c → is_fork (cell_kind c) ≡ true → length (at_pin c Y) ≡ width → Each IsWide (arms_of c)
  fork_wide at c there fork wide = by (cell_kind c) refl fork
    where
      arms : (k : ℕ) → length (at_pin c A) ≡ width → length (at_pin c B) ≡ k * length (at_pin c A) → Each IsWide (arms_of c)
      arms k a b =
          each_more IsWide (at_pin c A) (parts_of (length (at_pin c B)) (length (at_pin c A)) (at_pin c B)) a
          (subst (λ w. Each (λ (s : List SigBit). length s ≡ w) (parts_of (length (at_pin c B)) (length (at_pin c A)) (at_pin c B))) a (parts_wide (length (at_pin c B)) (length (at_pin c A)) k (at_pin c B) b))

      by : (o : Option CellKind) → cell_kind c ≡ o → is_fork o ≡ true → Each IsWide (arms_of c)
      by (Some (Word Mux)) own f =
          let fit = shape at c there (Word Mux) own in
          let la : length (at_pin c A) ≡ number_in (given_params c.params) Width = pin_fits (Word Mux) c A fit refl (inl refl) in
          let lb : length (at_pin c B) ≡ number_in (given_params c.params) Width = pin_fits (Word Mux) c B fit refl (inr (inl refl)) in
          let ly : length (at_pin c Y) ≡ number_in (given_params c.params) Width = pin_fits (Word Mux) c Y fit refl (inr (inr (inr (inl refl)))) in
          arms 1 (omega (arith, la, ly, wide)) (omega (arith, la, lb))
      by (Some (Word Pmux)) own f =
          let fit = shape at c there (Word Pmux) own in
          let w : ℕ = number_in (given_params c.params) Width in
          let n : ℕ = number_in (given_params c.params) SWidth in
          let la : length (at_pin c A) ≡ w = pin_fits (Word Pmux) c A fit refl (inl refl) in
          let lb : length (at_pin c B) ≡ w * n = pin_fits (Word Pmux) c B fit refl (inr (inl refl)) in
          let ly : length (at_pin c Y) ≡ w = pin_fits (Word Pmux) c Y fit refl (inr (inr (inr (inl refl)))) in
          arms n (omega (arith, la, ly, wide)) (lb ∙ turn w n (length (at_pin c A)) la)
        where
          turn : (a b x : ℕ) → x ≡ a → a * b ≡ b * x
          turn a b x p = let same : a * b ≡ b * a = grind arith in same ∙ (λ i. b * sym p i)
      by o own f = absurd (cc)

  module _ (st : List SigBit) where
    arms_leaves : (f : List SigBit → Option Tree) → ((arm : List SigBit) (t : Tree) → f arm ≡ Some t → IsWide arm → Each IsWide t.leaves) → (arms : List (List SigBit)) (t : Tree) → all_trees (map f arms) ≡ Some t → Each IsWide arms → Each IsWide t.leaves
    arms_leaves f each [] t e wide =
        let same : record { forks = []; leaves = [] } ≡ t = cc in
        subst (λ (z : Tree). Each IsWide z.leaves) same (each_none IsWide)
    arms_leaves f each (arm ∷ arms) t e wide =
        let k = both_leaves (f arm) (all_trees (map f arms)) t e in
        subst (Each IsWide) (sym k.1.1.2)
        (each_both IsWide k.0.leaves k.1.0.leaves (each arm k.0 k.1.1.0 (wide arm (inl refl))) (arms_leaves f each arms k.1.0 k.1.1.1 (λ a i. wide a (inr i))))

    tree_leaves : (n : ℕ) (signal : List SigBit) (t : Tree) → tree_within m st n signal ≡ Some t → IsWide signal → Each IsWide t.leaves
    tree_leaves zero signal t e wide = absurd (cc)
    tree_leaves (suc n) signal t e wide = by (is_leaf st signal) e (λ arm. tree_leaves n (map (follow m.links) arm))
      where
        arms : ℕ → Cell → Option Tree
        arms at c = above_tree at (all_trees (map (λ arm. tree_within m st n (map (follow m.links) arm)) (arms_of c)))

        by : (u : Bool) → cond u (Some (record { forks = []; leaves = signal ∷ [] })) (option_and_then (λ at. option_and_then (arms at) (slice_get m.cells at)) (place_where (λ (c : Cell). is_fork (cell_kind c) && same_signal (at_pin c Y) signal) 0 m.cells)) ≡ Some t
            → ((arm : List SigBit) (s : Tree) → tree_within m st n (map (follow m.links) arm) ≡ Some s → IsWide (map (follow m.links) arm) → Each IsWide s.leaves) → Each IsWide t.leaves
        by true f later =
            let same : record { forks = []; leaves = signal ∷ [] } ≡ t = cc in
            subst (λ (z : Tree). Each IsWide z.leaves) same (each_more IsWide signal [] wide (each_none IsWide))
        by false f later =
            let test : Cell → Bool = λ (c : Cell). is_fork (cell_kind c) && same_signal (at_pin c Y) signal in
            let at = then_some (λ at. option_and_then (arms at) (slice_get m.cells at)) (place_where test 0 m.cells) t f in
            let cell = then_some (arms at.0) (slice_get m.cells at.0) t at.1.1 in
            let found = place_found test m.cells at.0 at.1.0 in
            let both : Some found.0 ≡ Some cell.0 = sym found.1.0 ∙ cell.1.0 in
            let one : found.0 ≡ cell.0 = cc in
            let passed = and_parts (is_fork (cell_kind cell.0)) (same_signal (at_pin cell.0 Y) signal) (ap test (sym one) ∙ found.1.1) in
            let y_wide : length (at_pin cell.0 Y) ≡ width = ap length (signal_is (at_pin cell.0 Y) signal passed.1) ∙ wide in
            let above = above_leaves at.0 (all_trees (map (λ arm. tree_within m st n (map (follow m.links) arm)) (arms_of cell.0))) t cell.1.1 in
            subst (Each IsWide) (sym above.1.1)
            (arms_leaves (λ arm. tree_within m st n (map (follow m.links) arm)) (λ arm s h w. later arm s h (length_mapped (follow m.links) arm ∙ w)) (arms_of cell.0) above.0 above.1.0 (fork_wide at.0 cell.0 cell.1.0 passed.0 y_wide))

module _ (ports : Ports) (m : Module) (at : ℕ) (machine : Machine) (found : IsFoundMachine ports m at machine) (ready : IsReady ports m) where
  pub state_wide : length (state ports m at machine found) ≡ found.wire.width
  state_wide =
      length_mapped _ (bits_of_wire at found.wire.width)
      ∙ length_mapped _ (range_with_len 0 found.wire.width)
      ∙ range_length 0 found.wire.width

  pub arms_wide : (p : ℕ) (c : Cell) → slice_get m.cells p ≡ Some c → is_fork (cell_kind c) ≡ true → length (at_pin c Y) ≡ found.wire.width → Each (λ (arm : List SigBit). length arm ≡ found.wire.width) (arms_of c)
  arms_wide p c there fork wide = fork_wide ports m ready found.wire.width p c there fork wide

  -- the pins of the flip-flop
  record IsAsWide : Type 0 where
    data_in : length (at_pin found.flop D) ≡ found.wire.width
    reset : (s : List Bit) → reset_value found.flop ≡ Some s → length s ≡ found.wire.width

  q_wide : length (at_pin found.flop Q) ≡ found.wire.width
  q_wide =
      let both = and_parts (is_flop (cell_kind found.flop)) (same_signal (at_pin found.flop Q) (state ports m at machine found)) found.flop_is in
      ap length (signal_is (at_pin found.flop Q) (state ports m at machine found) both.1) ∙ state_wide

  flop_wide : IsAsWide
  flop_wide = by (cell_kind found.flop) refl (and_parts (is_flop (cell_kind found.flop)) (same_signal (at_pin found.flop Q) (state ports m at machine found)) found.flop_is).0
    where
      fit : (kind : CellKind) → cell_kind found.flop ≡ Some kind → misfit kind found.flop ≡ None
      fit kind own = shape ports m ready found.wire.width found.place found.flop found.flop_there kind own

      by : (o : Option CellKind) → cell_kind found.flop ≡ o → is_flop o ≡ true → IsAsWide
      by (Some (Storage Dff)) own f =
          let good = fit (Storage Dff) own in
          let d : length (at_pin found.flop D) ≡ number_in (given_params found.flop.params) Width = pin_fits (Storage Dff) found.flop D good refl (inr (inl refl)) in
          let q : length (at_pin found.flop Q) ≡ number_in (given_params found.flop.params) Width = pin_fits (Storage Dff) found.flop Q good refl (inr (inr (inl refl))) in
          record {
            data_in = omega (arith, d, q, q_wide);
            reset = λ s e. let no : cond (has_reset (cell_kind found.flop)) (Some (value_in (given_params found.flop.params) ArstValue)) None ≡ None = ap (λ o. cond (has_reset o) (Some (value_in (given_params found.flop.params) ArstValue)) None) own in absurd (cc);
          }
      by (Some (Storage Adff)) own f =
          let good = fit (Storage Adff) own in
          let d : length (at_pin found.flop D) ≡ number_in (given_params found.flop.params) Width = pin_fits (Storage Adff) found.flop D good refl (inr (inr (inl refl))) in
          let q : length (at_pin found.flop Q) ≡ number_in (given_params found.flop.params) Width = pin_fits (Storage Adff) found.flop Q good refl (inr (inr (inr (inl refl)))) in
          let value : List Bit = value_in (given_params found.flop.params) ArstValue in
          let long : length value ≡ number_in (given_params found.flop.params) Width = eqb-true _ _ (param_reads (Storage Adff) found.flop ArstValue good (inr (inr (inr (inl refl))))) in
          record {
            data_in = omega (arith, d, q, q_wide);
            reset = λ s e.
                let is : reset_value found.flop ≡ Some value = ap (λ o. cond (has_reset o) (Some value) None) own in
                let both : Some value ≡ Some s = sym is ∙ e in
                let same : value ≡ s = cc in
                ap length (sym same) ∙ long ∙ sym q ∙ q_wide;
          }
      by o own f = absurd (cc)

  pub leaves_wide : Each (λ (leaf : List SigBit). length leaf ≡ found.wire.width) found.tree.leaves
  leaves_wide =
      tree_leaves ports m ready found.wire.width (state ports m at machine found) (length m.cells + 1) (map (follow m.links) (at_pin found.flop D)) found.tree found.tree_is (length_mapped (follow m.links) (at_pin found.flop D) ∙ flop_wide.data_in)

  pub data_wide : length (at_pin found.flop D) ≡ found.wire.width
  data_wide = flop_wide.data_in

  pub reset_wide : (s : List Bit) → reset_value found.flop ≡ Some s → length s ≡ found.wire.width
  reset_wide = flop_wide.reset

  pub start_wide : length (start_bits m (state ports m at machine found)) ≡ found.wire.width
  start_wide = length_mapped _ (state ports m at machine found) ∙ state_wide

  pub reset_known : list_all all_known (option_state (reset_value found.flop)) ≡ true
  reset_known =
      let st : List SigBit = state ports m at machine found in
      let outs : List WireBit = tree_outputs m machine.muxes in
      let starts : List Bit = start_bits m st in
      let rest : Bool = (all_known starts || not (list_any is_known starts)) && (nat_le 2 (length machine.states) && (nat_le (length machine.states) 64 && list_all (fits_code (length machine.states)) (cells_at_places m.cells machine.muxes))) in
      let known : Bool = list_all all_known (option_state machine.reset) in
      let a = and_parts (cells_read_well ports m machine.muxes machine.flop st outs 0 m.cells) (ports_read_well m (wire_bits st ++ outs) 0 m.wires && (known && rest)) found.asked in
      let b = and_parts (ports_read_well m (wire_bits st ++ outs) 0 m.wires) (known && rest) a.1 in
      ap (λ (z : Machine). list_all all_known (option_state z.reset)) (sym found.made) ∙ (and_parts known rest b.1).0
