-- What comes of a fold is a pass.
use Rattle.std.proofs.Common.{◌≡◌, ℕ, ◌<◌, ◌≤◌, Bool, true, false, List, [], ◌∷◌, ◌++◌, length, map, Option, Some, None, ◌⊎◌, inl, inr, ⊎_elim, refl, sym, ◌∙◌, ap, subst, arith}
use Rattle.std.specs.Prelude.{flat_map, if◌then◌else◌, nat_le, slice_index_or}
use Rattle.std.specs.List.{fold}
use Rattle.std.proofs.lemmas.Bool.{leb-true}
use Rattle.cell_types.specs.PinName.{pin_text}
use Rattle.cell_types.specs.declared.kind.CellKind.{CellKind}
use Rattle.cell_types.specs.declared.kind.CellKind.TheVariants.{Word}
use Rattle.cell_types.specs.declared.pin_name.PinName.TheVariants.{A, Y}
use Rattle.cell_types.specs.declared.word.FoldKind.{FoldKind}
use Rattle.cell_types.specs.declared.word.WordKind.TheVariants.{Fold}
use Rattle.cell_word.specs.Folds.{folded_of}
use Rattle.rtl_bits.proofs.Orders.{Below_trans}
use Rattle.rtl_bits.specs.Knowledge.{Below}
use Rattle.rtl_bits.specs.declared.bit.Bit.{Bit}
use Rattle.rtl_bits.specs.declared.bit.Bit.TheVariants.{X}
use Rattle.rtl_ir.specs.Faults.Cells.{has_constant_output, misfit}
use Rattle.rtl_ir.specs.Flat.Cell.{cell_kind, cell_rows, cell_shape, listed, outputs}
use Rattle.rtl_ir.specs.Flat.Driver.{Driven}
use Rattle.rtl_ir.specs.Flat.Link.{link_rows}
use Rattle.rtl_ir.specs.Flat.Place.{Path, Place}
use Rattle.rtl_ir.specs.Flat.Point.{points}
use Rattle.rtl_ir.specs.Flat.Rows.{rows_of}
use Rattle.rtl_ir.specs.Flat.Start.{start_of}
use Rattle.rtl_ir.specs.Flat.Tree as flat
use Rattle.rtl_ir.specs.Follow.{follow}
use Rattle.rtl_ir.specs.Parameters.{signal_at}
use Rattle.rtl_ir.specs.Signals.{has_constant}
use Rattle.rtl_ir.specs.Types as types
use Rattle.rtl_ir.specs.Types.{Library}
use Rattle.rtl_ir.specs.declared.cell.Cell.{Cell}
use Rattle.rtl_ir.specs.declared.module.Module.{Module}
use Rattle.rtl_ir.specs.declared.ports.PortTable.{PortTable}
use Rattle.rtl_sig.specs.declared.sig.SigBit.{SigBit}
use Rattle.rtl_sig.specs.declared.sig.SigBit.TheVariants.{Fixed, Wire as OnWire}
use Rattle.rtl_sig.specs.declared.sig.WireBit.{WireBit}
use Rattle.net_model.proofs.Members.{In-left, In-mapped, In-right, map-map}
use Rattle.net_model.proofs.Relating.{solved_within}
use Rattle.net_model.proofs.Swapping.{before_within}
use Rattle.net_model.specs.Lists.{In}
use Rattle.net_model.specs.Refine.{IsTight, Solved, SolvedBefore}
use Rattle.net_model.specs.Run.{Time}
use Rattle.net_model.specs.Valuation.{Valuation, read_words}
use Rattle.net_model.specs.Value.{value_of, worked_of}
use Rattle.net_model.specs.Within.{BitIn, SigIn}
use Rattle.follow_laws.proofs.Following.{follow_read}
use Rattle.follow_laws.proofs.Signals.{follow_in}
use Rattle.pass_laws.proofs.Alone.{library_faultless, shape_of}
use Rattle.pass_laws.proofs.Driving.{own_driver}
use Rattle.pass_laws.proofs.Forming.{own_cells}
use Rattle.pass_laws.proofs.Giving.{became, in_middle, signal_in}
use Rattle.pass_laws.proofs.Outputs.{output_wires}
use Rattle.pass_laws.proofs.Passes.{IsPass_refl}
use Rattle.pass_laws.proofs.Rewriting.{links_in, post_in, pre_in}
use Rattle.pass_laws.proofs.SamePlaces.{place_is}
use Rattle.pass_laws.specs.Pass.{IsPass}
use Rattle.pass_laws.specs.Ready.{IsReady}
use Rattle.pass_laws.specs.Replaces.{replacing}
use Rattle.opt_expr.proofs.Known.{rows_in, rows_worked, words_of, words_read_are}
use Rattle.opt_expr.proofs.Rows.{bit_in, tight_rows}
use Rattle.opt_expr.specs.Places.{begins_with}
use Rattle.opt_more.specs.Changed.{with_inputs}
use Rattle.opt_more.specs.Others.{other_of}
use Rattle.opt_more.specs.Reduce.{fold_of, folds_to, gathered, inputs_for, reduced_fold, standing_for, with_bit}
use Rattle.opt_more.proofs.Changing.{no_constant, other_pin, pins_within}
use Rattle.opt_more.proofs.Fitting.{fits_still, inputs_are, width_stays}
use Rattle.opt_more.proofs.FoldBits.{IsFold, fold_mono}
use Rattle.opt_more.proofs.FoldCells.{FoldsTo, IsFoldCell, bit_at, bit_below, fold_cell, fold_value, fold_worked, folds_to_is, high_of, op_of}
use Rattle.opt_more.proofs.Gathering.{gathered_from, gathered_says, or_some, stands_alone}
use Rattle.opt_more.proofs.OtherCells.{other_among}

-- another signal makes no other kind
kind_same : (bits : List SigBit) (c : Cell) → cell_kind (with_inputs bits c) ≡ cell_kind c
unfolding cell_kind
kind_same bits c = refl

-- a signal that begins with a bit
begun : (b : WireBit) (y : List SigBit) → begins_with b y ≡ true → (slice_index_or y 0 (Fixed X) ≡ OnWire b) × (0 < length y)
begun b [] e = absurd (cc)
begun b (Fixed c ∷ y) e = absurd (cc)
begun b (OnWire d ∷ y) e = (place_is (OnWire d) (OnWire b) e, omega arith)

module _ (table : PortTable) (m : Module) (ready : IsReady (types.table_ports table.modules) m) (cells : List Cell) (done : List (Option Cell)) (rest : List Cell) (c : Cell) (is : m.cells ≡ flat_map listed done ++ c ∷ rest) where
  own_cell : In c m.cells
  own_cell = subst (In c) (sym is) (in_middle (flat_map listed done) c rest)

  other_cell : (e : Cell) → In e (flat_map listed done) ⊎ In e rest → In e m.cells
  other_cell e i =
      subst (In e) (sym is) (⊎_elim (λ l. In-left e (flat_map listed done) (c ∷ rest) l) (λ r. In-right e (flat_map listed done) (c ∷ rest) (inr r)) i)

  fit_of : (e : Cell) → In e m.cells → (kind : CellKind) → cell_kind e ≡ Some kind → misfit kind e ≡ None
  fit_of e i kind k = (shape_of (types.table_ports table.modules) e kind k (own_cells (types.table_ports table.modules) m ready e i)).fit

  pin_in : (e : Cell) → In e m.cells → (name : List ℕ) → SigIn (length m.wires) (signal_at e.pins name)
  pin_in e i name = signal_in (length m.wires) e.pins name (ready.within.cells e i)

  module _ (neutral : Bit) where
    -- what stands for a bit: the bit, or the followed inputs of another fold
    data Stands (s : SigBit) : List SigBit → Type 0 where
      Alone : Stands s (s ∷ [])
      Folded : (b : WireBit) (e : Cell) → s ≡ OnWire b → FoldsTo neutral b e → (In e (flat_map listed done) ⊎ In e rest) → Stands s (map (follow m.links) (signal_at e.pins (pin_text A)))

    stands : (s : SigBit) → Stands s (standing_for neutral cells done rest m.links s)
    stands (Fixed x) = Alone
    stands (OnWire b) = by (other_of cells done rest b) refl
      where
        by : (o : Option Cell) → other_of cells done rest b ≡ o → Stands (OnWire b) (inputs_for neutral m.links b o)
        by None f = Alone
        by (Some e) f = pick (folds_to neutral b e) refl
          where
            pick : (t : Bool) → folds_to neutral b e ≡ t → Stands (OnWire b) (if t then map (follow m.links) (signal_at e.pins (pin_text A)) else OnWire b ∷ [])
            pick true g = Folded b e refl (folds_to_is neutral b e g) (other_among cells done rest b e f)
            pick false g = Alone

    -- its bits are on wires of the module
    stand_in : (s : SigBit) (x : SigBit) → BitIn (length m.wires) s → (bits : List SigBit) → Stands s bits → In x bits → BitIn (length m.wires) x
    stand_in s x h bits Alone (inl e) = subst (BitIn (length m.wires)) (sym e) h
    stand_in s x h bits Alone (inr i) = absurd i
    stand_in s x h bits (Folded b e same folds among) i =
        let k = In-mapped (follow m.links) x (signal_at e.pins (pin_text A)) i in
        subst (BitIn (length m.wires)) (sym k.2) (follow_in (length m.wires) m.links ready.within.links k.0 (pin_in e (other_cell e among) (pin_text A) k.0 k.1))

    abbrev bits : List SigBit
    bits = gathered neutral cells done rest m.links (signal_at c.pins (pin_text A))

    bits_in : SigIn (length m.wires) (gathered neutral cells done rest m.links (signal_at c.pins (pin_text A)))
    bits_in x i =
        ⊎_elim
        (λ k. stand_in k.0 x (pin_in c own_cell (pin_text A) k.0 k.1) (standing_for neutral cells done rest m.links k.0) (stands k.0) k.2)
        (λ e. subst (BitIn (length m.wires)) (sym e) tt)
        (gathered_from neutral (standing_for neutral cells done rest m.links) (signal_at c.pins (pin_text A)) x i)

    module _ (here : List Cell) (p : Path) (t : Time Place) (w : Valuation) (s : Solved (rows_of (flat.table_ports table) p (replacing (flat_map listed done) here rest [] m)) t w) (before : SolvedBefore (rows_of (flat.table_ports table) p (replacing (flat_map listed done) here rest [] m)) t) where
      abbrev new_rows : List Driven
      new_rows = rows_of (flat.table_ports table) p (replacing (flat_map listed done) here rest [] m)

      abbrev f : SigBit → Bit
      f = bit_in p m.wires w

      tight_of : (e : Cell) → In e (flat_map listed done) ⊎ In e rest → (x : Driven) → In x (cell_rows (start_of m.wires m.processes) (flat.table_ports table) p m.wires e (cell_kind e)) → IsTight x t w
      tight_of e among x i =
          s.tight x
          (⊎_elim
          (λ l. pre_in m (flat_map listed done) rest here [] (flat.table_ports table) p x (rows_in (start_of m.wires m.processes) (flat.table_ports table) p m.wires (flat_map listed done) e x l i))
          (λ r. post_in m (flat_map listed done) rest here [] (flat.table_ports table) p x (rows_in (start_of m.wires m.processes) (flat.table_ports table) p m.wires rest e x r i))
          among)

      -- a bit is no better known than what it follows to
      followed_below : (x : SigBit) → Below (bit_in p m.wires w x) (bit_in p m.wires w (follow m.links x))
      followed_below x =
          (follow_read p m.wires m.links t w (solved_within (link_rows p m.wires m.links) (rows_of (flat.table_ports table) p (replacing (flat_map listed done) here rest [] m)) within t w s) (before_within (link_rows p m.wires m.links) (rows_of (flat.table_ports table) p (replacing (flat_map listed done) here rest [] m)) within t before) x).now.there
        where
          within : (d : Driven) → In d (link_rows p m.wires m.links) → In d (rows_of (flat.table_ports table) p (replacing (flat_map listed done) here rest [] m))
          within d i = links_in m (flat_map listed done) rest here [] (flat.table_ports table) p d i

      -- the bit that another fold begins with is no better known than a fold of what it reads
      folded_below : (b : WireBit) (e : Cell) → FoldsTo neutral b e → (In e (flat_map listed done) ⊎ In e rest) → Below (bit_in p m.wires w (OnWire b)) (fold (op_of neutral) neutral (map (bit_in p m.wires w) (signal_at e.pins (pin_text A))))
      folded_below b e folds among =
          let own : FoldKind = folds.cell.own in
          let kind : cell_kind e ≡ Some (Word (Fold own)) = folds.cell.kind in
          let y : List SigBit = signal_at e.pins (pin_text Y) in
          let starts = begun b y folds.begins in
          let fine = shape_of (types.table_ports table.modules) e (Word (Fold own)) kind (own_cells (types.table_ports table.modules) m ready e (other_cell e among)) in
          let none : has_constant y ≡ false = output_wires (Word (Fold own)) e Y refl fine.output in
          let rows : (x : Driven) → In x (outputs (cell_shape (Word (Fold own)) e.params) (words_of p m.wires e) (points p m.wires y) 0) → IsTight x t w = λ x i. tight_of e among x (subst (In x) (sym (rows_worked (start_of m.wires m.processes) (flat.table_ports table) p m.wires e (Word (Fold own)) refl kind)) i) in
          let known : Below (bit_in p m.wires w (slice_index_or y 0 (Fixed X))) (worked_of (cell_shape (Word (Fold own)) e.params).kind (cell_shape (Word (Fold own)) e.params) (read_words w (words_of p m.wires e)) 0) = tight_rows p m.wires t w (cell_shape (Word (Fold own)) e.params) (words_of p m.wires e) y 0 0 none starts.1 rows in
          let value : worked_of (cell_shape (Word (Fold own)) e.params).kind (cell_shape (Word (Fold own)) e.params) (read_words w (words_of p m.wires e)) 0 ≡ folded_of own (map (bit_in p m.wires w) (signal_at e.pins (pin_text A))) = ap (λ z. worked_of (cell_shape (Word (Fold own)) e.params).kind (cell_shape (Word (Fold own)) e.params) z 0) (words_read_are p m.wires w e) ∙ fold_worked own e (bit_in p m.wires w) _ _ 0 in
          subst (λ z. Below (bit_in p m.wires w z) (fold (op_of neutral) neutral (map (bit_in p m.wires w) (signal_at e.pins (pin_text A))))) starts.0
          (subst (Below (bit_in p m.wires w (slice_index_or y 0 (Fixed X)))) (value ∙ folds.cell.with.is (map (bit_in p m.wires w) (signal_at e.pins (pin_text A)))) known)

      -- a bit is no better known than a fold of what stands for it
      stands_below : IsFold (op_of neutral) neutral (high_of neutral) → (x : SigBit) → Below (bit_in p m.wires w x) (fold (op_of neutral) neutral (map (bit_in p m.wires w) (standing_for neutral cells done rest m.links x)))
      stands_below law x = by (standing_for neutral cells done rest m.links x) (stands x)
        where
          by : (those : List SigBit) → Stands x those → Below (bit_in p m.wires w x) (fold (op_of neutral) neutral (map (bit_in p m.wires w) those))
          by those Alone = stands_alone neutral (op_of neutral) (high_of neutral) law (bit_in p m.wires w) refl x
          by those (Folded b e same folds among) =
              let read : Below (bit_in p m.wires w x) (fold (op_of neutral) neutral (map (bit_in p m.wires w) (signal_at e.pins (pin_text A)))) = subst (λ z. Below (bit_in p m.wires w z) (fold (op_of neutral) neutral (map (bit_in p m.wires w) (signal_at e.pins (pin_text A))))) (sym same) (folded_below b e folds among) in
              let mono : Below (fold (op_of neutral) neutral (map (bit_in p m.wires w) (signal_at e.pins (pin_text A)))) (fold (op_of neutral) neutral (map (λ z. bit_in p m.wires w (follow m.links z)) (signal_at e.pins (pin_text A)))) = fold_mono (op_of neutral) neutral (high_of neutral) law (bit_in p m.wires w) (λ z. bit_in p m.wires w (follow m.links z)) (signal_at e.pins (pin_text A)) (λ z i. followed_below z) in
              Below_trans (bit_in p m.wires w x) (fold (op_of neutral) neutral (map (bit_in p m.wires w) (signal_at e.pins (pin_text A)))) (fold (op_of neutral) neutral (map (bit_in p m.wires w) (map (follow m.links) (signal_at e.pins (pin_text A))))) read
              (subst (λ z. Below (fold (op_of neutral) neutral (map (bit_in p m.wires w) (signal_at e.pins (pin_text A)))) (fold (op_of neutral) neutral z)) (sym (map-map (follow m.links) (bit_in p m.wires w) (signal_at e.pins (pin_text A)))) mono)

    -- the fold with what it reads now
    replaced_fold : IsFoldCell c neutral → length (gathered neutral cells done rest m.links (signal_at c.pins (pin_text A))) ≤ 4096
        → IsPass table m (record m { cells = flat_map listed done ++ with_inputs (gathered neutral cells done rest m.links (signal_at c.pins (pin_text A))) c ∷ rest })
    replaced_fold own few =
        became table m (flat_map listed done) c rest ready is (Word (Fold own.own)) own.kind refl Y refl (with_inputs bits c) (Word (Fold own.own)) kind' Y refl output'
        (library_faultless (types.table_ports table.modules) (with_inputs bits c) (Word (Fold own.own)) kind' refl (fits_still own.own c bits fit some few) none)
        (pins_within A bits (length m.wires) bits_in c.pins (ready.within.cells c own_cell))
        (λ p t w s before at b there.
        let old = fold_value (start_of m.wires m.processes) p m.wires t w c own.own at b in
        let new = fold_value (start_of m.wires m.processes) p m.wires t w (with_inputs bits c) own.own at b in
        let law = own.with.law in
        let says : Below (fold (op_of neutral) neutral (map (bit_in p m.wires w) (signal_at c.pins (pin_text A)))) (fold (op_of neutral) neutral (map (bit_in p m.wires w) bits)) = gathered_says neutral (op_of neutral) (high_of neutral) law (bit_in p m.wires w) refl (standing_for neutral cells done rest m.links) (signal_at c.pins (pin_text A)) (λ x i. stands_below (with_inputs bits c ∷ []) p t w s before law x) in
        let folded : Below (folded_of own.own (map (bit_in p m.wires w) (signal_at c.pins (pin_text A)))) (folded_of own.own (map (bit_in p m.wires w) (signal_at (with_inputs bits c).pins (pin_text A)))) = subst (λ z. Below (folded_of own.own (map (bit_in p m.wires w) (signal_at c.pins (pin_text A)))) (folded_of own.own (map (bit_in p m.wires w) z))) (sym (inputs_are own.own c bits fit some few)) (subst (λ z. Below z (folded_of own.own (map (bit_in p m.wires w) bits))) (sym (own.with.is (map (bit_in p m.wires w) (signal_at c.pins (pin_text A))))) (subst (Below (fold (op_of neutral) neutral (map (bit_in p m.wires w) (signal_at c.pins (pin_text A))))) (sym (own.with.is (map (bit_in p m.wires w) bits))) says)) in
        let width : (cell_shape (Word (Fold own.own)) (with_inputs bits c).params).widths.y ≡ (cell_shape (Word (Fold own.own)) c.params).widths.y = width_stays own.own c bits fit some few in
        let below = bit_below (folded_of own.own (map (bit_in p m.wires w) (signal_at c.pins (pin_text A)))) (folded_of own.own (map (bit_in p m.wires w) (signal_at (with_inputs bits c).pins (pin_text A)))) (cell_shape (Word (Fold own.own)) c.params).widths.y at folded in
        subst (λ z. Below z (value_of (own_driver (start_of m.wires m.processes) p m.wires (with_inputs bits c) (Word (Fold own.own)) at b) t w)) (sym old) (subst (λ z. Below (bit_at (folded_of own.own (map (bit_in p m.wires w) (signal_at c.pins (pin_text A)))) (cell_shape (Word (Fold own.own)) c.params).widths.y at) z) (sym (new ∙ ap (λ n. bit_at (folded_of own.own (map (bit_in p m.wires w) (signal_at (with_inputs bits c).pins (pin_text A)))) n at) width)) below))
      where
        fit : misfit (Word (Fold own.own)) c ≡ None
        fit = fit_of c own_cell (Word (Fold own.own)) own.kind

        some : 0 < length bits
        some = or_some neutral (fold (with_bit neutral) [] (flat_map (standing_for neutral cells done rest m.links) (signal_at c.pins (pin_text A))))

        kind' : cell_kind (with_inputs bits c) ≡ Some (Word (Fold own.own))
        kind' = kind_same bits c ∙ own.kind

        output' : signal_at (with_inputs bits c).pins (pin_text Y) ≡ signal_at c.pins (pin_text Y)
        output' = other_pin A bits (pin_text Y) refl c.pins

        none : has_constant_output (Library (Word (Fold own.own))) (with_inputs bits c).pins ≡ false
        none = no_constant A bits (Library (Word (Fold own.own))) refl c.pins (shape_of (types.table_ports table.modules) c (Word (Fold own.own)) own.kind (own_cells (types.table_ports table.modules) m ready c own_cell)).output

    -- a fold whose inputs are followed
    pub reduced_passes : fold_of c ≡ Some neutral → IsPass table m (record m { cells = flat_map listed done ++ reduced_fold neutral cells done rest m.links c ∷ rest })
    reduced_passes own = by (nat_le (length (gathered neutral cells done rest m.links (signal_at c.pins (pin_text A)))) 4096) refl
      where
        by : (t : Bool) → nat_le (length (gathered neutral cells done rest m.links (signal_at c.pins (pin_text A)))) 4096 ≡ t → IsPass table m (record m { cells = flat_map listed done ++ (if t then with_inputs (gathered neutral cells done rest m.links (signal_at c.pins (pin_text A))) c else c) ∷ rest })
        by true e = replaced_fold (fold_cell c neutral own) (leb-true (length (gathered neutral cells done rest m.links (signal_at c.pins (pin_text A)))) 4096 e)
        by false e = subst (λ z. IsPass table m (record m { cells = z })) is (IsPass_refl table m)
