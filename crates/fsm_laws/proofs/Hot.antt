-- The code has one bit that is 1 where all others are 0, in each step from the start on.
use Rattle.std.proofs.Common.{◌≡◌, ◌<◌, ◌≤◌, ℕ, zero, suc, ◌+◌, ◌*◌, List, [], ◌∷◌, length, Option, Some, None, inl, inr, refl, sym, ◌∙◌, ap, subst}
use Rattle.std.specs.Prelude.{flat_map, replicate, slice_get, slice_index_or}
use Rattle.cell_gate.specs.Control.{active_of}
use Rattle.cell_types.specs.declared.kind.CellKind.TheVariants.{Storage, Word}
use Rattle.cell_types.specs.declared.level.Level.{Level}
use Rattle.cell_types.specs.declared.storage.StorageKind.{StorageKind}
use Rattle.cell_types.specs.declared.storage.StorageKind.TheVariants.{Adff, Dff}
use Rattle.cell_types.specs.declared.word.WordKind.{WordKind}
use Rattle.cell_types.specs.declared.word.WordKind.TheVariants.{Mux, Pmux}
use Rattle.rtl_bits.proofs.Orders.{Below_from_equal}
use Rattle.rtl_bits.specs.Knowledge.{Below}
use Rattle.rtl_bits.specs.Numbers.{number_of}
use Rattle.rtl_bits.specs.Tables.{mux_of}
use Rattle.rtl_bits.specs.declared.bit.Bit.{Bit}
use Rattle.rtl_bits.specs.declared.bit.Bit.TheVariants.{X}
use Rattle.rtl_sig.specs.declared.sig.SigBit.{SigBit}
use Rattle.rtl_sig.specs.declared.sig.SigBit.TheVariants.{Fixed, Wire as OnWire}
use Rattle.rtl_sig.specs.declared.sig.WireBit.{WireBit}
use Rattle.rtl_ir.specs.Build.{whole}
use Rattle.rtl_ir.specs.Flat.Cell.{Ports, cell_kind, cell_rows, cells_rows, kind_rows}
use Rattle.rtl_ir.specs.Flat.Driver.{Driven}
use Rattle.rtl_ir.specs.Flat.Place.{Path, Place}
use Rattle.rtl_ir.specs.Flat.Point.{bit_place, point, points}
use Rattle.rtl_ir.specs.declared.cell.Cell.{Cell}
use Rattle.rtl_ir.specs.declared.wire.Wire.{Wire}
use Rattle.net_model.proofs.Members.{In-left, In-right}
use Rattle.net_model.proofs.Relating.{reached_solved}
use Rattle.net_model.specs.Fsm.Code.{code_of}
use Rattle.net_model.specs.Lists.{In}
use Rattle.net_model.specs.Refine.{Solved}
use Rattle.net_model.specs.Relate.{Reached}
use Rattle.net_model.specs.Run.{Start, Step, Time}
use Rattle.net_model.specs.Valuation.{Valuation, read, read_all}
use Rattle.pass_laws.proofs.Driving.{own_driver, own_in, row_of}
use Rattle.fsm_laws.specs.Chosen.{chosen}
use Rattle.fsm_laws.specs.Flops.{adff_like, dff_like}
use Rattle.fsm_laws.specs.Codes.{OneHot}
use Rattle.fsm_laws.specs.Forks.{mux_like, pmux_like}
use Rattle.fsm_laws.specs.States.{AreStates}
use Rattle.fsm_laws.specs.Trees.{Chosen, Constant, IsCodeTree, Picked, State, Unknown}
use Rattle.fsm_laws.proofs.Arms.{has, has_fixed, has_some}
use Rattle.fsm_laws.proofs.Choices.{chosen_hot}
use Rattle.fsm_laws.proofs.Coded.{hot_from, mux_hot, unknown_hot}
use Rattle.fsm_laws.proofs.Flops.{adff_like_takes, dff_like_takes, edge_to, point_of, registered, registered_hot, reset_hot, reset_to, taken_hot, taken_in, was_active}
use Rattle.fsm_laws.proofs.ForkKept.{has_get}
use Rattle.fsm_laws.proofs.Forks.{mux_like_gives, pmux_like_gives, read_at}
use Rattle.fsm_laws.proofs.Parts.{joined_bit, joined_end}
use Rattle.fsm_laws.proofs.States.{constant_hot}
use Rattle.build_laws.proofs.CellValues.{whole_get}

-- the rows of one cell are among those of all
pub rows_among : (start : SigBit → Bit) (ports : Ports) (p : Path) (wires : List Wire) (cells : List Cell) (c : Cell) → In c cells → (d : Driven) → In d (cell_rows start ports p wires c (cell_kind c)) → In d (cells_rows start ports p wires cells)
rows_among start ports p wires [] c i d j = absurd i
rows_among start ports p wires (x ∷ cells) c (inl e) d j =
    In-left d _ _ (subst (λ z. In d (cell_rows start ports p wires z (cell_kind z))) e j)
rows_among start ports p wires (x ∷ cells) c (inr i) d j =
    In-right d (cell_rows start ports p wires x (cell_kind x)) _ (rows_among start ports p wires cells c i d j)

has_unknown : (p : Path) (wires : List Wire) (w : Valuation) (n k : ℕ) → has p wires w (replicate n (Fixed X)) k ≡ X
has_unknown p wires w zero k = refl
has_unknown p wires w (suc n) zero = refl
has_unknown p wires w (suc n) (suc k) = has_unknown p wires w n k

module _ (width : ℕ) (states : List (List Bit)) (are : AreStates width states) (few : length states ≤ 65536) (start : SigBit → Bit) (ports : Ports) (p : Path) (wires : List Wire) (cells : List Cell) (rows : List Driven) (there : (d : Driven) → In d (cells_rows start ports p wires cells) → In d rows) (code_wire : ℕ) where
  abbrev count : ℕ
  count = length states

  abbrev code : List SigBit
  code = whole code_wire count

  abbrev IsHot : Valuation → List SigBit → Type 0
  IsHot w signal = OneHot count (λ i. has p wires w signal i)

  -- a row of a cell of the code
  own_there : (c : Cell) → In c cells → (kind : WordKind) → cell_kind c ≡ Some (Word kind) → (d : Driven) → In d (kind_rows start p wires c (Word kind)) → In d rows
  own_there c i kind e d j =
      there d (rows_among start ports p wires cells c i d (subst (λ o. In d (cell_rows start ports p wires c o)) (sym e) j))

  -- a wire that has what a row gives, as far as either is known
  wire_hot : (w : Valuation) (wire : ℕ) (u : ℕ → Bit) → OneHot count u → ((i : ℕ) → i < count → Below (u i) (w (bit_place p wires (record { wire = wire; at = i }))) × Below (w (bit_place p wires (record { wire = wire; at = i }))) (u i)) → IsHot w (whole wire count)
  wire_hot w wire u h same =
      hot_from count u (λ i. has p wires w (whole wire count) i) h (λ i lt.
      let e : has p wires w (whole wire count) i ≡ w (bit_place p wires (record { wire = wire; at = i })) = has_some p wires w (whole wire count) i (OnWire (record { wire = wire; at = i })) (whole_get wire count i lt) in
      (subst (Below (u i)) (sym e) (same i lt).0, subst (λ z. Below z (u i)) (sym e) (same i lt).1))

  module _ (t : Time Place) (w : Valuation) (solved : Solved rows t w) (hot : IsHot w code) where
    pub tree_hot : (signal : List SigBit) → IsCodeTree states code cells signal → IsHot w signal
    unfolding cell_kind
    tree_hot signal (Constant i s at n number) =
        hot_from count (λ j. slice_index_or (code_of states n) j X) _ (constant_hot width states are n i s at number)
        (λ j lt. let e = has_fixed p wires w (code_of states n) j in (Below_from_equal _ _ (sym e), Below_from_equal _ _ e))
    tree_hot signal Unknown = unknown_hot count are.two (λ i. has p wires w (replicate (length states) (Fixed X)) i) (λ i lt. has_unknown p wires w (length states) i)
    tree_hot signal State = hot
    tree_hot signal (Chosen c a b s wire kind i ta tb) =
        let made : Cell = mux_like c count a b s (whole wire count) in
        wire_hot w wire (λ k. mux_of (has p wires w a k) (has p wires w b k) (has p wires w s 0)) (mux_hot count (λ k. has p wires w a k) (λ k. has p wires w b k) (has p wires w s 0) (tree_hot a ta) (tree_hot b tb))
        (λ k lt. let q : WireBit = record { wire = wire; at = k } in
        let value = mux_like_gives start p wires c count a b s (whole wire count) few k q lt t w in
        let row = own_there made i Mux kind (row_of p wires q (own_driver start p wires made (Word Mux) k q)) (own_in p wires start made (Word Mux) refl k q (whole_get wire count k lt)) in
        (subst (λ z. Below z (w (bit_place p wires q))) value (solved.met _ row), subst (Below (w (bit_place p wires q))) value (solved.tight _ row)))
    tree_hot signal (Picked c selects a s parts wire kind i ta long tp) =
        let made : Cell = pmux_like c count selects a (flat_map (λ (r : List SigBit). r) parts) s (whole wire count) in
        wire_hot w wire (λ k. chosen (read_all w (points p wires s)) (has p wires w a k) (λ j. has p wires w (flat_map (λ (r : List SigBit). r) parts) (j * count + k)))
        (chosen_hot count are.two (read_all w (points p wires s)) (λ k. has p wires w a k) (λ k j. has p wires w (flat_map (λ (r : List SigBit). r) parts) (j * count + k)) (tree_hot a ta) (λ j. part_hot (λ k part e. tree_hot part (tp k part e)) j (slice_get parts j) refl))
        (λ k lt. let q : WireBit = record { wire = wire; at = k } in
        let value = pmux_like_gives start p wires c count selects a (flat_map (λ (r : List SigBit). r) parts) s (whole wire count) few k q lt t w in
        let row = own_there made i Pmux kind (row_of p wires q (own_driver start p wires made (Word Pmux) k q)) (own_in p wires start made (Word Pmux) refl k q (whole_get wire count k lt)) in
        (subst (λ z. Below z (w (bit_place p wires q))) value (solved.met _ row), subst (Below (w (bit_place p wires q))) value (solved.tight _ row)))
      where
        part_hot : ((k : ℕ) (part : List SigBit) → slice_get parts k ≡ Some part → IsHot w part) → (j : ℕ) (o : Option (List SigBit)) → slice_get parts j ≡ o → OneHot count (λ k. has p wires w (flat_map (λ (r : List SigBit). r) parts) (j * count + k))
        part_hot go j None e =
            unknown_hot count are.two _ (λ k lt. has_get p wires w (flat_map (λ (r : List SigBit). r) parts) (j * count + k) ∙ ap (λ x. read w (point p wires x)) (joined_end count parts long j k (Fixed X) e))
        part_hot go j (Some part) e =
            hot_from count (λ k. has p wires w part k) _ (go j part e)
            (λ k lt. let same : has p wires w part k ≡ has p wires w (flat_map (λ (r : List SigBit). r) parts) (j * count + k) = has_get p wires w part k ∙ ap (λ x. read w (point p wires x)) (sym (joined_bit count parts long j k part (Fixed X) e lt)) ∙ sym (has_get p wires w (flat_map (λ (r : List SigBit). r) parts) (j * count + k)) in
            (Below_from_equal _ _ same, Below_from_equal _ _ (sym same)))

  -- the code wire, in each step
  abbrev code_bit : ℕ → WireBit
  code_bit i = record { wire = code_wire; at = i }

  flop_there : (c : Cell) → In c cells → (kind : StorageKind) → cell_kind c ≡ Some (Storage kind) → (d : Driven) → In d (kind_rows start p wires c (Storage kind)) → In d rows
  flop_there c i kind e d j =
      there d (rows_among start ports p wires cells c i d (subst (λ o. In d (cell_rows start ports p wires c o)) (sym e) j))

  -- the data in the step before
  data_hot : (z : Valuation) (d : List SigBit) → IsHot z d → OneHot count (λ i. point_of start p wires d i z)
  data_hot z d h = hot_from count (λ i. has p wires z d i) (λ i. point_of start p wires d i z) h (λ i lt. let e = read_at z (points p wires d) i in (Below_from_equal _ _ e, Below_from_equal _ _ (sym e)))

  -- the old value
  old_hot : (z : Valuation) → IsHot z code → OneHot count (λ i. z (bit_place p wires (code_bit i)))
  old_hot z h =
      hot_from count (λ i. has p wires z code i) (λ i. z (bit_place p wires (code_bit i))) h
      (λ i lt. let e = has_some p wires z code i (OnWire (code_bit i)) (whole_get code_wire count i lt) in (Below_from_equal _ _ e, Below_from_equal _ _ (sym e)))

  module _ (begins : OneHot count (λ i. start (OnWire (code_bit i)))) (c : Cell) (level : Level) (clock d : List SigBit) (tree : IsCodeTree states code cells d) where
    -- without a reset
    module _ (kind : cell_kind c ≡ Some (Storage Dff)) (made : In (dff_like c count level clock d code) cells) where
      dff_row : (i : ℕ) → i < count → In (row_of p wires (code_bit i) (own_driver start p wires (dff_like c count level clock d code) (Storage Dff) i (code_bit i))) rows
      unfolding cell_kind
      dff_row i lt =
          flop_there (dff_like c count level clock d code) made Dff kind _ (own_in p wires start (dff_like c count level clock d code) (Storage Dff) refl i (code_bit i) (whole_get code_wire count i lt))

      pub dff_hot : (n : ℕ) (u : Time Place) (w : Valuation) → Reached n rows u w → IsHot w code
      dff_hot zero Start w r =
          wire_hot w code_wire (λ i. start (OnWire (code_bit i))) begins (λ i lt. (r.met _ (dff_row i lt), r.tight _ (dff_row i lt)))
      dff_hot (suc n) (Step z x g) w r =
          let before = dff_hot n r.2.0 z r.2.1 in
          let next = data_hot z d (tree_hot r.2.0 z (reached_solved rows n r.2.0 z r.2.1) before d tree) in
          let edge : Bit = edge_to level g.first (point_of start p wires clock 0 z) (point_of start p wires clock 0 w) in
          wire_hot w code_wire (λ i. registered edge (point_of start p wires d i z) (z (bit_place p wires (code_bit i)))) (registered_hot count edge _ _ next (old_hot z before))
          (λ i lt. let value = dff_like_takes start p wires c count level clock d code i (code_bit i) z x g w in
          (subst (λ b. Below b (w (bit_place p wires (code_bit i)))) value (r.0.met _ (dff_row i lt)), subst (Below (w (bit_place p wires (code_bit i)))) value (r.0.tight _ (dff_row i lt))))
      dff_hot zero (Step z x g) w r = absurd r
      dff_hot (suc n) Start w r = absurd r

    -- with one, which gives a state
    module _ (reset_level : Level) (reset : List SigBit) (k : ℕ) (s : List Bit) (at : slice_get states k ≡ Some s) (value : ℕ) (number : number_of s ≡ value) (kind : cell_kind c ≡ Some (Storage Adff)) (made : In (adff_like c count level reset_level (code_of states value) clock reset d code) cells) where
      adff_row : (i : ℕ) → i < count → In (row_of p wires (code_bit i) (own_driver start p wires (adff_like c count level reset_level (code_of states value) clock reset d code) (Storage Adff) i (code_bit i))) rows
      unfolding cell_kind
      adff_row i lt =
          flop_there (adff_like c count level reset_level (code_of states value) clock reset d code) made Adff kind _ (own_in p wires start (adff_like c count level reset_level (code_of states value) clock reset d code) (Storage Adff) refl i (code_bit i) (whole_get code_wire count i lt))

      pub adff_hot : (n : ℕ) (u : Time Place) (w : Valuation) → Reached n rows u w → IsHot w code
      adff_hot zero Start w r =
          wire_hot w code_wire (λ i. start (OnWire (code_bit i))) begins (λ i lt. (r.met _ (adff_row i lt), r.tight _ (adff_row i lt)))
      adff_hot (suc n) (Step z x g) w r =
          let before = adff_hot n r.2.0 z r.2.1 in
          let next = data_hot z d (tree_hot r.2.0 z (reached_solved rows n r.2.0 z r.2.1) before d tree) in
          let edge : Bit = edge_to level g.first (point_of start p wires clock 0 z) (point_of start p wires clock 0 w) in
          let control : Bit = active_of reset_level (point_of start p wires reset 0 w) in
          let was : Bit = was_active reset_level g.first (point_of start p wires reset 0 z) in
          wire_hot w code_wire (λ i. reset_to control (slice_index_or (code_of states value) i X) (registered edge (taken_in g.order was (slice_index_or (code_of states value) i X) (point_of start p wires d i z)) (z (bit_place p wires (code_bit i)))))
          (reset_hot count control _ _ (constant_hot width states are value k s at number) (registered_hot count edge _ _ (taken_hot g.order count was _ _ (constant_hot width states are value k s at number) next) (old_hot z before)))
          (λ i lt. let takes = adff_like_takes start p wires c count level reset_level (code_of states value) clock reset d code i (code_bit i) z x g w in
          (subst (λ b. Below b (w (bit_place p wires (code_bit i)))) takes (r.0.met _ (adff_row i lt)), subst (Below (w (bit_place p wires (code_bit i)))) takes (r.0.tight _ (adff_row i lt))))
      adff_hot zero (Step z x g) w r = absurd r
      adff_hot (suc n) Start w r = absurd r
