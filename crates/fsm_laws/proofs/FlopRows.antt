-- Each row of the flip-flop of a machine keeps to what is said of its bit, and in each step the code has one bit that is 1 where all
-- others are 0.
use Rattle.std.proofs.Common.{◌≡◌, ◌≤◌, ℕ, zero, suc, ◌+◌, List, ◌++◌, length, map, Some, ◌⊎◌, inl, inr, refl, sym, ◌∙◌, ap, subst, arith}
use Rattle.std.specs.Prelude.{slice_get, slice_index_or}
use Rattle.cell_types.specs.Given.{value_in}
use Rattle.cell_types.specs.Levels.{level_in}
use Rattle.cell_types.specs.declared.kind.CellKind.TheVariants.{Storage}
use Rattle.cell_types.specs.declared.param_name.ParamName.TheVariants.{ArstPolarity, ArstValue, ClkPolarity}
use Rattle.cell_types.specs.declared.pin_name.PinName.TheVariants.{Arst, Clk, Q}
use Rattle.cell_types.specs.declared.storage.StorageKind.TheVariants.{Adff, Dff}
use Rattle.rtl_bits.specs.Knowledge.{Below}
use Rattle.rtl_bits.specs.Numbers.{number_of}
use Rattle.rtl_bits.specs.declared.bit.Bit.{Bit}
use Rattle.rtl_bits.specs.declared.bit.Bit.TheVariants.{X}
use Rattle.rtl_sig.specs.declared.sig.SigBit.{SigBit}
use Rattle.rtl_sig.specs.declared.sig.SigBit.TheVariants.{Wire as OnWire}
use Rattle.rtl_sig.specs.declared.sig.WireBit.{WireBit}
use Rattle.rtl_ir.specs.Build.{whole}
use Rattle.rtl_ir.specs.Flat.Cell.{Ports, cell_kind, cell_rows, cells_rows, kind_rows}
use Rattle.rtl_ir.specs.Flat.Driver.{Driven}
use Rattle.rtl_ir.specs.Flat.Place.{Frame, Path, Place}
use Rattle.rtl_ir.specs.Flat.Point.{point}
use Rattle.rtl_ir.specs.Follow.{follow}
use Rattle.rtl_ir.specs.Parameters.{given_params}
use Rattle.rtl_ir.specs.declared.cell.Cell.{Cell}
use Rattle.rtl_ir.specs.declared.module.Link.{Link}
use Rattle.rtl_ir.specs.declared.wire.Wire.{Wire}
use Rattle.net_model.proofs.Relating.{reached_solved}
use Rattle.net_model.specs.Fsm.Code.{Output, code_of}
use Rattle.net_model.specs.Fsm.Find.{at_pin}
use Rattle.net_model.specs.Lists.{Distinct, In}
use Rattle.net_model.specs.Refine.{IsMet, Solved}
use Rattle.net_model.specs.Relate.{Reached, Related, SameMoment}
use Rattle.net_model.specs.Run.{Start, Step, Time}
use Rattle.net_model.specs.Valuation.{Valuation, read}
use Rattle.net_model.specs.Value.{value_of}
use Rattle.pass_laws.proofs.Driving.{own_driver, own_in, own_row, row_of}
use Rattle.follow_laws.specs.Alike.{Alike}
use Rattle.fsm_laws.specs.Carried.{code_says}
use Rattle.fsm_laws.specs.Codes.{OneHot, apart}
use Rattle.fsm_laws.specs.Flops.{adff_like, dff_like}
use Rattle.fsm_laws.specs.Recodes.{FlopPart, HasReset, IsPlain}
use Rattle.fsm_laws.specs.States.{AreStates}
use Rattle.fsm_laws.proofs.Arms.{has}
use Rattle.fsm_laws.proofs.FlopKept.{adff_kept, dff_kept, starts_kept}
use Rattle.fsm_laws.proofs.Hot.{adff_hot, dff_hot, rows_among}
use Rattle.fsm_laws.proofs.RowsKept.{Keeps, bit_of, keeps_row, out_said}
use Rattle.fsm_laws.proofs.States.{there_small}
use Rattle.build_laws.proofs.CellValues.{whole_get}

module _ (links : List Link) (wires fresh : List Wire) (named : Distinct (map (λ (w : Wire). w.name) wires)) (outputs : List Output) (width : ℕ) (states : List (List Bit)) (are : AreStates width states) (few : length states ≤ 65536) (code_wire : ℕ) (cells : List Cell) (more : List Link) (start : SigBit → Bit) (over : Ports) (frames : List Frame) (p : Path) (rows : List Driven) (there : (d : Driven) → In d (cells_rows start over p (wires ++ fresh) cells) → In d rows) where
  abbrev grown : List Wire
  grown = wires ++ fresh

  abbrev code : List SigBit
  code = whole code_wire (length states)

  abbrev Moment : Time Place → Time Place → Type 0
  Moment t u = SameMoment over frames (code_says states links wires (wires ++ fresh) outputs) p t u

  abbrev Relates : Valuation → Valuation → Type 0
  Relates v w = Related over frames (code_says states links wires (wires ++ fresh) outputs) p v w

  module _ (c : Cell) (part : FlopPart width states links wires outputs code_wire cells more start c) where
    abbrev clock : List SigBit
    clock = at_pin c Clk

    -- in each step the code has one bit that is 1 where all others are 0
    pub code_hot : (n : ℕ) (u : Time Place) (w : Valuation) → Reached n rows u w → OneHot (length states) (λ i. has p grown w code i)
    code_hot n u w reached = by part.kind
      where
        by : IsPlain width states links wires outputs code_wire cells more start c part.d ⊎ HasReset width states links wires outputs code_wire cells more start c part.d → OneHot (length states) (λ i. has p grown w code i)
        by (inl plain) =
            dff_hot width states are few start over p grown cells rows there code_wire part.hot c (level_in (given_params c.params) ClkPolarity) clock part.d part.tree plain.kind plain.made n u w reached
        by (inr reset) =
            adff_hot width states are few start over p grown cells rows there code_wire part.hot c (level_in (given_params c.params) ClkPolarity) clock part.d part.tree (level_in (given_params c.params) ArstPolarity) (at_pin c Arst) reset.place reset.state reset.there (number_of (value_in (given_params c.params) ArstValue)) reset.number reset.kind reset.made n u w reached

    module _ (v w : Valuation) (rel : Relates v w) (alike : (u : Time Place) (w : Valuation) → Solved rows u w → (s : SigBit) → Alike w (point p (wires ++ fresh) s) (point p (wires ++ fresh) (follow links s))) where
      -- without a reset
      module _ (plain : IsPlain width states links wires outputs code_wire cells more start c part.d) where
        abbrev made_dff : Cell
        made_dff = dff_like c (length states) (level_in (given_params c.params) ClkPolarity) clock part.d code

        dff_met : (u : Time Place) → Solved rows u w → (d : Driven) → In d (kind_rows start p grown made_dff (Storage Dff)) → IsMet d u w
        unfolding cell_kind
        dff_met u solved d j =
            solved.met d (there d (rows_among start over p grown cells made_dff plain.made d (subst (λ o. In d (cell_rows start over p grown made_dff o)) (sym plain.kind) j)))

        dff_low : (t u : Time Place) → Moment t u → (n : ℕ) → Reached n rows u w → (k : ℕ) (q : WireBit) → slice_get (at_pin c Q) k ≡ Some (OnWire q) → (i : ℕ) (r : List Bit) → slice_get states i ≡ Some r
            → Below (apart (value_of (own_driver start p grown c (Storage Dff) k q) t v) (slice_index_or r k X)) (read w (point p grown (OnWire (bit_of links wires fresh named outputs width states are few code_wire cells more start over frames p rows there code_wire i))))
        dff_low Start Start st n reached k q at i r there_i =
            let o : WireBit = record { wire = code_wire; at = i } in
            starts_kept links wires fresh named outputs width states are over frames p start w k i r q o (part.begins k q at i r there_i)
            (dff_met Start (reached_solved rows n Start w reached) (row_of p grown o (own_driver start p grown made_dff (Storage Dff) i o)) (own_in p grown start made_dff (Storage Dff) refl i o (whole_get code_wire (length states) i (there_small states i r there_i))))
        dff_low (Step a x f) (Step z y g) st (suc n) reached k q at i r there_i =
            let o : WireBit = record { wire = code_wire; at = i } in
            let output = part.output k q at in
            dff_kept links wires fresh named outputs width states are over frames p start a z v w st.0 rel (alike reached.2.0 z (reached_solved rows n reached.2.0 z reached.2.1)) f g st.2 x y c (length states) part.d code part.own_d part.free part.stands
            k output.0 i r there_i q o output.1.0 output.1.1 (whole_get code_wire (length states) i (there_small states i r there_i)) (dff_met (Step z y g) reached.0)
        dff_low (Step a x f) (Step z y g) st zero reached k q at i r there_i = absurd reached
        dff_low Start (Step z y g) st n reached k q at i r there_i = absurd st
        dff_low (Step a x f) Start st n reached k q at i r there_i = absurd st

      -- with one
      module _ (reset : HasReset width states links wires outputs code_wire cells more start c part.d) where
        abbrev made_adff : Cell
        made_adff =
            adff_like c (length states) (level_in (given_params c.params) ClkPolarity) (level_in (given_params c.params) ArstPolarity) (code_of states (number_of (value_in (given_params c.params) ArstValue))) clock (at_pin c Arst) part.d code

        adff_met : (u : Time Place) → Solved rows u w → (d : Driven) → In d (kind_rows start p grown made_adff (Storage Adff)) → IsMet d u w
        unfolding cell_kind
        adff_met u solved d j =
            solved.met d (there d (rows_among start over p grown cells made_adff reset.made d (subst (λ o. In d (cell_rows start over p grown made_adff o)) (sym reset.kind) j)))

        adff_low : (t u : Time Place) → Moment t u → (n : ℕ) → Reached n rows u w → (k : ℕ) (q : WireBit) → slice_get (at_pin c Q) k ≡ Some (OnWire q) → (i : ℕ) (r : List Bit) → slice_get states i ≡ Some r
            → Below (apart (value_of (own_driver start p grown c (Storage Adff) k q) t v) (slice_index_or r k X)) (read w (point p grown (OnWire (bit_of links wires fresh named outputs width states are few code_wire cells more start over frames p rows there code_wire i))))
        adff_low Start Start st n reached k q at i r there_i =
            let o : WireBit = record { wire = code_wire; at = i } in
            starts_kept links wires fresh named outputs width states are over frames p start w k i r q o (part.begins k q at i r there_i)
            (adff_met Start (reached_solved rows n Start w reached) (row_of p grown o (own_driver start p grown made_adff (Storage Adff) i o)) (own_in p grown start made_adff (Storage Adff) refl i o (whole_get code_wire (length states) i (there_small states i r there_i))))
        adff_low (Step a x f) (Step z y g) st (suc n) reached k q at i r there_i =
            let o : WireBit = record { wire = code_wire; at = i } in
            let output = part.output k q at in
            adff_kept links wires fresh named outputs width states are over frames p start a z v w st.0 rel (alike reached.2.0 z (reached_solved rows n reached.2.0 z reached.2.1)) f g st.2 x y c (length states) part.d code part.own_d part.free part.stands
            k output.0 i r there_i q o output.1.0 output.1.1 (whole_get code_wire (length states) i (there_small states i r there_i)) reset.free reset.known reset.wide (adff_met (Step z y g) reached.0)
        adff_low (Step a x f) (Step z y g) st zero reached k q at i r there_i = absurd reached
        adff_low Start (Step z y g) st n reached k q at i r there_i = absurd st
        adff_low (Step a x f) Start st n reached k q at i r there_i = absurd st

      module _ (t u : Time Place) (st : Moment t u) (n : ℕ) (reached : Reached n rows u w) where
        abbrev Kept : Driven → Type 0
        Kept x = Keeps links wires fresh named outputs width states are few code_wire cells more start over frames p rows there t u st v w rel n reached alike x

        -- each row of the flip-flop
        pub flop_keeps : (x : Driven) → In x (cell_rows start over p grown c (cell_kind c)) → Kept x
        flop_keeps x i = by part.kind
          where
            by : IsPlain width states links wires outputs code_wire cells more start c part.d ⊎ HasReset width states links wires outputs code_wire cells more start c part.d → Kept x
            by (inl plain) =
                let row = own_row p grown start c (Storage Dff) refl x (subst (λ o. In x (cell_rows start over p grown c o)) plain.kind i) in
                let place : 0 + row.number ≡ row.number = omega arith in
                keeps_row links wires fresh named outputs width states are few code_wire cells more start over frames p rows there t u st v w rel n reached alike row.bit (row_of p grown row.bit (own_driver start p grown c (Storage Dff) row.number row.bit)) x
                (row.is ∙ ap (λ k. row_of p grown row.bit (own_driver start p grown c (Storage Dff) k row.bit)) place) refl
                (out_said links wires fresh named outputs width states are few code_wire cells more start over frames p rows there w code_wire row.number row.bit (value_of (own_driver start p grown c (Storage Dff) row.number row.bit) t v) (part.output row.number row.bit row.there).1
                (λ k r at. dff_low plain t u st n reached row.number row.bit row.there k r at))
            by (inr reset) =
                let row = own_row p grown start c (Storage Adff) refl x (subst (λ o. In x (cell_rows start over p grown c o)) reset.kind i) in
                let place : 0 + row.number ≡ row.number = omega arith in
                keeps_row links wires fresh named outputs width states are few code_wire cells more start over frames p rows there t u st v w rel n reached alike row.bit (row_of p grown row.bit (own_driver start p grown c (Storage Adff) row.number row.bit)) x
                (row.is ∙ ap (λ k. row_of p grown row.bit (own_driver start p grown c (Storage Adff) k row.bit)) place) refl
                (out_said links wires fresh named outputs width states are few code_wire cells more start over frames p rows there w code_wire row.number row.bit (value_of (own_driver start p grown c (Storage Adff) row.number row.bit) t v) (part.output row.number row.bit row.there).1
                (λ k r at. adff_low reset t u st n reached row.number row.bit row.there k r at))
