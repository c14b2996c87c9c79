-- Each row of a cell of a machine keeps to what is said of its bit.
use Rattle.std.proofs.Common.{◌≡◌, ◌<◌, ◌≤◌, ℕ, ◌+◌, List, ◌++◌, length, map, Some, refl, sym, ◌∙◌, ap, subst, arith}
use Rattle.std.specs.Prelude.{flat_map, slice_get, slice_index_or}
use Rattle.cell_types.specs.declared.kind.CellKind.{CellKind}
use Rattle.cell_types.specs.declared.kind.CellKind.TheVariants.{Word}
use Rattle.cell_types.specs.declared.pin_name.PinName.TheVariants.{A, S}
use Rattle.cell_types.specs.declared.word.WordKind.TheVariants.{Mux, Pmux}
use Rattle.rtl_bits.specs.Knowledge.{Below}
use Rattle.rtl_bits.specs.declared.bit.Bit.{Bit}
use Rattle.rtl_bits.specs.declared.bit.Bit.TheVariants.{X}
use Rattle.rtl_sig.specs.declared.sig.SigBit.{SigBit}
use Rattle.rtl_sig.specs.declared.sig.SigBit.TheVariants.{Wire as OnWire}
use Rattle.rtl_sig.specs.declared.sig.WireBit.{WireBit}
use Rattle.rtl_ir.specs.Build.{whole}
use Rattle.rtl_ir.specs.Flat.Cell.{Ports, cell_kind, cell_rows, cells_rows, kind_rows}
use Rattle.rtl_ir.specs.Flat.Driver.{Driven}
use Rattle.rtl_ir.specs.Flat.Place.{Frame, OfWire, Path, Place}
use Rattle.rtl_ir.specs.Flat.Point.{bit_place, name_or_empty, point, points}
use Rattle.rtl_ir.specs.Follow.{follow}
use Rattle.rtl_ir.specs.declared.cell.Cell.{Cell}
use Rattle.rtl_ir.specs.declared.module.Link.{Link}
use Rattle.rtl_ir.specs.declared.wire.Wire.{Wire}
use Rattle.net_model.proofs.Relating.{reached_solved}
use Rattle.net_model.specs.Fsm.Code.{Output}
use Rattle.net_model.specs.Fsm.Find.{at_pin}
use Rattle.net_model.specs.Lists.{Distinct, In}
use Rattle.net_model.specs.Refine.{IsMet, Solved}
use Rattle.net_model.specs.Relate.{Reached, Related, SameMoment}
use Rattle.net_model.specs.Run.{Time}
use Rattle.net_model.specs.Valuation.{Valuation, read}
use Rattle.net_model.specs.Value.{value_of}
use Rattle.pass_laws.proofs.Driving.{own_driver, own_row, row_of}
use Rattle.follow_laws.specs.Alike.{Alike}
use Rattle.fsm_laws.specs.Carried.{carrier_of, carries, code_says}
use Rattle.fsm_laws.specs.Codes.{apart}
use Rattle.fsm_laws.specs.Forks.{mux_like, pmux_like}
use Rattle.fsm_laws.specs.Recodes.{MuxPart, PmuxPart}
use Rattle.fsm_laws.specs.States.{AreStates}
use Rattle.fsm_laws.proofs.Arms.{has_some}
use Rattle.fsm_laws.proofs.Carrying.{spot_is}
use Rattle.fsm_laws.proofs.ForkKept.{mux_kept, pmux_kept}
use Rattle.fsm_laws.proofs.Forks.{read_at}
use Rattle.fsm_laws.proofs.Hot.{rows_among}
use Rattle.fsm_laws.proofs.States.{there_small}
use Rattle.build_laws.proofs.CellValues.{whole_get}

module _ (links : List Link) (wires fresh : List Wire) (named : Distinct (map (λ (w : Wire). w.name) wires)) (outputs : List Output) (width : ℕ) (states : List (List Bit)) (are : AreStates width states) (few : length states ≤ 65536) (code_wire : ℕ) (cells : List Cell) (more : List Link) (start : SigBit → Bit) (over : Ports) (frames : List Frame) (p : Path) (rows : List Driven) (there : (d : Driven) → In d (cells_rows start over p (wires ++ fresh) cells) → In d rows) where
  abbrev grown : List Wire
  grown = wires ++ fresh

  abbrev code : List SigBit
  code = whole code_wire (length states)

  abbrev says : (w : Valuation) (q : WireBit) → Bit → Type 0
  says w q a = code_says states links wires grown outputs p w (OfWire (name_or_empty (slice_get grown q.wire)) q.at) a

  -- the bit at a place of a wire of the code
  abbrev pub bit_of : ℕ → ℕ → WireBit
  bit_of wire i = record { wire = wire; at = i }

  -- a row of one cell of the code is met
  cell_met : (u : Time Place) (w : Valuation) → Solved rows u w → (c : Cell) → In c cells → (kind : CellKind) → cell_kind c ≡ Some kind → (d : Driven) → In d (cell_rows start over p grown c (Some kind)) → IsMet d u w
  cell_met u w solved c i kind e d j =
      solved.met d (there d (rows_among start over p grown cells c i d (subst (λ o. In d (cell_rows start over p grown c o)) (sym e) j)))

  -- what is said of an output, of what its code has
  pub out_said : (w : Valuation) (wire k : ℕ) (q : WireBit) (a : Bit) → (q.wire < length wires) × (carrier_of outputs (follow links (OnWire q)) ≡ Some (record { code = whole wire (length states); bit = k }))
      → ((i : ℕ) (r : List Bit) → slice_get states i ≡ Some r → Below (apart a (slice_index_or r k X)) (read w (point p grown (OnWire (bit_of wire i))))) → says w q a
  out_said w wire k q a output low =
      subst (λ o. carries states grown o p w (OfWire (name_or_empty (slice_get grown q.wire)) q.at) a) (sym (spot_is links wires fresh named outputs q output.0 ∙ output.1))
      (λ i r at. subst (Below (apart a (slice_index_or r k X))) (sym (sym (read_at w (points p grown (whole wire (length states))) i) ∙ has_some p grown w (whole wire (length states)) i (OnWire (bit_of wire i)) (whole_get wire (length states) i (there_small states i r at)))) (low i r at))

  module _ (t u : Time Place) (st : SameMoment over frames (code_says states links wires (wires ++ fresh) outputs) p t u) (v w : Valuation) (rel : Related over frames (code_says states links wires (wires ++ fresh) outputs) p v w) (n : ℕ) (reached : Reached n rows u w)
      (alike : (u : Time Place) (w : Valuation) → Solved rows u w → (s : SigBit) → Alike w (point p (wires ++ fresh) s) (point p (wires ++ fresh) (follow links s))) where
    solved : Solved rows u w
    solved = reached_solved rows n u w reached

    -- a row keeps to what is said, and is the module's own
    pub record Keeps (x : Driven) : Type 0 where
      pub path : x.place.path ≡ p
      pub said : code_says states links wires (wires ++ fresh) outputs p w x.place.spot (value_of x.driver t v)

    pub keeps_row : (q : WireBit) (d : Driven) (x : Driven) → x ≡ d → d.place ≡ bit_place p grown q → says w q (value_of d.driver t v) → Keeps x
    keeps_row q d x e at said =
        subst Keeps (sym e) (record { path = ap (λ b. b.path) at; said = subst (λ b. code_says states links wires (wires ++ fresh) outputs p w b.spot (value_of d.driver t v)) (sym at) said })

    -- a multiplexer of the tree
    pub mux_keeps : (c : Cell) → MuxPart width states links wires outputs code_wire cells more start c → (x : Driven) → In x (kind_rows start p grown c (Word Mux)) → Keeps x
    unfolding cell_kind
    mux_keeps c part x i =
        let row = own_row p grown start c (Word Mux) refl x i in
        let place : 0 + row.number ≡ row.number = omega arith in
        let output = part.output row.number row.bit row.there in
        keeps_row row.bit (row_of p grown row.bit (own_driver start p grown c (Word Mux) row.number row.bit)) x (row.is ∙ ap (λ k. row_of p grown row.bit (own_driver start p grown c (Word Mux) k row.bit)) place) refl
        (out_said w part.wire row.number row.bit (value_of (own_driver start p grown c (Word Mux) row.number row.bit) t v) output.1
        (λ k r at. let inside = there_small states k r at in
        mux_kept links wires fresh named outputs width states are over frames p v w rel (alike u w solved) start t u c (length states) part.a part.b (whole part.wire (length states)) few part.own_a part.own_b part.free part.stands_a part.stands_b
        (cell_met u w solved (mux_like c (length states) part.a part.b (at_pin c S) (whole part.wire (length states))) part.made (Word Mux) part.kind)
        row.number output.0 row.bit k r at inside (bit_of part.wire k) (whole_get part.wire (length states) k inside)))

    -- one of several parts
    pub pmux_keeps : (c : Cell) → PmuxPart width states links wires outputs code_wire cells more start c → (x : Driven) → In x (kind_rows start p grown c (Word Pmux)) → Keeps x
    unfolding cell_kind
    pmux_keeps c part x i =
        let row = own_row p grown start c (Word Pmux) refl x i in
        let place : 0 + row.number ≡ row.number = omega arith in
        let output = part.output row.number row.bit row.there in
        let narrow : row.number < length (at_pin c A) = omega (arith, output.0, part.inside) in
        keeps_row row.bit (row_of p grown row.bit (own_driver start p grown c (Word Pmux) row.number row.bit)) x (row.is ∙ ap (λ k. row_of p grown row.bit (own_driver start p grown c (Word Pmux) k row.bit)) place) refl
        (out_said w part.wire row.number row.bit (value_of (own_driver start p grown c (Word Pmux) row.number row.bit) t v) output.1
        (λ k r at. let inside = there_small states k r at in
        pmux_kept links wires fresh named outputs width states are over frames p v w rel (alike u w solved) start c part.parts (length states) part.long part.own_b part.some part.stands t u part.selects part.a (whole part.wire (length states)) few part.wide part.own_a part.free part.stands_a
        (cell_met u w solved (pmux_like c (length states) part.selects part.a (flat_map (λ (s : List SigBit). s) part.parts) (at_pin c S) (whole part.wire (length states))) part.made (Word Pmux) part.kind)
        row.number output.0 narrow row.bit k r at inside (bit_of part.wire k) (whole_get part.wire (length states) k inside)))
