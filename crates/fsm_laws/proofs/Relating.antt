-- A module without processes whose machine gets its code keeps to what the code says, and so refines the module.
use Rattle.std.proofs.Common.{◌≡◌, ℕ, ◌+◌, List, [], ◌∷◌, ◌++◌, length, Option, Some, None, ◌⊎◌, inl, inr, ⊎_elim, refl, sym, ◌∙◌, ap, subst, arith}
use Rattle.std.specs.Prelude.{slice_get}
use Rattle.cell_types.specs.declared.kind.CellKind.TheVariants.{Word}
use Rattle.cell_types.specs.declared.pin_name.PinName.TheVariants.{Y}
use Rattle.cell_types.specs.declared.word.EqualKind.{EqualKind}
use Rattle.cell_types.specs.declared.word.EqualKind.TheVariants.{Eq, Ne}
use Rattle.cell_types.specs.declared.word.WordKind.TheVariants.{Equal}
use Rattle.rtl_bits.specs.Knowledge.{Below}
use Rattle.rtl_bits.specs.declared.bit.Bit.{Bit}
use Rattle.rtl_bits.specs.declared.bit.Bit.TheVariants.{X}
use Rattle.rtl_sig.specs.declared.sig.SigBit.{SigBit}
use Rattle.rtl_sig.specs.declared.sig.SigBit.TheVariants.{Wire as OnWire}
use Rattle.rtl_sig.specs.declared.sig.WireBit.{WireBit}
use Rattle.rtl_ir.specs.Build.{whole}
use Rattle.rtl_ir.specs.Flat.Cell.{Ports, cell_kind, cell_rows, cells_rows, instances, kind_rows}
use Rattle.rtl_ir.specs.Flat.Driver.{Driven}
use Rattle.rtl_ir.specs.Flat.Link.{link_rows}
use Rattle.rtl_ir.specs.Flat.Memory.{memories_rows}
use Rattle.rtl_ir.specs.Flat.Place.{Frame, OfWire, Path, Place, Spot}
use Rattle.rtl_ir.specs.Flat.Point.{bit_place, name_or_empty, point}
use Rattle.rtl_ir.specs.Flat.Rows.{plain_rows, rows_of}
use Rattle.rtl_ir.specs.Flat.Start.{start_of}
use Rattle.rtl_ir.specs.Follow.{follow}
use Rattle.rtl_ir.specs.declared.cell.Cell.{Cell}
use Rattle.rtl_ir.specs.declared.module.Link.{Link}
use Rattle.rtl_ir.specs.declared.module.Module.{Module}
use Rattle.rtl_ir.specs.declared.wire.Wire.{Wire}
use Rattle.net_model.proofs.Grown.{grown_refines, ports_more}
use Rattle.net_model.proofs.Lifted.{related, row_stays}
use Rattle.net_model.proofs.Members.{In-cases, In-left, In-right}
use Rattle.net_model.proofs.Relating.{reached_solved, solved_within}
use Rattle.net_model.specs.Fsm.Code.{Output}
use Rattle.net_model.specs.Fsm.Find.{at_pin}
use Rattle.net_model.specs.Lists.{In}
use Rattle.net_model.specs.Refine.{RefinesOver, Solved}
use Rattle.net_model.specs.Relate.{KeepsTo, Reached, Related, RowsRelate, SameMoment}
use Rattle.net_model.specs.Run.{Time}
use Rattle.net_model.specs.Valuation.{Valuation}
use Rattle.net_model.specs.Value.{value_of}
use Rattle.net_model.specs.Within.{IsWithin, with_wires}
use Rattle.pass_laws.proofs.Driving.{own_driver, own_row, row_of}
use Rattle.pass_laws.proofs.Passes.{refines_in_turn}
use Rattle.pass_laws.proofs.Rewriting.{links-append}
use Rattle.follow_laws.proofs.Following.{follow_alike, join_row}
use Rattle.follow_laws.specs.Alike.{Alike}
use Rattle.fsm_laws.specs.Carried.{Carrier, carries, code_says, spot_carrier}
use Rattle.fsm_laws.specs.Codes.{OneHot}
use Rattle.fsm_laws.specs.Recodes.{ComparePart, EqPart, IsCompare, IsFlop, IsFreeRow, IsMux, IsPmux, NeNonePart, NePart, PartIs, Recodes, Stays}
use Rattle.fsm_laws.proofs.Arms.{has}
use Rattle.fsm_laws.proofs.Carrying.{spot_is}
use Rattle.fsm_laws.proofs.CompareRows.{eq_low, ne_low, ne_none_low}
use Rattle.fsm_laws.proofs.FlopRows.{code_hot, flop_keeps}
use Rattle.fsm_laws.proofs.Hot.{rows_among}
use Rattle.fsm_laws.proofs.LinkKept.{link_kept, row_join}
use Rattle.fsm_laws.proofs.RowsKept.{Keeps, mux_keeps, pmux_keeps}
use Rattle.build_laws.proofs.Built.{still_driven}

-- a row of cells is one of a cell
row_from : (begun : SigBit → Bit) (ports : Ports) (p : Path) (ws : List Wire) (cells : List Cell) (x : Driven) → In x (cells_rows begun ports p ws cells) → (c : Cell) × (In c cells × In x (cell_rows begun ports p ws c (cell_kind c)))
row_from begun ports p ws [] x i = absurd i
row_from begun ports p ws (c ∷ cells) x i =
    ⊎_elim
    (λ l. (c, (inl refl, l)))
    (λ r. let k = row_from begun ports p ws cells x r in (k.0, (inr k.1.0, k.1.1)))
    (In-cases x (cell_rows begun ports p ws c (cell_kind c)) (cells_rows begun ports p ws cells) i)

longer : (f : Frame) (p : Path) → f ∷ p ≡ p → ⊥
longer f p e = let n : length (f ∷ p) ≡ length p = ap length e in absurd (omega arith)

carries_none : (states : List (List Bit)) (wires : List Wire) (o : Option Carrier) (p : Path) (w : Valuation) (s : Spot) → carries states wires o p w s X
carries_none states wires None p w s = tt
carries_none states wires (Some y) p w s = λ i r at. tt

module _ (n : Module) (fresh : List Wire) (cells : List Cell) (more : List Link) (width : ℕ) (states : List (List Bit)) (outputs : List Output) (code_wire : ℕ) (over : Ports) (asked : Recodes n fresh cells more width states outputs code_wire over) where
  abbrev grown : List Wire
  grown = n.wires ++ fresh

  abbrev before : Module
  before = record n { processes = [] }

  abbrev grown_wires : Module
  grown_wires = with_wires fresh before

  abbrev pub after : Module
  after = record n { wires = n.wires ++ fresh; cells = cells; links = n.links ++ more; processes = [] }

  abbrev start : SigBit → Bit
  start = start_of (n.wires ++ fresh) []

  abbrev frames : List Frame
  frames = instances n.cells

  module _ (p : Path) where
    abbrev rows : List Driven
    rows = rows_of over p after

    cell_there : (x : Driven) → In x (cells_rows start over p grown cells) → In x rows
    cell_there x i = In-left x (cells_rows start over p grown cells) (plain_rows p after) i

    link_there : (x : Driven) → In x (link_rows p grown (n.links ++ more)) → In x rows
    link_there x i =
        In-right x (cells_rows start over p grown cells) (plain_rows p after) (In-left x (link_rows p grown (n.links ++ more)) (memories_rows p grown cells [] n.memories) i)

    old_link_there : (x : Driven) → In x (link_rows p grown n.links) → In x rows
    old_link_there x i = link_there x (subst (In x) (sym (links-append p grown n.links more)) (In-left x _ _ i))

    new_link_there : (x : Driven) → In x (link_rows p grown more) → In x rows
    new_link_there x i = link_there x (subst (In x) (sym (links-append p grown n.links more)) (In-right x (link_rows p grown n.links) _ i))

    memory_there : (x : Driven) → In x (memories_rows p grown n.cells [] n.memories) → In x rows
    memory_there x i =
        In-right x (cells_rows start over p grown cells) (plain_rows p after) (In-right x (link_rows p grown (n.links ++ more)) (memories_rows p grown cells [] n.memories) (subst (In x) (sym (asked.memories p)) i))

    -- connections are solved
    alike : (u : Time Place) (w : Valuation) → Solved rows u w → (s : SigBit) → Alike w (point p (n.wires ++ fresh) s) (point p (n.wires ++ fresh) (follow n.links s))
    alike u w solved s = follow_alike p grown n.links u w (solved_within (link_rows p grown n.links) rows old_link_there u w solved) s

    module _ (t u : Time Place) (st : SameMoment over frames (code_says states n.links n.wires (n.wires ++ fresh) outputs) p t u) (v w : Valuation) (rel : Related over frames (code_says states n.links n.wires (n.wires ++ fresh) outputs) p v w) (r : ℕ) (reached : Reached r rows u w) where
      abbrev Keep : Driven → Type 0
      Keep x = KeepsTo over frames (code_says states n.links n.wires (n.wires ++ fresh) outputs) p w x.place (value_of x.driver t v)

      solved : Solved rows u w
      solved = reached_solved rows r u w reached

      -- a row of the module's own bit
      own_keeps : (x : Driven) → x.place.path ≡ p → code_says states n.links n.wires (n.wires ++ fresh) outputs p w x.place.spot (value_of x.driver t v) → Keep x
      own_keeps x at said = record { own = λ e. said; outer = λ o. absurd (longer o.0 p (sym o.4 ∙ at)) }

      -- a row that names nothing of the state
      free_keeps : (x : Driven) → IsFreeRow n.links n.wires outputs p x → In x (rows_of over p grown_wires) → In x rows → Keep x
      free_keeps x free i j =
          let low : Below (value_of x.driver t v) (w x.place) = row_stays grown_wires over (code_says states n.links n.wires (n.wires ++ fresh) outputs) rows p t u st v w rel r reached x i j (λ z q k e a l. subst (λ y. Below a (z (record { path = y; spot = q.spot }))) (sym e) (subst (λ o. carries states grown o p z q.spot a) (free.read q k e) l)) in
          record {
            own = λ e. subst (λ o. carries states grown o p w x.place.spot (value_of x.driver t v)) (sym (free.place e)) (subst (λ y. Below (value_of x.driver t v) (w (record { path = y; spot = x.place.spot }))) e low);
            outer = λ _. low;
          }

      -- a row of a connection
      join_keeps : (x : Driven) → In x (link_rows p grown n.links) → Keep x
      join_keeps x i =
          let j = row_join p grown n.links x i in
          let is = asked.links j.0 j.1.0 in
          subst Keep (sym j.1.1) (own_keeps (join_row p grown j.0) refl
          (link_kept n.links n.wires fresh asked.named outputs asked.stop states over frames p v w rel j.0 is.0 is.1.0 is.1.1 t u (solved.met (join_row p grown j.0) (old_link_there (join_row p grown j.0) (subst (λ y. In y (link_rows p grown n.links)) j.1.1 i)))))

      -- a row of a compare
      compare_row : (kind : EqualKind) (c : Cell) (part : ComparePart width states n.links n.wires outputs code_wire cells more start c) → ((k : ℕ) (q : WireBit) → slice_get (at_pin c Y) k ≡ Some (OnWire q) → Below (value_of (own_driver start p grown c (Word (Equal kind)) k q) t v) (w (bit_place p grown q))) → (x : Driven) → In x (kind_rows start p grown c (Word (Equal kind))) → Keep x
      compare_row kind c part low x i =
          let row = own_row p grown start c (Word (Equal kind)) refl x i in
          let place : 0 + row.number ≡ row.number = omega arith in
          let free = part.free row.number row.bit row.there in
          subst Keep (sym (row.is ∙ ap (λ k. row_of p grown row.bit (own_driver start p grown c (Word (Equal kind)) k row.bit)) place))
          (own_keeps (row_of p grown row.bit (own_driver start p grown c (Word (Equal kind)) row.number row.bit)) refl
          (subst (λ o. carries states grown o p w (OfWire (name_or_empty (slice_get grown row.bit.wire)) row.bit.at) (value_of (own_driver start p grown c (Word (Equal kind)) row.number row.bit) t v))
          (sym (spot_is n.links n.wires fresh asked.named outputs row.bit free.own ∙ free.none)) (low row.number row.bit row.there)))

      compare_keeps : (c : Cell) → ComparePart width states n.links n.wires outputs code_wire cells more start c → (x : Driven) → In x (cell_rows start over p grown c (cell_kind c)) → Keep x
      compare_keeps c part x i = by part.kind
        where
          hot : OneHot (length states) (λ i. has p grown w (whole code_wire (length states)) i)
          hot = code_hot n.links n.wires fresh asked.named outputs width states asked.are asked.few code_wire cells more start over frames p rows cell_there asked.flop asked.flop_is r u w reached

          by : EqPart width states n.links n.wires outputs code_wire cells more start c part.bits ⊎ (NeNonePart width states n.links n.wires outputs code_wire cells more start c part.bits ⊎ NePart width states n.links n.wires outputs code_wire cells more start c part.bits) → Keep x
          by (inl eq) =
              compare_row Eq c part (λ k q at. eq_low n.links n.wires fresh asked.named outputs width states asked.are code_wire cells more start over frames p rows cell_there new_link_there v w rel t u solved (alike u w solved) hot c part.state part.other part.bits part.compared eq k q at) x
              (subst (λ o. In x (cell_rows start over p grown c o)) eq.kind i)
          by (inr (inl ne)) =
              compare_row Ne c part (λ k q at. ne_none_low n.links n.wires fresh asked.named outputs width states asked.are code_wire cells more start over frames p rows cell_there new_link_there v w rel t u solved (alike u w solved) hot c part.state part.other part.bits part.compared ne k q at) x
              (subst (λ o. In x (cell_rows start over p grown c o)) ne.kind i)
          by (inr (inr ne)) =
              compare_row Ne c part (λ k q at. ne_low n.links n.wires fresh asked.named outputs width states asked.are code_wire cells more start over frames p rows cell_there new_link_there v w rel t u solved (alike u w solved) hot c part.state part.other part.bits part.compared ne k q at) x
              (subst (λ o. In x (cell_rows start over p grown c o)) ne.kind i)

      kept : (x : Driven) → Keeps n.links n.wires fresh asked.named outputs width states asked.are asked.few code_wire cells more start over frames p rows cell_there t u st v w rel r reached alike x → Keep x
      kept x k = own_keeps x k.path k.said

      cell_keeps : (c : Cell) → In c n.cells → (x : Driven) → In x (cell_rows start over p grown c (cell_kind c)) → In x (rows_of over p grown_wires) → Keep x
      cell_keeps c in_cells x i j = by (asked.parts c in_cells)
        where
          by : PartIs width states n.links n.wires fresh outputs code_wire cells more start over c → Keep x
          by (IsMux part) =
              kept x (mux_keeps n.links n.wires fresh asked.named outputs width states asked.are asked.few code_wire cells more start over frames p rows cell_there t u st v w rel r reached alike c part x (subst (λ o. In x (cell_rows start over p grown c o)) part.kind i))
          by (IsPmux part) =
              kept x (pmux_keeps n.links n.wires fresh asked.named outputs width states asked.are asked.few code_wire cells more start over frames p rows cell_there t u st v w rel r reached alike c part x (subst (λ o. In x (cell_rows start over p grown c o)) part.kind i))
          by (IsFlop part) =
              kept x (flop_keeps n.links n.wires fresh asked.named outputs width states asked.are asked.few code_wire cells more start over frames p rows cell_there c part v w rel alike t u st r reached x i)
          by (IsCompare part) = compare_keeps c part x i
          by (Stays there free) = free_keeps x (free p x i) j (cell_there x (rows_among start over p grown cells c there x i))

      row_keeps : (x : Driven) → In x (rows_of over p grown_wires) → Keep x
      row_keeps x i =
          ⊎_elim
          (λ l. let c = row_from start over p grown n.cells x l in cell_keeps c.0 c.1.0 x c.1.1 i)
          (λ q. ⊎_elim
          (λ l. join_keeps x l)
          (λ l. free_keeps x (asked.memories_free p x l) i (memory_there x l))
          (In-cases x (link_rows p grown n.links) (memories_rows p grown n.cells [] n.memories) q))
          (In-cases x (cells_rows start over p grown n.cells) (plain_rows p grown_wires) i)

  relates : RowsRelate grown_wires after over (code_says states n.links n.wires (n.wires ++ fresh) outputs)
  relates = record {
    id = refl;
    ports_same = refl;
    children = asked.children;
    port_to = λ p w line i at lt a h. subst (λ o. carries states grown o p w (OfWire line.name at) a) (sym (asked.ports line (subst (In line) (ports_more n.wires fresh asked.inner) i) at lt)) h;
    port_from = λ p w line i at lt a h. subst (λ o. carries states grown o p w (OfWire line.name at) a) (asked.ports line (subst (In line) (ports_more n.wires fresh asked.inner) i) at lt) h;
    unknown = λ p w o. carries_none states grown (spot_carrier n.links n.wires outputs o) p w o;
    rows = λ p t u st v w rel r reached x i. row_keeps p t u st v w rel r reached x i;
  }

  -- the fresh wires come first
  pub recodes_refine : IsWithin before → RefinesOver before after over
  recodes_refine within =
      refines_in_turn before grown_wires after over refl (sym (ports_more n.wires fresh asked.inner)) refl (λ ports agree h. still_driven before fresh asked.inner within ports h) (grown_refines before fresh over within asked.inner) (related grown_wires after over (code_says states n.links n.wires (n.wires ++ fresh) outputs) relates)
