-- A cell of the library becomes a connection, or another cell of the library.
use Rattle.std.proofs.Common.{◌≡◌, ℕ, ◌+◌, Bool, true, false, cond, List, [], ◌∷◌, ◌++◌, length, Some, inl, inr, refl, sym, ◌∙◌, ap, subst, arith}
use Rattle.std.specs.Prelude.{find, not, slice_get, slice_index_or}
use Rattle.std.specs.Option.{option_map_or}
use Rattle.std.specs.Str.{bytes_eq}
use Rattle.std.proofs.lemmas.Bool.{eq-eqb}
use Rattle.std.proofs.lemmas.List.{append-nil}
use Rattle.cell_types.specs.PinName.{pin_text}
use Rattle.cell_types.specs.declared.kind.CellKind.{CellKind}
use Rattle.cell_types.specs.declared.pin_name.PinName.{PinName}
use Rattle.rtl_bits.proofs.Orders.{Below_trans}
use Rattle.rtl_bits.specs.Knowledge.{Below}
use Rattle.rtl_bits.specs.declared.bit.Bit.{Bit}
use Rattle.rtl_bits.specs.declared.bit.Bit.TheVariants.{Dash, M, S0, S1, X, Z}
use Rattle.rtl_sig.specs.declared.sig.SigBit.{SigBit}
use Rattle.rtl_sig.specs.declared.sig.SigBit.TheVariants.{Fixed, Wire as OnWire}
use Rattle.rtl_sig.specs.declared.sig.WireBit.{WireBit}
use Rattle.rtl_ir.specs.Faults.Cells.{is_memory_kind}
use Rattle.rtl_ir.specs.Flat.Cell.{cell_kind, cell_rows, cells_rows, instance_of, instances, listed}
use Rattle.rtl_ir.specs.Flat.Driver.{Driven, Joined}
use Rattle.rtl_ir.specs.Flat.Link.{joins, link_rows}
use Rattle.rtl_ir.specs.Flat.Place.{Path, Place}
use Rattle.rtl_ir.specs.Flat.Point.{point, points}
use Rattle.rtl_ir.specs.Flat.Rows.{rows_of}
use Rattle.rtl_ir.specs.Flat.Start.{start_of}
use Rattle.rtl_ir.specs.Flat.Tree as flat
use Rattle.rtl_ir.specs.Outputs.{output_pin}
use Rattle.rtl_ir.specs.Parameters.{signal_at}
use Rattle.rtl_ir.specs.Signals.{wire_bits}
use Rattle.rtl_ir.specs.Types as types
use Rattle.rtl_ir.specs.Types.{cell_type}
use Rattle.rtl_ir.specs.declared.cell.Cell.{Cell}
use Rattle.rtl_ir.specs.declared.cell.Pin.{Pin}
use Rattle.rtl_ir.specs.declared.module.Link.{Link}
use Rattle.rtl_ir.specs.declared.module.Module.{Module}
use Rattle.rtl_ir.specs.declared.ports.PortTable.{PortTable}
use Rattle.net_model.proofs.Members.{In-left, In-right}
use Rattle.net_model.specs.Lists.{In}
use Rattle.net_model.specs.Refine.{IsMet, Solved, SolvedBefore}
use Rattle.net_model.specs.Run.{Time}
use Rattle.net_model.specs.Swap.{with_cells}
use Rattle.net_model.specs.Valuation.{Valuation, passed_of, read}
use Rattle.net_model.specs.Value.{value_of}
use Rattle.net_model.specs.Within.{CellIn, Each, LinkIn, SigIn}
use Rattle.pass_laws.specs.Bits.{cells_bits, links_bits, pin_bits}
use Rattle.pass_laws.specs.Pass.{IsPass}
use Rattle.pass_laws.specs.Ready.{IsReady}
use Rattle.pass_laws.specs.Replaces.{IsEven, IsFaultless, IsOutside, Replaces, replacing}
use Rattle.pass_laws.proofs.Alone.{FitsKind, fits_kind, sound_faultless}
use Rattle.pass_laws.proofs.Driving.{joined_in, output_signal, own_driver, own_in, own_row, row_of}
use Rattle.pass_laws.proofs.Faultless.{type_is}
use Rattle.pass_laws.proofs.Forming.{own_cells}
use Rattle.pass_laws.proofs.Outputs.{output_bits, output_wires}
use Rattle.pass_laws.proofs.Placing.{places_by_bits}
use Rattle.pass_laws.proofs.Rewriting.{here_in, more_in, replaced}

-- what is below a bit is below what a connection passes of it
pub passed_on : (a b : Bit) → Below a b → Below a (passed_of b)
passed_on S0 b h = subst (λ z. passed_of z ≡ S0) (sym h) refl
passed_on S1 b h = subst (λ z. passed_of z ≡ S1) (sym h) refl
passed_on X b h = tt
passed_on Z b h = tt
passed_on M b h = tt
passed_on Dash b h = tt

-- the signal at a pin names wires that the pins do
pub signal_in : (n : ℕ) (pins : List Pin) (name : List ℕ) → Each (λ (pin : Pin). SigIn n pin.sig) pins → SigIn n (signal_at pins name)
signal_in n [] name h s i = absurd i
signal_in n (p ∷ ps) name h s i =
    by (signal_in n ps name (λ x j. h x (inr j))) (bytes_eq p.name name) s i
  where
    by : SigIn n (signal_at ps name) → (t : Bool) → SigIn n (option_map_or (λ (q : Pin). q.sig) (cond t (Some p) (find (λ (q : Pin). bytes_eq q.name name) ps)) [])
    by later true = h p (inl refl)
    by later false = later

-- the connection of the output of a cell
abbrev pub output_link : Cell → PinName → List SigBit → Link
output_link c name right = record { left = signal_at c.pins (pin_text name); right = right }

-- a cell that stands between others
pub in_middle : (pre : List Cell) (c : Cell) (post : List Cell) → In c (pre ++ c ∷ post)
in_middle pre c post = In-right c pre (c ∷ post) (inl refl)

module _ (table : PortTable) (m : Module) (pre : List Cell) (c : Cell) (post : List Cell) (ready : IsReady (types.table_ports table.modules) m) (is : m.cells ≡ pre ++ c ∷ post) (kind : CellKind) (own : cell_kind c ≡ Some kind) (plain : is_memory_kind kind ≡ false) (name : PinName) (drives : output_pin kind ≡ Some name) where
  stands : In c m.cells
  stands = subst (In c) (sym is) (in_middle pre c post)

  outside : IsOutside c
  outside k e = let both : Some kind ≡ Some k = sym own ∙ e in let same : kind ≡ k = cc in subst (λ z. is_memory_kind z ≡ false) same plain

  sound : IsFaultless (types.table_ports table.modules) c
  sound =
      sound_faultless (types.table_ports table.modules) c outside (own_cells (types.table_ports table.modules) m ready c stands)

  fits : FitsKind c kind
  fits = fits_kind (types.table_ports table.modules) c kind own sound

  no_instance : instances (c ∷ []) ≡ []
  no_instance = ap (λ k. listed (instance_of c k) ++ []) own

  -- the bits that the cell drives
  driven_bits : cells_bits (types.table_ports table.modules) (c ∷ []) ≡ wire_bits (signal_at c.pins (pin_text name))
  driven_bits =
      append-nil (pin_bits (cell_type (types.table_ports table.modules) c.kind_name) c.pins)
      ∙ ap (λ t. pin_bits t c.pins) (type_is (types.table_ports table.modules) c kind own)
      ∙ output_bits kind c fits.plain fits.fit name drives

  signal_is : output_signal c kind ≡ signal_at c.pins (pin_text name)
  signal_is = ap (λ o. option_map_or (λ n. signal_at c.pins (pin_text n)) o []) drives

  -- the output of the cell is connected to a signal
  module _ (right : List SigBit) (width : length (signal_at c.pins (pin_text name)) ≡ length right) (within : SigIn (length m.wires) right) where
    -- what the cell gives is below what the signal has, place by place, in each solution of the rows of the new module
    abbrev pub IsGiven : Type 0
    IsGiven =
        (p : Path) (t : Time Place) (w : Valuation) →
        Solved (rows_of (flat.table_ports table) p (replacing pre [] post (output_link c name right ∷ []) m)) t w →
        SolvedBefore (rows_of (flat.table_ports table) p (replacing pre [] post (output_link c name right ∷ []) m)) t →
        (at : ℕ) (b : WireBit) → slice_get (signal_at c.pins (pin_text name)) at ≡ Some (OnWire b) →
        Below (value_of (own_driver (start_of m.wires m.processes) p m.wires c kind at b) t w) (read w (point p m.wires (slice_index_or right at (Fixed S0))))

    even : IsEven (output_link c name right)
    even = record {
      width = ap not (eq-eqb (length (signal_at c.pins (pin_text name))) (length right) width);
      wires = output_wires kind c name drives fits.output;
    }

    all_even : Each IsEven (output_link c name right ∷ [])
    all_even l (inl e) = subst IsEven (sym e) even
    all_even l (inr i) = absurd i

    all_within : Each (LinkIn (length m.wires)) (output_link c name right ∷ [])
    all_within l (inl e) =
        subst (LinkIn (length m.wires)) (sym e) (signal_in (length m.wires) c.pins (pin_text name) (ready.within.cells c stands), within)
    all_within l (inr i) = absurd i

    same_bits : [] ++ links_bits (output_link c name right ∷ []) ≡ cells_bits (types.table_ports table.modules) (c ∷ [])
    same_bits = append-nil (wire_bits (signal_at c.pins (pin_text name))) ∙ sym driven_bits

    gives : IsGiven → Replaces table m pre c post [] (output_link c name right ∷ [])
    gives value = record {
      outside = outside;
      children = sym no_instance;
      bits = same_bits;
      places = λ p. places_by_bits p m.wires (types.table_ports table.modules) (flat.table_ports table) (start_of m.wires m.processes) c kind own sound [] (output_link c name right ∷ []) (sym no_instance) (λ g i. absurd i) all_even same_bits;
      cells = λ g i. absurd i;
      links = all_even;
      cells_within = λ g i. absurd i;
      links_within = all_within;
      met = λ p t w s before d i.
          let start : SigBit → Bit = start_of m.wires m.processes in
          let r = own_row p m.wires start c kind fits.plain d (subst (λ k. In d (cell_rows start (flat.table_ports table) p m.wires c k)) own i) in
          let there : slice_get (signal_at c.pins (pin_text name)) r.number ≡ Some (OnWire r.bit) = ap (λ z. slice_get z r.number) (sym signal_is) ∙ r.there in
          let from : SigBit = slice_index_or right r.number (Fixed S0) in
          let joined : In (row_of p m.wires r.bit (Joined (point p m.wires from))) (link_rows p m.wires (output_link c name right ∷ [])) = In-left _ (joins (points p m.wires (signal_at c.pins (pin_text name))) (points p m.wires right)) [] (joined_in p m.wires (signal_at c.pins (pin_text name)) right width r.number r.bit there) in
          let has = s.met (row_of p m.wires r.bit (Joined (point p m.wires from))) (more_in m pre post [] (output_link c name right ∷ []) (flat.table_ports table) p _ joined) in
          let n : 0 + r.number ≡ r.number = omega arith in
          let given = passed_on (value_of (own_driver start p m.wires c kind r.number r.bit) t w) (read w (point p m.wires from)) (value p t w s before r.number r.bit there) in
          let below = Below_trans (value_of (own_driver start p m.wires c kind r.number r.bit) t w) (passed_of (read w (point p m.wires from))) (w (row_of p m.wires r.bit (Joined (point p m.wires from))).place) given has in
          subst (λ x. IsMet x t w) (sym (r.is ∙ ap (λ k. row_of p m.wires r.bit (own_driver start p m.wires c kind k r.bit)) n)) below;
    }

    pub given : IsGiven → IsPass table m (replacing pre [] post (output_link c name right ∷ []) m)
    given value = replaced table m pre c post [] (output_link c name right ∷ []) ready is (gives value)

  -- another cell with the same output comes in its place
  module _ (d : Cell) (kind' : CellKind) (own' : cell_kind d ≡ Some kind') (name' : PinName) (drives' : output_pin kind' ≡ Some name') (same : signal_at d.pins (pin_text name') ≡ signal_at c.pins (pin_text name)) (sound' : IsFaultless (types.table_ports table.modules) d) (within : CellIn (length m.wires) d) where
    -- what the cell gives is below what the other one gives
    abbrev pub IsBetter : Type 0
    IsBetter =
        (p : Path) (t : Time Place) (w : Valuation) →
        Solved (rows_of (flat.table_ports table) p (replacing pre (d ∷ []) post [] m)) t w →
        SolvedBefore (rows_of (flat.table_ports table) p (replacing pre (d ∷ []) post [] m)) t →
        (at : ℕ) (b : WireBit) → slice_get (signal_at c.pins (pin_text name)) at ≡ Some (OnWire b) →
        Below (value_of (own_driver (start_of m.wires m.processes) p m.wires c kind at b) t w) (value_of (own_driver (start_of m.wires m.processes) p m.wires d kind' at b) t w)

    fits' : FitsKind d kind'
    fits' = fits_kind (types.table_ports table.modules) d kind' own' sound'

    no_instance' : instances (d ∷ []) ≡ instances (c ∷ [])
    no_instance' = ap (λ k. listed (instance_of d k) ++ []) own' ∙ sym no_instance

    new_bits : cells_bits (types.table_ports table.modules) (d ∷ []) ++ [] ≡ cells_bits (types.table_ports table.modules) (c ∷ [])
    new_bits =
        append-nil (cells_bits (types.table_ports table.modules) (d ∷ []))
        ∙ append-nil (pin_bits (cell_type (types.table_ports table.modules) d.kind_name) d.pins)
        ∙ ap (λ t. pin_bits t d.pins) (type_is (types.table_ports table.modules) d kind' own')
        ∙ output_bits kind' d fits'.plain fits'.fit name' drives'
        ∙ ap wire_bits same
        ∙ sym driven_bits

    one : (P : Cell → Type 0) → P d → Each P (d ∷ [])
    one P h x (inl e) = subst P (sym e) h
    one P h x (inr i) = absurd i

    becomes : IsBetter → Replaces table m pre c post (d ∷ []) []
    becomes value = record {
      outside = outside;
      children = no_instance';
      bits = new_bits;
      places = λ p. places_by_bits p m.wires (types.table_ports table.modules) (flat.table_ports table) (start_of m.wires m.processes) c kind own sound (d ∷ []) [] no_instance' (one (IsFaultless (types.table_ports table.modules)) sound') (λ l i. absurd i) new_bits;
      cells = one (IsFaultless (types.table_ports table.modules)) sound';
      links = λ l i. absurd i;
      cells_within = one (CellIn (length m.wires)) within;
      links_within = λ l i. absurd i;
      met = λ p t w s before x i.
          let start : SigBit → Bit = start_of m.wires m.processes in
          let r = own_row p m.wires start c kind fits.plain x (subst (λ k. In x (cell_rows start (flat.table_ports table) p m.wires c k)) own i) in
          let there : slice_get (signal_at c.pins (pin_text name)) r.number ≡ Some (OnWire r.bit) = ap (λ z. slice_get z r.number) (sym signal_is) ∙ r.there in
          let there' : slice_get (output_signal d kind') r.number ≡ Some (OnWire r.bit) = ap (λ o. slice_get (option_map_or (λ n. signal_at d.pins (pin_text n)) o []) r.number) drives' ∙ ap (λ z. slice_get z r.number) same ∙ there in
          let here = own_in p m.wires start d kind' fits'.plain r.number r.bit there' in
          let row : Driven = row_of p m.wires r.bit (own_driver start p m.wires d kind' r.number r.bit) in
          let inside : In row (cells_rows start (flat.table_ports table) p m.wires (d ∷ [])) = In-left row (cell_rows start (flat.table_ports table) p m.wires d (cell_kind d)) [] (subst (λ k. In row (cell_rows start (flat.table_ports table) p m.wires d k)) (sym own') here) in
          let has = s.met row (here_in m pre post (d ∷ []) [] (flat.table_ports table) p row inside) in
          let n : 0 + r.number ≡ r.number = omega arith in
          let below = Below_trans (value_of (own_driver start p m.wires c kind r.number r.bit) t w) (value_of (own_driver start p m.wires d kind' r.number r.bit) t w) (w row.place) (value p t w s before r.number r.bit there) has in
          subst (λ z. IsMet z t w) (sym (r.is ∙ ap (λ k. row_of p m.wires r.bit (own_driver start p m.wires c kind k r.bit)) n)) below;
    }

    pub became : IsBetter → IsPass table m (with_cells (pre ++ d ∷ post) m)
    became value =
        subst (λ links. IsPass table m (record m { cells = pre ++ d ∷ post; links = links })) (append-nil m.links) (replaced table m pre c post (d ∷ []) [] ready is (becomes value))
