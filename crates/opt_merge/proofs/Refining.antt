-- One cell that goes is a pass, and so are all in turn.
use Rattle.std.proofs.Common.{◌≡◌, ℕ, zero, suc, ◌<◌, Bool, true, false, cond, List, [], ◌∷◌, ◌++◌, append_assoc, length, map, find, Option, Some, None, inl, inr, refl, sym, ◌∙◌, ap, subst, arith}
use Rattle.std.specs.Prelude.{slice_get, slice_index_or, option_map}
use Rattle.std.specs.Option.{option_map_or}
use Rattle.std.proofs.lemmas.List.{append-nil}
use Rattle.rtl_bits.specs.declared.bit.Bit.{Bit}
use Rattle.rtl_bits.specs.declared.bit.Bit.TheVariants.{S0, S1, X, Z, M, Dash}
use Rattle.rtl_bits.specs.Knowledge.{Below}
use Rattle.rtl_bits.proofs.Orders.{Below_refl, Below_trans}
use Rattle.rtl_sig.specs.declared.sig.SigBit.{SigBit}
use Rattle.rtl_sig.specs.declared.sig.SigBit.TheVariants.{Fixed, Wire as OnWire}
use Rattle.rtl_sig.specs.declared.sig.WireBit.{WireBit}
use Rattle.cell_types.specs.declared.kind.CellKind.{CellKind}
use Rattle.cell_types.specs.declared.kind.CellKind.TheVariants.{Word, Gate, Storage, StorageGate, Memory}
use Rattle.cell_types.specs.declared.pin_name.PinName.{PinName}
use Rattle.cell_types.specs.declared.pin_name.PinName.TheVariants.{Y, Q}
use Rattle.cell_types.specs.PinName.{pin_text}
use Rattle.rtl_ir.specs.declared.cell.Cell.{Cell}
use Rattle.rtl_ir.specs.declared.module.Link.{Link}
use Rattle.rtl_ir.specs.declared.module.Module.{Module}
use Rattle.rtl_ir.specs.declared.ports.PortTable.{PortTable}
use Rattle.rtl_ir.specs.declared.wire.Wire.{Wire}
use Rattle.rtl_ir.specs.Faults.Cells.{is_memory_kind}
use Rattle.rtl_ir.specs.Flat.Cell.{Ports, cell_kind, cell_rows, cells_rows}
use Rattle.rtl_ir.specs.Flat.Driver.{Driven, Joined}
use Rattle.rtl_ir.specs.Flat.Link.{joins, link_rows}
use Rattle.rtl_ir.specs.Flat.Place.{Path, Place}
use Rattle.rtl_ir.specs.Flat.Point.{At, bit_place, point, points}
use Rattle.rtl_ir.specs.Flat.Rows.{rows_of}
use Rattle.rtl_ir.specs.Flat.Start.{start_of}
use Rattle.rtl_ir.specs.Flat.Tree as flat
use Rattle.rtl_ir.specs.Outputs.{output_pin}
use Rattle.rtl_ir.specs.Parameters.{signal_at}
use Rattle.rtl_ir.specs.Signals.{has_constant}
use Rattle.rtl_ir.specs.Types as types
use Rattle.net_model.specs.Lists.{In}
use Rattle.net_model.specs.Refine.{Solved, SolvedBefore}
use Rattle.net_model.specs.Run.{Time, Start, Step}
use Rattle.net_model.specs.Valuation.{Valuation, passed_of, read}
use Rattle.net_model.specs.Value.{value_of}
use Rattle.net_model.specs.Within.{SigIn}
use Rattle.net_model.proofs.Members.{In-left, In-right}
use Rattle.pass_laws.specs.Pass.{IsPass}
use Rattle.pass_laws.specs.Ready.{IsReady}
use Rattle.pass_laws.specs.Replaces.{replacing}
use Rattle.pass_laws.proofs.Alone.{HasShape, IsSound, shape_of}
use Rattle.pass_laws.proofs.Driving.{joined_in, output_signal, own_driver, own_in, row_of}
use Rattle.pass_laws.proofs.Forming.{own_cells}
use Rattle.pass_laws.proofs.Giving.{given, output_link, passed_on, signal_in}
use Rattle.pass_laws.proofs.Outputs.{output_wires}
use Rattle.pass_laws.proofs.Passes.{IsPass_refl, IsPass_trans}
use Rattle.pass_laws.proofs.Rewriting.{links_in, more_in, pre_in}
use Rattle.follow_laws.specs.Alike.{Alike, AlikeBefore}
use Rattle.follow_laws.proofs.Following.{follow_read}
use Rattle.opt_merge.specs.Merge.{Merging, after_cells, after_kind, has_traits, join, merge_of, merging_of, stay, traits_by}
use Rattle.opt_merge.specs.Traits.{Traits, logic_kind, merging_kind, output_of, traits_of}
use Rattle.opt_merge.proofs.Drivers.{SameStart, drives_alike}
use Rattle.opt_merge.proofs.Finding.{tested}
use Rattle.opt_merge.proofs.Merging.{merging_logic, one_kind}
use Rattle.opt_merge.proofs.Sofar.{get_within}

-- the rows of a cell among those of its list
cell_among : (start : SigBit → Bit) (ports : Ports) (p : Path) (wires : List Wire) (cells : List Cell) (e : Cell) (d : Driven) → In e cells → In d (cell_rows start ports p wires e (cell_kind e)) → In d (cells_rows start ports p wires cells)
cell_among start ports p wires [] e d i j = absurd i
cell_among start ports p wires (c ∷ cells) e d (inl same) j =
    In-left d (cell_rows start ports p wires c (cell_kind c)) (cells_rows start ports p wires cells) (subst (λ x. In d (cell_rows start ports p wires x (cell_kind x))) same j)
cell_among start ports p wires (c ∷ cells) e d (inr i) j =
    In-right d (cell_rows start ports p wires c (cell_kind c)) (cells_rows start ports p wires cells) (cell_among start ports p wires cells e d i j)

-- a signal without constants has a wire's bit at each place
pub record WireAt (ys : List SigBit) (k : ℕ) : Type 0 where
  pub bit : WireBit
  pub there : slice_get ys k ≡ Some (OnWire bit)
  pub read : slice_index_or ys k (Fixed S0) ≡ OnWire bit

wire_at : (ys : List SigBit) (k : ℕ) → has_constant ys ≡ false → k < length ys → WireAt ys k
wire_at [] k e lt = absurd (omega arith)
wire_at (Fixed c ∷ ys) k e lt = absurd (cc)
wire_at (OnWire b ∷ ys) zero e lt = record { bit = b; there = refl; read = refl }
wire_at (OnWire b ∷ ys) (suc k) e lt = let w = wire_at ys k e (omega arith) in record { bit = w.bit; there = w.there; read = w.read }

pass_below : (b : Bit) → Below (passed_of b) b
pass_below S0 = refl
pass_below S1 = refl
pass_below X = tt
pass_below Z = tt
pass_below M = tt
pass_below Dash = tt

-- equal lists of start values, place by place
starts_at : (start : SigBit → Bit) (xs ys : List SigBit) → map start xs ≡ map start ys → (k : ℕ) (x y : SigBit) → slice_get xs k ≡ Some x → slice_get ys k ≡ Some y → start x ≡ start y
starts_at start [] ys e k x y f g = absurd (cc)
starts_at start (a ∷ xs) [] e k x y f g = absurd (cc)
starts_at start (a ∷ xs) (b ∷ ys) e zero x y f g =
    let head : start a ≡ start b = cc in
    let one : a ≡ x = cc in
    let two : b ≡ y = cc in
    ap start (sym one) ∙ head ∙ ap start two
starts_at start (a ∷ xs) (b ∷ ys) e (suc k) x y f g = let tail : map start xs ≡ map start ys = cc in starts_at start xs ys tail k x y f g

module _ (table : PortTable) (m : Module) (pre : List Cell) (c : Cell) (post : List Cell) (ready : IsReady (types.table_ports table.modules) m) (is : m.cells ≡ pre ++ c ∷ post)
    (kind : CellKind) (own : merging_kind c ≡ Some kind) (e : Cell) (kept : In e pre) (same : merging_kind e ≡ Some kind)
    (alike : traits_of (start_of m.wires m.processes) m.links kind c ≡ traits_of (start_of m.wires m.processes) m.links kind e) where
  abbrev start : SigBit → Bit
  start = start_of m.wires m.processes

  stands : In e m.cells
  stands = subst (In e) (sym is) (In-left e pre (c ∷ post) kept)

  sound : IsSound (types.table_ports table.modules) e
  sound = own_cells (types.table_ports table.modules) m ready e stands

  -- of a kind that drives this pin
  module _ (name : PinName) (drives : output_pin kind ≡ Some name) (plain : is_memory_kind kind ≡ false) (kind_e : cell_kind e ≡ Some kind) (kind_c : cell_kind c ≡ Some kind)
      (same_start : (at : ℕ) (b d : WireBit) → slice_get (signal_at c.pins (pin_text name)) at ≡ Some (OnWire b) → slice_get (signal_at e.pins (pin_text name)) at ≡ Some (OnWire d) → SameStart start kind b d) where
    output_is : (x : Cell) → output_of kind x ≡ signal_at x.pins (pin_text name)
    output_is x = ap (λ o. option_map_or (λ n. signal_at x.pins (pin_text n)) o []) drives

    width : length (signal_at c.pins (pin_text name)) ≡ length (signal_at e.pins (pin_text name))
    width = ap length (sym (output_is c)) ∙ ap (λ (u : Traits). u.width) alike ∙ ap length (output_is e)

    within : SigIn (length m.wires) (signal_at e.pins (pin_text name))
    within = signal_in (length m.wires) e.pins (pin_text name) (ready.within.cells e stands)

    fits : HasShape e kind
    fits = shape_of (types.table_ports table.modules) e kind kind_e sound

    abbrev more : List Link
    more = output_link c name (signal_at e.pins (pin_text name)) ∷ []

    module _ (p : Path) where
      abbrev rows : List Driven
      rows = rows_of (flat.table_ports table) p (replacing pre [] post more m)

      link_in : (d : Driven) → In d (link_rows p m.wires m.links) → In d rows
      link_in d i = links_in m pre post [] more (flat.table_ports table) p d i

      links_solved : (t : Time Place) (w : Valuation) → Solved rows t w → Solved (link_rows p m.wires m.links) t w
      links_solved t w s = record { met = λ d i. s.met d (link_in d i); tight = λ d i. s.tight d (link_in d i) }

      links_before : (t : Time Place) → SolvedBefore rows t → SolvedBefore (link_rows p m.wires m.links) t
      links_before Start s = tt
      links_before (Step v x first) s = (s.0, links_solved s.0 v s.1)

      module _ (at : ℕ) (b d : WireBit) (there : slice_get (signal_at c.pins (pin_text name)) at ≡ Some (OnWire b)) (read_d : slice_index_or (signal_at e.pins (pin_text name)) at (Fixed S0) ≡ OnWire d) where
        -- the bit of the cell that goes has what the earlier cell's has
        row_in : In (record { place = bit_place p m.wires b; driver = Joined (At (bit_place p m.wires d)) }) rows
        row_in =
            subst (λ x. In (record { place = bit_place p m.wires b; driver = Joined (point p m.wires x) }) rows) read_d
            (more_in m pre post [] more (flat.table_ports table) p _
            (In-left _ (joins (points p m.wires (signal_at c.pins (pin_text name))) (points p m.wires (signal_at e.pins (pin_text name)))) [] (joined_in p m.wires (signal_at c.pins (pin_text name)) (signal_at e.pins (pin_text name)) width at b there)))

        bits_alike : (t : Time Place) (w : Valuation) → Solved rows t w → Alike w (At (bit_place p m.wires b)) (At (bit_place p m.wires d))
        bits_alike t w s = record {
          there = Below_trans (w (bit_place p m.wires b)) (passed_of (w (bit_place p m.wires d))) (w (bit_place p m.wires d)) (s.tight _ row_in) (pass_below (w (bit_place p m.wires d)));
          back = Below_trans (w (bit_place p m.wires d)) (passed_of (w (bit_place p m.wires d))) (w (bit_place p m.wires b)) (passed_on (w (bit_place p m.wires d)) (w (bit_place p m.wires d)) (Below_refl (w (bit_place p m.wires d)))) (s.met _ row_in);
        }

        bits_before : (t : Time Place) → SolvedBefore rows t → AlikeBefore t (At (bit_place p m.wires b)) (At (bit_place p m.wires d))
        bits_before Start s = tt
        bits_before (Step v x first) s = bits_alike s.0 v s.1

    -- what the cell gives is below what the earlier one's output has
    value : (p : Path) (t : Time Place) (w : Valuation) → Solved (rows_of (flat.table_ports table) p (replacing pre [] post more m)) t w → SolvedBefore (rows_of (flat.table_ports table) p (replacing pre [] post more m)) t
        → (at : ℕ) (b : WireBit) → slice_get (signal_at c.pins (pin_text name)) at ≡ Some (OnWire b)
        → Below (value_of (own_driver start p m.wires c kind at b) t w) (read w (point p m.wires (slice_index_or (signal_at e.pins (pin_text name)) at (Fixed S0))))
    value p t w s before at b there =
        let lt = get_within (signal_at c.pins (pin_text name)) at (OnWire b) there in
        let q = wire_at (signal_at e.pins (pin_text name)) at (output_wires kind e name drives fits.output) (omega (arith, lt, width)) in
        let signal_is : output_signal e kind ≡ signal_at e.pins (pin_text name) = ap (λ o. option_map_or (λ n. signal_at e.pins (pin_text n)) o []) drives in
        let own_row = own_in p m.wires start e kind plain at q.bit (ap (λ z. slice_get z at) signal_is ∙ q.there) in
        let row_e = pre_in m pre post [] more (flat.table_ports table) p _ (cell_among start (flat.table_ports table) p m.wires pre e _ kept (subst (λ k. In (row_of p m.wires q.bit (own_driver start p m.wires e kind at q.bit)) (cell_rows start (flat.table_ports table) p m.wires e k)) (sym kind_e) own_row)) in
        let has = s.met _ row_e in
        let gives = drives_alike t w p m.wires m.links (follow_read p m.wires m.links t w (links_solved p t w s) (links_before p t before)) start kind c e alike at b q.bit (same_start at b q.bit there q.there)
        (record { before = bits_before p at b q.bit there q.read t before; now = bits_alike p at b q.bit there q.read t w s }) in
        subst (λ x. Below (value_of (own_driver start p m.wires c kind at b) t w) (read w (point p m.wires x))) (sym q.read)
        (Below_trans (value_of (own_driver start p m.wires c kind at b) t w) (value_of (own_driver start p m.wires e kind at q.bit) t w) (w (bit_place p m.wires q.bit)) gives has)

    pub goes : IsPass table m (replacing pre [] post (output_link c name (signal_at e.pins (pin_text name)) ∷ []) m)
    goes = given table m pre c post ready is kind kind_c plain name drives (signal_at e.pins (pin_text name)) width within value

-- the kind of a cell that may be merged is its own
logic_own : (o : Option CellKind) (k : CellKind) → logic_kind o ≡ Some k → o ≡ Some k
logic_own None k e = absurd (cc)
logic_own (Some (Word a)) k e = e
logic_own (Some (Gate a)) k e = e
logic_own (Some (Storage a)) k e = e
logic_own (Some (StorageGate a)) k e = e
logic_own (Some (Memory a)) k e = absurd (cc)

pub own_kind : (c : Cell) (k : CellKind) → merging_kind c ≡ Some k → cell_kind c ≡ Some k
own_kind c k e = logic_own (cell_kind c) k (merging_logic c k e)

-- it is none of a memory
logic_plain : (o : Option CellKind) (k : CellKind) → logic_kind o ≡ Some k → is_memory_kind k ≡ false
logic_plain None k e = absurd (cc)
logic_plain (Some (Word a)) k e = let same : k ≡ Word a = cc in ap is_memory_kind same
logic_plain (Some (Gate a)) k e = let same : k ≡ Gate a = cc in ap is_memory_kind same
logic_plain (Some (Storage a)) k e = let same : k ≡ Storage a = cc in ap is_memory_kind same
logic_plain (Some (StorageGate a)) k e = let same : k ≡ StorageGate a = cc in ap is_memory_kind same
logic_plain (Some (Memory a)) k e = absurd (cc)

pub merging_plain : (c : Cell) (k : CellKind) → merging_kind c ≡ Some k → is_memory_kind k ≡ false
merging_plain c k e = logic_plain (cell_kind c) k (merging_logic c k e)

-- one cell goes
pub one_goes : (table : PortTable) (m : Module) (pre : List Cell) (c : Cell) (post : List Cell) → IsReady (types.table_ports table.modules) m → m.cells ≡ pre ++ c ∷ post
    → (kind : CellKind) → merging_kind c ≡ Some kind → (e : Cell) → In e pre → merging_kind e ≡ Some kind
    → traits_of (start_of m.wires m.processes) m.links kind c ≡ traits_of (start_of m.wires m.processes) m.links kind e
    → IsPass table m (replacing pre [] post (record { left = output_of kind c; right = output_of kind e } ∷ []) m)
one_goes table m pre c post ready is (Word k) own e kept same alike =
    goes table m pre c post ready is (Word k) own e kept same alike Y refl refl (own_kind e (Word k) same) (own_kind c (Word k) own) (λ at b d f g. tt)
one_goes table m pre c post ready is (Gate k) own e kept same alike =
    goes table m pre c post ready is (Gate k) own e kept same alike Y refl refl (own_kind e (Gate k) same) (own_kind c (Gate k) own) (λ at b d f g. tt)
one_goes table m pre c post ready is (Storage k) own e kept same alike =
    goes table m pre c post ready is (Storage k) own e kept same alike Q refl refl (own_kind e (Storage k) same) (own_kind c (Storage k) own)
    (λ at b d f g. starts_at (start_of m.wires m.processes) (signal_at c.pins (pin_text Q)) (signal_at e.pins (pin_text Q)) (ap (λ (u : Traits). u.starts) alike) at (OnWire b) (OnWire d) f g)
one_goes table m pre c post ready is (StorageGate k) own e kept same alike =
    goes table m pre c post ready is (StorageGate k) own e kept same alike Q refl refl (own_kind e (StorageGate k) same) (own_kind c (StorageGate k) own)
    (λ at b d f g. starts_at (start_of m.wires m.processes) (signal_at c.pins (pin_text Q)) (signal_at e.pins (pin_text Q)) (ap (λ (u : Traits). u.starts) alike) at (OnWire b) (OnWire d) f g)
one_goes table m pre c post ready is (Memory k) own e kept same alike =
    absurd (let e : true ≡ false = merging_plain c (Memory k) own in cc)

-- what is found stands in the list and passes the test
found_in : (p : Cell → Bool) (cs : List Cell) (e : Cell) → find p cs ≡ Some e → In e cs × (p e ≡ true)
found_in p [] e f = absurd (cc)
found_in p (c ∷ cs) e f = by (p c) refl f (found_in p cs e)
  where
    by : (t : Bool) → p c ≡ t → cond t (Some c) (find p cs) ≡ Some e → (find p cs ≡ Some e → In e cs × (p e ≡ true)) → In e (c ∷ cs) × (p e ≡ true)
    by true g h later = let same : c ≡ e = cc in (inl (sym same), ap p (sym same) ∙ g)
    by false g h later = let q = later h in (inr q.0, q.1)

traits_kind : (start : SigBit → Bit) (links : List Link) (e : Cell) (t : Traits) → traits_by start links e ≡ Some t → (k : CellKind) × (merging_kind e ≡ Some k) × (traits_of start links k e ≡ t)
traits_kind start links e t f = by (merging_kind e) refl f
  where
    by : (o : Option CellKind) → merging_kind e ≡ o → option_map (λ k. traits_of start links k e) o ≡ Some t → (k : CellKind) × (merging_kind e ≡ Some k) × (traits_of start links k e ≡ t)
    by None g h = absurd (cc)
    by (Some k) g h = (k, g, let same : traits_of start links k e ≡ t = cc in same)

module _ (table : PortTable) (m : Module) where
  -- the module while the cells to come are not visited
  abbrev pub body : Merging → List Cell → Module
  body s rest = record m { cells = s.cells ++ rest; links = s.links }

  abbrev begins : SigBit → Bit
  begins = start_of m.wires m.processes

  stays : (s : Merging) (c : Cell) (rest : List Cell) → IsPass table (body s (c ∷ rest)) (body (stay s c) rest)
  stays s c rest = subst (λ cs. IsPass table (body s (c ∷ rest)) (record m { cells = cs; links = s.links })) (sym (append_assoc s.cells (c ∷ []) rest)) (IsPass_refl table (body s (c ∷ rest)))

  step : (s : Merging) (c : Cell) (rest : List Cell) → IsReady (types.table_ports table.modules) (body s (c ∷ rest)) → IsPass table (body s (c ∷ rest)) (body (after_kind begins s c (merging_kind c)) rest)
  step s c rest ready = by (merging_kind c) refl
    where
      by : (o : Option CellKind) → merging_kind c ≡ o → IsPass table (body s (c ∷ rest)) (body (after_kind begins s c o) rest)
      by None own = stays s c rest
      by (Some kind) own = at (find (has_traits begins s.links (traits_of begins s.links kind c)) s.cells) refl
        where
          at : (o : Option Cell) → find (has_traits begins s.links (traits_of begins s.links kind c)) s.cells ≡ o → IsPass table (body s (c ∷ rest)) (body (option_map_or (λ e. join kind s e c) o (stay s c)) rest)
          at None f = stays s c rest
          at (Some e) f =
              let q = found_in (has_traits begins s.links (traits_of begins s.links kind c)) s.cells e f in
              let w = traits_kind begins s.links e (traits_of begins s.links kind c) (tested begins s.links s.cells (traits_of begins s.links kind c) (traits_by begins s.links e) q.1) in
              let one : w.0 ≡ kind = one_kind e c w.0 kind (ap (λ (u : Traits). u.type) w.2) w.1 own in
              one_goes table (body s (c ∷ rest)) s.cells c rest ready refl kind own e q.0 (w.1 ∙ ap Some one) (sym w.2 ∙ ap (λ k. traits_of begins s.links k e) one)

  pub all_go : (rest : List Cell) (s : Merging) → IsReady (types.table_ports table.modules) (body s rest) → IsPass table (body s rest) (body (after_cells begins s rest) [])
  all_go [] s ready = IsPass_refl table (body s [])
  all_go (c ∷ rest) s ready =
      let one = step s c rest ready in
      IsPass_trans table (body s (c ∷ rest)) (body (after_kind begins s c (merging_kind c)) rest) (body (after_cells begins s (c ∷ rest)) []) one (all_go rest (after_kind begins s c (merging_kind c)) (one.ready ready))

  pub merge_pass : IsReady (types.table_ports table.modules) m → IsPass table m (merge_of m)
  merge_pass ready =
      subst (λ cs. IsPass table m (record m { cells = cs; links = (merging_of m).links })) (append-nil (merging_of m).cells)
      (all_go m.cells (record { cells = []; links = m.links }) ready)
