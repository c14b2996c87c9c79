-- A step back through a cell: the cell, and the row of its one output bit.
use Rattle.std.proofs.Common.{◌≡◌, ℕ, zero, suc, ◌+◌, Bool, true, false, cond, List, [], ◌∷◌, ◌++◌, length, Option, Some, None, inl, inr, ⊎_elim, refl, sym, ◌∙◌, ap, subst, arith}
use Rattle.std.specs.Prelude.{◌&&◌, ◌==◌, count_by, find, flat_map, if◌then◌else◌, option_and_then, option_map, slice_get}
use Rattle.std.proofs.lemmas.Bool.{and_parts, eqb-true}
use Rattle.rtl_bits.specs.declared.bit.Bit.{Bit}
use Rattle.rtl_bits.specs.declared.bit.Bit.TheVariants.{S0, S1}
use Rattle.rtl_sig.specs.declared.sig.SigBit.{SigBit}
use Rattle.rtl_sig.specs.declared.sig.SigBit.TheVariants.{Fixed, Wire as OnWire}
use Rattle.rtl_sig.specs.declared.sig.WireBit.{WireBit}
use Rattle.cell_types.specs.PinName.{pin_text}
use Rattle.cell_types.specs.declared.kind.CellKind.{CellKind}
use Rattle.cell_types.specs.declared.kind.CellKind.TheVariants as Cells
use Rattle.cell_types.specs.declared.pin_name.PinName.TheVariants.{A, B, S, Y}
use Rattle.cell_types.specs.Kind.{kind_of}
use Rattle.cell_types.specs.Unsupported.{is_unsupported}
use Rattle.rtl_ir.specs.Drivers.{Drive, FromCell, Source, cell_drives, driver_in, pin_drives, places_by}
use Rattle.rtl_ir.specs.EventTests.{Step, cell_in, combinational_kind, input_signals, inverts, is_open, probe, step_at, step_through}
use Rattle.rtl_ir.specs.Faults.Cells.{misfit}
use Rattle.rtl_ir.specs.Flat.Cell as flat
use Rattle.rtl_ir.specs.Flat.Cell.{cell_kind, cell_rows, cell_shape, cells_rows, kind_rows, outputs}
use Rattle.rtl_ir.specs.Flat.Driver.{Driven, Worked}
use Rattle.rtl_ir.specs.Flat.Place.{Path}
use Rattle.rtl_ir.specs.Flat.Point.{bit_place, pin_points, points}
use Rattle.rtl_ir.specs.Follow.{all_joins}
use Rattle.rtl_ir.specs.declared.follow.Join.{Join}
use Rattle.rtl_ir.specs.Outputs.{drives_pin}
use Rattle.rtl_ir.specs.Parameters.{signal_at}
use Rattle.rtl_ir.specs.Signals.{wire_bits}
use Rattle.rtl_ir.specs.Types.{CellType, Instance, Library, Ports, Unknown, Unsupported, cell_type, type_by}
use Rattle.rtl_ir.specs.declared.cell.Cell.{Cell}
use Rattle.rtl_ir.specs.declared.cell.Pin.{Pin}
use Rattle.rtl_ir.specs.declared.module.Module.{Module}
use Rattle.rtl_ir.specs.declared.ports.PortLine.{PortLine}
use Rattle.rtl_ir.specs.declared.wire.Wire.{Wire}
use Rattle.net_model.proofs.Members.{In-cases, In-left, In-right}
use Rattle.net_model.specs.Lists.{In}
use Rattle.pass_laws.proofs.Faultless.{AreFit}
use Rattle.pass_laws.proofs.Outputs.{output_bits}
use Rattle.pass_laws.specs.Bits.{pin_bits}
use Rattle.reset_laws.proofs.TestCells.{IsCombinational}
use Rattle.pass_laws.proofs.Finding.{in_place}
use Rattle.pass_laws.proofs.Once.{driver_found}

places_from : (source : ℕ → Source) (at : ℕ) (bits : List SigBit) (d : Drive) → In d (places_by source at bits) → In d.bit (wire_bits bits) × ((k : ℕ) × (d.source ≡ source k))
places_from source at [] d i = absurd i
places_from source at (Fixed c ∷ bits) d i = places_from source (at + 1) bits d i
places_from source at (OnWire b ∷ bits) d (inl e) = (inl (ap (λ (z : Drive). z.bit) e), (at, ap (λ (z : Drive). z.source) e))
places_from source at (OnWire b ∷ bits) d (inr i) = let k = places_from source (at + 1) bits d i in (inr k.0, k.1)

pub pins_from : (type : CellType) (cell pin : ℕ) (ps : List Pin) (d : Drive) → In d (pin_drives type cell pin ps) → In d.bit (pin_bits type ps) × ((j : ℕ) × (k : ℕ) × (d.source ≡ FromCell cell j k))
pins_from type cell pin [] d i = absurd i
pins_from type cell pin (p ∷ ps) d i =
    ⊎_elim
    (λ l. here (drives_pin type p.name) l)
    (λ r. let k = pins_from type cell (pin + 1) ps d r in (In-right d.bit (if drives_pin type p.name then wire_bits p.sig else []) (pin_bits type ps) k.0, k.1))
    (In-cases d (if drives_pin type p.name then places_by (λ at. FromCell cell pin at) 0 p.sig else []) (pin_drives type cell (pin + 1) ps) i)
  where
    here : (t : Bool) → In d (if t then places_by (λ at. FromCell cell pin at) 0 p.sig else []) → In d.bit ((if t then wire_bits p.sig else []) ++ pin_bits type ps) × ((j : ℕ) × (k : ℕ) × (d.source ≡ FromCell cell j k))
    here true j = let k = places_from (λ at. FromCell cell pin at) 0 p.sig d j in (In-left d.bit (wire_bits p.sig) (pin_bits type ps) k.0, (pin, k.1.0, k.1.1))
    here false j = absurd j

-- a drive of cells is by a pin that a cell drives
pub record IsCellDrive (ports : Ports) (first : ℕ) (cs : List Cell) (d : Drive) : Type 0 where
  pub place : ℕ
  pub cell : Cell
  pub there : slice_get cs place ≡ Some cell
  pub driven : In d.bit (pin_bits (cell_type ports cell.kind_name) cell.pins)
  pub pin : ℕ
  pub at : ℕ
  pub source : d.source ≡ FromCell (first + place) pin at

pub cell_drive : (ports : Ports) (first : ℕ) (cs : List Cell) (d : Drive) → In d (cell_drives ports first cs) → IsCellDrive ports first cs d
cell_drive ports first [] d i = absurd i
cell_drive ports first (c ∷ cs) d i =
    ⊎_elim
    (λ l. let k = pins_from (cell_type ports c.kind_name) first 0 c.pins d l in
    let same : first ≡ first + 0 = omega arith in
    record { place = 0; cell = c; there = refl; driven = k.0; pin = k.1.0; at = k.1.1; source = k.1.2 ∙ ap (λ z. FromCell z k.1.0 k.1.1) same })
    (λ r. let k = cell_drive ports (first + 1) cs d r in
    let same : (first + 1) + k.place ≡ first + suc k.place = omega arith in
    record { place = suc k.place; cell = k.cell; there = k.there; driven = k.driven; pin = k.pin; at = k.at; source = k.source ∙ ap (λ z. FromCell z k.pin k.at) same })
    (In-cases d (pin_drives (cell_type ports c.kind_name) first 0 c.pins) (cell_drives ports (first + 1) cs) i)

-- the cell of a step
pub record IsThrough (ports : Ports) (m : Module) (b : WireBit) (step : Step) : Type 0 where
  pub cell : Cell
  pub there : In cell m.cells
  pub kind : CellKind
  pub is : combinational_kind (cell_type ports cell.kind_name) ≡ Some kind
  pub driven : In b (pin_bits (cell_type ports cell.kind_name) cell.pins)
  pub through : step_through (all_joins m.links) cell kind ≡ Some step

pub step_cell : (ports : Ports) (m : Module) (b : WireBit) (step : Step) → step_at ports m (OnWire b) ≡ Some step → IsThrough ports m b step
step_cell ports m b step e = by (driver_in (cell_drives ports 0 m.cells) b) refl e
  where
    kinds : (c : Cell) → In c m.cells → In b (pin_bits (cell_type ports c.kind_name) c.pins) → (o : Option CellKind) → combinational_kind (cell_type ports c.kind_name) ≡ o → option_and_then (step_through (all_joins m.links) c) o ≡ Some step → IsThrough ports m b step
    kinds c i j None f g = absurd (cc)
    kinds c i j (Some kind) f g = record { cell = c; there = i; kind = kind; is = f; driven = j; through = g }

    cells : (s : Source) → driver_in (cell_drives ports 0 m.cells) b ≡ Some s → (o : Option Cell) → cell_in m.cells s ≡ o → option_and_then (λ (c : Cell). option_and_then (step_through (all_joins m.links) c) (combinational_kind (cell_type ports c.kind_name))) o ≡ Some step → IsThrough ports m b step
    cells s f None g h = absurd (cc)
    cells s f (Some c) g h =
        let d = cell_drive ports 0 m.cells (record { bit = b; source = s }) (driver_found (cell_drives ports 0 m.cells) b s f) in
        let zero_place : 0 + d.place ≡ d.place = omega arith in
        let found : slice_get m.cells d.place ≡ Some c = ap (slice_get m.cells) (sym zero_place) ∙ ap (cell_in m.cells) (sym d.source) ∙ g in
        let same : d.cell ≡ c = (let k : Some d.cell ≡ Some c = sym d.there ∙ found in cc) in
        kinds c (in_place m.cells d.place c found) (subst (λ (z : Cell). In b (pin_bits (cell_type ports z.kind_name) z.pins)) same d.driven) (combinational_kind (cell_type ports c.kind_name)) refl h

    by : (o : Option Source) → driver_in (cell_drives ports 0 m.cells) b ≡ o → option_and_then (λ (c : Cell). option_and_then (step_through (all_joins m.links) c) (combinational_kind (cell_type ports c.kind_name))) (option_and_then (cell_in m.cells) o) ≡ Some step → IsThrough ports m b step
    by None f g = absurd (cc)
    by (Some s) f g = cells s f (cell_in m.cells s) refl g

-- what a step through a cell has
pub record IsStepped (js : List Join) (c : Cell) (kind : CellKind) (step : Step) : Type 0 where
  pub one : length (signal_at c.pins (pin_text Y)) ≡ 1
  pub once : count_by (is_open js) (flat_map (λ (s : List SigBit). s) (input_signals kind c)) ≡ 1
  pub found : find (is_open js) (flat_map (λ (s : List SigBit). s) (input_signals kind c)) ≡ Some step.input
  pub inverse : inverts (probe js kind c S0) (probe js kind c S1) ≡ Some step.inverse

pub stepped : (js : List Join) (c : Cell) (kind : CellKind) (step : Step) → step_through js c kind ≡ Some step → IsStepped js c kind step
stepped js c kind step e =
    by ((length (signal_at c.pins (pin_text Y)) == 1) && (count_by (is_open js) inputs == 1)) refl e
  where
    inputs : List SigBit
    inputs = flat_map (λ (s : List SigBit). s) (input_signals kind c)

    given : SigBit → Bool → Step
    given s i = record { input = s; inverse = i }

    last : (s : SigBit) → find (is_open js) inputs ≡ Some s → length (signal_at c.pins (pin_text Y)) ≡ 1 → count_by (is_open js) inputs ≡ 1 → (o : Option Bool) → inverts (probe js kind c S0) (probe js kind c S1) ≡ o → option_map (given s) o ≡ Some step → IsStepped js c kind step
    last s f one once None g h = absurd (cc)
    last s f one once (Some i) g h =
        let same : given s i ≡ step = cc in
        record { one = one; once = once; found = f ∙ ap (λ (z : Step). Some z.input) same; inverse = g ∙ ap (λ (z : Step). Some z.inverse) same }

    next : length (signal_at c.pins (pin_text Y)) ≡ 1 → count_by (is_open js) inputs ≡ 1 → (o : Option SigBit) → find (is_open js) inputs ≡ o → option_and_then (λ s. option_map (given s) (inverts (probe js kind c S0) (probe js kind c S1))) o ≡ Some step → IsStepped js c kind step
    next one once None f h = absurd (cc)
    next one once (Some s) f h = last s f one once (inverts (probe js kind c S0) (probe js kind c S1)) refl h

    by : (t : Bool) → ((length (signal_at c.pins (pin_text Y)) == 1) && (count_by (is_open js) inputs == 1)) ≡ t → (if t then option_and_then (λ s. option_map (given s) (inverts (probe js kind c S0) (probe js kind c S1))) (find (is_open js) inputs) else None) ≡ Some step → IsStepped js c kind step
    by false f g = absurd (cc)
    by true f g =
        let parts = and_parts (length (signal_at c.pins (pin_text Y)) == 1) (count_by (is_open js) inputs == 1) f in
        next (eqb-true (length (signal_at c.pins (pin_text Y))) 1 parts.0) (eqb-true (count_by (is_open js) inputs) 1 parts.1) (find (is_open js) inputs) refl g

-- where a function of a bit gives the inverse or not, it gives it
pub inverts_gives : (f : Bit → Bit) (inverse : Bool) → inverts (f S0) (f S1) ≡ Some inverse → (level : Bool) → f (if level then S1 else S0) ≡ (if cond inverse (cond level false true) level then S1 else S0)
inverts_gives f inverse e = by (f S0) (f S1) refl refl e
  where
    by : (a b : Bit) → f S0 ≡ a → f S1 ≡ b → inverts a b ≡ Some inverse → (level : Bool) → f (if level then S1 else S0) ≡ (if cond inverse (cond level false true) level then S1 else S0)
    by S0 S1 g h k true = let same : inverse ≡ false = cc in h ∙ ap (λ t. if cond t false true then S1 else S0) (sym same)
    by S0 S1 g h k false = let same : inverse ≡ false = cc in g ∙ ap (λ t. if cond t true false then S1 else S0) (sym same)
    by S1 S0 g h k true = let same : inverse ≡ true = cc in h ∙ ap (λ t. if cond t false true then S1 else S0) (sym same)
    by S1 S0 g h k false = let same : inverse ≡ true = cc in g ∙ ap (λ t. if cond t true false then S1 else S0) (sym same)
    by a b g h k level = absurd (cc)

-- a combinational kind is one of the library
pub kind_plain : (type : CellType) (kind : CellKind) → combinational_kind type ≡ Some kind → (type ≡ Library kind) × IsCombinational kind
kind_plain (Library (Cells.Word k)) kind e = let same : Cells.Word k ≡ kind = cc in (ap Library same, subst IsCombinational same tt)
kind_plain (Library (Cells.Gate k)) kind e = let same : Cells.Gate k ≡ kind = cc in (ap Library same, subst IsCombinational same tt)
kind_plain (Library (Cells.Storage k)) kind e = absurd (cc)
kind_plain (Library (Cells.StorageGate k)) kind e = absurd (cc)
kind_plain (Library (Cells.Memory k)) kind e = absurd (cc)
kind_plain (Instance ports) kind e = absurd (cc)
kind_plain Unsupported kind e = absurd (cc)
kind_plain Unknown kind e = absurd (cc)

pub kind_known : (ports : Ports) (c : Cell) (kind : CellKind) → cell_type ports c.kind_name ≡ Library kind → cell_kind c ≡ Some kind
unfolding cell_type cell_kind
kind_known ports c kind e = by (kind_of c.kind_name) (ports c.kind_name) (is_unsupported c.kind_name) e
  where
    by : (o : Option CellKind) (q : Option (List PortLine)) (t : Bool) → type_by o q t ≡ Library kind → o ≡ Some kind
    by (Some k) q t f = let same : k ≡ kind = cc in ap Some same
    by None (Some q) t f = absurd (cc)
    by None None true f = absurd (cc)
    by None None false f = absurd (cc)

single : (sig : List SigBit) (b : WireBit) → length sig ≡ 1 → In b (wire_bits sig) → sig ≡ OnWire b ∷ []
single [] b e i = absurd i
single (Fixed c ∷ []) b e i = absurd i
single (OnWire d ∷ []) b e (inl f) = ap (λ z. OnWire z ∷ []) (sym f)
single (OnWire d ∷ []) b e (inr i) = absurd i
single (r ∷ s ∷ sig) b e i = absurd (let f : suc (length sig) ≡ 0 = ap less e in cc)
  where
    less : ℕ → ℕ
    less zero = 0
    less (suc n) = n

row_cells : (start : SigBit → Bit) (ports : flat.Ports) (p : Path) (wires : List Wire) (cs : List Cell) (c : Cell) (x : Driven) → In c cs → In x (cell_rows start ports p wires c (cell_kind c)) → In x (cells_rows start ports p wires cs)
row_cells start ports p wires [] c x i j = absurd i
row_cells start ports p wires (d ∷ cs) c x (inl e) j =
    In-left x (cell_rows start ports p wires d (cell_kind d)) (cells_rows start ports p wires cs) (subst (λ z. In x (cell_rows start ports p wires z (cell_kind z))) e j)
row_cells start ports p wires (d ∷ cs) c x (inr i) j =
    In-right x (cell_rows start ports p wires d (cell_kind d)) (cells_rows start ports p wires cs) (row_cells start ports p wires cs c x i j)

-- the row of the one output bit of a combinational cell
abbrev pub output_row : Path → List Wire → Cell → CellKind → WireBit → Driven
output_row p wires c kind b = record {
  place = bit_place p wires b;
  driver = Worked (cell_shape kind c.params) (pin_points p wires c.pins A ∷ pin_points p wires c.pins B ∷ pin_points p wires c.pins S ∷ []) 0;
}

pub one_row : (start : SigBit → Bit) (ports : flat.Ports) (lines : Ports) (p : Path) (wires : List Wire) (cs : List Cell) → AreFit cs → (c : Cell) → In c cs → (kind : CellKind) → combinational_kind (cell_type lines c.kind_name) ≡ Some kind → (b : WireBit) → In b (pin_bits (cell_type lines c.kind_name) c.pins) → length (signal_at c.pins (pin_text Y)) ≡ 1 → In (output_row p wires c kind b) (cells_rows start ports p wires cs)
one_row start ports lines p wires cs fit c i kind e b j one =
    let plain = kind_plain (cell_type lines c.kind_name) kind e in
    let own : cell_kind c ≡ Some kind = kind_known lines c kind plain.0 in
    row_cells start ports p wires cs c (output_row p wires c kind b) i
    (subst (λ o. In (output_row p wires c kind b) (cell_rows start ports p wires c o)) (sym own) (by kind plain.1 (fit c i kind own) (subst (λ z. In b (pin_bits z c.pins)) plain.0 j)))
  where
    row_of : (kind : CellKind) → In b (wire_bits (signal_at c.pins (pin_text Y))) → In (output_row p wires c kind b) (outputs (cell_shape kind c.params) (pin_points p wires c.pins A ∷ pin_points p wires c.pins B ∷ pin_points p wires c.pins S ∷ []) (pin_points p wires c.pins Y) 0)
    row_of kind k =
        subst (λ z. In (output_row p wires c kind b) (outputs (cell_shape kind c.params) (pin_points p wires c.pins A ∷ pin_points p wires c.pins B ∷ pin_points p wires c.pins S ∷ []) (points p wires z) 0)) (sym (single (signal_at c.pins (pin_text Y)) b one k)) (inl refl)

    by : (kind : CellKind) → IsCombinational kind → misfit kind c ≡ None → In b (pin_bits (Library kind) c.pins) → In (output_row p wires c kind b) (kind_rows start p wires c kind)
    by (Cells.Word k) u f l = row_of (Cells.Word k) (subst (In b) (output_bits (Cells.Word k) c refl f Y refl) l)
    by (Cells.Gate k) u f l = row_of (Cells.Gate k) (subst (In b) (output_bits (Cells.Gate k) c refl f Y refl) l)
    by (Cells.Storage k) u f l = absurd u
    by (Cells.StorageGate k) u f l = absurd u
    by (Cells.Memory k) u f l = absurd u
