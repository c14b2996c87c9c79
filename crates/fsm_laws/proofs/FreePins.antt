-- All pins of a cell outside the machine carry nothing of the state: what it reads by the search, what it drives since no bit has
-- two drivers.
use Rattle.std.proofs.Common.{◌≡◌, ◌≤◌, ℕ, zero, suc, Bool, true, false, cond, List, [], ◌∷◌, length, Option, Some, None, inl, inr, ◌⊎◌, ⊎_elim, refl, sym, ◌∙◌, ap, subst, arith}
use Rattle.std.specs.Prelude.{◌==◌, ◌&&◌, ◌||◌, find, flat_map, not, slice_get}
use Rattle.std.specs.List.{list_any}
use Rattle.std.specs.Option.{option_and_then, option_map_or}
use Rattle.std.specs.Str.{bytes_eq}
use Rattle.std.proofs.lemmas.Bool.{eqb-true, or_parts}
use Rattle.std.proofs.lemmas.Slice.Eq.{bytes_eq-Decides}
use Rattle.cell_types.specs.Kind.{kind_of}
use Rattle.cell_types.specs.PinName.{pin_text}
use Rattle.cell_types.specs.Unsupported.{is_unsupported}
use Rattle.cell_types.specs.declared.kind.CellKind.{CellKind}
use Rattle.cell_types.specs.declared.kind.CellKind.TheVariants.{Gate, Memory, Storage, StorageGate, Word}
use Rattle.cell_types.specs.declared.memory.MemoryKind.{MemoryKind}
use Rattle.cell_types.specs.declared.memory.MemoryKind.TheVariants.{Memrd, MemrdV2}
use Rattle.cell_types.specs.declared.pin_name.PinName.{PinName}
use Rattle.cell_types.specs.declared.pin_name.PinName.TheVariants.{A, Addr, B, D, Data, Q, Y}
use Rattle.rtl_sig.specs.declared.sig.SigBit.{SigBit}
use Rattle.rtl_sig.specs.declared.sig.SigBit.TheVariants.{Fixed, Wire as OnWire}
use Rattle.rtl_sig.specs.declared.sig.WireBit.{WireBit}
use Rattle.rtl_ir.specs.Faults.Cells.{has_other_width, is_memory_kind}
use Rattle.rtl_ir.specs.Faults.MemoryCells.{is_bad_in, is_bad_memory_cell, store_named}
use Rattle.rtl_ir.specs.Flat.Cell as flat
use Rattle.rtl_ir.specs.Flat.Cell.{cell_kind, cell_rows, instance_rows, port_joins}
use Rattle.rtl_ir.specs.Flat.Driver.{Driven}
use Rattle.rtl_ir.specs.Flat.Access.{accesses_of}
use Rattle.rtl_ir.specs.Flat.Link.{joins}
use Rattle.rtl_ir.specs.Flat.Memory.{fetched_rows, init_cells, is_read_kind, memory_rows, read_rows, reading_cells, word_rows}
use Rattle.rtl_ir.specs.Flat.Place.{Frame, Path, Place, frame}
use Rattle.rtl_ir.specs.Flat.Point.{Point, bit_place, points, wire_points}
use Rattle.rtl_ir.specs.Build.{pin_of}
use Rattle.rtl_ir.specs.Follow.{follow}
use Rattle.rtl_ir.specs.Outputs.{drives_pin, is_output, output_pin}
use Rattle.rtl_ir.specs.Parameters.{memory_name, signal_at}
use Rattle.rtl_ir.specs.Rules.{has_item}
use Rattle.rtl_ir.specs.Types.{CellType, Instance, Library, Ports, Unknown, Unsupported, cell_type, port_named, type_by}
use Rattle.rtl_ir.specs.WritePorts.{is_of_memory}
use Rattle.rtl_ir.specs.declared.cell.Cell.{Cell}
use Rattle.rtl_ir.specs.declared.cell.Pin.{Pin}
use Rattle.rtl_ir.specs.declared.machine.Machine.{Machine}
use Rattle.rtl_ir.specs.declared.module.Module.{Module}
use Rattle.rtl_ir.specs.declared.ports.PortLine.{PortLine}
use Rattle.rtl_ir.specs.declared.store.Store.{Store}
use Rattle.rtl_ir.specs.declared.wire.Role.{Role}
use Rattle.rtl_ir.specs.declared.wire.Role.TheVariants.{Inner, Inout, Input, Output}
use Rattle.rtl_ir.specs.declared.wire.Wire.{Wire}
use Rattle.net_model.proofs.Members.{In-left, In-right}
use Rattle.net_model.proofs.Ranges.{signal_in}
use Rattle.net_model.specs.Fsm.Find.{compares, has_place, is_pin, may_read}
use Rattle.net_model.specs.Lists.{In}
use Rattle.net_model.specs.Refine.{IsWellDriven, places_of}
use Rattle.net_model.specs.Within.{Each}
use Rattle.pass_laws.proofs.Accesses.{IsAccess, access_of_each}
use Rattle.pass_laws.proofs.Alone.{IsSoundBy, own_kind}
use Rattle.pass_laws.proofs.Driving.{output_signal}
use Rattle.pass_laws.proofs.Forming.{own_accesses, own_cells}
use Rattle.pass_laws.proofs.Placing.{places_more}
use Rattle.pass_laws.specs.Ready.{IsReady}
use Rattle.follow_laws.proofs.Following.{stays}
use Rattle.pass_laws.proofs.Finding.{found_there, in_place, in_filtered}
use Rattle.fsm_laws.specs.Carried.{carrier_of}
use Rattle.fsm_laws.specs.Machines.{IsFoundMachine}
use Rattle.fsm_laws.specs.Recodes.{IsFree}
use Rattle.fsm_laws.proofs.Free.{named_free, own_bit}
use Rattle.fsm_laws.proofs.OtherBits.{at_bit, memory_bit, memory_places, other_bit, output_at, places_at, start}
use Rattle.fsm_laws.proofs.Setting.{outputs, state}

-- where something stands in a list
place_of : {A : Type 0} (xs : List A) (x : A) → In x xs → (k : ℕ) × (slice_get xs k ≡ Some x)
place_of [] x i = absurd i
place_of (y ∷ ys) x (inl e) = (0, ap Some (sym e))
place_of (y ∷ ys) x (inr j) = let k = place_of ys x j in (suc k.0, k.1)

-- the pin of a name
pub record IsNamed (pins : List Pin) (name : List ℕ) : Type 0 where
  pub pin : Pin
  pub there : In pin pins
  pub same : pin.name ≡ name
  pub signal : signal_at pins name ≡ pin.sig

pub pin_named : (pins : List Pin) (name : List ℕ) (s : SigBit) → In s (signal_at pins name) → IsNamed pins name
pin_named [] name s i = absurd i
pin_named (p ∷ pins) name s i = by (bytes_eq p.name name) refl i (pin_named pins name s)
  where
    by : (t : Bool) → bytes_eq p.name name ≡ t → In s (option_map_or (λ (q : Pin). q.sig) (cond t (Some p) (find (λ (q : Pin). bytes_eq q.name name) pins)) []) → (In s (signal_at pins name) → IsNamed pins name) → IsNamed (p ∷ pins) name
    by true e j later = record {
      pin = p;
      there = inl refl;
      same = (bytes_eq-Decides p.name name).0 e;
      signal = ap (λ t. option_map_or (λ (q : Pin). q.sig) (cond t (Some p) (find (λ (q : Pin). bytes_eq q.name name) pins)) []) e;
    }
    by false e j later =
        let k = later j in
        record {
          pin = k.pin;
          there = inr k.there;
          same = k.same;
          signal = ap (λ t. option_map_or (λ (q : Pin). q.sig) (cond t (Some p) (find (λ (q : Pin). bytes_eq q.name name) pins)) []) e ∙ k.signal;
        }

-- the line of a port that is found
pub record IsPort (lines : List PortLine) (name : List ℕ) : Type 0 where
  pub line : PortLine
  pub there : In line lines
  pub same : line.name ≡ name
  pub found : port_named lines name ≡ Some line

port_there : (lines : List PortLine) (name : List ℕ) (line : PortLine) → port_named lines name ≡ Some line → In line lines × (line.name ≡ name)
port_there [] name line e = absurd (cc)
port_there (l ∷ lines) name line e = by (bytes_eq l.name name) refl e (port_there lines name line)
  where
    by : (t : Bool) → bytes_eq l.name name ≡ t → cond t (Some l) (port_named lines name) ≡ Some line → (port_named lines name ≡ Some line → In line lines × (line.name ≡ name)) → In line (l ∷ lines) × (line.name ≡ name)
    by true f g later =
        let same : line ≡ l = cc in
        (inl same, ap (λ (z : PortLine). z.name) same ∙ (bytes_eq-Decides l.name name).0 f)
    by false f g later = let k = later g in (inr k.0, k.1)

none_any : {A : Type 0} (test : A → Bool) (xs : List A) → list_any test xs ≡ false → (x : A) → In x xs → test x ≡ false
none_any test [] e x i = absurd i
none_any test (y ∷ ys) e x (inl f) = ap test f ∙ (or_parts (test y) (list_any test ys) e).0
none_any test (y ∷ ys) e x (inr j) = none_any test ys (or_parts (test y) (list_any test ys) e).1 x j

-- the places of rows
places_among : {A : Type 0} (f : A → List Driven) (xs : List A) (x : A) → In x xs → (q : Place) → In q (places_of (f x)) → In q (places_of (flat_map f xs))
places_among f [] x i q h = absurd i
places_among f (y ∷ ys) x (inl e) q h =
    subst (In q) (sym (places_more (f y) (flat_map f ys))) (In-left q (places_of (f y)) (places_of (flat_map f ys)) (subst (λ z. In q (places_of (f z))) e h))
places_among f (y ∷ ys) x (inr i) q h =
    subst (In q) (sym (places_more (f y) (flat_map f ys))) (In-right q (places_of (f y)) (places_of (flat_map f ys)) (places_among f ys x i q h))

module _ (wires : List Wire) where
  fetched_place : (s : Store) (address : List Point) (ss : List SigBit) (at : ℕ) (b : WireBit) → In (OnWire b) ss → In (bit_place [] wires b) (places_of (fetched_rows [] s address (points [] wires ss) at))
  fetched_place s address [] at b i = absurd i
  fetched_place s address (Fixed c ∷ ss) at b (inl e) = absurd (cc)
  fetched_place s address (Fixed c ∷ ss) at b (inr i) = fetched_place s address ss (suc at) b i
  fetched_place s address (OnWire x ∷ ss) at b (inl e) = let same : b ≡ x = cc in inl (ap (bit_place [] wires) same)
  fetched_place s address (OnWire x ∷ ss) at b (inr i) = inr (fetched_place s address ss (suc at) b i)

  joined_place : (ss : List SigBit) (inner : List Point) → length ss ≤ length inner → (b : WireBit) → In (OnWire b) ss → In (bit_place [] wires b) (places_of (joins (points [] wires ss) inner))
  joined_place [] inner le b i = absurd i
  joined_place (s ∷ ss) [] le b i = absurd (omega (arith, le))
  joined_place (Fixed c ∷ ss) (r ∷ inner) le b (inl e) = absurd (cc)
  joined_place (Fixed c ∷ ss) (r ∷ inner) le b (inr i) = joined_place ss inner (omega (arith, le)) b i
  joined_place (OnWire x ∷ ss) (r ∷ inner) le b (inl e) = let same : b ≡ x = cc in inl (ap (bit_place [] wires) same)
  joined_place (OnWire x ∷ ss) (r ∷ inner) le b (inr i) = inr (joined_place ss inner (omega (arith, le)) b i)

  -- an output port drives the bits at its pin
  port_place : (pins : List Pin) (f : Frame) (lines : List PortLine) (line : PortLine) → In line lines → line.role ≡ Output → length (signal_at pins line.name) ≤ line.width → (b : WireBit) → In (OnWire b) (signal_at pins line.name) → In (bit_place [] wires b) (places_of (instance_rows [] wires pins f lines))
  port_place pins f [] line i role le b j = absurd i
  port_place pins f (l ∷ lines) line (inl e) role le b j =
      let here : List Driven = port_joins l.role (points [] wires (signal_at pins l.name)) (wire_points (f ∷ []) l.name 0 l.width) in
      let long : length (signal_at pins l.name) ≤ length (wire_points (f ∷ []) l.name 0 l.width) = subst (λ n. length (signal_at pins l.name) ≤ n) (sym (wire_length (f ∷ []) l.name 0 l.width)) (subst (λ (z : PortLine). length (signal_at pins z.name) ≤ z.width) e le) in
      let own : In (bit_place [] wires b) (places_of here) = subst (λ r. In (bit_place [] wires b) (places_of (port_joins r (points [] wires (signal_at pins l.name)) (wire_points (f ∷ []) l.name 0 l.width)))) (sym role ∙ ap (λ (z : PortLine). z.role) e) (joined_place (signal_at pins l.name) (wire_points (f ∷ []) l.name 0 l.width) long b (subst (λ (z : PortLine). In (OnWire b) (signal_at pins z.name)) e j)) in
      subst (In (bit_place [] wires b)) (sym (places_more here (instance_rows [] wires pins f lines))) (In-left (bit_place [] wires b) (places_of here) (places_of (instance_rows [] wires pins f lines)) own)
    where
      wire_length : (p : Path) (n : List ℕ) (at width : ℕ) → length (wire_points p n at width) ≡ width
      wire_length p n at zero = refl
      wire_length p n at (suc width) = ap suc (wire_length p n (suc at) width)
  port_place pins f (l ∷ lines) line (inr i) role le b j =
      let here : List Driven = port_joins l.role (points [] wires (signal_at pins l.name)) (wire_points (f ∷ []) l.name 0 l.width) in
      subst (In (bit_place [] wires b)) (sym (places_more here (instance_rows [] wires pins f lines))) (In-right (bit_place [] wires b) (places_of here) (places_of (instance_rows [] wires pins f lines)) (port_place pins f lines line i role le b j))

-- what an instance is
record IsInstance (ports : Ports) (c : Cell) (lines : List PortLine) : Type 0 where
  none : cell_kind c ≡ None
  listed : ports c.kind_name ≡ Some lines

instance_is : (ports : Ports) (c : Cell) (lines : List PortLine) → cell_type ports c.kind_name ≡ Instance lines → IsInstance ports c lines
unfolding cell_type cell_kind
instance_is ports c lines e = by (kind_of c.kind_name) refl (ports c.kind_name) refl (is_unsupported c.kind_name) e
  where
    by : (k : Option CellKind) → kind_of c.kind_name ≡ k → (o : Option (List PortLine)) → ports c.kind_name ≡ o → (u : Bool) → type_by k o u ≡ Instance lines → IsInstance ports c lines
    by (Some k) f o g u h = absurd (cc)
    by None f (Some ls) g u h = let same : ls ≡ lines = cc in record { none = f; listed = g ∙ ap Some same }
    by None f None g true h = absurd (cc)
    by None f None g false h = absurd (cc)

module _ (ports : Ports) (m : Module) (at : ℕ) (machine : Machine) (found : IsFoundMachine ports m at machine) (ready : IsReady ports m) (over : flat.Ports) (driven : IsWellDriven over m) (agree : (name : List ℕ) (lines : List PortLine) → ports name ≡ Some lines → over name ≡ lines) where
  abbrev pub AreFree : List SigBit → Type 0
  AreFree signal = Each (IsFree m.links m.wires (outputs ports m at machine found)) signal

  module _ (k : ℕ) (c : Cell) (there : slice_get m.cells k ≡ Some c) where
    -- a bit that the cell drives, or its memory
    abbrev IsDriven : WireBit → Type 0
    IsDriven b = In (at_bit over m driven b) (places_at over m driven c) ⊎ In (at_bit over m driven b) (memory_places over m driven)

    -- by a read port of a memory
    fetched : (kind : MemoryKind) → cell_kind c ≡ Some (Memory kind) → is_read_kind (Some (Memory kind)) ≡ true → cell_type ports c.kind_name ≡ Library (Memory kind) → (b : WireBit) → In (OnWire b) (signal_at c.pins (pin_text Data)) → IsDriven b
    fetched kind own reads type b i = by (memory_name c.params) refl good.1
      where
        good : (before : List Cell) × (is_bad_memory_cell false m before c kind ≡ false)
        good =
            let access = access_of_each ports m [] m.cells (own_accesses ports m ready) c (in_place m.cells k c there) in
            (access.0, subst (IsAccess m access.0 c) type access.1)

        row : (s : Store) → In s m.memories → is_of_memory s.name c ≡ true → IsDriven b
        row s j of =
            let test : (is_read_kind (cell_kind c) && is_of_memory s.name c) ≡ true = (λ n. is_read_kind (own n) && of n) ∙ ap (λ t. t && true) reads in
            let reader : In c (reading_cells s.name m.cells) = in_filtered (λ (d : Cell). is_read_kind (cell_kind d) && is_of_memory s.name d) m.cells c (in_place m.cells k c there) test in
            let words : List Driven = word_rows [] m.wires s (accesses_of s.name m.cells m.processes) (init_cells s.name m.cells) in
            let readers : List Driven = flat_map (read_rows [] m.wires s) (reading_cells s.name m.cells) in
            let here : In (at_bit over m driven b) (places_of readers) = places_among (read_rows [] m.wires s) (reading_cells s.name m.cells) c reader (at_bit over m driven b) (fetched_place m.wires s (points [] m.wires (signal_at c.pins (pin_text Addr))) (signal_at c.pins (pin_text Data)) 0 b i) in
            inr (places_among (memory_rows [] m.wires m.cells m.processes) m.memories s j (at_bit over m driven b) (subst (In (at_bit over m driven b)) (sym (places_more words readers)) (In-right (at_bit over m driven b) (places_of words) (places_of readers) here)))

        named : (q : List ℕ) → memory_name c.params ≡ Some q → (o : Option Store) → store_named m.memories q ≡ o → option_map_or (is_bad_in false m good.0 c kind) o true ≡ false → IsDriven b
        named q e None f g = absurd (cc)
        named q e (Some s) f g =
            let k = found_there (λ (z : Store). bytes_eq z.name q) m.memories s f in
            row s k.0 (ap (λ o. option_map_or (bytes_eq s.name) o false) e ∙ k.1)

        by : (o : Option (List ℕ)) → memory_name c.params ≡ o → option_map_or (is_bad_in false m good.0 c kind) (option_and_then (store_named m.memories) o) true ≡ false → IsDriven b
        by None e f = absurd (cc)
        by (Some q) e f = named q e (store_named m.memories q) refl f

    -- by a cell of the library
    own_output : (kind : CellKind) → cell_kind c ≡ Some kind → is_memory_kind kind ≡ false → (pin : PinName) → output_pin kind ≡ Some pin → (b : WireBit) → In (OnWire b) (signal_at c.pins (pin_text pin)) → IsDriven b
    own_output kind own plain pin out b i =
        let same : output_signal c kind ≡ signal_at c.pins (pin_text pin) = ap (λ o. option_map_or (λ n. signal_at c.pins (pin_text n)) o []) out in
        let n = place_of (signal_at c.pins (pin_text pin)) (OnWire b) i in
        inl (output_at over m driven c kind own plain n.0 b (ap (λ s. slice_get s n.0) same ∙ n.1))

    library_driven : (kind : CellKind) → cell_kind c ≡ Some kind → cell_type ports c.kind_name ≡ Library kind → (name : List ℕ) → drives_pin (Library kind) name ≡ true → (b : WireBit) → In (OnWire b) (signal_at c.pins name) → IsDriven b
    library_driven (Word kind) own type name e b i =
        own_output (Word kind) own refl Y refl b (subst (λ n. In (OnWire b) (signal_at c.pins n)) ((bytes_eq-Decides name (pin_text Y)).0 e) i)
    library_driven (Gate kind) own type name e b i =
        own_output (Gate kind) own refl Y refl b (subst (λ n. In (OnWire b) (signal_at c.pins n)) ((bytes_eq-Decides name (pin_text Y)).0 e) i)
    library_driven (Storage kind) own type name e b i =
        own_output (Storage kind) own refl Q refl b (subst (λ n. In (OnWire b) (signal_at c.pins n)) ((bytes_eq-Decides name (pin_text Q)).0 e) i)
    library_driven (StorageGate kind) own type name e b i =
        own_output (StorageGate kind) own refl Q refl b (subst (λ n. In (OnWire b) (signal_at c.pins n)) ((bytes_eq-Decides name (pin_text Q)).0 e) i)
    library_driven (Memory Memrd) own type name e b i =
        fetched Memrd own refl type b (subst (λ n. In (OnWire b) (signal_at c.pins n)) ((bytes_eq-Decides name (pin_text Data)).0 e) i)
    library_driven (Memory MemrdV2) own type name e b i =
        fetched MemrdV2 own refl type b (subst (λ n. In (OnWire b) (signal_at c.pins n)) ((bytes_eq-Decides name (pin_text Data)).0 e) i)
    library_driven (Memory kind) own type name e b i = absurd (cc)

    -- by an instance
    instance_driven : (lines : List PortLine) → cell_type ports c.kind_name ≡ Instance lines → (name : List ℕ) → drives_pin (Instance lines) name ≡ true → (b : WireBit) → In (OnWire b) (signal_at c.pins name) → IsDriven b
    instance_driven lines type name e b i = by (port_named lines name) refl e
      where
        pin : IsNamed c.pins name
        pin = pin_named c.pins name (OnWire b) i

        is : IsInstance ports c lines
        is = instance_is ports c lines type

        role_is : (r : Role) → is_output r ≡ true → r ≡ Output
        role_is Output e = refl
        role_is Input e = absurd (cc)
        role_is Inner e = absurd (cc)
        role_is Inout e = absurd (cc)

        some_item : (signal : List SigBit) → In (OnWire b) signal → has_item signal ≡ true
        some_item [] j = absurd j
        some_item (s ∷ signal) j = refl

        as_wide : (t u : Bool) → t ≡ true → (t && not u) ≡ false → u ≡ true
        as_wide true true f g = refl
        as_wide true false f g = absurd (cc)
        as_wide false u f g = absurd (cc)

        by : (o : Option PortLine) → port_named lines name ≡ o → option_map_or (λ (port : PortLine). is_output port.role) o false ≡ true → IsDriven b
        by None f g = absurd (cc)
        by (Some line) f g =
            let line_is = port_there lines name line f in
            let sound : IsSoundBy c (Instance lines) = subst (IsSoundBy c) type (own_cells ports m ready c (in_place m.cells k c there)) in
            let wide : has_other_width lines pin.pin ≡ false = none_any (has_other_width lines) c.pins sound.widths pin.pin pin.there in
            let port : port_named lines pin.pin.name ≡ Some line = ap (port_named lines) pin.same ∙ f in
            let item : has_item pin.pin.sig ≡ true = some_item pin.pin.sig (subst (In (OnWire b)) pin.signal i) in
            let long : length pin.pin.sig ≡ line.width = eqb-true (length pin.pin.sig) line.width (as_wide (has_item pin.pin.sig) (length pin.pin.sig == line.width) item (ap (λ o. has_item pin.pin.sig && option_map_or (λ (p : PortLine). not (length pin.pin.sig == p.width)) o false) (sym port) ∙ wide)) in
            let same : signal_at c.pins line.name ≡ pin.pin.sig = ap (signal_at c.pins) line_is.1 ∙ pin.signal in
            let fits : length (signal_at c.pins line.name) ≤ line.width = subst (λ s. length s ≤ line.width) (sym same) (omega (arith, long)) in
            let stands : In (OnWire b) (signal_at c.pins line.name) = subst (λ n. In (OnWire b) (signal_at c.pins n)) (sym line_is.1) i in
            let rows : In (at_bit over m driven b) (places_of (instance_rows [] m.wires c.pins (frame c.name c.kind_name) (over c.kind_name))) = subst (λ ls. In (at_bit over m driven b) (places_of (instance_rows [] m.wires c.pins (frame c.name c.kind_name) ls))) (sym (agree c.kind_name lines is.listed)) (port_place m.wires c.pins (frame c.name c.kind_name) lines line line_is.0 (role_is line.role g) fits b stands) in
            inl (subst (λ o. In (at_bit over m driven b) (places_of (cell_rows (start over m driven) over [] m.wires c o))) (sym is.none) rows)

    pin_driven : (type : CellType) → cell_type ports c.kind_name ≡ type → (name : List ℕ) → drives_pin type name ≡ true → (b : WireBit) → In (OnWire b) (signal_at c.pins name) → IsDriven b
    pin_driven (Library kind) type name e b i = library_driven kind (own_kind ports c kind type) type name e b i
    pin_driven (Instance lines) type name e b i = instance_driven lines type name e b i
    pin_driven Unsupported type name e b i = absurd (cc)
    pin_driven Unknown type name e b i = absurd (cc)

    -- outside the flip-flop and the tree
    module _ (flop : (k == machine.flop) ≡ false) (fork : has_place machine.muxes k ≡ false) where
      pub output_free : (name : List ℕ) → drives_pin (cell_type ports c.kind_name) name ≡ true → AreFree (signal_at c.pins name)
      output_free name e s i = record {
        own = own_bit m.wires s (signal_in (length m.wires) c.pins name (ready.within.cells c (in_place m.cells k c there)) s i);
        none = by s i;
      }
        where
          by : (s : SigBit) → In s (signal_at c.pins name) → carrier_of (outputs ports m at machine found) (follow m.links s) ≡ None
          by (Fixed b) j = ap (carrier_of (outputs ports m at machine found)) (stays m.links (Fixed b) refl)
          by (OnWire b) j =
              ⊎_elim (λ h. other_bit ports m at machine found ready over driven k c there flop fork b h) (λ h. memory_bit ports m at machine found ready over driven b h) (pin_driven (cell_type ports c.kind_name) refl name e b j)

      -- and the compares
      pub all_free : compares m (state ports m at machine found) c ≡ false → (name : List ℕ) → AreFree (signal_at c.pins name)
      all_free other name = by (drives_pin (cell_type ports c.kind_name) name) refl
        where
          may : may_read machine.muxes machine.flop k (pin_of name []) ≡ false
          may = λ i. (fork i && (is_pin A (pin_of name []) || is_pin B (pin_of name []))) || (flop i && is_pin D (pin_of name []))

          by : (t : Bool) → drives_pin (cell_type ports c.kind_name) name ≡ t → AreFree (signal_at c.pins name)
          by true e = output_free name e
          by false e = named_free ports m at machine found ready k c there other name e may
