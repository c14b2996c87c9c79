-- A module of an accepted design has no fault over its table of ports either, whatever its name is.
use Rattle.std.proofs.Common.{◌≡◌, ℕ, ◌+◌, ◌≤◌, List, [], ◌∷◌, ◌++◌, Bool, true, false, cond, Option, Some, None, Ordering, Less, Equal, Greater, length, inl, inr, refl, sym, ap, subst, ◌∙◌}
use Rattle.std.specs.Prelude.{ℤ, map, filter, flat_map, not, ◌&&◌, ◌||◌, ◌==◌}
use Rattle.std.specs.List.{list_any, range_with_len}
use Rattle.std.specs.Option.{option_map, option_map_or, is_none}
use Rattle.std.specs.Str.{bytes_eq}
use Rattle.std.specs.Ordering.{int_cmp, match_ordering}
use Rattle.cell_types.specs.declared.fault.CellFault.{CellFault}
use Rattle.cell_types.specs.declared.fault.CellFault.TheVariants as cell
use Rattle.cell_types.specs.declared.kind.CellKind.{CellKind}
use Rattle.cell_types.specs.declared.kind.CellKind.TheVariants as kinds
use Rattle.cell_types.specs.Kind.{kind_of}
use Rattle.cell_types.specs.Unsupported.{is_unsupported}
use Rattle.rtl_ir.specs.declared.cell.Cell.{Cell}
use Rattle.rtl_ir.specs.declared.cell.Pin.{Pin}
use Rattle.rtl_ir.specs.declared.module.Design.{Design}
use Rattle.rtl_ir.specs.declared.module.Link.{Link}
use Rattle.rtl_ir.specs.declared.module.Module.{Module}
use Rattle.rtl_ir.specs.declared.ports.PortLine.{PortLine}
use Rattle.rtl_ir.specs.declared.process.Process.{Process}
use Rattle.rtl_ir.specs.declared.store.Store.{Store}
use Rattle.rtl_ir.specs.declared.wire.Wire.{Wire}
use Rattle.rtl_ir.specs.Drivers.{Drive, FromCell, drive_count, drives_of, port_drives, places_by, pin_drives, cell_drives, link_drives, tree_drives, rule_drives}
use Rattle.rtl_ir.specs.Fault.{Fault, Width, BadParameterOrPort, BadPort, BadProcess, BadMemory, TooWide, UnsupportedCell, Spot, spot, link_spot, fault_if}
use Rattle.rtl_ir.specs.Faults.{check_faults, module_faults, faults_within}
use Rattle.rtl_ir.specs.Faults.Bits.{has_two, faults_of_two, bit_faults, bits_faults}
use Rattle.rtl_ir.specs.Faults.Cells.{misfit, shape_fault, lacks_port, has_other_width, has_constant_output, is_memory_kind, memory_faults, faults_by_type, cell_faults}
use Rattle.rtl_ir.specs.Faults.Links.{is_uneven, link_faults}
use Rattle.rtl_ir.specs.Faults.MemoryCells.{is_bad_memory_cell}
use Rattle.rtl_ir.specs.EventTests.{combinational_kind}
use Rattle.rtl_ir.specs.Faults.ProcessLimits.{is_too_wide, has_uneven, gives_to_constant}
use Rattle.rtl_ir.specs.Faults.Processes.{faults_of_process, has_bad_line, is_bad_process, process_faults}
use Rattle.rtl_ir.specs.Faults.Recursion.{recursion_faults}
use Rattle.rtl_ir.specs.Faults.Stores.{is_bad_store, store_faults}
use Rattle.rtl_ir.specs.Faults.Wires.{wire_faults, is_bad_port, with_number}
use Rattle.rtl_ir.specs.Flat.Tree.{named}
use Rattle.rtl_ir.specs.Outputs.{drives_pin, is_output}
use Rattle.rtl_ir.specs.Ports.{is_port, place_wire, in_number_order, line_of, ports_of}
use Rattle.rtl_ir.specs.Rules.{has_item}
use Rattle.rtl_ir.specs.Scope.{Scope, everything, without_processes}
use Rattle.rtl_ir.specs.Signals.{has_constant}
use Rattle.rtl_ir.specs.WritePorts.{write_lines}
use Rattle.rtl_ir.specs.Types.{Ports, CellType, Library, Instance, Unsupported, Unknown, port_lines, module_named, design_ports, table_ports, port_named, type_by, cell_type}
use Rattle.rtl_readable.specs.Readable.{IsReadable}
use Rattle.net_model.specs.Lists.{In, Distinct}
use Rattle.net_model.specs.Within.{Each}
use Rattle.net_model.proofs.Members.{In-map, In-mapped}
use Rattle.pass_laws.specs.Ready.{IsReady}
use Rattle.pass_laws.proofs.Faultless.{no_faults}
use Rattle.check_laws.specs.Sound.{IsSoundModule}
use Rattle.check_laws.proofs.Counting.{none_parts, none_each}
use Rattle.check_laws.proofs.Named.{ordered_lines, lines_distinct, ports_distinct, port_found}
use Rattle.check_laws.proofs.Readable.{sound}
use Rattle.script_core.specs.Reached.{table_of}
use Rattle.script_core.proofs.Tables.{same_name, table_instance, instantiated}
use Rattle.rtl_check.proofs.Testing.{bad_same}

-- ---- ports in another order

-- a port that is found has the name, and is one of them
found_port : (ns : List PortLine) (name : List ℕ) (n : PortLine) → port_named ns name ≡ Some n → In n ns × (n.name ≡ name)
found_port [] name n e = absurd cc
found_port (m ∷ ns) name n e = by (λ h. found_port ns name n h) (bytes_eq m.name name) refl e
  where
    by : (port_named ns name ≡ Some n → In n ns × (n.name ≡ name)) → (t : Bool) → bytes_eq m.name name ≡ t → cond t (Some m) (port_named ns name) ≡ Some n → In n (m ∷ ns) × (n.name ≡ name)
    by later true f h =
        let same : n ≡ m = cc in
        (inl same, ap (λ (k : PortLine). k.name) same ∙ same_name m.name name f)
    by later false f h = (inr (later h).0, (later h).1)

-- a wire's ports are found by their names, in whichever order they stand
same_found : (ns ms : List PortLine) → Distinct (map (λ (n : PortLine). n.name) ns) → Distinct (map (λ (n : PortLine). n.name) ms) → ((n : PortLine) → In n ns → In n ms) → ((n : PortLine) → In n ms → In n ns)
    → (name : List ℕ) → port_named ns name ≡ port_named ms name
same_found ns ms u v to from name = by (port_named ns name) (port_named ms name) refl refl
  where
    by : (x y : Option PortLine) → port_named ns name ≡ x → port_named ms name ≡ y → x ≡ y
    by None None e f = refl
    by (Some n) y e f =
        let here = found_port ns name n e in
        sym (subst (λ (k : List ℕ). port_named ms k ≡ Some n) here.1 (port_found ms v n (to n here.0))) ∙ f
    by None (Some n) e f =
        let here = found_port ms name n f in
        sym e ∙ subst (λ (k : List ℕ). port_named ns k ≡ Some n) here.1 (port_found ns u n (from n here.0))

placed_in : (x w : Wire) (ws : List Wire) → In x (w ∷ ws) → In x (place_wire w ws)
placed_in x w [] i = i
placed_in x w (v ∷ vs) i = by (int_cmp w.number v.number) (placed_in x w vs) i
  where
    by : (o : Ordering) → (In x (w ∷ vs) → In x (place_wire w vs)) → In x (w ∷ v ∷ vs) → In x (match_ordering o (w ∷ v ∷ vs) (w ∷ v ∷ vs) (v ∷ place_wire w vs))
    by Less ih j = j
    by Equal ih j = j
    by Greater ih (inl e) = inr (ih (inl e))
    by Greater ih (inr (inl e)) = inl e
    by Greater ih (inr (inr j)) = inr (ih (inr j))

ordered_in : (x : Wire) (ws : List Wire) → In x ws → In x (in_number_order ws)
ordered_in x [] i = i
ordered_in x (w ∷ ws) (inl e) = placed_in x w (in_number_order ws) (inl e)
ordered_in x (w ∷ ws) (inr i) = placed_in x w (in_number_order ws) (inr (ordered_in x ws i))

line_in : (ws : List Wire) (n : PortLine) → In n (port_lines ws) → In n (ports_of ws)
line_in ws n i =
    let from = In-mapped line_of n (filter (λ w. is_port w.role) ws) i in
    subst (λ (k : PortLine). In k (ports_of ws)) (sym from.2) (In-map line_of from.0 (in_number_order (filter (λ w. is_port w.role) ws)) (ordered_in from.0 (filter (λ w. is_port w.role) ws) from.1))

pub same_lines : (ws : List Wire) → Distinct (map (λ (w : Wire). w.name) ws) → (name : List ℕ) → port_named (port_lines ws) name ≡ port_named (ports_of ws) name
same_lines ws u = same_found (port_lines ws) (ports_of ws) (lines_distinct ws u) (ports_distinct ws u) (line_in ws) (λ n i. (ordered_lines ws).each n i)

-- ---- types of cells

-- the same type, or an instance whose ports are found alike
pub data Alike : CellType → CellType → Type 0 where
  SameType : (t : CellType) → Alike t t
  SamePorts : (p q : List PortLine) → ((name : List ℕ) → port_named p name ≡ port_named q name) → Alike (Instance p) (Instance q)

alike_pins : (t u : CellType) → Alike t u → (name : List ℕ) → drives_pin t name ≡ drives_pin u name
alike_pins t u (SameType s) name = refl
alike_pins t u (SamePorts p q h) name = ap (λ (o : Option PortLine). option_map_or (λ (port : PortLine). is_output port.role) o false) (h name)

any_same : {A : Type 0} (p q : A → Bool) → ((x : A) → p x ≡ q x) → (xs : List A) → list_any p xs ≡ list_any q xs
any_same p q h [] = refl
any_same p q h (x ∷ xs) = (λ i. h x i || any_same p q h xs i)

alike_faults : (scope : Scope) (m : Module) (earlier : List Cell) (c : Cell) (t u : CellType) → Alike t u → faults_by_type scope m earlier c t ≡ faults_by_type scope m earlier c u
alike_faults scope m earlier c t u (SameType s) = refl
alike_faults scope m earlier c t u (SamePorts p q h) =
    let lacks = any_same (lacks_port p) (lacks_port q) (λ x. ap is_none (h x.name)) c.pins in
    let other = any_same (has_other_width p) (has_other_width q)
    (λ x. ap (λ (o : Option PortLine). has_item x.sig && option_map_or (λ (port : PortLine). not (length x.sig == port.width)) o false) (h x.name)) c.pins in
    let out = any_same (λ (x : Pin). drives_pin (Instance p) x.name && has_constant x.sig) (λ (x : Pin). drives_pin (Instance q) x.name && has_constant x.sig)
    (λ x. ap (λ (o : Option PortLine). option_map_or (λ (port : PortLine). is_output port.role) o false && has_constant x.sig) (h x.name)) c.pins in
    let here = spot m.id c.name in
    (λ i. fault_if (has_item c.params || lacks i) (BadParameterOrPort here) ++ fault_if (other i) (Width here) ++ fault_if (out i) (BadPort here))

named_found : (ms : List Module) (id : List ℕ) (n : Module) → named ms id ≡ Some n → In n ms
named_found [] id n e = absurd cc
named_found (m ∷ ms) id n e = by (λ h. named_found ms id n h) (bytes_eq m.id id) e
  where
    by : (named ms id ≡ Some n → In n ms) → (t : Bool) → cond t (Some m) (named ms id) ≡ Some n → In n (m ∷ ms)
    by later true h = inl cc
    by later false h = inr (later h)

pub named_is : (ms : List Module) (id : List ℕ) → module_named ms id ≡ named ms id
named_is [] id = refl
named_is (m ∷ ms) id = ap (cond (bytes_eq m.id id) (Some m)) (named_is ms id)

-- the type of a cell, by the ports of the design and by those of the table
alike_type : (modules : List Module) → Each IsSoundModule modules → (m : Module) (c : Cell) → In c m.cells → Alike (cell_type (design_ports modules) c.kind_name) (cell_type (table_ports (table_of modules m).modules) c.kind_name)
unfolding cell_type
alike_type modules sound m c i = by (kind_of c.kind_name) refl
  where
    ports : (o : Option Module) → named modules c.kind_name ≡ o
        → Alike (type_by None (option_map (λ (n : Module). port_lines n.wires) o) (is_unsupported c.kind_name)) (type_by None (option_map (λ (n : Module). ports_of n.wires) o) (is_unsupported c.kind_name))
    ports None e = SameType (type_by None None (is_unsupported c.kind_name))
    ports (Some n) e = SamePorts (port_lines n.wires) (ports_of n.wires) (same_lines n.wires (sound n (named_found modules c.kind_name n e)).wires)

    by : (k : Option CellKind) → kind_of c.kind_name ≡ k
        → Alike (type_by k (design_ports modules c.kind_name) (is_unsupported c.kind_name)) (type_by k (table_ports (table_of modules m).modules c.kind_name) (is_unsupported c.kind_name))
    by (Some kind) e = SameType (Library kind)
    by None e =
        let from : design_ports modules c.kind_name ≡ option_map (λ (n : Module). port_lines n.wires) (named modules c.kind_name) = ap (option_map (λ (n : Module). port_lines n.wires)) (named_is modules c.kind_name) in
        let to = table_instance modules m c.kind_name (instantiated c m.cells i e) in
        subst (λ (x : Option (List PortLine)). Alike (type_by None x (is_unsupported c.kind_name)) (type_by None (table_ports (table_of modules m).modules c.kind_name) (is_unsupported c.kind_name))) (sym from)
        (subst (λ (y : Option (List PortLine)). Alike (type_by None (option_map (λ (n : Module). port_lines n.wires) (named modules c.kind_name)) (is_unsupported c.kind_name)) (type_by None y (is_unsupported c.kind_name))) (sym to)
        (ports (named modules c.kind_name) refl))

-- ---- faults and drivers over other ports

-- the types of these cells are alike over two tables
abbrev pub AreAlike : Ports → Ports → List Cell → Type 0
AreAlike P Q cells = (c : Cell) → In c cells → Alike (cell_type P c.kind_name) (cell_type Q c.kind_name)

module _ (P Q : Ports) where
  cells_over : (scope : Scope) (m : Module) (earlier cells : List Cell) → AreAlike P Q cells → cell_faults scope P m earlier cells ≡ cell_faults scope Q m earlier cells
  cells_over scope m earlier [] h = refl
  cells_over scope m earlier (c ∷ cs) h =
      (λ i. alike_faults scope m earlier c (cell_type P c.kind_name) (cell_type Q c.kind_name) (h c (inl refl)) i ++ cells_over scope m (earlier ++ c ∷ []) cs (λ d j. h d (inr j)) i)

  pins_over : (t u : CellType) → Alike t u → (cell pin : ℕ) (pins : List Pin) → pin_drives t cell pin pins ≡ pin_drives u cell pin pins
  pins_over t u h cell pin [] = refl
  pins_over t u h cell pin (p ∷ ps) =
      (λ i. cond (alike_pins t u h p.name i) (places_by (λ at. FromCell cell pin at) 0 p.sig) [] ++ pins_over t u h cell (pin + 1) ps i)

  drives_over : (cell : ℕ) (cells : List Cell) → AreAlike P Q cells → cell_drives P cell cells ≡ cell_drives Q cell cells
  drives_over cell [] h = refl
  drives_over cell (c ∷ cs) h =
      (λ i. pins_over (cell_type P c.kind_name) (cell_type Q c.kind_name) (h c (inl refl)) cell 0 c.pins i ++ drives_over (cell + 1) cs (λ d j. h d (inr j)) i)

  pub all_over : (m : Module) → AreAlike P Q m.cells → drives_of P m ≡ drives_of Q m
  all_over m h = ap (λ (z : List Drive). port_drives 0 m.wires ++ z ++ link_drives m.links ++ tree_drives 0 m.processes ++ rule_drives 0 m.processes) (drives_over 0 m.cells h)

-- what is combinational is so over both
kinds_alike : (P Q : Ports) (cells : List Cell) → AreAlike P Q cells → (c : Cell) → In c cells → combinational_kind (cell_type P c.kind_name) ≡ combinational_kind (cell_type Q c.kind_name)
kinds_alike P Q cells h c i = by (cell_type P c.kind_name) (cell_type Q c.kind_name) (h c i)
  where
    by : (t u : CellType) → Alike t u → combinational_kind t ≡ combinational_kind u
    by t u (SameType s) = refl
    by t u (SamePorts p q k) = refl

-- ---- no faults, under another name

if_none : (b : Bool) (f g : Fault) → fault_if b f ≡ [] → fault_if b g ≡ []
if_none true f g e = absurd cc
if_none false f g e = refl

both : {A : Type 0} (xs ys : List A) → xs ≡ [] → ys ≡ [] → xs ++ ys ≡ []
both xs ys e f = (λ i. e i ++ f i)

flat_none : {A B : Type 0} (f g : A → List B) → ((x : A) → f x ≡ [] → g x ≡ []) → (xs : List A) → flat_map f xs ≡ [] → flat_map g xs ≡ []
flat_none f g h [] e = refl
flat_none f g h (x ∷ xs) e =
    let parts = none_parts (f x) (flat_map f xs) e in
    both (g x) (flat_map g xs) (h x parts.first) (flat_none f g h xs parts.second)

not_last : {A : Type 0} (xs : List A) (x : A) → xs ++ x ∷ [] ≡ [] → ⊥
not_last [] x e = absurd cc
not_last (y ∷ ys) x e = absurd cc

wires_none : (id name : List ℕ) (numbers : List ℤ) (ws : List Wire) → wire_faults id numbers ws ≡ [] → wire_faults name numbers ws ≡ []
wires_none id name numbers [] e = refl
wires_none id name numbers (w ∷ ws) e =
    let parts = none_parts (fault_if (is_bad_port numbers w) (BadPort (spot id w.name))) (wire_faults id (with_number numbers w) ws) e in
    both (fault_if (is_bad_port numbers w) (BadPort (spot name w.name))) (wire_faults name (with_number numbers w) ws)
    (if_none (is_bad_port numbers w) _ _ parts.first) (wires_none id name (with_number numbers w) ws parts.second)

stores_none : (scope : Scope) (id name : List ℕ) (ss : List Store) → flat_map (store_faults scope id) ss ≡ [] → flat_map (store_faults scope name) ss ≡ []
stores_none scope id name = flat_none (store_faults scope id) (store_faults scope name)
    (λ s e.
    let parts = none_parts (fault_if (not scope.memories) (UnsupportedCell (spot id s.name))) (fault_if (is_bad_store s) (BadMemory (spot id s.name))) e in
    both (fault_if (not scope.memories) (UnsupportedCell (spot name s.name))) (fault_if (is_bad_store s) (BadMemory (spot name s.name)))
    (if_none (not scope.memories) _ _ parts.first) (if_none (is_bad_store s) _ _ parts.second))

-- the faults of a process, by the tests of its parts
process_none : (scope : Scope) (P Q : Ports) (m : Module) (name : List ℕ) (earlier : List Process) (p : Process) → is_bad_process P m p ≡ is_bad_process Q m p
    → faults_of_process scope P m earlier p ≡ [] → faults_of_process scope Q (record m { id = name }) earlier p ≡ []
process_none scope P Q m name earlier p same e =
    let here = spot m.id p.name in
    let there = spot name p.name in
    let taken = not (scope.processes p) in
    let line = has_bad_line scope.clocks m (flat_map write_lines earlier) (write_lines p) in
    let five = none_parts (fault_if taken (UnsupportedCell here) ++ fault_if (is_too_wide p) (TooWide here) ++ fault_if (has_uneven p) (Width here) ++ fault_if (gives_to_constant p) (BadPort here) ++ fault_if (is_bad_process P m p) (BadProcess here)) (fault_if line (BadMemory here)) e in
    let four = none_parts (fault_if taken (UnsupportedCell here) ++ fault_if (is_too_wide p) (TooWide here) ++ fault_if (has_uneven p) (Width here) ++ fault_if (gives_to_constant p) (BadPort here)) (fault_if (is_bad_process P m p) (BadProcess here)) five.first in
    let three = none_parts (fault_if taken (UnsupportedCell here) ++ fault_if (is_too_wide p) (TooWide here) ++ fault_if (has_uneven p) (Width here)) (fault_if (gives_to_constant p) (BadPort here)) four.first in
    let two = none_parts (fault_if taken (UnsupportedCell here) ++ fault_if (is_too_wide p) (TooWide here)) (fault_if (has_uneven p) (Width here)) three.first in
    let one = none_parts (fault_if taken (UnsupportedCell here)) (fault_if (is_too_wide p) (TooWide here)) two.first in
    let bad : fault_if (is_bad_process Q m p) (BadProcess here) ≡ [] = ap (λ b. fault_if b (BadProcess here)) (sym same) ∙ four.second in
    both (fault_if taken (UnsupportedCell there) ++ fault_if (is_too_wide p) (TooWide there) ++ fault_if (has_uneven p) (Width there) ++ fault_if (gives_to_constant p) (BadPort there) ++ fault_if (is_bad_process Q m p) (BadProcess there)) (fault_if line (BadMemory there))
    (both (fault_if taken (UnsupportedCell there) ++ fault_if (is_too_wide p) (TooWide there) ++ fault_if (has_uneven p) (Width there) ++ fault_if (gives_to_constant p) (BadPort there)) (fault_if (is_bad_process Q m p) (BadProcess there))
    (both (fault_if taken (UnsupportedCell there) ++ fault_if (is_too_wide p) (TooWide there) ++ fault_if (has_uneven p) (Width there)) (fault_if (gives_to_constant p) (BadPort there))
    (both (fault_if taken (UnsupportedCell there) ++ fault_if (is_too_wide p) (TooWide there)) (fault_if (has_uneven p) (Width there))
    (both (fault_if taken (UnsupportedCell there)) (fault_if (is_too_wide p) (TooWide there))
    (if_none taken _ _ one.first) (if_none (is_too_wide p) _ _ one.second))
    (if_none (has_uneven p) _ _ two.second))
    (if_none (gives_to_constant p) _ _ three.second))
    (if_none (is_bad_process Q m p) _ _ bad))
    (if_none line _ _ five.second)

processes_none : (scope : Scope) (P Q : Ports) (m : Module) (name : List ℕ) → ((p : Process) → is_bad_process P m p ≡ is_bad_process Q m p) → (earlier ps : List Process)
    → process_faults scope P m earlier ps ≡ [] → process_faults scope Q (record m { id = name }) earlier ps ≡ []
processes_none scope P Q m name same earlier [] e = refl
processes_none scope P Q m name same earlier (p ∷ ps) e =
    let parts = none_parts (faults_of_process scope P m earlier p) (process_faults scope P m (earlier ++ p ∷ []) ps) e in
    both (faults_of_process scope Q (record m { id = name }) earlier p) (process_faults scope Q (record m { id = name }) (earlier ++ p ∷ []) ps)
    (process_none scope P Q m name earlier p (same p) parts.first) (processes_none scope P Q m name same (earlier ++ p ∷ []) ps parts.second)

links_none : (id name : List ℕ) (number : ℕ) (ls : List Link) → link_faults id number ls ≡ [] → link_faults name number ls ≡ []
links_none id name number [] e = refl
links_none id name number (l ∷ ls) e =
    let parts = none_parts (fault_if (has_constant l.left) (BadPort (link_spot id number)) ++ fault_if (is_uneven l) (Width (link_spot id number))) (link_faults id (number + 1) ls) e in
    let own = none_parts (fault_if (has_constant l.left) (BadPort (link_spot id number))) (fault_if (is_uneven l) (Width (link_spot id number))) parts.first in
    both (fault_if (has_constant l.left) (BadPort (link_spot name number)) ++ fault_if (is_uneven l) (Width (link_spot name number))) (link_faults name (number + 1) ls)
    (both (fault_if (has_constant l.left) (BadPort (link_spot name number))) (fault_if (is_uneven l) (Width (link_spot name number))) (if_none (has_constant l.left) _ _ own.first) (if_none (is_uneven l) _ _ own.second))
    (links_none id name (number + 1) ls parts.second)

bits_none : (id name : List ℕ) (drives : List Drive) (at : ℕ) (ws : List Wire) → bits_faults id drives at ws ≡ [] → bits_faults name drives at ws ≡ []
bits_none id name drives at [] e = refl
bits_none id name drives at (w ∷ ws) e =
    let parts = none_parts (flat_map (bit_faults id drives at w) (range_with_len 0 w.width)) (bits_faults id drives (at + 1) ws) e in
    both (flat_map (bit_faults name drives at w) (range_with_len 0 w.width)) (bits_faults name drives (at + 1) ws)
    (flat_none (bit_faults id drives at w) (bit_faults name drives at w) bit (range_with_len 0 w.width) parts.first) (bits_none id name drives (at + 1) ws parts.second)
  where
    bit : (k : ℕ) → bit_faults id drives at w k ≡ [] → bit_faults name drives at w k ≡ []
    bit k h = by (has_two drives (record { wire = at; at = k })) h
      where
        by : (t : Bool) → cond t (faults_of_two id w k) [] ≡ [] → cond t (faults_of_two name w k) [] ≡ []
        by true f = absurd (not_last _ _ f)
        by false f = refl

shape_none : (here there : Spot) (o : Option CellFault) → shape_fault here o ≡ [] → shape_fault there o ≡ []
shape_none here there None e = refl
shape_none here there (Some cell.Bad) e = absurd cc
shape_none here there (Some cell.Wide) e = absurd cc
shape_none here there (Some cell.Width) e = absurd cc
shape_none here there (Some cell.Memory) e = refl

memory_none : (clocks : Bool) (m : Module) (name : List ℕ) (earlier : List Cell) (c : Cell) (kind : CellKind) → memory_faults clocks m earlier c kind ≡ [] → memory_faults clocks (record m { id = name }) earlier c kind ≡ []
memory_none clocks m name earlier c (kinds.Word kind) e = refl
memory_none clocks m name earlier c (kinds.Gate kind) e = refl
memory_none clocks m name earlier c (kinds.Storage kind) e = refl
memory_none clocks m name earlier c (kinds.StorageGate gate) e = refl
memory_none clocks m name earlier c (kinds.Memory kind) e = if_none (is_bad_memory_cell clocks m earlier c kind) _ _ e

type_none : (scope : Scope) (m : Module) (name : List ℕ) (earlier : List Cell) (c : Cell) (t : CellType) → faults_by_type scope m earlier c t ≡ [] → faults_by_type scope (record m { id = name }) earlier c t ≡ []
type_none scope m name earlier c (Library kind) e =
    let here = spot m.id c.name in
    let there = spot name c.name in
    let n : Module = record m { id = name } in
    let memories = is_memory_kind kind && not scope.memories in
    let last = none_parts (fault_if memories (UnsupportedCell here) ++ shape_fault here (misfit kind c) ++ fault_if (has_constant_output (Library kind) c.pins) (BadPort here)) (memory_faults scope.clocks m earlier c kind) e in
    let third = none_parts (fault_if memories (UnsupportedCell here) ++ shape_fault here (misfit kind c)) (fault_if (has_constant_output (Library kind) c.pins) (BadPort here)) last.first in
    let second = none_parts (fault_if memories (UnsupportedCell here)) (shape_fault here (misfit kind c)) third.first in
    both (fault_if memories (UnsupportedCell there) ++ shape_fault there (misfit kind c) ++ fault_if (has_constant_output (Library kind) c.pins) (BadPort there)) (memory_faults scope.clocks n earlier c kind)
    (both (fault_if memories (UnsupportedCell there) ++ shape_fault there (misfit kind c)) (fault_if (has_constant_output (Library kind) c.pins) (BadPort there))
    (both (fault_if memories (UnsupportedCell there)) (shape_fault there (misfit kind c)) (if_none memories _ _ second.first) (shape_none here there (misfit kind c) second.second))
    (if_none (has_constant_output (Library kind) c.pins) _ _ third.second))
    (memory_none scope.clocks m name earlier c kind last.second)
type_none scope m name earlier c (Instance ports) e =
    let here = spot m.id c.name in
    let there = spot name c.name in
    let lacks = has_item c.params || list_any (lacks_port ports) c.pins in
    let other = list_any (has_other_width ports) c.pins in
    let out = has_constant_output (Instance ports) c.pins in
    let last = none_parts (fault_if lacks (BadParameterOrPort here) ++ fault_if other (Width here)) (fault_if out (BadPort here)) e in
    let first = none_parts (fault_if lacks (BadParameterOrPort here)) (fault_if other (Width here)) last.first in
    both (fault_if lacks (BadParameterOrPort there) ++ fault_if other (Width there)) (fault_if out (BadPort there))
    (both (fault_if lacks (BadParameterOrPort there)) (fault_if other (Width there)) (if_none lacks _ _ first.first) (if_none other _ _ first.second))
    (if_none out _ _ last.second)
type_none scope m name earlier c Unsupported e = absurd cc
type_none scope m name earlier c Unknown e = absurd cc

cells_none : (scope : Scope) (P : Ports) (m : Module) (name : List ℕ) (earlier cs : List Cell) → cell_faults scope P m earlier cs ≡ [] → cell_faults scope P (record m { id = name }) earlier cs ≡ []
cells_none scope P m name earlier [] e = refl
cells_none scope P m name earlier (c ∷ cs) e =
    let parts = none_parts (faults_by_type scope m earlier c (cell_type P c.kind_name)) (cell_faults scope P m (earlier ++ c ∷ []) cs) e in
    both (faults_by_type scope (record m { id = name }) earlier c (cell_type P c.kind_name)) (cell_faults scope P (record m { id = name }) (earlier ++ c ∷ []) cs)
    (type_none scope m name earlier c (cell_type P c.kind_name) parts.first) (cells_none scope P m name (earlier ++ c ∷ []) cs parts.second)

-- ---- the module

-- a module has no fault over ports that are found alike, under any name
pub over_others : (scope : Scope) (P Q : Ports) (m : Module) (name : List ℕ) → AreAlike P Q m.cells → module_faults scope P m ≡ [] → module_faults scope Q (record m { id = name }) ≡ []
over_others scope P Q m name h e =
    let n : Module = record m { id = name } in
    let wires = wire_faults m.id [] m.wires in
    let stores = flat_map (store_faults scope m.id) m.memories in
    let cells = cell_faults scope P m [] m.cells in
    let processes = process_faults scope P m [] m.processes in
    let links = link_faults m.id 1 m.links in
    let bits = bits_faults m.id (drives_of P m) 0 m.wires in
    let five = none_parts (wires ++ stores ++ cells ++ processes ++ links) bits e in
    let four = none_parts (wires ++ stores ++ cells ++ processes) links five.first in
    let three = none_parts (wires ++ stores ++ cells) processes four.first in
    let two = none_parts (wires ++ stores) cells three.first in
    let one = none_parts wires stores two.first in
    let new_wires = wire_faults name [] m.wires in
    let new_stores = flat_map (store_faults scope name) m.memories in
    let new_cells = cell_faults scope Q n [] m.cells in
    let new_processes = process_faults scope Q n [] m.processes in
    let new_links = link_faults name 1 m.links in
    let new_bits = bits_faults name (drives_of Q m) 0 m.wires in
    both (new_wires ++ new_stores ++ new_cells ++ new_processes ++ new_links) new_bits
    (both (new_wires ++ new_stores ++ new_cells ++ new_processes) new_links
    (both (new_wires ++ new_stores ++ new_cells) new_processes
    (both (new_wires ++ new_stores) new_cells
    (both new_wires new_stores (wires_none m.id name [] m.wires one.first) (stores_none scope m.id name m.memories one.second))
    (cells_none scope Q m name [] m.cells (sym (cells_over P Q scope m [] m.cells h) ∙ two.second)))
    (processes_none scope P Q m name (bad_same P Q m (kinds_alike P Q m.cells h) (drives_over P Q 0 m.cells h)) [] m.processes three.second))
    (links_none m.id name 1 m.links four.second))
    (bits_none m.id name (drives_of Q m) 0 m.wires (ap (λ (ds : List Drive). bits_faults m.id ds 0 m.wires) (sym (all_over P Q m h)) ∙ five.second))

-- an instance of a module that both name, with ports that are found alike; and one of a module that neither names
pub present_alike : (P Q : Ports) (k : List ℕ) → kind_of k ≡ None → (p q : List PortLine) → P k ≡ Some p → Q k ≡ Some q → ((name : List ℕ) → port_named p name ≡ port_named q name) → Alike (cell_type P k) (cell_type Q k)
unfolding cell_type
present_alike P Q k e p q f g same =
    subst (λ t. Alike t (cell_type Q k)) (λ i. type_by (sym e i) (sym f i) (is_unsupported k))
    (subst (λ t. Alike (Instance p) t) (λ i. type_by (sym e i) (sym g i) (is_unsupported k)) (SamePorts p q same))

pub absent_alike : (P Q : Ports) (k : List ℕ) → P k ≡ None → Q k ≡ None → Alike (cell_type P k) (cell_type Q k)
unfolding cell_type
absent_alike P Q k f g =
    subst (Alike (cell_type P k)) (ap (λ o. type_by (kind_of k) o (is_unsupported k)) (f ∙ sym g)) (SameType (cell_type P k))

-- a module that a pass may be given may be given to it over ports that are found alike, under any name
pub ready_over : (P Q : Ports) (m : Module) (name : List ℕ) → AreAlike P Q m.cells → IsReady P m → IsReady Q (record m { id = name })
ready_over P Q m name h ready = record {
  faultless = over_others without_processes P Q m name h ready.faultless;
  named = ready.named;
  within = record { cells = ready.within.cells; links = ready.within.links; processes = ready.within.processes };
  once = λ b. subst (λ (ds : List Drive). drive_count ds b ≤ 1) (all_over P Q m h) (ready.once b);
}

-- so over the ports of its table
pub faultless_under : (scope : Scope) (d : Design) → IsReadable d → faults_within scope d.modules ≡ [] → (m : Module) → In m d.modules → (name : List ℕ) → module_faults scope (table_ports (table_of d.modules m).modules) (record m { id = name }) ≡ []
faultless_under scope d readable none m i name =
    let own = none_each (module_faults scope (design_ports d.modules)) d.modules (none_parts (flat_map (module_faults scope (design_ports d.modules)) d.modules) (recursion_faults d.modules) none).first m i in
    over_others scope (design_ports d.modules) (table_ports (table_of d.modules m).modules) m name (λ c j. alike_type d.modules (sound d readable).modules m c j) own

-- nor has a bit of it two drivers, over the ports of the design
pub bits_under : (d : Design) → IsReadable d → check_faults d.modules ≡ [] → (m : Module) → In m d.modules → (name : List ℕ) → bits_faults name (drives_of (design_ports d.modules) m) 0 m.wires ≡ []
bits_under d readable none m i name =
    let own = none_each (module_faults everything (design_ports d.modules)) d.modules (none_parts (flat_map (module_faults everything (design_ports d.modules)) d.modules) (recursion_faults d.modules) none).first m i in
    bits_none m.id name (drives_of (design_ports d.modules) m) 0 m.wires (no_faults everything (design_ports d.modules) m own).bits
