-- A module whose first instance is replaced may be given to the next pass, where it and the module of the instance may.
use Rattle.std.proofs.Common.{◌≡◌, ℕ, ◌+◌, ◌-◌, ◌<◌, ◌≤◌, Bool, true, false, cond, ◌&&◌, ◌||◌, List, [], ◌∷◌, ◌++◌, length, map, Some, inl, inr, ⊎_elim, refl, sym, ◌∙◌, ap, subst, arith}
use Rattle.std.specs.Prelude.{filter, find, flat_map, nat_lt}
use Rattle.std.specs.Option.{option_map_or}
use Rattle.std.specs.Str.{bytes_eq}
use Rattle.std.proofs.lemmas.Bool.{ltb-false, ltb-true}
use Rattle.rtl_bits.specs.Numbers.{number_of}
use Rattle.rtl_sig.specs.declared.sig.SigBit.{SigBit}
use Rattle.rtl_sig.specs.declared.sig.SigBit.TheVariants.{Fixed, Wire as OnWire}
use Rattle.rtl_sig.specs.declared.sig.WireBit.{WireBit}
use Rattle.cell_types.specs.declared.param_name.ParamName.TheVariants as Param
use Rattle.cell_types.specs.Given.{value_in}
use Rattle.rtl_ir.specs.declared.cell.Cell.{Cell}
use Rattle.rtl_ir.specs.declared.cell.Pin.{Pin}
use Rattle.rtl_ir.specs.declared.module.Link.{Link}
use Rattle.rtl_ir.specs.declared.module.Module.{Module}
use Rattle.rtl_ir.specs.declared.store.Store.{Store}
use Rattle.rtl_ir.specs.Build.{Building}
use Rattle.rtl_ir.specs.Drivers.{drive_count, drives_of, port_drives}
use Rattle.rtl_ir.specs.Fault.{BadMemory, fault_if, spot}
use Rattle.rtl_ir.specs.Faults.Bits.{bits_faults}
use Rattle.rtl_ir.specs.Faults.Cells.{cell_faults}
use Rattle.rtl_ir.specs.Faults.Processes.{process_faults}
use Rattle.rtl_ir.specs.Faults.Stores.{is_bad_store, store_faults}
use Rattle.rtl_ir.specs.Faults.Wires.{wire_faults}
use Rattle.rtl_ir.specs.Flat.Cell.{cell_kind}
use Rattle.rtl_ir.specs.Parameters.{given_params, signal_at}
use Rattle.rtl_ir.specs.Ports.{ports_of}
use Rattle.rtl_ir.specs.Scope.{without_processes}
use Rattle.rtl_ir.specs.Signals.{constant_of, is_all_constant, wire_bits}
use Rattle.rtl_ir.specs.Types.{Instance, Ports, cell_type, port_lines}
use Rattle.rtl_ir.specs.WritePorts.{is_of_memory, is_write_cell}
use Rattle.net_model.specs.Lists.{Distinct, In}
use Rattle.net_model.specs.Within.{SigIn}
use Rattle.net_model.proofs.Members.{In-cases, In-left, In-mapped, In-right}
use Rattle.net_model.proofs.Ranges.{signal_in}
use Rattle.pass_laws.specs.Bits.{cells_bits, links_bits, pin_bits}
use Rattle.pass_laws.specs.Ready.{IsReady}
use Rattle.pass_laws.specs.Replaces.{IsEven}
use Rattle.pass_laws.proofs.Accesses.{AreAccesses, accesses_join, accesses_split, none_there, writes_to}
use Rattle.pass_laws.proofs.Alone.{HasPorts, IsSound, is_false, no_link_faults}
use Rattle.pass_laws.proofs.Counting.{bits_of, cells_more, count, count_more, driven_count, links_more}
use Rattle.pass_laws.proofs.Faultless.{HasNoFaults, no_faults, none_left, none_right}
use Rattle.pass_laws.proofs.Forming.{all_none, own_accesses, own_cells, own_links}
use Rattle.pass_laws.proofs.Widening.{more_drives, more_faults}
use Rattle.flat_pass.specs.Copies.{Copying, copied_link, copied_pin, copied_signal, renamed}
use Rattle.flat_pass.specs.Flat.{port_links, put_all, put_cell}
use Rattle.flat_pass.proofs.Closed.{stored, wired}
use Rattle.flat_pass.proofs.Partners.{CellCopied, PairIn, Paired, StoreCopied, WireCopied, cells_paired, paired_back, paired_map, pairs_in, picked_none, picked_same, store_name, stores_paired, values_copied, wires_paired}
use Rattle.flat_pass.proofs.Taking.{Split, rest_in, taken_in}
use Rattle.flat_pass.proofs.RowsGo.{flat_map-append}
use Rattle.flat_pass.proofs.Fresh.{IsFresh}
use Rattle.flat_pass.proofs.Melting.{instance_fails, write_kind}
use Rattle.flat_pass.proofs.Melted.{HasNames, IsPlain, after, around, by_copying, cells_new, copied_names, copying_new, new_apart, new_stores, not_both, stores_new, wires_new}
use Rattle.flat_pass.proofs.Steps.{after_names, after_plain, stores_distinct}
use Rattle.flat_pass.proofs.OneGoes.{new_inner}
use Rattle.flat_pass.proofs.Sound.{copied_sound}
use Rattle.flat_pass.proofs.Accessed.{SameAccess, StandsFor, SameTaken, accesses_for, has_number, number-append, store_found}
use Rattle.flat_pass.proofs.Evened.{copied_even, instance_ports, instance_type, ports_even}
use Rattle.flat_pass.proofs.BitsOnce.{bit_at, cells_counted, cells_zero, copied_high, less_less, links_counted, links_zero, ports_low, signal_low}
use Rattle.flat_pass.proofs.BitsPorts.{outside_counted, pins_counted}
use Rattle.flat_pass.proofs.BitsFine.{SameWidth, both_fine, same_widths, wires_fine}

-- copies of memories
stores_fine : (id id' : List ℕ) (ss ts : List Store) → Paired StoreCopied ss ts → flat_map (store_faults without_processes id) ss ≡ [] → flat_map (store_faults without_processes id') ts ≡ []
stores_fine id id' [] [] h e = refl
stores_fine id id' (s ∷ ss) (t ∷ ts) h e =
    let old = store_faults without_processes id s in
    let good : is_bad_store s ≡ false = is_false (is_bad_store s) (BadMemory (spot id s.name)) (none_left old (flat_map (store_faults without_processes id) ss) e) in
    let here : store_faults without_processes id' t ≡ [] = ap (λ z. fault_if (is_bad_store z) (BadMemory (spot id' t.name))) h.0 ∙ ap (λ z. fault_if z (BadMemory (spot id' t.name))) good in
    let rest = stores_fine id id' ss ts h.1 (none_right old (flat_map (store_faults without_processes id) ss) e) in
    λ i. here i ++ rest i
stores_fine id id' [] (t ∷ ts) h e = absurd h
stores_fine id id' (s ∷ ss) [] h e = absurd h

-- signals of copied pins
signal_of : (first : ℕ) (pins : List Pin) (name : List ℕ) → signal_at (map (copied_pin first) pins) name ≡ copied_signal first (signal_at pins name)
signal_of first [] name = refl
signal_of first (q ∷ pins) name = by (bytes_eq q.name name) (signal_of first pins name)
  where
    by : (b : Bool) → signal_at (map (copied_pin first) pins) name ≡ copied_signal first (signal_at pins name) → option_map_or (λ (r : Pin). r.sig) (cond b (Some (copied_pin first q)) (find (λ (r : Pin). bytes_eq r.name name) (map (copied_pin first) pins))) [] ≡ copied_signal first (option_map_or (λ (r : Pin). r.sig) (cond b (Some q) (find (λ (r : Pin). bytes_eq r.name name) pins)) [])
    by true h = refl
    by false h = h

constants_of : (first : ℕ) (ss : List SigBit) → map constant_of (copied_signal first ss) ≡ map constant_of ss
constants_of first [] = refl
constants_of first (Fixed b ∷ ss) = ap (λ z. b ∷ z) (constants_of first ss)
constants_of first (OnWire b ∷ ss) = ap (λ z. constant_of (OnWire b) ∷ z) (constants_of first ss)

all_constant : (first : ℕ) (ss : List SigBit) → is_all_constant (copied_signal first ss) ≡ is_all_constant ss
all_constant first [] = refl
all_constant first (Fixed b ∷ ss) = all_constant first ss
all_constant first (OnWire b ∷ ss) = refl

module _ (ports : Ports) (bb : Building) (f : Cell) (rest : List Cell) (n : Module) (taken : Split f rest bb.body.cells) (body : IsPlain bb.body) (child : IsPlain n) (names : HasNames n) (own_names : HasNames bb.body) (fresh : IsFresh bb) (few : (put_all (put_cell (copying_new bb f rest n)) n.cells (stored n f (around bb f rest n))).next ≤ 1000000000) (apart : f.kind_name ≡ bb.body.id → ⊥) (ready : IsReady ports bb.body) (inner : IsReady ports n) (known : ports f.kind_name ≡ Some (port_lines n.wires)) where
  abbrev c : Module
  c = after bb f rest n

  abbrev k : Copying
  k = copying_new bb f rest n

  abbrev new : List ℕ → List ℕ
  new = renamed k.memories k.copies

  c_stores : Distinct (map store_name (after bb f rest n).memories)
  c_stores = stores_distinct bb f rest n taken body child names own_names fresh few

  none : HasNoFaults without_processes ports bb.body
  none = no_faults without_processes ports bb.body ready.faultless

  none_inner : HasNoFaults without_processes ports n
  none_inner = no_faults without_processes ports n inner.faultless

  wires_none : wire_faults bb.body.id [] (bb.body.wires ++ wires_new bb f rest n) ≡ []
  wires_none = more_faults bb.body.id [] bb.body.wires (wires_new bb f rest n) (new_inner bb f rest n) ∙ none.wires

  stores_none : flat_map (store_faults without_processes bb.body.id) (bb.body.memories ++ stores_new bb f rest n) ≡ []
  stores_none =
      flat_map-append (store_faults without_processes bb.body.id) bb.body.memories (stores_new bb f rest n)
      ∙ (λ i. none.stores i ++ stores_fine n.id bb.body.id n.memories (stores_new bb f rest n) (stores_paired f.name n.memories (wired n f (around bb f rest n))) none_inner.stores i)

  -- cells
  copied_from : (y : Cell) → In y (cells_new bb f rest n) → (x : Cell) × In x n.cells × CellCopied k x y
  copied_from y i = paired_back (CellCopied k) n.cells (cells_new bb f rest n) (cells_paired k n.cells (stored n f (around bb f rest n))) y i

  sound : (y : Cell) → In y (rest ++ cells_new bb f rest n) → IsSound ports y
  sound y i =
      ⊎_elim
      (λ l. own_cells ports bb.body ready y (rest_in f rest bb.body.cells taken y l))
      (λ r. let x = copied_from y r in copied_sound ports k x.0 y x.2 (own_cells ports n inner x.0 x.1))
      (In-cases y rest (cells_new bb f rest n) i)

  kept_stands : (x : Cell) → In x bb.body.cells → StandsFor ports bb.body (after bb f rest n) (λ z. z) x x
  kept_stands x i = record {
    kind = refl;
    writes = λ s j. refl;
    port = refl;
    memory = λ kind e. let s = body.cells x i kind e in
        (s.0, s.0, s.1, refl, s.2, store_found bb.body.memories own_names.memories s.0 s.1, s.2, store_found (after bb f rest n).memories c_stores s.0 (In-left s.0 bb.body.memories (stores_new bb f rest n) s.1), record { store = refl; values = λ name m. refl; constants = λ name. refl; fixed = λ name. refl });
  }

  all_kept : (xs : List Cell) → ((x : Cell) → In x xs → In x bb.body.cells) → Paired (StandsFor ports bb.body (after bb f rest n) (λ z. z)) xs xs
  all_kept [] h = tt
  all_kept (x ∷ xs) h = (kept_stands x (h x (inl refl)), all_kept xs (λ y i. h y (inr i)))

  -- the instance is no write port
  no_number : (s : Store) (number : ℕ) → has_number number (filter (writes_to s.name) (taken.pre ++ f ∷ [])) ≡ has_number number (filter (writes_to s.name) taken.pre)
  no_number s number =
      number-append number s.name taken.pre (f ∷ [])
      ∙ ap (λ t. has_number number (filter (writes_to s.name) taken.pre) || has_number number (cond (t && is_of_memory s.name f) (f ∷ []) [])) (instance_fails (λ (x : Cell). is_write_cell x.kind_name) write_kind f taken.kind)
      ∙ or_false (has_number number (filter (writes_to s.name) taken.pre))
    where
      or_false : (t : Bool) → (t || false) ≡ t
      or_false true = refl
      or_false false = refl

  pre_in : (x : Cell) → In x taken.pre → In x bb.body.cells
  pre_in x i = subst (In x) (sym taken.all) (In-left x taken.pre (f ∷ taken.post) i)

  post_in : (x : Cell) → In x taken.post → In x bb.body.cells
  post_in x i = subst (In x) (sym taken.all) (In-right x taken.pre (f ∷ taken.post) (inr i))

  kept_accesses : AreAccesses ports (after bb f rest n) [] rest
  kept_accesses =
      let all : AreAccesses ports bb.body [] (taken.pre ++ f ∷ taken.post) = subst (AreAccesses ports bb.body []) taken.all (own_accesses ports bb.body ready) in
      let parts = accesses_split ports bb.body [] taken.pre (f ∷ taken.post) all in
      let first = accesses_for ports bb.body (after bb f rest n) (λ z. z) [] [] taken.pre taken.pre (all_kept taken.pre pre_in) (λ s i number. refl) parts.0 in
      let second = accesses_for ports bb.body (after bb f rest n) (λ z. z) (taken.pre ++ f ∷ []) taken.pre taken.post taken.post (all_kept taken.post post_in) (λ s i number. sym (no_number s number)) parts.1.1 in
      subst (AreAccesses ports (after bb f rest n) []) (sym taken.others) (accesses_join ports (after bb f rest n) [] taken.pre taken.post first second)

  same_access : (s : Store) (x : Cell) (t : Store) (y : Cell) → StoreCopied s t → CellCopied k x y → SameAccess s x t y
  same_access s x t y e h = record {
    store = e;
    values = λ name m. ap (λ z. value_in (given_params z) name) h.params ∙ values_copied k (cell_kind x) name m x.params;
    constants = λ name. ap (λ z. map constant_of (signal_at z name)) h.pins ∙ ap (map constant_of) (signal_of k.first x.pins name) ∙ constants_of k.first (signal_at x.pins name);
    fixed = λ name. ap (λ z. is_all_constant (signal_at z name)) h.pins ∙ ap is_all_constant (signal_of k.first x.pins name) ∙ all_constant k.first (signal_at x.pins name);
  }

  copied_stands : (x y : Cell) → PairIn (CellCopied k) n.cells (cells_new bb f rest n) x y → StandsFor ports n (after bb f rest n) new x y
  copied_stands x y h = record {
    kind = h.2.kind;
    writes = λ s i. picked_same (λ (z : Cell). is_write_cell z.kind_name) write_kind k n.memories (new_apart bb f rest n taken body child names c_stores own_names.instances apart) s i n.cells child.cells x y h.0 h.2;
    port = ap number_of (ap (λ z. value_in (given_params z) Param.Portid) h.2.params ∙ values_copied k (cell_kind x) Param.Portid refl x.params);
    memory = λ kind e. let s = child.cells x h.0 kind e in
        let t = new_stores bb f rest n taken body child names c_stores own_names.instances apart s.0 s.1 in
        let named : new s.0.name ≡ t.0.name = by_copying bb f rest n taken body child names c_stores own_names.instances apart s.0.name ∙ t.3 in
        (s.0, t.0, s.1, named, s.2, store_found n.memories names.memories s.0 s.1, copied_names bb f rest n taken body child names c_stores own_names.instances apart x y kind h.2 e s.0 t.0 t.3 s.2, store_found (after bb f rest n).memories c_stores t.0 (In-right t.0 bb.body.memories (stores_new bb f rest n) t.1), same_access s.0 x t.0 y t.2 h.2);
  }

  none_taken : SameTaken ports n (after bb f rest n) new [] rest
  none_taken s i number =
      let t = new_stores bb f rest n taken body child names c_stores own_names.instances apart s i in
      let named : new s.name ≡ t.0.name = by_copying bb f rest n taken body child names c_stores own_names.instances apart s.name ∙ t.3 in
      ap (has_number number) (picked_none (λ (z : Cell). is_write_cell z.kind_name) write_kind bb.body.memories (new s.name) (λ u j e. not_both bb f rest n taken body child names c_stores own_names.instances apart u t.0 j t.1 (sym e ∙ named)) rest (λ x j. body.cells x (rest_in f rest bb.body.cells taken x j)))

  new_accesses : AreAccesses ports (after bb f rest n) rest (cells_new bb f rest n)
  new_accesses =
      accesses_for ports n (after bb f rest n) new [] rest n.cells (cells_new bb f rest n) (paired_map (PairIn (CellCopied k) n.cells (cells_new bb f rest n)) (StandsFor ports n (after bb f rest n) new) copied_stands n.cells (cells_new bb f rest n) (pairs_in (CellCopied k) n.cells (cells_new bb f rest n) (cells_paired k n.cells (stored n f (around bb f rest n))))) none_taken (own_accesses ports n inner)

  cells_none : cell_faults without_processes ports (after bb f rest n) [] (rest ++ cells_new bb f rest n) ≡ []
  cells_none =
      none_there ports (after bb f rest n) [] (rest ++ cells_new bb f rest n) sound (accesses_join ports (after bb f rest n) [] rest (cells_new bb f rest n) kept_accesses new_accesses)

  -- connections
  fits : HasPorts f (port_lines n.wires)
  fits =
      instance_ports ports f (port_lines n.wires) taken.kind known (own_cells ports bb.body ready f (taken_in f rest bb.body.cells taken))

  even : (l : Link) → In l (after bb f rest n).links → IsEven l
  even l i =
      let copies = map (copied_link (length bb.body.wires)) n.links in
      let new_ports = flat_map (port_links (length bb.body.wires) n.wires f.pins) (ports_of n.wires) in
      ⊎_elim
      (λ a. own_links ports bb.body ready l a)
      (λ r. ⊎_elim
      (λ a. let x = In-mapped (copied_link (length bb.body.wires)) l n.links a in
      subst IsEven (sym x.2) (copied_even (length bb.body.wires) x.0 (own_links ports n inner x.0 x.1)))
      (λ a. ports_even f.pins n.wires names.wires fits.widths fits.output (length bb.body.wires) l a)
      (In-cases l copies new_ports r))
      (In-cases l bb.body.links (copies ++ new_ports) i)

  processes_none : process_faults without_processes ports (after bb f rest n) [] bb.body.processes ≡ []
  processes_none = ap (process_faults without_processes ports (after bb f rest n) []) body.processes

  -- bits
  abbrev first : ℕ
  first = length bb.body.wires

  abbrev port_new : List Link
  port_new = flat_map (port_links (length bb.body.wires) n.wires f.pins) (ports_of n.wires)

  after_count : (b : WireBit) → drive_count (drives_of ports (after bb f rest n)) b ≡ count b (bits_of (port_drives 0 bb.body.wires)) + (count b (cells_bits ports rest) + count b (cells_bits ports (cells_new bb f rest n)) + (count b (links_bits bb.body.links) + (count b (links_bits (map (copied_link (length bb.body.wires)) n.links)) + count b (links_bits port_new))))
  after_count b =
      let copies = map (copied_link (length bb.body.wires)) n.links in
      let all = driven_count ports (after bb f rest n) body.processes even b in
      let outside = ap (λ z. count b (bits_of z)) (more_drives 0 bb.body.wires (wires_new bb f rest n) (new_inner bb f rest n)) in
      let sum = count_more b (cells_bits ports (rest ++ cells_new bb f rest n)) (links_bits (bb.body.links ++ (copies ++ port_new))) in
      let cells = ap (count b) (cells_more ports rest (cells_new bb f rest n)) in
      let cells_sum = count_more b (cells_bits ports rest) (cells_bits ports (cells_new bb f rest n)) in
      let links = ap (count b) (links_more bb.body.links (copies ++ port_new)) in
      let links_sum = count_more b (links_bits bb.body.links) (links_bits (copies ++ port_new)) in
      let more = ap (count b) (links_more copies port_new) in
      let more_sum = count_more b (links_bits copies) (links_bits port_new) in
      omega (arith, all, outside, sum, cells, cells_sum, links, links_sum, more, more_sum)

  before_count : (b : WireBit) → drive_count (drives_of ports bb.body) b ≡ count b (bits_of (port_drives 0 bb.body.wires)) + (count b (cells_bits ports rest) + count b (pin_bits (Instance (port_lines n.wires)) f.pins) + count b (links_bits bb.body.links))
  before_count b =
      let all = driven_count ports bb.body body.processes (own_links ports bb.body ready) b in
      let sum = count_more b (cells_bits ports bb.body.cells) (links_bits bb.body.links) in
      let cells = ap (λ z. count b (cells_bits ports z)) taken.all in
      let split = ap (count b) (cells_more ports taken.pre (f ∷ taken.post)) in
      let split_sum = count_more b (cells_bits ports taken.pre) (cells_bits ports (f ∷ taken.post)) in
      let one = count_more b (pin_bits (cell_type ports f.kind_name) f.pins) (cells_bits ports taken.post) in
      let type = ap (λ z. count b (pin_bits z f.pins)) (instance_type ports f (port_lines n.wires) taken.kind known) in
      let less = ap (λ z. count b (cells_bits ports z)) taken.others in
      let less_split = ap (count b) (cells_more ports taken.pre taken.post) in
      let less_sum = count_more b (cells_bits ports taken.pre) (cells_bits ports taken.post) in
      omega (arith, all, sum, cells, split, split_sum, one, type, less, less_split, less_sum)

  inner_count : (b : WireBit) → drive_count (drives_of ports n) b ≡ count b (bits_of (port_drives 0 n.wires)) + (count b (cells_bits ports n.cells) + count b (links_bits n.links))
  inner_count b =
      let all = driven_count ports n child.processes (own_links ports n inner) b in
      let sum = count_more b (cells_bits ports n.cells) (links_bits n.links) in
      omega (arith, all, sum)

  own_fewer : (wire at : ℕ) → wire < length bb.body.wires → drive_count (drives_of ports (after bb f rest n)) (bit_at (0 + wire) at) ≤ drive_count (drives_of ports bb.body) (bit_at wire at)
  own_fewer wire at low =
      let b = bit_at wire at in
      let same : 0 + wire ≡ wire = omega arith in
      let here = ap (λ z. drive_count (drives_of ports (after bb f rest n)) (bit_at z at)) same in
      let now = after_count b in
      let was = before_count b in
      let cells : count b (cells_bits ports (cells_new bb f rest n)) ≡ 0 = cells_zero b ports (cells_new bb f rest n) (λ y i p j. let x = copied_from y i in
      let q = In-mapped (copied_pin (length bb.body.wires)) p x.0.pins (subst (In p) x.2.pins j) in
      ap (λ (z : Pin). count b (wire_bits z.sig)) q.2 ∙ copied_high b (length bb.body.wires) low q.0.sig) in
      let links : count b (links_bits (map (copied_link (length bb.body.wires)) n.links)) ≡ 0 = links_zero b (map (copied_link (length bb.body.wires)) n.links) (λ l i. let q = In-mapped (copied_link (length bb.body.wires)) l n.links i in
      ap (λ (z : Link). count b (wire_bits z.left)) q.2 ∙ copied_high b (length bb.body.wires) low q.0.left) in
      let pins = pins_counted b n.wires names.wires (length bb.body.wires) low f.pins in
      omega (arith, here, now, was, cells, links, pins)

  pins_within : (name : List ℕ) → SigIn (length bb.body.wires) (signal_at f.pins name)
  pins_within name = signal_in (length bb.body.wires) f.pins name (body.within.cells f (taken_in f rest bb.body.cells taken))

  copied_fewer : (wire at : ℕ) → drive_count (drives_of ports (after bb f rest n)) (bit_at (length bb.body.wires + wire) at) ≤ drive_count (drives_of ports n) (bit_at wire at)
  copied_fewer wire at =
      let b = bit_at (length bb.body.wires + wire) at in
      let high : length bb.body.wires ≤ b.wire = omega arith in
      let now = after_count b in
      let was = inner_count (bit_at wire at) in
      let outside : count b (bits_of (port_drives 0 bb.body.wires)) ≡ 0 = ports_low b 0 bb.body.wires (omega arith) in
      let rests : count b (cells_bits ports rest) ≡ 0 = cells_zero b ports rest (λ x i p j. signal_low b (length bb.body.wires) high p.sig (body.within.cells x (rest_in f rest bb.body.cells taken x i) p j)) in
      let olds : count b (links_bits bb.body.links) ≡ 0 = links_zero b bb.body.links (λ l i. signal_low b (length bb.body.wires) high l.left (body.within.links l i).0) in
      let cells = cells_counted (length bb.body.wires) wire at ports k refl n.cells (cells_new bb f rest n) (cells_paired k n.cells (stored n f (around bb f rest n))) in
      let links = links_counted (length bb.body.wires) wire at n.links in
      let given = outside_counted (length bb.body.wires) wire at n.wires names.wires f.pins pins_within in
      omega (arith, now, was, outside, rests, olds, cells, links, given)

  new_fewer : (wire at : ℕ) → wire < length n.wires → drive_count (drives_of ports (after bb f rest n)) (bit_at (length bb.body.wires + wire) at) ≤ drive_count (drives_of ports n) (bit_at wire at)
  new_fewer wire at low = copied_fewer wire at

  once_after : (b : WireBit) → drive_count (drives_of ports (after bb f rest n)) b ≤ 1
  once_after b = by (nat_lt b.wire first) refl
    where
      at_wire : (wire : ℕ) → wire ≡ b.wire → drive_count (drives_of ports (after bb f rest n)) (bit_at wire b.at) ≤ 1 → drive_count (drives_of ports (after bb f rest n)) b ≤ 1
      at_wire wire e h = subst (λ z. drive_count (drives_of ports (after bb f rest n)) (bit_at z b.at) ≤ 1) e h

      by : (t : Bool) → nat_lt b.wire first ≡ t → drive_count (drives_of ports (after bb f rest n)) b ≤ 1
      by true q =
          at_wire (0 + b.wire) (omega arith) (less_less (own_fewer b.wire b.at (ltb-true b.wire first q)) (ready.once (bit_at b.wire b.at)))
      by false q =
          let high = ltb-false b.wire first q in
          at_wire (first + (b.wire - first)) (omega (arith, high)) (less_less (copied_fewer (b.wire - first) b.at) (inner.once (bit_at (b.wire - first) b.at)))

  copied_widths : Paired SameWidth n.wires (wires_new bb f rest n)
  copied_widths =
      paired_map WireCopied SameWidth (λ w v h. h.1) n.wires (wires_new bb f rest n) (wires_paired f.name n.wires (around bb f rest n))

  bits_none : bits_faults bb.body.id (drives_of ports (after bb f rest n)) 0 (bb.body.wires ++ wires_new bb f rest n) ≡ []
  bits_none =
      let own : bits_faults bb.body.id (drives_of ports (after bb f rest n)) (0 + 0) bb.body.wires ≡ [] = wires_fine bb.body.id bb.body.id (drives_of ports bb.body) (drives_of ports (after bb f rest n)) 0 (length bb.body.wires) own_fewer 0 bb.body.wires bb.body.wires (same_widths bb.body.wires) (omega arith) none.bits in
      let news : bits_faults bb.body.id (drives_of ports (after bb f rest n)) (length bb.body.wires + 0) (wires_new bb f rest n) ≡ [] = wires_fine n.id bb.body.id (drives_of ports n) (drives_of ports (after bb f rest n)) (length bb.body.wires) (length n.wires) new_fewer 0 n.wires (wires_new bb f rest n) copied_widths (omega arith) none_inner.bits in
      let zero_is : 0 + 0 ≡ 0 = omega arith in
      let next : length bb.body.wires + 0 ≡ 0 + length bb.body.wires = omega arith in
      both_fine bb.body.id (drives_of ports (after bb f rest n)) 0 bb.body.wires (wires_new bb f rest n) (subst (λ z. bits_faults bb.body.id (drives_of ports (after bb f rest n)) z bb.body.wires ≡ []) zero_is own) (subst (λ z. bits_faults bb.body.id (drives_of ports (after bb f rest n)) z (wires_new bb f rest n) ≡ []) next news)

  pub after_ready : IsReady ports (after bb f rest n)
  after_ready = record {
    faultless = all_none wires_none stores_none cells_none processes_none (no_link_faults bb.body.id 1 (after bb f rest n).links even) bits_none;
    named = (after_names bb f rest n taken body child names own_names fresh few).wires;
    within = (after_plain bb f rest n taken body child names own_names fresh few apart).within;
    once = once_after;
  }
