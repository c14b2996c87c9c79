-- The ports of a memory of a module without faults fit its words, and so does all that is built for it.
use Rattle.std.proofs.Common.{◌≡◌, ◌<◌, ◌≤◌, ℕ, zero, suc, ◌+◌, Bool, true, false, ◌||◌, List, [], ◌∷◌, ◌++◌, length, Option, Some, None, if◌then◌else◌, inl, inr, refl, sym, ◌∙◌, ap, subst, arith}
use Rattle.std.specs.Prelude.{◌==◌, ◌&&◌, find, map, nat_lt, not}
use Rattle.std.specs.List.{list_any}
use Rattle.std.specs.Option.{option_and_then, option_map_or}
use Rattle.std.specs.Str.{bytes_eq}
use Rattle.std.proofs.lemmas.Bool.{and_parts, eqb-false, eqb-true, ltb-false, ltb-true, or_parts}
use Rattle.std.proofs.lemmas.Slice.Eq.{bytes_eq-Decides}
use Rattle.std.proofs.lemmas.List.FromFn.{length-map-range_with_len}
use Rattle.cell_types.specs.PinName.{pin_text}
use Rattle.cell_types.specs.Params.{params_of}
use Rattle.cell_types.specs.Given.{value_in}
use Rattle.cell_types.specs.Reading.{is_readable}
use Rattle.cell_types.specs.declared.kind.CellKind.{CellKind}
use Rattle.cell_types.specs.declared.kind.CellKind.TheVariants.{Word, Gate, Storage, StorageGate, Memory}
use Rattle.cell_types.specs.declared.memory.MemoryKind.{MemoryKind}
use Rattle.cell_types.specs.declared.memory.MemoryKind.TheVariants.{Memrd, MemrdV2, MemwrV2, Meminit, MeminitV2}
use Rattle.cell_types.specs.declared.param_name.ParamName.TheVariants as Param
use Rattle.cell_types.specs.declared.pin_name.PinName.TheVariants.{Addr, Data, En}
use Rattle.rtl_bits.specs.Knowledge.{all_known}
use Rattle.rtl_ir.specs.Build.{building_of}
use Rattle.rtl_ir.specs.Fault.{BadMemory, BadPort, Fault, Spot, UnsupportedCell, fault_if, spot}
use Rattle.rtl_ir.specs.Faults.Cells.{has_constant_output, is_memory_kind, memory_faults, misfit, output_faults, shape_fault}
use Rattle.rtl_ir.specs.Faults.MemoryCells.{is_bad_access, is_bad_in, is_bad_memory_cell, is_unlike, number_at, store_named}
use Rattle.rtl_ir.specs.Flat.Access.{cell_access, cell_accesses}
use Rattle.rtl_ir.specs.Flat.Cell.{cell_kind}
use Rattle.rtl_ir.specs.Flat.Memory.{addresses_of, is_read_kind}
use Rattle.rtl_ir.specs.Parameters.{given_params, memory_name, signal_at}
use Rattle.rtl_ir.specs.Scope.{without_processes}
use Rattle.rtl_ir.specs.Signals.{has_constant}
use Rattle.rtl_ir.specs.Types.{Library, Ports}
use Rattle.rtl_ir.specs.WritePorts.{cell_ports, is_of_memory}
use Rattle.rtl_ir.specs.declared.cell.Cell.{Cell}
use Rattle.rtl_ir.specs.declared.cell.Pin.{Pin}
use Rattle.rtl_ir.specs.declared.module.Module.{Module}
use Rattle.rtl_ir.specs.declared.plan.ReadPort.{ReadPort}
use Rattle.rtl_ir.specs.declared.plan.WritePort.{WritePort}
use Rattle.rtl_ir.specs.declared.store.Store.{Store}
use Rattle.net_model.proofs.Members.{In-mapped}
use Rattle.net_model.specs.Lists.{Distinct, In}
use Rattle.net_model.specs.Mem.Expand.{memory_step}
use Rattle.net_model.specs.Mem.Gather.{gathered, read_port, read_ports, write_port}
use Rattle.net_model.specs.Within.{Each}
use Rattle.pass_laws.proofs.Faultless.{all_fine, fits, library_faults, no_cell_faults, no_faults, none_right}
use Rattle.pass_laws.specs.Ready.{IsReady}
use Rattle.memory_laws.proofs.Faultless.{no_fault, one_named, write_kind}
use Rattle.pass_laws.proofs.Finding.{found_there}
use Rattle.memory_laws.proofs.FittingSteps.{AreFit, ReadFits, WriteFits, memory_fits}
use Rattle.pass_laws.proofs.PinWidths.{param_reads, pin_fits, shape_of}
use Rattle.memory_laws.proofs.PlanIn.{access_cell}

not_true : (t : Bool) → not t ≡ false → t ≡ true
not_true true e = refl
not_true false e = absurd (cc)

-- the pin of a name has no constant where none of this name has
free_of : (name : List ℕ) (pins : List Pin) → list_any (λ (p : Pin). bytes_eq p.name name && has_constant p.sig) pins ≡ false → has_constant (signal_at pins name) ≡ false
free_of name [] e = refl
free_of name (p ∷ pins) e =
    let both = or_parts (bytes_eq p.name name && has_constant p.sig) (list_any (λ (q : Pin). bytes_eq q.name name && has_constant q.sig) pins) e in
    by (bytes_eq p.name name) both.0 (free_of name pins both.1)
  where
    by : (t : Bool) → (t && has_constant p.sig) ≡ false → has_constant (signal_at pins name) ≡ false → has_constant (option_map_or (λ (q : Pin). q.sig) (if t then Some p else find (λ (q : Pin). bytes_eq q.name name) pins) []) ≡ false
    by true f h = f
    by false f h = h

-- the sizes of a cell of a memory
record HasSizes (s : Store) (c : Cell) : Type 0 where
  width : number_at c Param.Width ≡ s.width
  some : 0 < number_at c Param.Abits
  few : number_at c Param.Abits ≤ 32

module _ (ports : Ports) (m : Module) (ready : IsReady ports m) (distinct : Distinct (map (λ (r : Store). r.name) m.memories)) (s : Store) (there : In s m.memories) where
  sizes_of : (c : Cell) → is_unlike s c ≡ false → HasSizes s c
  sizes_of c unlike =
      let first = or_parts (not (number_at c Param.Width == s.width) || (number_at c Param.Abits == 0)) (nat_lt 32 (number_at c Param.Abits)) unlike in
      let second = or_parts (not (number_at c Param.Width == s.width)) (number_at c Param.Abits == 0) first.0 in
      let other = eqb-false (number_at c Param.Abits) 0 second.1 in
      record {
        width = eqb-true (number_at c Param.Width) s.width (not_true (number_at c Param.Width == s.width) second.0);
        some = by (number_at c Param.Abits) second.1;
        few = ltb-false 32 (number_at c Param.Abits) first.1;
      }
    where
      by : (n : ℕ) → (n == 0) ≡ false → 0 < n
      by zero e = absurd (cc)
      by (suc n) e = omega arith

  -- a cell of the memory is like it
  like : (kind : MemoryKind) (earlier : List Cell) (c : Cell) → is_of_memory s.name c ≡ true → is_bad_memory_cell false m earlier c kind ≡ false → is_unlike s c ≡ false
  like kind earlier c of good = by (memory_name c.params) of good
    where
      found : (q : List ℕ) → s.name ≡ q → (o : Option Store) → store_named m.memories q ≡ o → option_map_or (is_bad_in false m earlier c kind) o true ≡ false → is_unlike s c ≡ false
      found q is None e f = absurd (cc)
      found q is (Some r) e f =
          let k = found_there (λ (z : Store). bytes_eq z.name q) m.memories r e in
          let same : r ≡ s = one_named m.memories distinct r s k.0 there ((bytes_eq-Decides r.name q).0 k.1 ∙ sym is) in
          subst (λ (z : Store). is_unlike z c ≡ false) same (or_parts (is_unlike r c) (is_bad_access false m.links (cell_ports m.links r.name earlier) r c kind) f).0

      by : (o : Option (List ℕ)) → option_map_or (bytes_eq s.name) o false ≡ true → option_map_or (is_bad_in false m earlier c kind) (option_and_then (store_named m.memories) o) true ≡ false → is_unlike s c ≡ false
      by None e f = absurd (cc)
      by (Some q) e f = found q ((bytes_eq-Decides s.name q).0 e) (store_named m.memories q) refl f

  -- what a cell of the memory has
  record HasParts (kind : MemoryKind) (c : Cell) : Type 0 where
    shape : misfit (Memory kind) c ≡ None
    output : has_constant_output (Library (Memory kind)) c.pins ≡ false
    sizes : HasSizes s c

  parts_of : (kind : MemoryKind) (c : Cell) → In c m.cells → cell_kind c ≡ Some (Memory kind) → is_of_memory s.name c ≡ true → HasParts kind c
  parts_of kind c i own of =
      let fine = all_fine without_processes ports m [] m.cells (no_faults without_processes ports m ready.faultless).cells c i in
      let none = no_cell_faults without_processes ports m fine.0 c (Memory kind) own fine.1 in
      let here : Spot = spot m.id c.name in
      let k : List Fault = fault_if (is_memory_kind (Memory kind) && not true) (UnsupportedCell here) in
      let all = sym (library_faults without_processes ports m fine.0 c (Memory kind) own) ∙ fine.1 in
      let last : memory_faults false m fine.0 c (Memory kind) ≡ [] = none_right ((k ++ shape_fault here (misfit (Memory kind) c)) ++ output_faults here (Library (Memory kind)) c.pins) (memory_faults false m fine.0 c (Memory kind)) all in
      record {
        shape = fits here c (Memory kind) none.shape;
        output = no_fault (has_constant_output (Library (Memory kind)) c.pins) (BadPort here) none.output;
        sizes = sizes_of c (like kind fine.0 c of (no_fault (is_bad_memory_cell false m fine.0 c kind) (BadMemory here) last));
      }

  -- its words have 1 to 4,096 bits
  words_some : (kind : MemoryKind) (c : Cell) → HasParts kind c → is_readable (Memory kind) (given_params c.params) Param.Width ≡ (all_known (value_in (given_params c.params) Param.Width) && nat_lt 0 (number_at c Param.Width)) → In Param.Width (params_of (Memory kind)) → (0 < s.width) × (s.width ≤ 4096)
  words_some kind c h reading i =
      let both = and_parts (all_known (value_in (given_params c.params) Param.Width)) (nat_lt 0 (number_at c Param.Width)) (sym reading ∙ param_reads (Memory kind) c Param.Width h.shape i) in
      let positive : 0 < number_at c Param.Width = ltb-true 0 (number_at c Param.Width) both.1 in
      let narrow : number_at c Param.Width ≤ 4096 = ltb-false 4096 (number_at c Param.Width) (shape_of (Memory kind) c h.shape).narrow in
      (subst (λ n. 0 < n) h.sizes.width positive, subst (λ n. n ≤ 4096) h.sizes.width narrow)

  write_fits : (c : Cell) → HasParts MemwrV2 c → WriteFits s.width (write_port (cell_access c)) × (0 < s.width) × (s.width ≤ 4096)
  write_fits c h =
      let address = pin_fits (Memory MemwrV2) c Addr h.shape refl (inr (inr (inl refl))) in
      let words = words_some MemwrV2 c h refl (inr (inr (inl refl))) in (
        record {
          some = subst (λ n. 0 < n) (sym address) h.sizes.some;
          few = subst (λ n. n ≤ 4096) (sym address) (omega (arith, h.sizes.few));
          enable = pin_fits (Memory MemwrV2) c En h.shape refl (inr (inl refl)) ∙ h.sizes.width;
          new = pin_fits (Memory MemwrV2) c Data h.shape refl (inr (inr (inr (inl refl)))) ∙ h.sizes.width;
        },
        words.0,
        words.1,
      )

  read_one : (k : ℕ) (c : Cell) → HasParts Memrd c → ReadFits s.width (read_port k c) × (0 < s.width) × (s.width ≤ 4096)
  read_one k c h =
      let words = words_some Memrd c h refl (inr (inr (inl refl))) in
      (record { new = pin_fits (Memory Memrd) c Data h.shape refl (inr (inr (inr (inl refl)))) ∙ h.sizes.width; wires = free_of (pin_text Data) c.pins h.output }, words.0, words.1)

  read_two : (k : ℕ) (c : Cell) → HasParts MemrdV2 c → ReadFits s.width (read_port k c) × (0 < s.width) × (s.width ≤ 4096)
  read_two k c h =
      let words = words_some MemrdV2 c h refl (inr (inr (inl refl))) in
      (record { new = pin_fits (Memory MemrdV2) c Data h.shape refl (inr (inr (inr (inr (inr (inl refl)))))) ∙ h.sizes.width; wires = free_of (pin_text Data) c.pins h.output }, words.0, words.1)

  read_fits : (k : ℕ) (c : Cell) → In c m.cells → (o : Option CellKind) → cell_kind c ≡ o → is_read_kind o ≡ true → is_of_memory s.name c ≡ true → ReadFits s.width (read_port k c) × (0 < s.width) × (s.width ≤ 4096)
  read_fits k c i (Some (Memory Memrd)) own e of = read_one k c (parts_of Memrd c i own of)
  read_fits k c i (Some (Memory MemrdV2)) own e of = read_two k c (parts_of MemrdV2 c i own of)
  read_fits k c i (Some (Memory MemwrV2)) own e of = absurd (cc)
  read_fits k c i (Some (Memory Meminit)) own e of = absurd (cc)
  read_fits k c i (Some (Memory MeminitV2)) own e of = absurd (cc)
  read_fits k c i (Some (Word kind)) own e of = absurd (cc)
  read_fits k c i (Some (Gate kind)) own e of = absurd (cc)
  read_fits k c i (Some (Storage kind)) own e of = absurd (cc)
  read_fits k c i (Some (StorageGate kind)) own e of = absurd (cc)
  read_fits k c i None own e of = absurd (cc)

  pub reads_fit : (from : ℕ) (cells : List Cell) → Each (λ (c : Cell). In c m.cells) cells → Each (λ (port : ReadPort). ReadFits s.width port × (0 < s.width) × (s.width ≤ 4096)) (read_ports s.name from cells)
  reads_fit from [] h port i = absurd i
  reads_fit from (c ∷ cells) h port i =
      by (is_read_kind (cell_kind c) && is_of_memory s.name c) refl i (reads_fit (from + 1) cells (λ d j. h d (inr j)) port)
    where
      by : (t : Bool) → (is_read_kind (cell_kind c) && is_of_memory s.name c) ≡ t → In port (if t then read_port from c ∷ read_ports s.name (from + 1) cells else read_ports s.name (from + 1) cells) → (In port (read_ports s.name (from + 1) cells) → ReadFits s.width port × (0 < s.width) × (s.width ≤ 4096)) → ReadFits s.width port × (0 < s.width) × (s.width ≤ 4096)
      by true e (inl f) later =
          let both = and_parts (is_read_kind (cell_kind c)) (is_of_memory s.name c) e in
          subst (λ (q : ReadPort). ReadFits s.width q × (0 < s.width) × (s.width ≤ 4096)) (sym f) (read_fits from c (h c (inl refl)) (cell_kind c) refl both.0 both.1)
      by true e (inr j) later = later j
      by false e j later = later j

  pub writes_fit : Each (λ (port : WritePort). WriteFits s.width port × (0 < s.width) × (s.width ≤ 4096)) (map write_port (cell_accesses s.name m.cells))
  writes_fit port i =
      let a = In-mapped write_port port (cell_accesses s.name m.cells) i in
      let c = access_cell m.cells s.name a.0 a.1 in
      let own : WriteFits s.width (write_port (cell_access c.0)) × (0 < s.width) × (s.width ≤ 4096) = write_fits c.0 (parts_of MemwrV2 c.0 c.1 (write_kind c.0 c.3) c.4) in
      subst (λ (q : WritePort). WriteFits s.width q × (0 < s.width) × (s.width ≤ 4096)) (sym (a.2 ∙ ap write_port c.2)) own

  pub words_long : (at : ℕ) → Each (λ bits. length bits ≡ s.width) (gathered m at s).words
  words_long at bits i =
      let k = In-mapped _ bits (addresses_of s) i in
      ap length k.2 ∙ length-map-range_with_len _ 0 s.width

  -- all that is built fits
  pub built_fits : (at : ℕ) → AreFit m.cells m.links (memory_step (gathered m at s) s (building_of m))
  built_fits at =
      memory_fits m.cells m.links s.width (gathered m at s) s (building_of m) (record { cells = λ c i. inl i; lines = λ l i. inl i }) (words_long at) writes_fit (reads_fit 0 m.cells (λ c i. i))
