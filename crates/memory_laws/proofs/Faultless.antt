-- What a module without faults has of its memories: words of at most 65,536 bits, and write ports of their width.
use Rattle.std.proofs.Common.{◌≡◌, ◌≤◌, ℕ, zero, suc, ◌+◌, ◌*◌, Bool, true, false, ◌||◌, List, [], ◌∷◌, ◌++◌, length, Option, Some, None, if◌then◌else◌, ◌⊎◌, inl, inr, ⊎_elim, refl, sym, ◌∙◌, ap, arith}
use Rattle.std.specs.Prelude.{◌==◌, ◌&&◌, filter, flat_map, int_lt, map, nat_abs, nat_le, nat_lt, not, pos, slice_get, ℤ, negsuc}
use Rattle.std.specs.Option.{option_and_then, option_map_or}
use Rattle.std.specs.Str.{bytes_eq}
use Rattle.std.proofs.lemmas.Bool.{and_parts, eqb-true, ltb-false, or_parts}
use Rattle.std.proofs.lemmas.Slice.Eq.{bytes_eq-Decides}
use Rattle.cell_types.specs.declared.kind.CellKind.{CellKind}
use Rattle.cell_types.specs.declared.kind.CellKind.TheVariants.{Word, Gate, Storage, StorageGate, Memory}
use Rattle.cell_types.specs.declared.memory.MemoryKind.TheVariants.{Memrd, MemrdV2, MemwrV2, Meminit, MeminitV2}
use Rattle.cell_types.specs.declared.param_name.ParamName.TheVariants as Param
use Rattle.rtl_ir.specs.Fault.{BadMemory, Fault, Spot, UnsupportedCell, fault_if, spot}
use Rattle.rtl_ir.specs.Faults.Cells.{is_memory_kind, memory_faults, misfit, output_faults, shape_fault}
use Rattle.rtl_ir.specs.Faults.MemoryCells.{is_bad_access, is_bad_in, is_bad_memory_cell, is_unlike, number_at, store_named}
use Rattle.rtl_ir.specs.Faults.Processes.{process_faults}
use Rattle.rtl_ir.specs.Faults.Stores.{is_bad_store, store_faults}
use Rattle.rtl_ir.specs.Flat.Access.{Access, cell_access, cell_accesses, in_access_order, place_access}
use Rattle.rtl_ir.specs.Flat.Cell.{cell_kind}
use Rattle.rtl_ir.specs.Parameters.{memory_name}
use Rattle.rtl_ir.specs.Scope.{Scope, without_processes}
use Rattle.rtl_ir.specs.Types.{Library, Ports}
use Rattle.rtl_ir.specs.WritePorts.{cell_ports, is_of_memory, is_write_cell, is_write_kind}
use Rattle.rtl_ir.specs.declared.cell.Cell.{Cell}
use Rattle.rtl_ir.specs.declared.module.Module.{Module}
use Rattle.rtl_ir.specs.declared.plan.WritePort.{WritePort}
use Rattle.rtl_ir.specs.declared.process.Process.{Process}
use Rattle.rtl_ir.specs.declared.store.Store.{Store}
use Rattle.net_model.proofs.Members.{In-map, In-mapped, apart_at}
use Rattle.net_model.specs.Lists.{Distinct, In}
use Rattle.net_model.specs.Mem.Gather.{write_port}
use Rattle.net_model.specs.Within.{Each}
use Rattle.pass_laws.proofs.Faultless.{all_fine, fits, library_faults, no_cell_faults, no_faults, none_left, none_right}
use Rattle.pass_laws.specs.Ready.{IsReady}
use Rattle.memory_laws.proofs.KeptRows.{without}
use Rattle.memory_laws.proofs.PortSteps.{AreWide}
use Rattle.pass_laws.proofs.PinWidths.{pin_fits}
use Rattle.cell_types.specs.declared.pin_name.PinName.TheVariants.{En}
use Rattle.pass_laws.proofs.Finding.{found_there, in_place, filtered_in}

pub no_fault : (t : Bool) (f : Fault) → fault_if t f ≡ [] → t ≡ false
no_fault true f e = absurd (cc)
no_fault false f e = refl

-- no process is taken, so there is none
pub no_processes : (ports : Ports) (m : Module) (earlier processes : List Process) → process_faults without_processes ports m earlier processes ≡ [] → processes ≡ []
no_processes ports m earlier [] e = refl
no_processes ports m earlier (p ∷ processes) e = absurd (cc)

none_of : {A B : Type 0} (f : A → List B) (xs : List A) → flat_map f xs ≡ [] → (x : A) → In x xs → f x ≡ []
none_of f [] e x i = absurd i
none_of f (y ∷ xs) e x (inl is) = ap f is ∙ none_left (f y) (flat_map f xs) e
none_of f (y ∷ xs) e x (inr i) = none_of f xs (none_right (f y) (flat_map f xs) e) x i

some_size : (size : ℤ) → int_lt size (pos 1) ≡ false → 1 ≤ nat_abs size
some_size (pos n) e = ltb-false n 1 e
some_size (negsuc n) e = absurd (cc)

times_more : (a b : ℕ) → 1 ≤ b → a * b ≤ 65536 → a ≤ 65536
times_more a zero h k = absurd (omega (arith, h))
times_more a (suc b) h k = let more : a * suc b ≡ a + a * b = grind arith in omega (arith, k, more)

-- a word has at most 65,536 bits
pub word_fits : (scope : Scope) (id : List ℕ) (s : Store) → store_faults scope id s ≡ [] → s.width ≤ 65536
word_fits scope id s e =
    let bad : is_bad_store s ≡ false = no_fault (is_bad_store s) (BadMemory (spot id s.name)) (none_right (fault_if (not scope.memories) (UnsupportedCell (spot id s.name))) (fault_if (is_bad_store s) (BadMemory (spot id s.name))) e) in
    by (int_lt s.size (pos 1)) (int_lt s.offset (pos 0)) (nat_lt 65536 (s.width * nat_abs s.size)) refl refl bad
  where
    by : (a b c : Bool) → int_lt s.size (pos 1) ≡ a → nat_lt 65536 (s.width * nat_abs s.size) ≡ c → (a || b || c) ≡ false → s.width ≤ 65536
    by true b c ea ec h = absurd (cc)
    by false true c ea ec h = absurd (cc)
    by false false true ea ec h = absurd (cc)
    by false false false ea ec h =
        times_more s.width (nat_abs s.size) (some_size s.size ea) (ltb-false 65536 (s.width * nat_abs s.size) ec)

-- each other memory has another name
pub others_apart : (stores : List Store) (at : ℕ) (s : Store) → Distinct (map (λ (r : Store). r.name) stores) → slice_get stores at ≡ Some s → Each (λ (r : Store). r.name ≡ s.name → ⊥) (without at stores)
others_apart [] at s h e r i f = absurd i
others_apart (y ∷ stores) zero s h e r i f =
    let same : s ≡ y = cc in
    apart_at y.name (map (λ (q : Store). q.name) stores) h.0 r.name (In-map (λ (q : Store). q.name) r stores i) (sym (f ∙ ap (λ (q : Store). q.name) same))
others_apart (y ∷ stores) (suc at) s h e r (inl is) f =
    apart_at y.name (map (λ (q : Store). q.name) stores) h.0 s.name (In-map (λ (q : Store). q.name) s stores (in_place stores at s e)) (sym (ap (λ (q : Store). q.name) is) ∙ f)
others_apart (y ∷ stores) (suc at) s h e r (inr i) f = others_apart stores at s h.1 e r i f

pub one_named : (stores : List Store) → Distinct (map (λ (r : Store). r.name) stores) → (r s : Store) → In r stores → In s stores → r.name ≡ s.name → r ≡ s
one_named [] h r s i j e = absurd i
one_named (y ∷ stores) h r s (inl i) (inl j) e = i ∙ sym j
one_named (y ∷ stores) h r s (inl i) (inr j) e =
    absurd (apart_at y.name (map (λ (q : Store). q.name) stores) h.0 s.name (In-map (λ (q : Store). q.name) s stores j) (sym (ap (λ (q : Store). q.name) i) ∙ e))
one_named (y ∷ stores) h r s (inr i) (inl j) e =
    absurd (apart_at y.name (map (λ (q : Store). q.name) stores) h.0 r.name (In-map (λ (q : Store). q.name) r stores i) (sym (ap (λ (q : Store). q.name) j) ∙ sym e))
one_named (y ∷ stores) h r s (inr i) (inr j) e = one_named stores h.1 r s i j e

-- an access in order is one of them
in_placed : (a b : Access) (xs : List Access) → In a (place_access b xs) → (a ≡ b) ⊎ In a xs
in_placed a b [] (inl e) = inl e
in_placed a b [] (inr i) = absurd i
in_placed a b (y ∷ xs) i = by (nat_le b.number y.number) i (in_placed a b xs)
  where
    by : (t : Bool) → In a (if t then b ∷ y ∷ xs else y ∷ place_access b xs) → (In a (place_access b xs) → (a ≡ b) ⊎ In a xs) → (a ≡ b) ⊎ In a (y ∷ xs)
    by true (inl e) later = inl e
    by true (inr j) later = inr j
    by false (inl e) later = inr (inl e)
    by false (inr j) later = ⊎_elim (λ e. inl e) (λ k. inr (inr k)) (later j)

pub in_order : (a : Access) (xs : List Access) → In a (in_access_order xs) → In a xs
in_order a [] i = i
in_order a (b ∷ xs) i = ⊎_elim (λ e. inl e) (λ j. inr (in_order a xs j)) (in_placed a b (in_access_order xs) i)

write_is : (o : Option CellKind) → is_write_kind o ≡ true → o ≡ Some (Memory MemwrV2)
write_is (Some (Memory MemwrV2)) e = refl
write_is (Some (Memory Memrd)) e = absurd (cc)
write_is (Some (Memory MemrdV2)) e = absurd (cc)
write_is (Some (Memory Meminit)) e = absurd (cc)
write_is (Some (Memory MeminitV2)) e = absurd (cc)
write_is (Some (Word kind)) e = absurd (cc)
write_is (Some (Gate kind)) e = absurd (cc)
write_is (Some (Storage kind)) e = absurd (cc)
write_is (Some (StorageGate kind)) e = absurd (cc)
write_is None e = absurd (cc)

pub write_kind : (c : Cell) → is_write_cell c.kind_name ≡ true → cell_kind c ≡ Some (Memory MemwrV2)
unfolding is_write_cell cell_kind
write_kind c e = write_is _ e

not_true : (t : Bool) → not t ≡ false → t ≡ true
not_true true e = refl
not_true false e = absurd (cc)

module _ (ports : Ports) (m : Module) (ready : IsReady ports m) (distinct : Distinct (map (λ (r : Store). r.name) m.memories)) where
  pub none_there : m.processes ≡ []
  none_there = no_processes ports m [] m.processes (no_faults without_processes ports m ready.faultless).processes

  module _ (s : Store) (there : In s m.memories) where
    pub few : s.width ≤ 65536
    few = word_fits without_processes m.id s (none_of (store_faults without_processes m.id) m.memories (no_faults without_processes ports m ready.faultless).stores s there)

    -- a cell of the memory has its width
    like : (earlier : List Cell) (c : Cell) → is_of_memory s.name c ≡ true → is_bad_memory_cell false m earlier c MemwrV2 ≡ false → number_at c Param.Width ≡ s.width
    like earlier c of good = by (memory_name c.params) of good
      where
        found : (q : List ℕ) → s.name ≡ q → (o : Option Store) → store_named m.memories q ≡ o → option_map_or (is_bad_in false m earlier c MemwrV2) o true ≡ false → number_at c Param.Width ≡ s.width
        found q is None e f = absurd (cc)
        found q is (Some r) e f =
            let k = found_there (λ (z : Store). bytes_eq z.name q) m.memories r e in
            let name : r.name ≡ s.name = (bytes_eq-Decides r.name q).0 k.1 ∙ sym is in
            let same : r ≡ s = one_named m.memories distinct r s k.0 there name in
            let unlike : is_unlike r c ≡ false = (or_parts (is_unlike r c) (is_bad_access false m.links (cell_ports m.links r.name earlier) r c MemwrV2) f).0 in
            let width : not (number_at c Param.Width == r.width) ≡ false = (or_parts (not (number_at c Param.Width == r.width)) (number_at c Param.Abits == 0) ((or_parts _ (nat_lt 32 (number_at c Param.Abits)) unlike).0)).0 in
            eqb-true (number_at c Param.Width) r.width (not_true (number_at c Param.Width == r.width) width) ∙ ap (λ (z : Store). z.width) same

        by : (o : Option (List ℕ)) → option_map_or (bytes_eq s.name) o false ≡ true → option_map_or (is_bad_in false m earlier c MemwrV2) (option_and_then (store_named m.memories) o) true ≡ false → number_at c Param.Width ≡ s.width
        by None e f = absurd (cc)
        by (Some q) e f = found q ((bytes_eq-Decides s.name q).0 e) (store_named m.memories q) refl f

    cell_wide : (c : Cell) → In c m.cells → is_write_cell c.kind_name ≡ true → is_of_memory s.name c ≡ true → length (cell_access c).enable ≡ s.width
    cell_wide c i writes of =
        let kind : cell_kind c ≡ Some (Memory MemwrV2) = write_kind c writes in
        let fine = all_fine without_processes ports m [] m.cells (no_faults without_processes ports m ready.faultless).cells c i in
        let shape = fits (spot m.id c.name) c (Memory MemwrV2) (no_cell_faults without_processes ports m fine.0 c (Memory MemwrV2) kind fine.1).shape in
        let here : Spot = spot m.id c.name in
        let k : List Fault = fault_if (is_memory_kind (Memory MemwrV2) && not true) (UnsupportedCell here) in
        let all = sym (library_faults without_processes ports m fine.0 c (Memory MemwrV2) kind) ∙ fine.1 in
        let last : memory_faults false m fine.0 c (Memory MemwrV2) ≡ [] = none_right ((k ++ shape_fault here (misfit (Memory MemwrV2) c)) ++ output_faults here (Library (Memory MemwrV2)) c.pins) (memory_faults false m fine.0 c (Memory MemwrV2)) all in
        let good : is_bad_memory_cell false m fine.0 c MemwrV2 ≡ false = no_fault (is_bad_memory_cell false m fine.0 c MemwrV2) (BadMemory here) last in
        pin_fits (Memory MemwrV2) c En shape refl (inr (inl refl)) ∙ like fine.0 c of good

    -- each write port has the width of the words
    pub writes_wide : AreWide s.width (map write_port (cell_accesses s.name m.cells))
    writes_wide port i =
        let a = In-mapped write_port port (cell_accesses s.name m.cells) i in
        let test = λ (c : Cell). is_write_cell c.kind_name && is_of_memory s.name c in
        let c = In-mapped cell_access a.0 (filter test m.cells) (in_order a.0 (map cell_access (filter test m.cells)) a.1) in
        let k = filtered_in test m.cells c.0 c.1 in
        let both = and_parts (is_write_cell c.0.kind_name) (is_of_memory s.name c.0) k.1 in
        ap (λ (q : WritePort). length q.enable) a.2 ∙ ap (λ (q : Access). length q.enable) c.2 ∙ cell_wide c.0 k.0 both.0 both.1
