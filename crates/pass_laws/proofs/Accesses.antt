-- Cells of memories without faults, one behind another. Where clocks are not compared, all that such a cell asks of the module is
-- its memories, and the numbers of the write ports before it.
use Rattle.std.proofs.Common.{◌≡◌, ℕ, Bool, true, false, if◌then◌else◌, List, [], ◌∷◌, ◌++◌, Option, Some, None, inl, inr, refl, sym, ◌∙◌, ap, subst, append_assoc, append-nil}
use Rattle.std.specs.Prelude.{filter, map, nat_lt, not, ◌&&◌, ◌||◌, ◌==◌}
use Rattle.std.specs.List.{list_any}
use Rattle.std.specs.Option.{option_and_then, option_map_or}
use Rattle.std.proofs.lemmas.List.Elements.{filter-append}
use Rattle.cell_types.specs.declared.kind.CellKind.{CellKind}
use Rattle.cell_types.specs.declared.kind.CellKind.TheVariants as Cells
use Rattle.cell_types.specs.declared.memory.MemoryKind.{MemoryKind}
use Rattle.cell_types.specs.declared.memory.MemoryKind.TheVariants.{Memrd, MemrdV2, MemwrV2, Meminit, MeminitV2}
use Rattle.cell_types.specs.declared.param_name.ParamName.TheVariants.{Portid}
use Rattle.cell_types.specs.Kind.{kind_of}
use Rattle.rtl_ir.specs.Fault.{BadMemory, Fault, Spot, fault_if, spot}
use Rattle.rtl_ir.specs.Faults.Cells.{cell_faults, faults_by_type, is_memory_kind, misfit, output_faults, shape_fault}
use Rattle.rtl_ir.specs.Faults.MemoryCells.{is_bad_access, is_bad_memory_cell, is_clocked, is_unlike, number_at, store_named}
use Rattle.rtl_ir.specs.Flat.Cell.{cell_kind}
use Rattle.rtl_ir.specs.Parameters.{memory_name}
use Rattle.rtl_ir.specs.Scope.{without_processes}
use Rattle.rtl_ir.specs.Types.{CellType, Library, Ports, cell_type}
use Rattle.rtl_ir.specs.WritePorts.{WritePort, cell_port, cell_ports, is_of_memory, is_write_cell, is_write_kind}
use Rattle.rtl_ir.specs.declared.cell.Cell.{Cell}
use Rattle.rtl_ir.specs.declared.module.Link.{Link}
use Rattle.rtl_ir.specs.declared.module.Module.{Module}
use Rattle.rtl_ir.specs.declared.store.Store.{Store}
use Rattle.net_model.proofs.Members.{map-append}
use Rattle.net_model.specs.Within.{Each}
use Rattle.pass_laws.specs.Replaces.{IsOutside}
use Rattle.pass_laws.proofs.Alone.{IsSound, IsSoundBy, is_false, is_memory_type, others_by, outside_type, shape_none, sound_by}
use Rattle.pass_laws.proofs.Faultless.{none_left, none_right}

-- a cell of this type is no fault of its memory, behind these cells
abbrev pub IsAccess : Module → List Cell → Cell → CellType → Type 0
IsAccess m earlier c (Library (Cells.Memory kind)) = is_bad_memory_cell false m earlier c kind ≡ false
IsAccess m earlier c type = Unit {0}

-- the same of cells behind these, one behind another
abbrev pub AreAccesses : Ports → Module → List Cell → List Cell → Type 0
AreAccesses ports m earlier [] = Unit {0}
AreAccesses ports m earlier (c ∷ cs) =
    IsAccess m earlier c (cell_type ports c.kind_name) × AreAccesses ports m (earlier ++ c ∷ []) cs

module _ (m : Module) (earlier : List Cell) (c : Cell) where
  access_by : (type : CellType) → faults_by_type without_processes m earlier c type ≡ [] → IsAccess m earlier c type
  access_by (Library (Cells.Memory kind)) e =
      let here : Spot = spot m.id c.name in
      let s : List Fault = shape_fault here (misfit (Cells.Memory kind) c) in
      let o : List Fault = output_faults here (Library (Cells.Memory kind)) c.pins in
      is_false (is_bad_memory_cell false m earlier c kind) (BadMemory here) (none_right (s ++ o) (fault_if (is_bad_memory_cell false m earlier c kind) (BadMemory here)) e)
  access_by type e = tt

  none_by : (type : CellType) → IsSoundBy c type → IsAccess m earlier c type → faults_by_type without_processes m earlier c type ≡ []
  none_by (Library (Cells.Memory kind)) s a =
      shape_none without_processes m c earlier (Cells.Memory kind) s (ap (λ t. fault_if t (BadMemory (spot m.id c.name))) a)
  none_by type s a = others_by without_processes m c earlier type refl s

  outside_by : (type : CellType) → is_memory_type type ≡ false → IsAccess m earlier c type
  outside_by (Library (Cells.Memory kind)) e = absurd (cc)
  outside_by type e = tt

module _ (ports : Ports) (m : Module) where
  -- the cells of a module without faults
  pub cells_access : (earlier cs : List Cell) → cell_faults without_processes ports m earlier cs ≡ [] → AreAccesses ports m earlier cs
  cells_access earlier [] e = tt
  cells_access earlier (c ∷ cs) e =
      let here : List Fault = faults_by_type without_processes m earlier c (cell_type ports c.kind_name) in
      let later : List Fault = cell_faults without_processes ports m (earlier ++ c ∷ []) cs in
      (access_by m earlier c (cell_type ports c.kind_name) (none_left here later e), cells_access (earlier ++ c ∷ []) cs (none_right here later e))

  pub cells_sound : (earlier cs : List Cell) → cell_faults without_processes ports m earlier cs ≡ [] → Each (IsSound ports) cs
  cells_sound earlier [] e d i = absurd i
  cells_sound earlier (c ∷ cs) e d (inl f) =
      let here : List Fault = faults_by_type without_processes m earlier c (cell_type ports c.kind_name) in
      let later : List Fault = cell_faults without_processes ports m (earlier ++ c ∷ []) cs in
      subst (IsSound ports) (sym f) (sound_by without_processes m c earlier (cell_type ports c.kind_name) (none_left here later e))
  cells_sound earlier (c ∷ cs) e d (inr i) =
      let here : List Fault = faults_by_type without_processes m earlier c (cell_type ports c.kind_name) in
      let later : List Fault = cell_faults without_processes ports m (earlier ++ c ∷ []) cs in
      cells_sound (earlier ++ c ∷ []) cs (none_right here later e) d i

  -- and cells that have none
  pub none_there : (earlier cs : List Cell) → Each (IsSound ports) cs → AreAccesses ports m earlier cs → cell_faults without_processes ports m earlier cs ≡ []
  none_there earlier [] h a = refl
  none_there earlier (c ∷ cs) h a =
      let here : faults_by_type without_processes m earlier c (cell_type ports c.kind_name) ≡ [] = none_by m earlier c (cell_type ports c.kind_name) (h c (inl refl)) a.0 in
      let later : cell_faults without_processes ports m (earlier ++ c ∷ []) cs ≡ [] = none_there (earlier ++ c ∷ []) cs (λ x i. h x (inr i)) a.1 in
      λ i. here i ++ later i

-- a cell writes the memory of this name
abbrev pub writes_to : List ℕ → Cell → Bool
writes_to name c = is_write_cell c.kind_name && is_of_memory name c

-- the numbers of the write ports of a memory among cells
abbrev pub numbers_of : List Cell → List ℕ → List ℕ
numbers_of cells name = map (λ (c : Cell). number_at c Portid) (filter (writes_to name) cells)

-- two lists of cells have write ports of the same numbers
abbrev pub SameNumbers : List Cell → List Cell → Type 0
SameNumbers cs ds = (name : List ℕ) → numbers_of cs name ≡ numbers_of ds name

pub numbers_more : (cs ds : List Cell) (name : List ℕ) → numbers_of (cs ++ ds) name ≡ numbers_of cs name ++ numbers_of ds name
numbers_more cs ds name =
    ap (map (λ (c : Cell). number_at c Portid)) (filter-append (writes_to name) cs ds) ∙ map-append (λ (c : Cell). number_at c Portid) (filter (writes_to name) cs) (filter (writes_to name) ds)

pub same_more : (cs ds es fs : List Cell) → SameNumbers cs ds → SameNumbers es fs → SameNumbers (cs ++ es) (ds ++ fs)
same_more cs ds es fs h k name = numbers_more cs es name ∙ (λ i. h name i ++ k name i) ∙ sym (numbers_more ds fs name)

-- whether a write port has a number is told by the numbers
number_taken : (links : List Link) (name : List ℕ) (n : ℕ) (cs : List Cell) → list_any (λ (p : WritePort). p.number == n) (cell_ports links name cs) ≡ list_any (λ k. k == n) (numbers_of cs name)
number_taken links name n [] = refl
number_taken links name n (c ∷ cs) = by (writes_to name c) (number_taken links name n cs)
  where
    by : (t : Bool) → list_any (λ (p : WritePort). p.number == n) (cell_ports links name cs) ≡ list_any (λ k. k == n) (numbers_of cs name) → list_any (λ (p : WritePort). p.number == n) (map (cell_port links) (if t then c ∷ filter (writes_to name) cs else filter (writes_to name) cs)) ≡ list_any (λ k. k == n) (map (λ (d : Cell). number_at d Portid) (if t then c ∷ filter (writes_to name) cs else filter (writes_to name) cs))
    by true e = ap (λ z. (number_at c Portid == n) || z) e
    by false e = e

-- a cell of a memory is judged the same in two modules with the same memories, behind write ports of the same numbers
module _ (m n : Module) (stores : m.memories ≡ n.memories) (earlier later : List Cell) (same : SameNumbers earlier later) (c : Cell) where
  access_same : (s : Store) (kind : MemoryKind) → is_bad_access false m.links (cell_ports m.links s.name earlier) s c kind ≡ is_bad_access false n.links (cell_ports n.links s.name later) s c kind
  access_same s Memrd = refl
  access_same s MemrdV2 = refl
  access_same s MemwrV2 =
      let number : ℕ = number_at c Portid in
      let taken : list_any (λ (p : WritePort). p.number == number) (cell_ports m.links s.name earlier) ≡ list_any (λ (p : WritePort). p.number == number) (cell_ports n.links s.name later) = number_taken m.links s.name number earlier ∙ ap (list_any (λ k. k == number)) (same s.name) ∙ sym (number_taken n.links s.name number later) in
      ap (λ t. ((not (is_clocked c) || nat_lt 65535 number) || t) || false) taken
  access_same s Meminit = refl
  access_same s MeminitV2 = refl

  pub bad_same : (kind : MemoryKind) → is_bad_memory_cell false m earlier c kind ≡ is_bad_memory_cell false n later c kind
  bad_same kind =
      λ i. option_map_or (λ (s : Store). is_unlike s c || access_same s kind i) (option_and_then (store_named (stores i)) (memory_name c.params)) true

  pub access_moved : (type : CellType) → IsAccess m earlier c type → IsAccess n later c type
  access_moved (Library (Cells.Memory kind)) a = sym (bad_same kind) ∙ a
  access_moved type a = tt

module _ (ports : Ports) where
  pub accesses_stay : (m n : Module) → m.memories ≡ n.memories → (earlier later : List Cell) → SameNumbers earlier later → (cs : List Cell) → AreAccesses ports m earlier cs → AreAccesses ports n later cs
  accesses_stay m n stores earlier later same [] a = tt
  accesses_stay m n stores earlier later same (c ∷ cs) a =
      (access_moved m n stores earlier later same c (cell_type ports c.kind_name) a.0, accesses_stay m n stores (earlier ++ c ∷ []) (later ++ c ∷ []) (same_more earlier later (c ∷ []) (c ∷ []) same (λ name. refl)) cs a.1)

  -- each of such cells, behind some cells
  pub access_of_each : (m : Module) (earlier cs : List Cell) → AreAccesses ports m earlier cs → Each (λ c. (before : List Cell) × IsAccess m before c (cell_type ports c.kind_name)) cs
  access_of_each m earlier [] a d i = absurd i
  access_of_each m earlier (c ∷ cs) a d (inl e) =
      subst (λ x. (before : List Cell) × IsAccess m before x (cell_type ports x.kind_name)) (sym e) (earlier, a.0)
  access_of_each m earlier (c ∷ cs) a d (inr i) = access_of_each m (earlier ++ c ∷ []) cs a.1 d i

  pub accesses_join : (m : Module) (earlier cs ds : List Cell) → AreAccesses ports m earlier cs → AreAccesses ports m (earlier ++ cs) ds → AreAccesses ports m earlier (cs ++ ds)
  accesses_join m earlier [] ds a b = subst (λ z. AreAccesses ports m z ds) (append-nil earlier) b
  accesses_join m earlier (c ∷ cs) ds a b =
      (a.0, accesses_join m (earlier ++ c ∷ []) cs ds a.1 (subst (λ z. AreAccesses ports m z ds) (sym (append_assoc earlier (c ∷ []) cs)) b))

  pub accesses_split : (m : Module) (earlier cs ds : List Cell) → AreAccesses ports m earlier (cs ++ ds) → AreAccesses ports m earlier cs × AreAccesses ports m (earlier ++ cs) ds
  accesses_split m earlier [] ds a = (tt, subst (λ z. AreAccesses ports m z ds) (sym (append-nil earlier)) a)
  accesses_split m earlier (c ∷ cs) ds a =
      let k = accesses_split m (earlier ++ c ∷ []) cs ds a.1 in
      ((a.0, k.0), subst (λ z. AreAccesses ports m z ds) (append_assoc earlier (c ∷ []) cs) k.1)

  -- cells that are none of a memory
  pub accesses_outside : (m : Module) (earlier cs : List Cell) → Each IsOutside cs → AreAccesses ports m earlier cs
  accesses_outside m earlier [] h = tt
  accesses_outside m earlier (c ∷ cs) h =
      (outside_by m earlier c (cell_type ports c.kind_name) (outside_type ports c (h c (inl refl))), accesses_outside m (earlier ++ c ∷ []) cs (λ x i. h x (inr i)))

-- none of them is a write port
write_none : (o : Option CellKind) → ((kind : CellKind) → o ≡ Some kind → is_memory_kind kind ≡ false) → is_write_kind o ≡ false
write_none None h = refl
write_none (Some (Cells.Word kind)) h = refl
write_none (Some (Cells.Gate kind)) h = refl
write_none (Some (Cells.Storage kind)) h = refl
write_none (Some (Cells.StorageGate kind)) h = refl
write_none (Some (Cells.Memory kind)) h = let e = h (Cells.Memory kind) refl in absurd (cc)

pub no_write : (c : Cell) → IsOutside c → is_write_cell c.kind_name ≡ false
unfolding is_write_cell cell_kind
no_write c outside = write_none (kind_of c.kind_name) outside

-- a test that none of these cells passes finds none of them
pub filter_none : (test : Cell → Bool) (cs : List Cell) → Each (λ c. test c ≡ false) cs → filter test cs ≡ []
filter_none test [] h = refl
filter_none test (c ∷ cs) h =
    ap (λ t. if t then c ∷ filter test cs else filter test cs) (h c (inl refl)) ∙ filter_none test cs (λ x i. h x (inr i))

pub numbers_outside : (cs : List Cell) → Each IsOutside cs → (name : List ℕ) → numbers_of cs name ≡ []
numbers_outside cs h name =
    ap (map (λ (c : Cell). number_at c Portid)) (filter_none (writes_to name) cs (λ c i. ap (λ t. t && is_of_memory name c) (no_write c (h c i))))

-- in the place of a cell that is none of a memory come cells that are none
pub accesses_replaced : (ports : Ports) (m n : Module) → m.memories ≡ n.memories → (pre : List Cell) (c : Cell) (post here : List Cell) → IsOutside c → Each IsOutside here → AreAccesses ports m [] (pre ++ c ∷ post) → AreAccesses ports n [] (pre ++ (here ++ post))
accesses_replaced ports m n stores pre c post here outside outsides a =
    let k = accesses_split ports m [] pre (c ∷ post) a in
    let one : Each IsOutside (c ∷ []) = λ d i. alone d i in
    let same : SameNumbers (pre ++ c ∷ []) (pre ++ here) = same_more pre pre (c ∷ []) here (λ name. refl) (λ name. numbers_outside (c ∷ []) one name ∙ sym (numbers_outside here outsides name)) in
    accesses_join ports n [] pre (here ++ post) (accesses_stay ports m n stores [] [] (λ name. refl) pre k.0)
    (accesses_join ports n pre here post (accesses_outside ports n pre here outsides) (accesses_stay ports m n stores (pre ++ c ∷ []) (pre ++ here) same post k.1.1))
  where
    alone : Each IsOutside (c ∷ [])
    alone d (inl e) = subst IsOutside (sym e) outside
    alone d (inr i) = absurd i
