-- Cells that stay where a memory goes have no faults: other memories are found as before, and their write ports have the numbers
-- that they had. New cells have none wherever they stand.
use Rattle.std.proofs.Common.{◌≡◌, ℕ, zero, suc, Bool, true, false, not, ◌||◌, List, [], ◌∷◌, ◌++◌, Option, Some, None, if◌then◌else◌, inl, inr, refl, sym, ◌∙◌, ap, append_assoc}
use Rattle.std.specs.Prelude.{◌==◌, ◌&&◌, filter, find, map, nat_lt, slice_get}
use Rattle.std.specs.List.{list_any}
use Rattle.std.specs.Option.{option_and_then, option_map_or}
use Rattle.std.specs.Str.{bytes_eq}
use Rattle.std.proofs.lemmas.Bool.{or_parts}
use Rattle.std.proofs.lemmas.List.{append-nil}
use Rattle.cell_types.specs.declared.kind.CellKind.TheVariants as Cells
use Rattle.cell_types.specs.declared.memory.MemoryKind.{MemoryKind}
use Rattle.cell_types.specs.declared.memory.MemoryKind.TheVariants.{Memrd, MemrdV2, MemwrV2, Meminit, MeminitV2}
use Rattle.cell_types.specs.declared.param_name.ParamName.TheVariants.{Portid}
use Rattle.rtl_ir.specs.Fault.{BadMemory, Fault, fault_if, spot}
use Rattle.rtl_ir.specs.Faults.Cells.{cell_faults, faults_by_type, memory_faults, misfit, output_faults, shape_fault}
use Rattle.rtl_ir.specs.Faults.MemoryCells.{is_bad_access, is_bad_in, is_bad_memory_cell, is_bad_write, is_clocked, is_unlike, number_at, store_named}
use Rattle.rtl_ir.specs.Flat.Cell.{cell_kind}
use Rattle.rtl_ir.specs.Parameters.{memory_name}
use Rattle.rtl_ir.specs.Scope.{cells_alone, without_processes}
use Rattle.rtl_ir.specs.Types.{CellType, Instance, Library, Ports, Unknown, Unsupported, cell_type}
use Rattle.rtl_ir.specs.WritePorts.{WritePort, cell_port, cell_ports, is_of_memory, is_write_cell}
use Rattle.rtl_ir.specs.declared.cell.Cell.{Cell}
use Rattle.rtl_ir.specs.declared.module.Link.{Link}
use Rattle.rtl_ir.specs.declared.module.Module.{Module}
use Rattle.rtl_ir.specs.declared.store.Store.{Store}
use Rattle.rtl_ir.specs.declared.wire.Wire.{Wire}
use Rattle.net_model.specs.Mem.Expand.{is_memory_kind}
use Rattle.net_model.specs.Within.{Each}
use Rattle.pass_laws.specs.Replaces.{IsFaultless}
use Rattle.pass_laws.proofs.Alone.{own_kind}
use Rattle.pass_laws.proofs.Faultless.{none_left, none_right}
use Rattle.memory_laws.proofs.Faultless.{no_fault}
use Rattle.pass_laws.proofs.Finding.{found_there}
use Rattle.net_model.proofs.MemoryCells.{stays}
use Rattle.memory_laws.proofs.KeptRows.{filter_stays, of_other, without}

-- what is found among the others, where the one that goes is not looked for
find_without : (test : Store → Bool) (at : ℕ) (xs : List Store) (s : Store) → slice_get xs at ≡ Some s → test s ≡ false → find test (without at xs) ≡ find test xs
find_without test at [] s e other = absurd (cc)
find_without test zero (y ∷ xs) s e other =
    let same : y ≡ s = cc in
    ap (λ t. if t then Some y else find test xs) (sym (ap test same ∙ other))
find_without test (suc at) (y ∷ xs) s e other =
    ap (λ z. if test y then Some y else z) (find_without test at xs s e other)

-- the numbers of write ports do not depend on connections
numbers_same : (links more : List Link) (n : ℕ) (cells : List Cell) → list_any (λ (p : WritePort). p.number == n) (map (cell_port more) cells) ≡ list_any (λ (p : WritePort). p.number == n) (map (cell_port links) cells)
numbers_same links more n [] = refl
numbers_same links more n (c ∷ cells) = ap (λ z. (number_at c Portid == n) || z) (numbers_same links more n cells)

stays_other : (name : List ℕ) (c : Cell) (kind : MemoryKind) → cell_kind c ≡ Some (Cells.Memory kind) → stays name c ≡ true → is_of_memory name c ≡ false
stays_other name c kind own e = by (is_of_memory name c) (ap (λ o. not (is_memory_kind o && is_of_memory name c)) (sym own) ∙ e)
  where
    by : (t : Bool) → not (true && t) ≡ true → t ≡ false
    by true f = absurd (cc)
    by false f = refl

-- the module after has the other memories
module _ (m : Module) (s : Store) (place : ℕ) (there : slice_get m.memories place ≡ Some s) (wires : List Wire) (cells_after : List Cell) (links : List Link) where
  abbrev n : Module
  n = record m { wires = wires; cells = cells_after; links = links; memories = without place m.memories }

  -- those of these cells that stay
  abbrev those : List Cell → List Cell
  those cells = filter (stays s.name) cells

  write_good : (r : Store) → (r.name ≡ s.name → ⊥) → (earlier : List Cell) (c : Cell) → is_bad_write false m.links (cell_ports m.links r.name earlier) c ≡ false → is_bad_write false n.links (cell_ports n.links r.name (those earlier)) c ≡ false
  write_good r other earlier c e =
      let ds : List Cell = filter (λ (d : Cell). is_write_cell d.kind_name && is_of_memory r.name d) earlier in
      let first : Bool = not (is_clocked c) || nat_lt 65535 (number_at c Portid) in
      let test = λ (p : WritePort). p.number == number_at c Portid in
      let k : (first || list_any test (map (cell_port m.links) ds)) ≡ false = (or_parts (first || list_any test (map (cell_port m.links) ds)) false e).0 in
      let ports : cell_ports n.links r.name (those earlier) ≡ map (cell_port n.links) ds =
      ap (map (cell_port n.links)) (filter_stays s.name (λ (d : Cell). is_write_cell d.kind_name && is_of_memory r.name d) (of_other s.name r other (λ (d : Cell). is_write_cell d.kind_name)) earlier) in
      ap (λ z. (first || list_any test z) || false) ports
      ∙ ap (λ z. (first || z) || false) (numbers_same m.links n.links (number_at c Portid) ds)
      ∙ ap (λ z. z || false) k

  access_good : (r : Store) → (r.name ≡ s.name → ⊥) → (earlier : List Cell) (c : Cell) (kind : MemoryKind) → is_bad_access false m.links (cell_ports m.links r.name earlier) r c kind ≡ false → is_bad_access false n.links (cell_ports n.links r.name (those earlier)) r c kind ≡ false
  access_good r other earlier c Memrd e = e
  access_good r other earlier c MemrdV2 e = e
  access_good r other earlier c MemwrV2 e = write_good r other earlier c e
  access_good r other earlier c Meminit e = e
  access_good r other earlier c MeminitV2 e = e

  memory_good : (earlier : List Cell) (c : Cell) (kind : MemoryKind) → is_of_memory s.name c ≡ false → is_bad_memory_cell false m earlier c kind ≡ false → is_bad_memory_cell false n (those earlier) c kind ≡ false
  memory_good earlier c kind apart e = by (memory_name c.params) apart e
    where
      in_store : (r : Store) → (r.name ≡ s.name → ⊥) → is_bad_in false m earlier c kind r ≡ false → is_bad_in false n (those earlier) c kind r ≡ false
      in_store r other f =
          let k = or_parts (is_unlike r c) (is_bad_access false m.links (cell_ports m.links r.name earlier) r c kind) f in
          λ i. k.0 i || access_good r other earlier c kind k.1 i

      found : (q : List ℕ) → bytes_eq s.name q ≡ false → (o : Option Store) → store_named m.memories q ≡ o → option_map_or (is_bad_in false m earlier c kind) o true ≡ false → option_map_or (is_bad_in false n (those earlier) c kind) (store_named n.memories q) true ≡ false
      found q apart None f g = absurd (cc)
      found q apart (Some r) f g =
          let k = found_there (λ (z : Store). bytes_eq z.name q) m.memories r f in
          let other : r.name ≡ s.name → ⊥ = λ same.
          let is : bytes_eq s.name q ≡ true = ap (λ z. bytes_eq z q) (sym same) ∙ k.1 in
          let differ : true ≡ false = sym is ∙ apart in
          absurd (cc) in
          let still : store_named n.memories q ≡ Some r = find_without (λ (z : Store). bytes_eq z.name q) place m.memories s there apart ∙ f in
          ap (λ o. option_map_or (is_bad_in false n (those earlier) c kind) o true) still ∙ in_store r other g

      by : (o : Option (List ℕ)) → option_map_or (bytes_eq s.name) o false ≡ false → option_map_or (is_bad_in false m earlier c kind) (option_and_then (store_named m.memories) o) true ≡ false → option_map_or (is_bad_in false n (those earlier) c kind) (option_and_then (store_named n.memories) o) true ≡ false
      by None f g = absurd (cc)
      by (Some q) f g = found q f (store_named m.memories q) refl g

  module _ (ports : Ports) where
    -- a cell that stays
    still_fine : (earlier : List Cell) (c : Cell) → stays s.name c ≡ true → (t : CellType) → cell_type ports c.kind_name ≡ t → faults_by_type without_processes m earlier c t ≡ [] → faults_by_type without_processes n (those earlier) c t ≡ []
    still_fine earlier c keeps (Library (Cells.Word kind)) own e = e
    still_fine earlier c keeps (Library (Cells.Gate kind)) own e = e
    still_fine earlier c keeps (Library (Cells.Storage kind)) own e = e
    still_fine earlier c keeps (Library (Cells.StorageGate kind)) own e = e
    still_fine earlier c keeps (Library (Cells.Memory kind)) own e =
        let shape : List Fault = shape_fault (spot m.id c.name) (misfit (Cells.Memory kind) c) in
        let output : List Fault = output_faults (spot m.id c.name) (Library (Cells.Memory kind)) c.pins in
        let first : shape ++ output ≡ [] = none_left (shape ++ output) (memory_faults false m earlier c (Cells.Memory kind)) e in
        let last : memory_faults false m earlier c (Cells.Memory kind) ≡ [] = none_right (shape ++ output) (memory_faults false m earlier c (Cells.Memory kind)) e in
        let good : is_bad_memory_cell false n (those earlier) c kind ≡ false =
        memory_good earlier c kind (stays_other s.name c kind (own_kind ports c (Cells.Memory kind) own) keeps) (no_fault (is_bad_memory_cell false m earlier c kind) (BadMemory (spot m.id c.name)) last) in
        λ i. first i ++ fault_if (good i) (BadMemory (spot m.id c.name))
    still_fine earlier c keeps (Instance lines) own e = e
    still_fine earlier c keeps Unsupported own e = absurd (cc)
    still_fine earlier c keeps Unknown own e = absurd (cc)

    behind : (earlier : List Cell) (c : Cell) → those (earlier ++ c ∷ []) ≡ those earlier ++ (if stays s.name c then c ∷ [] else [])
    behind [] c = refl
    behind (d ∷ earlier) c = by (behind earlier c) (stays s.name d)
      where
        by : those (earlier ++ c ∷ []) ≡ those earlier ++ (if stays s.name c then c ∷ [] else []) → (t : Bool) → (if t then d ∷ those (earlier ++ c ∷ []) else those (earlier ++ c ∷ [])) ≡ (if t then d ∷ those earlier else those earlier) ++ (if stays s.name c then c ∷ [] else [])
        by later true = ap (λ z. d ∷ z) later
        by later false = later

    pub cells_stay_fine : (earlier cs : List Cell) → cell_faults without_processes ports m earlier cs ≡ [] → cell_faults without_processes ports n (those earlier) (those cs) ≡ []
    cells_stay_fine earlier [] e = refl
    cells_stay_fine earlier (c ∷ cs) e = by (stays s.name c) refl (cells_stay_fine (earlier ++ c ∷ []) cs (none_right here later e))
      where
        here : List Fault
        here = faults_by_type without_processes m earlier c (cell_type ports c.kind_name)

        later : List Fault
        later = cell_faults without_processes ports m (earlier ++ c ∷ []) cs

        next : (t : Bool) → stays s.name c ≡ t → those (earlier ++ c ∷ []) ≡ those earlier ++ (if t then c ∷ [] else [])
        next t f = behind earlier c ∙ ap (λ u. those earlier ++ (if u then c ∷ [] else [])) f

        by : (t : Bool) → stays s.name c ≡ t → cell_faults without_processes ports n (those (earlier ++ c ∷ [])) (those cs) ≡ [] → cell_faults without_processes ports n (those earlier) (if t then c ∷ those cs else those cs) ≡ []
        by true f g =
            let fine = still_fine earlier c f (cell_type ports c.kind_name) refl (none_left here later e) in
            let rest : cell_faults without_processes ports n (those earlier ++ c ∷ []) (those cs) ≡ [] = ap (λ z. cell_faults without_processes ports n z (those cs)) (sym (next true f)) ∙ g in
            λ i. fine i ++ rest i
        by false f g = ap (λ z. cell_faults without_processes ports n z (those cs)) (sym (next false f ∙ append-nil (those earlier))) ∙ g

    -- a new cell
    new_fine : (earlier : List Cell) (c : Cell) (t : CellType) → faults_by_type cells_alone n earlier c t ≡ [] → faults_by_type without_processes n earlier c t ≡ []
    new_fine earlier c (Library (Cells.Word kind)) e = e
    new_fine earlier c (Library (Cells.Gate kind)) e = e
    new_fine earlier c (Library (Cells.Storage kind)) e = e
    new_fine earlier c (Library (Cells.StorageGate kind)) e = e
    new_fine earlier c (Library (Cells.Memory kind)) e = absurd (cc)
    new_fine earlier c (Instance lines) e = e
    new_fine earlier c Unsupported e = e
    new_fine earlier c Unknown e = e

    pub cells_new_fine : (earlier cs : List Cell) → Each (IsFaultless ports) cs → cell_faults without_processes ports n earlier cs ≡ []
    cells_new_fine earlier [] h = refl
    cells_new_fine earlier (c ∷ cs) h =
        λ i. new_fine earlier c (cell_type ports c.kind_name) (h c (inl refl) n earlier) i ++ cells_new_fine (earlier ++ c ∷ []) cs (λ x j. h x (inr j)) i

    pub faults_split : (earlier cs ds : List Cell) → cell_faults without_processes ports n earlier (cs ++ ds) ≡ cell_faults without_processes ports n earlier cs ++ cell_faults without_processes ports n (earlier ++ cs) ds
    faults_split earlier [] ds = ap (λ z. cell_faults without_processes ports n z ds) (sym (append-nil earlier))
    faults_split earlier (c ∷ cs) ds =
        let here : List Fault = faults_by_type without_processes n earlier c (cell_type ports c.kind_name) in
        ap (λ z. here ++ z) (faults_split (earlier ++ c ∷ []) cs ds ∙ ap (λ z. cell_faults without_processes ports n (earlier ++ c ∷ []) cs ++ cell_faults without_processes ports n z ds) (append_assoc earlier (c ∷ []) cs))
        ∙ sym (append_assoc here (cell_faults without_processes ports n (earlier ++ c ∷ []) cs) (cell_faults without_processes ports n (earlier ++ (c ∷ cs)) ds))
