-- Where a memory goes with its cells, the rows of all else stay.
use Rattle.std.proofs.Common.{◌≡◌, ℕ, zero, suc, ◌+◌, Bool, true, false, List, [], ◌∷◌, ◌++◌, Option, Some, None, if◌then◌else◌, ◌⊎◌, inl, inr, ⊎_elim, refl, sym, ◌∙◌, ap, subst, arith}
use Rattle.std.specs.Prelude.{◌&&◌, drop, filter, flat_map, map, not, slice_get, take}
use Rattle.std.specs.Option.{option_map_or}
use Rattle.std.specs.Str.{bytes_eq}
use Rattle.std.proofs.lemmas.Bool.{and_parts}
use Rattle.std.proofs.lemmas.Slice.Eq.{bytes_eq-Decides}
use Rattle.rtl_bits.specs.declared.bit.Bit.{Bit}
use Rattle.rtl_sig.specs.declared.sig.SigBit.{SigBit}
use Rattle.cell_types.specs.declared.kind.CellKind.{CellKind}
use Rattle.cell_types.specs.declared.kind.CellKind.TheVariants.{Word, Gate, Storage, StorageGate, Memory}
use Rattle.rtl_ir.specs.declared.cell.Cell.{Cell}
use Rattle.rtl_ir.specs.declared.process.Process.{Process}
use Rattle.rtl_ir.specs.declared.store.Store.{Store}
use Rattle.rtl_ir.specs.declared.wire.Wire.{Wire}
use Rattle.rtl_ir.specs.Flat.Access.{cell_access, cell_accesses, in_access_order, next_number, rule_accesses}
use Rattle.rtl_ir.specs.Flat.Cell.{Ports, cell_kind, cell_rows, cells_rows, instance_of, instances, listed}
use Rattle.rtl_ir.specs.Flat.Driver.{Driven}
use Rattle.rtl_ir.specs.Flat.Memory.{in_priority_order, init_cells, is_init_kind, is_read_kind, memories_rows, memory_rows, read_rows, reading_cells, word_rows}
use Rattle.rtl_ir.specs.Flat.Place.{Path}
use Rattle.rtl_ir.specs.Parameters.{memory_name}
use Rattle.rtl_ir.specs.WritePorts.{is_of_memory, is_write_cell}
use Rattle.net_model.specs.Mem.Expand.{is_memory_kind}
use Rattle.net_model.proofs.Members.{In-cases, In-left, In-right}
use Rattle.net_model.proofs.MemoryCells.{stays}
use Rattle.net_model.specs.Lists.{In}
use Rattle.net_model.specs.Within.{Each}
use Rattle.build_laws.proofs.Growing.{IsPlainCell}

-- rows of a cell that goes there are none
no_rows : (start : SigBit → Bit) (ports : Ports) (p : Path) (wires : List Wire) (c : Cell) (o : Option CellKind) → is_memory_kind o ≡ true → cell_rows start ports p wires c o ≡ []
no_rows start ports p wires c (Some (Memory kind)) e = refl
no_rows start ports p wires c (Some (Word kind)) e = absurd (cc)
no_rows start ports p wires c (Some (Gate kind)) e = absurd (cc)
no_rows start ports p wires c (Some (Storage kind)) e = absurd (cc)
no_rows start ports p wires c (Some (StorageGate kind)) e = absurd (cc)
no_rows start ports p wires c None e = absurd (cc)

no_frame : (c : Cell) (o : Option CellKind) → is_memory_kind o ≡ true → listed (instance_of c o) ≡ []
no_frame c (Some kind) e = refl
no_frame c None e = absurd (cc)

pub not_false : (t : Bool) → not t ≡ false → t ≡ true
not_false true e = refl
not_false false e = absurd (cc)

module _ (name : List ℕ) where
  pub goes : (c : Cell) → stays name c ≡ false → is_memory_kind (cell_kind c) ≡ true
  goes c e = (and_parts (is_memory_kind (cell_kind c)) (is_of_memory name c) (not_false _ e)).0

  pub cells_stay : (start : SigBit → Bit) (ports : Ports) (p : Path) (wires : List Wire) (cells : List Cell) (x : Driven) → In x (cells_rows start ports p wires cells) → In x (cells_rows start ports p wires (filter (stays name) cells))
  cells_stay start ports p wires [] x i = i
  cells_stay start ports p wires (c ∷ cells) x i =
      by (stays name c) refl (In-cases x (cell_rows start ports p wires c (cell_kind c)) (cells_rows start ports p wires cells) i) (cells_stay start ports p wires cells x)
    where
      by : (t : Bool) → stays name c ≡ t → In x (cell_rows start ports p wires c (cell_kind c)) ⊎ In x (cells_rows start ports p wires cells) → (In x (cells_rows start ports p wires cells) → In x (cells_rows start ports p wires (filter (stays name) cells))) → In x (cells_rows start ports p wires (if t then c ∷ filter (stays name) cells else filter (stays name) cells))
      by true e (inl l) later = In-left x (cell_rows start ports p wires c (cell_kind c)) (cells_rows start ports p wires (filter (stays name) cells)) l
      by true e (inr r) later =
          In-right x (cell_rows start ports p wires c (cell_kind c)) (cells_rows start ports p wires (filter (stays name) cells)) (later r)
      by false e (inl l) later = absurd (subst (In x) (no_rows start ports p wires c (cell_kind c) (goes c e)) l)
      by false e (inr r) later = later r

  -- the rows of cells are the same
  pub cells_same : (start : SigBit → Bit) (ports : Ports) (p : Path) (wires : List Wire) (cells : List Cell) → cells_rows start ports p wires (filter (stays name) cells) ≡ cells_rows start ports p wires cells
  cells_same start ports p wires [] = refl
  cells_same start ports p wires (c ∷ cells) = by (stays name c) refl (cells_same start ports p wires cells)
    where
      by : (t : Bool) → stays name c ≡ t → cells_rows start ports p wires (filter (stays name) cells) ≡ cells_rows start ports p wires cells → cells_rows start ports p wires (if t then c ∷ filter (stays name) cells else filter (stays name) cells) ≡ cell_rows start ports p wires c (cell_kind c) ++ cells_rows start ports p wires cells
      by true e h = ap (λ z. cell_rows start ports p wires c (cell_kind c) ++ z) h
      by false e h = h ∙ ap (λ z. z ++ cells_rows start ports p wires cells) (sym (no_rows start ports p wires c (cell_kind c) (goes c e)))

  pub instances_stay : (cells : List Cell) → instances (filter (stays name) cells) ≡ instances cells
  instances_stay [] = refl
  instances_stay (c ∷ cells) = by (stays name c) refl (instances_stay cells)
    where
      by : (t : Bool) → stays name c ≡ t → instances (filter (stays name) cells) ≡ instances cells → instances (if t then c ∷ filter (stays name) cells else filter (stays name) cells) ≡ listed (instance_of c (cell_kind c)) ++ instances cells
      by true e h = ap (λ z. listed (instance_of c (cell_kind c)) ++ z) h
      by false e h = h ∙ ap (λ z. z ++ instances cells) (sym (no_frame c (cell_kind c) (goes c e)))

  -- a cell of another memory stays
  other_of : (o : Option (List ℕ)) (r : List ℕ) → (r ≡ name → ⊥) → option_map_or (bytes_eq r) o false ≡ true → option_map_or (bytes_eq name) o false ≡ false
  other_of None r other e = refl
  other_of (Some q) r other e = by (bytes_eq name q) refl
    where
      by : (t : Bool) → bytes_eq name q ≡ t → t ≡ false
      by true f = absurd (other ((bytes_eq-Decides r q).0 e ∙ sym ((bytes_eq-Decides name q).0 f)))
      by false f = refl

  other_stays : (r : List ℕ) → (r ≡ name → ⊥) → (c : Cell) → is_of_memory r c ≡ true → stays name c ≡ true
  other_stays r other c e = by (is_memory_kind (cell_kind c)) (other_of (memory_name c.params) r other e)
    where
      by : (t : Bool) → is_of_memory name c ≡ false → not (t && is_of_memory name c) ≡ true
      by true f = ap not f
      by false f = refl

  pub filter_stays : (test : Cell → Bool) → ((c : Cell) → test c ≡ true → stays name c ≡ true) → (cells : List Cell) → filter test (filter (stays name) cells) ≡ filter test cells
  filter_stays test h [] = refl
  filter_stays test h (c ∷ cells) = by (stays name c) (test c) refl refl (filter_stays test h cells)
    where
      by : (t u : Bool) → stays name c ≡ t → test c ≡ u → filter test (filter (stays name) cells) ≡ filter test cells → filter test (if t then c ∷ filter (stays name) cells else filter (stays name) cells) ≡ (if u then c ∷ filter test cells else filter test cells)
      by true u e f later = (λ i. if f i then c ∷ later i else later i)
      by false false e f later = later
      by false true e f later = let no : true ≡ false = sym (h c f) ∙ e in absurd (cc)

  module _ (r : Store) (other : r.name ≡ name → ⊥) where
    pub of_other : (a : Cell → Bool) (c : Cell) → (a c && is_of_memory r.name c) ≡ true → stays name c ≡ true
    of_other a c e = other_stays r.name other c (and_parts (a c) (is_of_memory r.name c) e).1

    pub same_accesses : (cells : List Cell) → cell_accesses r.name (filter (stays name) cells) ≡ cell_accesses r.name cells
    same_accesses cells =
        ap (λ cs. in_access_order (map cell_access cs)) (filter_stays (λ (c : Cell). is_write_cell c.kind_name && is_of_memory r.name c) (of_other (λ (c : Cell). is_write_cell c.kind_name)) cells)

    same_inits : (cells : List Cell) → init_cells r.name (filter (stays name) cells) ≡ init_cells r.name cells
    same_inits cells =
        ap (in_priority_order []) (filter_stays (λ (c : Cell). is_init_kind (cell_kind c) && is_of_memory r.name c) (of_other (λ (c : Cell). is_init_kind (cell_kind c))) cells)

    same_readers : (cells : List Cell) → reading_cells r.name (filter (stays name) cells) ≡ reading_cells r.name cells
    same_readers cells =
        filter_stays (λ (c : Cell). is_read_kind (cell_kind c) && is_of_memory r.name c) (of_other (λ (c : Cell). is_read_kind (cell_kind c))) cells

    memory_stays : (p : Path) (wires : List Wire) (cells : List Cell) (ps : List Process) → memory_rows p wires (filter (stays name) cells) ps r ≡ memory_rows p wires cells ps r
    memory_stays p wires cells ps =
        λ i. word_rows p wires r (same_accesses cells i ++ rule_accesses r.name (next_number (same_accesses cells i)) (flat_map (λ (q : Process). q.syncs) ps)) (same_inits cells i) ++ flat_map (read_rows p wires r) (same_readers cells i)

  -- the rows of other memories stay
  pub memories_stay : (p : Path) (wires : List Wire) (cells : List Cell) (ps : List Process) (ss : List Store) → Each (λ (r : Store). r.name ≡ name → ⊥) ss → memories_rows p wires (filter (stays name) cells) ps ss ≡ memories_rows p wires cells ps ss
  memories_stay p wires cells ps [] h = refl
  memories_stay p wires cells ps (r ∷ ss) h =
      (λ i. memory_stays r (h r (inl refl)) p wires cells ps i ++ memories_stay p wires cells ps ss (λ x j. h x (inr j)) i)

-- cells of the library are no instances
pub no_instances : (cells : List Cell) → Each IsPlainCell cells → instances cells ≡ []
no_instances [] h = refl
no_instances (c ∷ cells) h =
    (λ i. listed (instance_of c ((h c (inl refl)).is i)) ++ no_instances cells (λ x j. h x (inr j)) i)

-- a list without the item at a place
abbrev pub without : {A : Type 0} → ℕ → List A → List A
without at [] = []
without zero (x ∷ xs) = xs
without (suc at) (x ∷ xs) = x ∷ without at xs

pub without_is : {A : Type 0} (at : ℕ) (xs : List A) → take at xs ++ drop (at + 1) xs ≡ without at xs
without_is zero [] = refl
without_is {A} (suc at) [] =
    let next : suc at + 1 ≡ suc (at + 1) = omega arith in
    ap (λ n. drop {A = A} n []) next
without_is zero (x ∷ xs) = refl
without_is (suc at) (x ∷ xs) =
    let next : suc at + 1 ≡ suc (at + 1) = omega arith in
    ap (λ n. (x ∷ take at xs) ++ drop n (x ∷ xs)) next ∙ ap (λ z. x ∷ z) (without_is at xs)

-- what is listed for each item is listed for the one at the place, or for another
pub apart_from_one : {A B : Type 0} (f : A → List B) (at : ℕ) (xs : List A) (s : A) → slice_get xs at ≡ Some s → (x : B) → In x (flat_map f xs) → In x (f s) ⊎ In x (flat_map f (without at xs))
apart_from_one f at [] s e x i = absurd i
apart_from_one f zero (y ∷ xs) s e x i =
    let same : y ≡ s = cc in
    ⊎_elim (λ l. inl (subst (λ z. In x (f z)) same l)) (λ r. inr r) (In-cases x (f y) (flat_map f xs) i)
apart_from_one f (suc at) (y ∷ xs) s e x i =
    ⊎_elim
    (λ l. inr (In-left x (f y) (flat_map f (without at xs)) l))
    (λ r. ⊎_elim (λ a. inl a) (λ b. inr (In-right x (f y) (flat_map f (without at xs)) b)) (apart_from_one f at xs s e x r))
    (In-cases x (f y) (flat_map f xs) i)
