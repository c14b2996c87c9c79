-- The rows of a module whose first instance is replaced, of that instance, and of all other modules: they are rows after the
-- replacement, once their bits move.
use Rattle.std.proofs.Common.{◌≡◌, ℕ, Bool, true, false, ◌&&◌, ◌||◌, List, [], ◌∷◌, ◌++◌, length, map, Option, Some, None, inl, inr, refl, sym, ◌∙◌, ap, subst}
use Rattle.std.specs.Prelude.{filter, slice_get}
use Rattle.std.proofs.lemmas.List.{append-nil}
use Rattle.rtl_sig.specs.declared.sig.SigBit.{SigBit}
use Rattle.rtl_sig.specs.declared.sig.SigBit.TheVariants.{Fixed, Wire as OnWire}
use Rattle.cell_types.specs.declared.kind.CellKind.{CellKind}
use Rattle.cell_types.specs.declared.kind.CellKind.TheVariants.{Word, Gate, Storage, StorageGate, Memory}
use Rattle.cell_types.specs.declared.memory.MemoryKind.{MemoryKind}
use Rattle.cell_types.specs.Kind.{kind_of}
use Rattle.rtl_ir.specs.declared.cell.Cell.{Cell}
use Rattle.rtl_ir.specs.declared.cell.Pin.{Pin}
use Rattle.rtl_ir.specs.declared.module.Link.{Link}
use Rattle.rtl_ir.specs.declared.module.Module.{Module}
use Rattle.rtl_ir.specs.declared.store.Store.{Store}
use Rattle.rtl_ir.specs.declared.wire.Wire.{Wire}
use Rattle.rtl_ir.specs.declared.wire.Role.{Role}
use Rattle.rtl_ir.specs.declared.wire.Role.TheVariants.{Input, Output}
use Rattle.rtl_ir.specs.Flat.Cell.{Ports, cell_kind, cell_rows, instances}
use Rattle.rtl_ir.specs.Flat.Driver.{Driven}
use Rattle.rtl_ir.specs.Flat.Memory.{is_init_kind, is_read_kind}
use Rattle.rtl_ir.specs.Flat.Place.{Frame, frame, OfWire, OfWord, Path, Place, Spot, word_place}
use Rattle.rtl_ir.specs.Flat.Point.{At, name_or_empty, point}
use Rattle.rtl_ir.specs.Flat.Rows.{rows_of}
use Rattle.rtl_ir.specs.Flat.Start.{start_of}
use Rattle.rtl_ir.specs.WritePorts.{is_of_memory, is_write_cell, is_write_kind}
use Rattle.net_model.specs.Lists.{In}
use Rattle.net_model.specs.Within.{BitIn, CellIn, Each, IsWithin}
use Rattle.net_model.proofs.Growing.{point_more, start_more}
use Rattle.pass_laws.proofs.Finding.{filtered_in}
use Rattle.net_model.specs.Relate.{Reach}
use Rattle.net_model.proofs.Reaching.{rows_reach}
use Rattle.flat_pass.proofs.Moving.{Move, moved, moved_point}
use Rattle.flat_pass.proofs.MovedRuns.{GoesInto}
use Rattle.flat_pass.proofs.Fixed.{row_stays}
use Rattle.flat_pass.proofs.Paths.{Melt, go, go_outside, go_path, is_beneath, is_inside, is_of, outside, path_outside, path_stays, place_stays}
use Rattle.flat_pass.proofs.RowsMemories.{IsCopy, map_same}
use Rattle.flat_pass.proofs.RowsGo.{AreCopied, Carries, CellTo, MemoryTo, carried_link, carried_pin, cell_goes, row_of_cells, rows_go}
use Rattle.flat_pass.proofs.Partners.{IsOfKind, Paired}

-- tests of types that cells of memories alone pass
writes_memory : (o : Option CellKind) → is_write_kind o ≡ true → (kind : MemoryKind) × (o ≡ Some (Memory kind))
writes_memory None e = absurd (cc)
writes_memory (Some (Word kind)) e = absurd (cc)
writes_memory (Some (Gate kind)) e = absurd (cc)
writes_memory (Some (Storage kind)) e = absurd (cc)
writes_memory (Some (StorageGate kind)) e = absurd (cc)
writes_memory (Some (Memory kind)) e = (kind, refl)

starts_memory : (o : Option CellKind) → is_init_kind o ≡ true → (kind : MemoryKind) × (o ≡ Some (Memory kind))
starts_memory None e = absurd (cc)
starts_memory (Some (Word kind)) e = absurd (cc)
starts_memory (Some (Gate kind)) e = absurd (cc)
starts_memory (Some (Storage kind)) e = absurd (cc)
starts_memory (Some (StorageGate kind)) e = absurd (cc)
starts_memory (Some (Memory kind)) e = (kind, refl)

reads_memory : (o : Option CellKind) → is_read_kind o ≡ true → (kind : MemoryKind) × (o ≡ Some (Memory kind))
reads_memory None e = absurd (cc)
reads_memory (Some (Word kind)) e = absurd (cc)
reads_memory (Some (Gate kind)) e = absurd (cc)
reads_memory (Some (Storage kind)) e = absurd (cc)
reads_memory (Some (StorageGate kind)) e = absurd (cc)
reads_memory (Some (Memory kind)) e = (kind, refl)

pub write_kind : IsOfKind (λ (c : Cell). is_write_cell c.kind_name)
unfolding is_write_cell cell_kind
write_kind = record { memory = λ x e. writes_memory (kind_of x.kind_name) e; same = λ x y e. ap (λ z. is_write_kind (kind_of z)) e }

pub init_kind : IsOfKind (λ (c : Cell). is_init_kind (cell_kind c))
unfolding cell_kind
init_kind = record { memory = λ x e. starts_memory (kind_of x.kind_name) e; same = λ x y e. ap (λ z. is_init_kind (kind_of z)) e }

pub read_kind : IsOfKind (λ (c : Cell). is_read_kind (cell_kind c))
unfolding cell_kind
read_kind = record { memory = λ x e. reads_memory (kind_of x.kind_name) e; same = λ x y e. ap (λ z. is_read_kind (kind_of z)) e }

-- an instance passes none of them
pub instance_fails : (test : Cell → Bool) → IsOfKind test → (f : Cell) → cell_kind f ≡ None → test f ≡ false
instance_fails test h f e = by (test f) refl
  where
    by : (t : Bool) → test f ≡ t → t ≡ false
    by true q =
        let k = h.memory f q in
        let both : Some (Memory k.0) ≡ None = sym k.1 ∙ e in
        absurd (cc)
    by false q = refl

-- signals, pins and connections that stay
pub pins_stay : (ps : List Pin) → ps ≡ map (carried_pin (λ s. s)) ps
pins_stay [] = refl
pins_stay (p ∷ ps) = λ i. record p { sig = sym (map_same p.sig) i } ∷ pins_stay ps i

pub links_stay : (ls : List Link) → ls ≡ map (carried_link (λ s. s)) ls
links_stay [] = refl
links_stay (l ∷ ls) = λ i. record { left = sym (map_same l.left) i; right = sym (map_same l.right) i } ∷ links_stay ls i

pub link_stays : (l : Link) → l ≡ carried_link (λ s. s) l
link_stays l = λ i. record { left = sym (map_same l.left) i; right = sym (map_same l.right) i }

-- memories' cells with their copies
module _ (go : Move) (m c : Module) (p p' : Path) (copy : SigBit → SigBit) (h : Carries go m c p p' copy) (within : IsWithin m) where
  abbrev pub IsCopied : Cell → Cell → Type 0
  IsCopied = IsCopy go (length m.wires) m.wires c.wires p p' copy h.points h.fixed h.constants

  pub are_copied : (xs ys : List Cell) → Paired IsCopied xs ys → AreCopied go m c p p' copy h within xs ys
  are_copied [] [] k = tt
  are_copied (x ∷ xs) (y ∷ ys) k = (k.0, are_copied xs ys k.1)
  are_copied [] (y ∷ ys) k = absurd k
  are_copied (x ∷ xs) [] k = absurd k

-- a place, by its path and its spot
abbrev pub spot_at : Path → Spot → Place
spot_at p s = record { path = p; spot = s }

-- cells that stay as they are
module _ (go : Move) (p p' : Path) where
  pub cell_stays : (x : Cell) → (cell_kind x ≡ None → (s : Spot) → go (spot_at (frame x.name x.kind_name ∷ p) s) ≡ spot_at (frame x.name x.kind_name ∷ p') s) → CellTo go p p' (λ s. s) x x
  cell_stays x h = record {
    kind = refl;
    pins = pins_stay x.pins;
    shape = λ kind e n. refl;
    frames = λ e name at. h e (OfWire name at);
  }

  pub cells_stay : (xs : List Cell) → ((x : Cell) → In x xs → cell_kind x ≡ None → (s : Spot) → go (spot_at (frame x.name x.kind_name ∷ p) s) ≡ spot_at (frame x.name x.kind_name ∷ p') s) → Paired (CellTo go p p' (λ s. s)) xs xs
  cells_stay [] h = tt
  cells_stay (x ∷ xs) h = (cell_stays x (h x (inl refl)), cells_stay xs (λ y i. h y (inr i)))

-- memories that stay
module _ (go : Move) (m c : Module) (p p' : Path) (h : Carries go m c p p' (λ s. s)) (within : IsWithin m) where
  copied_stay : (xs : List Cell) → Each (CellIn (length m.wires)) xs → AreCopied go m c p p' (λ s. s) h within xs xs
  copied_stay [] k = tt
  copied_stay (x ∷ xs) k =
      (record { kind = refl; pins = pins_stay x.pins; values = λ name n. refl; within = k x (inl refl) }, copied_stay xs (λ y i. k y (inr i)))

  copied_picks : (test : Cell → Bool) (name : List ℕ) → filter (λ (x : Cell). test x && is_of_memory name x) c.cells ≡ filter (λ (x : Cell). test x && is_of_memory name x) m.cells → AreCopied go m c p p' (λ s. s) h within (filter (λ (x : Cell). test x && is_of_memory name x) m.cells) (filter (λ (x : Cell). test x && is_of_memory name x) c.cells)
  copied_picks test name e =
      subst (AreCopied go m c p p' (λ s. s) h within (filter (λ (x : Cell). test x && is_of_memory name x) m.cells)) (sym e) (copied_stay (filter (λ (x : Cell). test x && is_of_memory name x) m.cells) (λ x i. within.cells x (filtered_in (λ (y : Cell). test y && is_of_memory name y) m.cells x i).0))

  -- what is owed of a memory: its words go with it, and its cells are the same
  abbrev pub Stays : Store → Type 0
  Stays s =
      ((address at : ℕ) → go (word_place p s.name address at) ≡ word_place p' s.name address at)
      × ((test : Cell → Bool) → IsOfKind test → filter (λ (x : Cell). test x && is_of_memory s.name x) c.cells ≡ filter (λ (x : Cell). test x && is_of_memory s.name x) m.cells)

  pub memory_stays : (s : Store) → Stays s → MemoryTo go m c p p' (λ s. s) h within s s
  memory_stays s k = record {
    same = refl;
    words = k.0;
    writes = copied_picks (λ (x : Cell). is_write_cell x.kind_name) s.name (k.1 (λ (x : Cell). is_write_cell x.kind_name) write_kind);
    inits = copied_picks (λ (x : Cell). is_init_kind (cell_kind x)) s.name (k.1 (λ (x : Cell). is_init_kind (cell_kind x)) init_kind);
    reads = copied_picks (λ (x : Cell). is_read_kind (cell_kind x)) s.name (k.1 (λ (x : Cell). is_read_kind (cell_kind x)) read_kind);
  }

  pub memories_stay : (ss : List Store) → ((s : Store) → In s ss → Stays s) → Paired (MemoryTo go m c p p' (λ s. s) h within) ss ss
  memories_stay [] k = tt
  memories_stay (s ∷ ss) k = (memory_stays s (k s (inl refl)), memories_stay ss (λ t i. k t (inr i)))

-- signals that stay, where wires may come after those of their module
module _ (go : Move) (m c : Module) (more : List Wire) (wires : c.wires ≡ m.wires ++ more) (p p' : Path) (own : (s : Spot) → go (spot_at p s) ≡ spot_at p' s) where
  point_stays : (s : SigBit) → BitIn (length m.wires) s → moved_point go (point p m.wires s) ≡ point p' c.wires s
  point_stays (Fixed b) i = refl
  point_stays (OnWire b) i =
      ap At (own (OfWire (name_or_empty (slice_get m.wires b.wire)) b.at))
      ∙ sym (point_more p' m.wires more (OnWire b) i)
      ∙ ap (λ z. point p' z (OnWire b)) (sym wires)

  pub stays : Carries go m c p p' (λ s. s)
  stays = record {
    points = point_stays;
    fixed = λ b. refl;
    constants = λ s. refl;
    starts = λ s i. sym (start_more p m.wires more [] s i) ∙ ap (λ z. start_of z [] s) (sym wires);
  }

-- a module without processes, all of whose signals name wires that it has
pub record IsBare (m : Module) : Type 0 where
  pub within : IsWithin m
  pub processes : m.processes ≡ []

-- a module that is not changed: where an instance melts above it its bits move, elsewhere they stay
module _ (g : Melt) (ports : Ports) (m : Module) (p : Path) (none : is_of g p ≡ false) (out : is_inside g p ≡ false) where
  frame_outside : (f : Frame) (s : Spot) → go g (spot_at (f ∷ p) s) ≡ spot_at (f ∷ go_path g p) s
  frame_outside f s =
      go_outside g (f ∷ p) s (outside g f p none) ∙ ap (λ z. spot_at z s) (path_outside g f p (outside g f p none) out)

  moves : IsBare m → (x : Driven) → In x (rows_of ports p m) → GoesInto (go g) (rows_of ports (go_path g p) m) x
  moves bare x i =
      rows_go (go g) m m p (go_path g p) (λ s. s) carries bare.within ports ports bare.processes bare.processes cells links (λ s j. (s, j, memory_stays (go g) m m p (go_path g p) carries bare.within s (λ address at. own (OfWord s.name address at), λ test h. refl))) x i
    where
      same : m.wires ≡ m.wires ++ []
      same = sym (append-nil m.wires)

      own : (s : Spot) → go g (spot_at p s) ≡ spot_at (go_path g p) s
      own s = go_outside g p s out

      carries : Carries (go g) m m p (go_path g p) (λ s. s)
      carries = stays (go g) m m [] same p (go_path g p) own

      cells : (c : Cell) → In c m.cells → (y : Driven) → In y (cell_rows (start_of m.wires []) ports p m.wires c (cell_kind c)) → In (moved (go g) y) (rows_of ports (go_path g p) m)
      cells c j y k =
          row_of_cells ports (go_path g p) m bare.processes (moved (go g) y) (cell_goes (go g) m m p (go_path g p) (λ s. s) carries bare.within ports ports c c (bare.within.cells c j) (λ e. refl) (cell_stays (go g) p (go_path g p) c (λ e. frame_outside (frame c.name c.kind_name))) j y k)

      links : (l : Link) → In l m.links → In (carried_link (λ s. s) l) m.links
      links l j = subst (λ z. In z m.links) (link_stays l) j

  module _ (above : is_beneath g p ≡ false) where
    inner_stays : (f : Frame) (q : Place) → q.path ≡ f ∷ p → go g q ≡ q
    inner_stays f q e =
        place_stays g q (ap (is_beneath g) e ∙ (λ i. outside g f p none i || above i))

    reach_stays : (role : Role) (q : Place) → Reach role ports (instances m.cells) p q → go g q ≡ q
    reach_stays role q (inl e) = place_stays g q (ap (is_beneath g) e ∙ above)
    reach_stays role q (inr h) = inner_stays h.0 q h.4

    stay : (x : Driven) → In x (rows_of ports p m) → GoesInto (go g) (rows_of ports (go_path g p) m) x
    stay x i =
        let r = rows_reach ports p m x i in
        row_stays (go g) (rows_of ports (go_path g p) m) x (reach_stays Input x.place r.place) (λ q j. reach_stays Output q (r.read q j)) (subst (λ z. In x (rows_of ports z m)) (sym (path_stays g p above)) i)

  pub unchanged_goes : (is_beneath g p ≡ true → IsBare m) → (x : Driven) → In x (rows_of ports p m) → GoesInto (go g) (rows_of ports (go_path g p) m) x
  unchanged_goes bare x i = by (is_beneath g p) refl
    where
      by : (t : Bool) → is_beneath g p ≡ t → GoesInto (go g) (rows_of ports (go_path g p) m) x
      by true e = moves (bare e) x i
      by false e = stay e x i
