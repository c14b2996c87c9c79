-- What the rows of connections and of memories read.
use Rattle.std.proofs.Common.{◌≡◌, ℕ, zero, suc, ◌+◌, Bool, true, false, cond, List, [], ◌∷◌, ◌++◌, length, Option, Some, None, ◌⊎◌, inl, inr, ⊎_elim, refl, sym, subst}
use Rattle.std.specs.Prelude.{◌&&◌, filter, flat_map, if◌then◌else◌, map, nat_le}
use Rattle.std.specs.List.{range_with_len}
use Rattle.std.specs.Str.{bytes_eq}
use Rattle.rtl_bits.specs.declared.bit.Bit.{Bit}
use Rattle.rtl_bits.specs.declared.bit.Bit.TheVariants.{X}
use Rattle.rtl_sig.specs.declared.sig.SigBit.{SigBit}
use Rattle.cell_types.specs.PinName.{pin_text}
use Rattle.cell_types.specs.declared.pin_name.PinName.TheVariants.{Addr, Clk, Data, En}
use Rattle.rtl_ir.specs.Flat.Access.{Access, accesses_of, cell_access, cell_accesses, first_trigger, in_access_order, line_access, line_accesses, next_number, place_access, rule_accesses, write_trigger}
use Rattle.rtl_ir.specs.Flat.Cell.{cell_kind}
use Rattle.rtl_ir.specs.Flat.Driver.{Driven}
use Rattle.rtl_ir.specs.Flat.Link.{joins, link_rows}
use Rattle.rtl_ir.specs.Flat.Memory.{addresses_of, fetched_rows, init_cells, is_read_kind, memories_rows, memory_rows, port_points, read_rows, reading_cells, word_row, word_rows, words_at}
use Rattle.rtl_ir.specs.Flat.Place.{Path, word_place}
use Rattle.rtl_ir.specs.Flat.Point.{At, Constant, Point, point, point_at, points}
use Rattle.rtl_ir.specs.Flat.Reads.{port_list, read_points}
use Rattle.rtl_ir.specs.Parameters.{signal_at}
use Rattle.rtl_ir.specs.WritePorts.{is_of_memory, is_write_cell}
use Rattle.rtl_ir.specs.declared.cell.Cell.{Cell}
use Rattle.rtl_ir.specs.declared.module.Link.{Link}
use Rattle.rtl_ir.specs.declared.process.Event.{Event}
use Rattle.rtl_ir.specs.declared.process.Event.TheVariants.{Low, High, Posedge, Negedge, Edge, Global, Init, Always}
use Rattle.rtl_ir.specs.declared.process.Process.{Process}
use Rattle.rtl_ir.specs.declared.process.SyncRule.{SyncRule}
use Rattle.rtl_ir.specs.declared.process.WriteLine.{WriteLine}
use Rattle.rtl_ir.specs.declared.store.Store.{Store}
use Rattle.rtl_ir.specs.declared.wire.Wire.{Wire}
use Rattle.net_model.proofs.Members.{In-cases, In-mapped}
use Rattle.net_model.specs.Lists.{In}
use Rattle.net_model.specs.Proc.Reset.{event_signal}
use Rattle.net_model.specs.Within.{Each}
use Rattle.pass_laws.proofs.CellReads.{joins_are}

pub from_flat : {A B : Type 0} (f : A → List B) (xs : List A) (y : B) → In y (flat_map f xs) → (x : A) × In x xs × In y (f x)
from_flat f [] y i = absurd i
from_flat f (x ∷ xs) y i =
    ⊎_elim (λ l. (x, inl refl, l)) (λ r. let k = from_flat f xs y r in (k.0, inr k.1, k.2)) (In-cases y (f x) (flat_map f xs) i)

from_filter : {A : Type 0} (test : A → Bool) (xs : List A) (x : A) → In x (filter test xs) → In x xs
from_filter test [] x i = absurd i
from_filter test (y ∷ xs) x i = by (test y) i (from_filter test xs x)
  where
    by : (t : Bool) → In x (cond t (y ∷ filter test xs) (filter test xs)) → (In x (filter test xs) → In x xs) → In x (y ∷ xs)
    by true (inl e) later = inl e
    by true (inr j) later = inr (later j)
    by false j later = inr (later j)

placed : (a : Access) (bs : List Access) (x : Access) → In x (place_access a bs) → (x ≡ a) ⊎ In x bs
placed a [] x (inl e) = inl e
placed a [] x (inr i) = absurd i
placed a (b ∷ bs) x i = by (nat_le a.number b.number) i (placed a bs x)
  where
    by : (t : Bool) → In x (if t then a ∷ b ∷ bs else b ∷ place_access a bs) → (In x (place_access a bs) → (x ≡ a) ⊎ In x bs) → (x ≡ a) ⊎ In x (b ∷ bs)
    by true (inl e) later = inl e
    by true (inr j) later = inr j
    by false (inl e) later = inr (inl e)
    by false (inr j) later = ⊎_elim (λ e. inl e) (λ k. inr (inr k)) (later j)

ordered : (bs : List Access) (x : Access) → In x (in_access_order bs) → In x bs
ordered [] x i = absurd i
ordered (b ∷ bs) x i = ⊎_elim (λ e. inl e) (λ k. inr (ordered bs x k)) (placed b (in_access_order bs) x i)

module _ (F : Point → Type 0) (constant : (c : Bit) → F (Constant c)) (p : Path) (wires : List Wire) (word : (name : List ℕ) (address at : ℕ) → F (At (word_place p name address at))) where
  abbrev Ok : SigBit → Type 0
  Ok s = F (point p wires s)

  signal_free : (signal : List SigBit) → Each Ok signal → Each F (points p wires signal)
  signal_free [] h x i = absurd i
  signal_free (s ∷ signal) h x (inl e) = subst F (sym e) (h s (inl refl))
  signal_free (s ∷ signal) h x (inr i) = signal_free signal (λ r j. h r (inr j)) x i

  at_free : (ps : List Point) (at : ℕ) → Each F ps → F (point_at ps at)
  at_free [] at h = constant X
  at_free (s ∷ ps) zero h = h s (inl refl)
  at_free (s ∷ ps) (suc at) h = at_free ps at (λ r i. h r (inr i))

  both_free : (xs ys : List Point) → Each F xs → Each F ys → Each F (xs ++ ys)
  both_free xs ys h k x i = ⊎_elim (h x) (k x) (In-cases x xs ys i)

  -- a connection
  pub link_free : (links : List Link) → ((l : Link) → In l links → Each Ok l.right) → (x : Driven) → In x (link_rows p wires links) → Each F (read_points x.driver)
  link_free [] h x i = absurd i
  link_free (l ∷ links) h x i =
      ⊎_elim
      (λ j. let k = joins_are (points p wires l.left) (points p wires l.right) x j in
      subst (λ d. Each F (read_points d)) (sym k.2) (λ y a. ⊎_elim (λ e. subst F (sym e) (signal_free l.right (h l (inl refl)) k.0 k.3)) (λ b. absurd b) a))
      (λ j. link_free links (λ z k. h z (inr k)) x j)
      (In-cases x (joins (points p wires l.left) (points p wires l.right)) (link_rows p wires links) i)

  -- a write port
  record IsPort (a : Access) : Type 0 where
    clock : Each Ok a.clock.signal
    address : Each Ok a.address
    new : Each Ok a.new
    enable : Each Ok a.enable

  ports_free : (at : ℕ) (before accesses : List Access) → Each IsPort accesses → Each F (flat_map port_list (port_points p wires at before accesses))
  ports_free at before [] h x i = absurd i
  ports_free at before (a ∷ accesses) h x (inl e) = subst F (sym e) (at_free (points p wires a.enable) at (signal_free a.enable (h a (inl refl)).enable))
  ports_free at before (a ∷ accesses) h x (inr (inl e)) = subst F (sym e) (at_free (points p wires a.new) at (signal_free a.new (h a (inl refl)).new))
  ports_free at before (a ∷ accesses) h x (inr (inr i)) =
      both_free (points p wires a.address) (flat_map port_list (port_points p wires at (before ++ a ∷ []) accesses)) (signal_free a.address (h a (inl refl)).address) (ports_free at (before ++ a ∷ []) accesses (λ b j. h b (inr j))) x i

  clock_free : (accesses : List Access) → Each IsPort accesses → F (point_at (points p wires (first_trigger accesses).signal) 0)
  clock_free [] h = constant X
  clock_free (a ∷ accesses) h = at_free (points p wires a.clock.signal) 0 (signal_free a.clock.signal (h a (inl refl)).clock)

  -- what lines write
  abbrev pub LineOk : Event → WriteLine → Type 0
  LineOk e line = Each Ok (event_signal e) × Each Ok line.address × Each Ok line.value × Each Ok line.enable

  trigger_free : (e : Event) → Each Ok (event_signal e) → Each Ok (write_trigger e).signal
  trigger_free (Posedge signal) h = h
  trigger_free (Negedge signal) h = h
  trigger_free (Low signal) h = λ s i. absurd i
  trigger_free (High signal) h = λ s i. absurd i
  trigger_free (Edge signal) h = λ s i. absurd i
  trigger_free Global h = λ s i. absurd i
  trigger_free Always h = λ s i. absurd i
  trigger_free Init h = λ s i. absurd i

  lines_free : (name : List ℕ) (e : Event) (number : ℕ) (before : List (Option ℕ)) (lines : List WriteLine) → Each (LineOk e) lines → Each IsPort (line_accesses name e number before lines)
  lines_free name e number before [] h a i = absurd i
  lines_free name e number before (line ∷ lines) h a i =
      by (bytes_eq name line.memory) i (lines_free name e (number + 1) (before ++ Some number ∷ []) lines (λ l j. h l (inr j)) a) (lines_free name e number (before ++ None ∷ []) lines (λ l j. h l (inr j)) a)
    where
      here : IsPort (line_access e number before line)
      here = record {
        clock = trigger_free e (h line (inl refl)).0;
        address = (h line (inl refl)).1;
        new = (h line (inl refl)).2;
        enable = (h line (inl refl)).3;
      }

      by : (t : Bool) → In a (if t then line_access e number before line ∷ line_accesses name e (number + 1) (before ++ Some number ∷ []) lines else line_accesses name e number (before ++ None ∷ []) lines) → (In a (line_accesses name e (number + 1) (before ++ Some number ∷ []) lines) → IsPort a) → (In a (line_accesses name e number (before ++ None ∷ []) lines) → IsPort a) → IsPort a
      by true (inl f) later other = subst IsPort (sym f) here
      by true (inr j) later other = later j
      by false j later other = other j

  rules_write : (name : List ℕ) (number : ℕ) (rules : List SyncRule) → ((r : SyncRule) → In r rules → Each (LineOk r.event) r.writes) → Each IsPort (rule_accesses name number rules)
  rules_write name number [] h a i = absurd i
  rules_write name number (r ∷ rules) h a i =
      let here : List Access = line_accesses name r.event number [] r.writes in
      ⊎_elim (lines_free name r.event number [] r.writes (h r (inl refl)) a) (rules_write name (number + length here) rules (λ z j. h z (inr j)) a) (In-cases a here (rule_accesses name (number + length here) rules) i)

  module _ (cells : List Cell) (ps : List Process) (pins : (c : Cell) → In c cells → (name : List ℕ) → Each Ok (signal_at c.pins name)) (lines : (s : Process) → In s ps → (r : SyncRule) → In r s.syncs → Each (LineOk r.event) r.writes) where
    accesses_free : (name : List ℕ) → Each IsPort (accesses_of name cells ps)
    accesses_free name a i =
        let here : List Access = cell_accesses name cells in
        let rules : List SyncRule = flat_map (λ (s : Process). s.syncs) ps in
        ⊎_elim
        (λ l. let test : Cell → Bool = λ (c : Cell). is_write_cell c.kind_name && is_of_memory name c in
        let k = In-mapped cell_access a (filter test cells) (ordered (map cell_access (filter test cells)) a l) in
        let c = from_filter test cells k.0 k.1 in
        subst IsPort (sym k.2) (record { clock = pins k.0 c (pin_text Clk); address = pins k.0 c (pin_text Addr); new = pins k.0 c (pin_text Data); enable = pins k.0 c (pin_text En) }))
        (λ r. rules_write name (next_number here) rules (λ z j. let k = from_flat (λ (s : Process). s.syncs) ps z j in lines k.0 k.1 z k.2) a r)
        (In-cases a here (rule_accesses name (next_number here) rules) i)

    word_free : (s : Store) (x : Driven) → In x (word_rows p wires s (accesses_of s.name cells ps) (init_cells s.name cells)) → Each F (read_points x.driver)
    word_free s x i =
        let accesses : List Access = accesses_of s.name cells ps in
        let a = from_flat (λ address. map (word_row p wires s accesses (init_cells s.name cells) address) (range_with_len 0 s.width)) (addresses_of s) x i in
        let k = In-mapped (word_row p wires s accesses (init_cells s.name cells) a.0) x (range_with_len 0 s.width) a.2 in
        subst (λ (z : Driven). Each F (read_points z.driver)) (sym k.2) (each accesses (accesses_free s.name) a.0 k.0)
      where
        each : (accesses : List Access) → Each IsPort accesses → (address at : ℕ) → Each F (read_points (word_row p wires s accesses (init_cells s.name cells) address at).driver)
        each accesses h address at x (inl e) = subst F (sym e) (word s.name address at)
        each accesses h address at x (inr (inl e)) = subst F (sym e) (clock_free accesses h)
        each accesses h address at x (inr (inr i)) = ports_free at [] accesses h x i

    words_free : (s : Store) (at : ℕ) → Each F (words_at p s at)
    words_free s at x i = let k = In-mapped (λ address. At (word_place p s.name address at)) x (addresses_of s) i in subst F (sym k.2) (word s.name k.0 at)

    fetched_free : (s : Store) (address : List Point) → Each F address → (ds : List Point) (at : ℕ) (x : Driven) → In x (fetched_rows p s address ds at) → Each F (read_points x.driver)
    fetched_free s address h [] at x i = absurd i
    fetched_free s address h (At q ∷ ds) at x (inl e) =
        subst (λ (z : Driven). Each F (read_points z.driver)) (sym e) (both_free address (words_at p s at) h (words_free s at))
    fetched_free s address h (At q ∷ ds) at x (inr i) = fetched_free s address h ds (suc at) x i
    fetched_free s address h (Constant b ∷ ds) at x i = fetched_free s address h ds (suc at) x i

    pub memory_free : (stores : List Store) (x : Driven) → In x (memories_rows p wires cells ps stores) → Each F (read_points x.driver)
    memory_free stores x i =
        let s = from_flat (memory_rows p wires cells ps) stores x i in
        let words : List Driven = word_rows p wires s.0 (accesses_of s.0.name cells ps) (init_cells s.0.name cells) in
        ⊎_elim
        (λ l. word_free s.0 x l)
        (λ r. let c = from_flat (read_rows p wires s.0) (reading_cells s.0.name cells) x r in
        let there = from_filter (λ (z : Cell). is_read_kind (cell_kind z) && is_of_memory s.0.name z) cells c.0 c.1 in
        fetched_free s.0 (points p wires (signal_at c.0.pins (pin_text Addr))) (signal_free (signal_at c.0.pins (pin_text Addr)) (pins c.0 there (pin_text Addr))) (points p wires (signal_at c.0.pins (pin_text Data))) 0 x c.2)
        (In-cases x words (flat_map (read_rows p wires s.0) (reading_cells s.0.name cells)) s.2)
