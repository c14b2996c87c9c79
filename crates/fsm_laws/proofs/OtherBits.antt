-- A bit that a cell outside the machine drives, or a read port of a memory, carries nothing of the state.
use Rattle.std.proofs.Common.{◌≡◌, ℕ, zero, suc, ◌+◌, Bool, true, false, List, [], ◌∷◌, ◌++◌, length, map, Option, Some, None, inl, inr, ◌⊎◌, refl, sym, ◌∙◌, ap, subst}
use Rattle.std.specs.Prelude.{◌==◌, ◌||◌, flat_map, slice_get}
use Rattle.std.specs.List.{range_with_len}
use Rattle.std.specs.Option.{option_map_or}
use Rattle.std.proofs.lemmas.Bool.{and_parts, eq-eqb}
use Rattle.cell_types.specs.declared.kind.CellKind.{CellKind}
use Rattle.cell_types.specs.declared.kind.CellKind.TheVariants.{Storage, Word}
use Rattle.cell_types.specs.declared.pin_name.PinName.TheVariants.{D, Q, Y}
use Rattle.cell_types.specs.declared.storage.StorageKind.TheVariants.{Adff, Dff}
use Rattle.cell_types.specs.declared.word.WordKind.TheVariants.{Mux, Pmux}
use Rattle.rtl_bits.specs.declared.bit.Bit.{Bit}
use Rattle.rtl_sig.specs.declared.sig.SigBit.{SigBit}
use Rattle.rtl_sig.specs.declared.sig.SigBit.TheVariants.{Fixed, Wire as OnWire}
use Rattle.rtl_sig.specs.declared.sig.WireBit.{WireBit}
use Rattle.rtl_ir.specs.Faults.Cells.{is_memory_kind}
use Rattle.rtl_ir.specs.Flat.Cell as flat
use Rattle.rtl_ir.specs.Flat.Cell.{cell_kind, cell_rows, cells_rows, kind_rows}
use Rattle.rtl_ir.specs.Flat.Driver.{Driven}
use Rattle.rtl_ir.specs.Flat.Link.{link_rows}
use Rattle.rtl_ir.specs.Flat.Memory.{memories_rows}
use Rattle.rtl_ir.specs.Flat.Place.{Place}
use Rattle.rtl_ir.specs.Flat.Point.{bit_place}
use Rattle.rtl_ir.specs.Flat.Process.{processes_rows}
use Rattle.rtl_ir.specs.Flat.Rows.{plain_rows}
use Rattle.rtl_ir.specs.Flat.Start.{start_of}
use Rattle.rtl_ir.specs.Follow.{all_joins, back, follow, source_at}
use Rattle.rtl_ir.specs.declared.follow.Join.{Join}
use Rattle.rtl_ir.specs.Signals.{has_bit, same_bit, wire_bits, same_signal}
use Rattle.rtl_ir.specs.Types.{Ports}
use Rattle.rtl_ir.specs.declared.cell.Cell.{Cell}
use Rattle.rtl_ir.specs.declared.machine.Machine.{Machine}
use Rattle.rtl_ir.specs.declared.module.Module.{Module}
use Rattle.net_model.proofs.Members.{In-left, In-map, In-right}
use Rattle.net_model.specs.Fsm.Find.{at_pin, cells_at_places, has_place, is_flop, is_fork, rising_places, tree_outputs}
use Rattle.net_model.specs.Lists.{Distinct, In}
use Rattle.net_model.specs.Refine.{IsWellDriven, places_of}
use Rattle.pass_laws.proofs.Driving.{output_signal, own_driver, own_in, row_of}
use Rattle.pass_laws.proofs.Placing.{places_more}
use Rattle.pass_laws.specs.Ready.{IsReady}
use Rattle.follow_laws.proofs.Following.{join_row, link_in, same_bit-same, source_in, stays}
use Rattle.fsm_laws.specs.Carried.{carrier_of}
use Rattle.fsm_laws.specs.Machines.{IsFoundMachine}
use Rattle.fsm_laws.proofs.Places.{has_in, in_passed}
use Rattle.fsm_laws.proofs.Trees.{IsForkAt, tree_forks}
use Rattle.fsm_laws.proofs.Free.{bit_free}
use Rattle.fsm_laws.proofs.OneDriver.{cell_there, distinct_left, distinct_right, not_in_both}
use Rattle.fsm_laws.proofs.Setting.{outputs, state}
use Rattle.pass_laws.proofs.SamePlaces.{signal_is}

-- what drives bits of a module
module _ (over : flat.Ports) (m : Module) (driven : IsWellDriven over m) where
  abbrev pub start : SigBit → Bit
  start = start_of m.wires m.processes

  abbrev pub at_bit : WireBit → Place
  at_bit b = bit_place [] m.wires b

  -- the bits that a cell drives
  abbrev pub places_at : Cell → List Place
  places_at c = places_of (cell_rows start over [] m.wires c (cell_kind c))

  abbrev pub memory_places : List Place
  memory_places = places_of (memories_rows [] m.wires m.cells m.processes m.memories)

  abbrev of_cells : List Driven
  of_cells = cells_rows start over [] m.wires m.cells

  abbrev of_links : List Driven
  of_links = link_rows [] m.wires m.links

  abbrev of_processes : List Driven
  of_processes = processes_rows start [] m.wires m m.processes

  abbrev of_memories : List Driven
  of_memories = memories_rows [] m.wires m.cells m.processes m.memories

  all_once : Distinct (places_of of_cells ++ (places_of of_links ++ (places_of of_processes ++ places_of of_memories)))
  all_once =
      subst Distinct
      (places_more of_cells (plain_rows [] m)
      ∙ ap (λ z. places_of of_cells ++ z) (places_more of_links (of_processes ++ of_memories) ∙ ap (λ z. places_of of_links ++ z) (places_more of_processes of_memories)))
      (driven.rows [])

  among : (cells : List Cell) (c : Cell) → In c cells → (q : Place) → In q (places_at c) → In q (places_of (cells_rows start over [] m.wires cells))
  among [] c i q h = absurd i
  among (d ∷ cells) c (inl e) q h =
      subst (In q) (sym (places_more (cell_rows start over [] m.wires d (cell_kind d)) (cells_rows start over [] m.wires cells)))
      (In-left q (places_at d) (places_of (cells_rows start over [] m.wires cells)) (subst (λ (z : Cell). In q (places_at z)) e h))
  among (d ∷ cells) c (inr i) q h =
      subst (In q) (sym (places_more (cell_rows start over [] m.wires d (cell_kind d)) (cells_rows start over [] m.wires cells)))
      (In-right q (places_at d) (places_of (cells_rows start over [] m.wires cells)) (among cells c i q h))

  apart_cells : (cells : List Cell) → Distinct (places_of (cells_rows start over [] m.wires cells)) → (i j : ℕ) (c d : Cell) → slice_get cells i ≡ Some c → slice_get cells j ≡ Some d → (q : Place) → In q (places_at c) → In q (places_at d) → i ≡ j
  apart_cells [] h i j c d e f q k l = absurd (cc)
  apart_cells (x ∷ cells) h zero zero c d e f q k l = refl
  apart_cells (x ∷ cells) h zero (suc j) c d e f q k l =
      let same : c ≡ x = cc in
      absurd (not_in_both (places_at x) (places_of (cells_rows start over [] m.wires cells)) (subst Distinct (places_more (cell_rows start over [] m.wires x (cell_kind x)) (cells_rows start over [] m.wires cells)) h) q (subst (λ (z : Cell). In q (places_at z)) same k) (among cells d (cell_there cells j d f) q l))
  apart_cells (x ∷ cells) h (suc i) zero c d e f q k l =
      let same : d ≡ x = cc in
      absurd (not_in_both (places_at x) (places_of (cells_rows start over [] m.wires cells)) (subst Distinct (places_more (cell_rows start over [] m.wires x (cell_kind x)) (cells_rows start over [] m.wires cells)) h) q (subst (λ (z : Cell). In q (places_at z)) same l) (among cells c (cell_there cells i c e) q k))
  apart_cells (x ∷ cells) h (suc i) (suc j) c d e f q k l =
      ap suc (apart_cells cells (distinct_right (places_at x) (places_of (cells_rows start over [] m.wires cells)) (subst Distinct (places_more (cell_rows start over [] m.wires x (cell_kind x)) (cells_rows start over [] m.wires cells)) h)) i j c d e f q k l)

  -- no two cells drive a bit
  pub cells_apart : (i j : ℕ) (c d : Cell) → slice_get m.cells i ≡ Some c → slice_get m.cells j ≡ Some d → (q : Place) → In q (places_at c) → In q (places_at d) → i ≡ j
  cells_apart =
      apart_cells m.cells (distinct_left (places_of of_cells) (places_of of_links ++ (places_of of_processes ++ places_of of_memories)) all_once)

  -- nor a cell and a memory
  pub memory_apart : (i : ℕ) (c : Cell) → slice_get m.cells i ≡ Some c → (q : Place) → In q (places_at c) → In q memory_places → ⊥
  memory_apart i c there q h k =
      not_in_both (places_of of_cells) (places_of of_links ++ (places_of of_processes ++ places_of of_memories)) all_once q
      (among m.cells c (cell_there m.cells i c there) q h)
      (In-right q (places_of of_links) (places_of of_processes ++ places_of of_memories) (In-right q (places_of of_processes) (places_of of_memories) k))

  -- nor one of them and a connection
  no_source : (b : WireBit) → (In (at_bit b) (places_of of_links) → ⊥) → back (all_joins m.links) (OnWire b) ≡ None
  no_source b none = by (source_at (all_joins m.links) b) refl
    where
      by : (o : Option SigBit) → source_at (all_joins m.links) b ≡ o → o ≡ None
      by None e = refl
      by (Some r) e =
          let j : Join = record { bit = b; source = r } in
          absurd (none (In-map (λ (x : Driven). x.place) (join_row [] m.wires j) of_links (link_in [] m.wires m.links j (source_in (all_joins m.links) b r e))))

  pub cell_source : (i : ℕ) (c : Cell) → slice_get m.cells i ≡ Some c → (b : WireBit) → In (at_bit b) (places_at c) → back (all_joins m.links) (OnWire b) ≡ None
  cell_source i c there b h =
      no_source b (λ k. not_in_both (places_of of_cells) (places_of of_links ++ (places_of of_processes ++ places_of of_memories)) all_once (at_bit b) (among m.cells c (cell_there m.cells i c there) (at_bit b) h) (In-left (at_bit b) (places_of of_links) (places_of of_processes ++ places_of of_memories) k))

  pub memory_source : (b : WireBit) → In (at_bit b) memory_places → back (all_joins m.links) (OnWire b) ≡ None
  memory_source b h =
      no_source b (λ k. not_in_both (places_of of_links) (places_of of_processes ++ places_of of_memories) (distinct_right (places_of of_cells) (places_of of_links ++ (places_of of_processes ++ places_of of_memories)) all_once) (at_bit b) k (In-right (at_bit b) (places_of of_processes) (places_of of_memories) h))

  -- a cell drives the bits of its output
  pub output_at : (c : Cell) (kind : CellKind) → cell_kind c ≡ Some kind → is_memory_kind kind ≡ false → (k : ℕ) (b : WireBit) → slice_get (output_signal c kind) k ≡ Some (OnWire b) → In (at_bit b) (places_at c)
  output_at c kind own plain k b e =
      subst (λ o. In (at_bit b) (places_of (cell_rows start over [] m.wires c o))) (sym own)
      (In-map (λ (x : Driven). x.place) (row_of [] m.wires b (own_driver start [] m.wires c kind k b)) (kind_rows start [] m.wires c kind) (own_in [] m.wires start c kind plain k b e))

-- where a bit stands in a signal
bit_at : (signal : List SigBit) (b : WireBit) → has_bit (wire_bits signal) b ≡ true → (k : ℕ) × (slice_get signal k ≡ Some (OnWire b))
bit_at [] b e = absurd (cc)
bit_at (Fixed c ∷ signal) b e = let later = bit_at signal b e in (suc later.0, later.1)
bit_at (OnWire x ∷ signal) b e = by (same_bit b x) refl e (bit_at signal b)
  where
    by : (t : Bool) → same_bit b x ≡ t → (t || has_bit (wire_bits signal) b) ≡ true → (has_bit (wire_bits signal) b ≡ true → (k : ℕ) × (slice_get signal k ≡ Some (OnWire b))) → (k : ℕ) × (slice_get (OnWire x ∷ signal) k ≡ Some (OnWire b))
    by true f g later = (0, ap (λ z. Some (OnWire z)) (sym (same_bit-same b x f)))
    by false f g later = let k = later g in (suc k.0, k.1)

-- a cell at one of these places has the bit in its output
pub record StandsIn (cells : List Cell) (places : List ℕ) (b : WireBit) : Type 0 where
  pub fork : ℕ
  pub cell : Cell
  pub among : has_place places fork ≡ true
  pub there : slice_get cells fork ≡ Some cell
  pub place : ℕ
  pub bit : slice_get (at_pin cell Y) place ≡ Some (OnWire b)

or_right : (t : Bool) → (t || true) ≡ true
or_right true = refl
or_right false = refl

has_both : (xs ys : List WireBit) (b : WireBit) → has_bit (xs ++ ys) b ≡ true → (has_bit xs b ≡ true) ⊎ (has_bit ys b ≡ true)
has_both [] ys b e = inr e
has_both (x ∷ xs) ys b e = by (same_bit b x) e (has_both xs ys b)
  where
    by : (t : Bool) → (t || has_bit (xs ++ ys) b) ≡ true → (has_bit (xs ++ ys) b ≡ true → (has_bit xs b ≡ true) ⊎ (has_bit ys b ≡ true)) → ((t || has_bit xs b) ≡ true) ⊎ (has_bit ys b ≡ true)
    by true f later = inl refl
    by false f later = later f

stands_in : (cells : List Cell) (places : List ℕ) (b : WireBit) → has_bit (flat_map (λ (c : Cell). wire_bits (at_pin c Y)) (cells_at_places cells places)) b ≡ true → StandsIn cells places b
stands_in cells [] b e = absurd (cc)
stands_in cells (p ∷ places) b e = by (slice_get cells p) refl e (stands_in cells places b)
  where
    more : StandsIn cells places b → StandsIn cells (p ∷ places) b
    more s = record {
      fork = s.fork;
      cell = s.cell;
      among = ap (λ t. (p == s.fork) || t) s.among ∙ or_right (p == s.fork);
      there = s.there;
      place = s.place;
      bit = s.bit;
    }

    by : (o : Option Cell) → slice_get cells p ≡ o → has_bit (flat_map (λ (c : Cell). wire_bits (at_pin c Y)) (option_map_or (λ (c : Cell). c ∷ []) o [] ++ cells_at_places cells places)) b ≡ true
        → (has_bit (flat_map (λ (c : Cell). wire_bits (at_pin c Y)) (cells_at_places cells places)) b ≡ true → StandsIn cells places b) → StandsIn cells (p ∷ places) b
    by None f g later = more (later g)
    by (Some c) f g later = here (has_both (wire_bits (at_pin c Y)) (flat_map (λ (c : Cell). wire_bits (at_pin c Y)) (cells_at_places cells places)) b g)
      where
        here : (has_bit (wire_bits (at_pin c Y)) b ≡ true) ⊎ (has_bit (flat_map (λ (c : Cell). wire_bits (at_pin c Y)) (cells_at_places cells places)) b ≡ true) → StandsIn cells (p ∷ places) b
        here (inl h) =
            let k = bit_at (at_pin c Y) b h in
            record {
              fork = p;
              cell = c;
              among = ap (λ t. t || has_place places p) (eq-eqb p p refl);
              there = f;
              place = k.0;
              bit = k.1;
            }
        here (inr h) = more (later h)

module _ (ports : Ports) (m : Module) (at : ℕ) (machine : Machine) (found : IsFoundMachine ports m at machine) (ready : IsReady ports m) (over : flat.Ports) (driven : IsWellDriven over m) where
  -- the flip-flop drives the bits of the state
  state_driven : (b : WireBit) → has_bit (wire_bits (state ports m at machine found)) b ≡ true → In (at_bit over m driven b) (places_at over m driven found.flop)
  state_driven b e =
      let both = and_parts (is_flop (cell_kind found.flop)) (same_signal (at_pin found.flop Q) (state ports m at machine found)) found.flop_is in
      let k = bit_at (state ports m at machine found) b e in
      let same : at_pin found.flop Q ≡ state ports m at machine found = signal_is (at_pin found.flop Q) (state ports m at machine found) both.1 in
      by (cell_kind found.flop) refl both.0 k.0 (ap (λ s. slice_get s k.0) same ∙ k.1)
    where
      by : (o : Option CellKind) → cell_kind found.flop ≡ o → is_flop o ≡ true → (k : ℕ) → slice_get (at_pin found.flop Q) k ≡ Some (OnWire b) → In (at_bit over m driven b) (places_at over m driven found.flop)
      by (Some (Storage Dff)) own f k g = output_at over m driven found.flop (Storage Dff) own refl k b g
      by (Some (Storage Adff)) own f k g = output_at over m driven found.flop (Storage Adff) own refl k b g
      by o own f k g = absurd (cc)

  -- a cell of the tree drives the bits of its output
  fork_driven : (b : WireBit) (s : StandsIn m.cells machine.muxes b) → In (at_bit over m driven b) (places_at over m driven s.cell)
  fork_driven b s =
      let i : In s.fork (rising_places (length m.cells) found.tree.forks) = subst (In s.fork) (ap (λ (z : Machine). z.muxes) found.made) (has_in machine.muxes s.fork s.among) in
      let j : In s.fork found.tree.forks = has_in found.tree.forks s.fork (in_passed (has_place found.tree.forks) (range_with_len 0 (length m.cells)) s.fork i) in
      let fork : IsForkAt m s.fork = tree_forks m (state ports m at machine found) (length m.cells + 1) (map (follow m.links) (at_pin found.flop D)) found.tree found.tree_is s.fork j in
      let both : Some fork.cell ≡ Some s.cell = sym fork.there ∙ s.there in
      let same : fork.cell ≡ s.cell = cc in
      by (cell_kind s.cell) refl (ap (λ (z : Cell). is_fork (cell_kind z)) (sym same) ∙ fork.fork)
    where
      by : (o : Option CellKind) → cell_kind s.cell ≡ o → is_fork o ≡ true → In (at_bit over m driven b) (places_at over m driven s.cell)
      by (Some (Word Mux)) own f = output_at over m driven s.cell (Word Mux) own refl s.place b s.bit
      by (Some (Word Pmux)) own f = output_at over m driven s.cell (Word Pmux) own refl s.place b s.bit
      by o own f = absurd (cc)

  -- a bit that neither drives, and no connection, carries nothing
  bit_none : (b : WireBit) → back (all_joins m.links) (OnWire b) ≡ None → (In (at_bit over m driven b) (places_at over m driven found.flop) → ⊥) → ((s : StandsIn m.cells machine.muxes b) → In (at_bit over m driven b) (places_at over m driven s.cell) → ⊥) → carrier_of (outputs ports m at machine found) (follow m.links (OnWire b)) ≡ None
  bit_none b none flop forks =
      ap (carrier_of (outputs ports m at machine found)) (stays m.links (OnWire b) none)
      ∙ bit_free ports m at machine found ready b
      (not_so (has_bit (wire_bits (state ports m at machine found)) b) (λ e. flop (state_driven b e)))
      (not_so (has_bit (tree_outputs m machine.muxes) b) (λ e. let s = stands_in m.cells machine.muxes b e in forks s (fork_driven b s)))
    where
      not_so : (t : Bool) → (t ≡ true → ⊥) → t ≡ false
      not_so true h = absurd (h refl)
      not_so false h = refl

  -- one that another cell drives
  pub other_bit : (k : ℕ) (c : Cell) → slice_get m.cells k ≡ Some c → (k == machine.flop) ≡ false → has_place machine.muxes k ≡ false → (b : WireBit) → In (at_bit over m driven b) (places_at over m driven c) → carrier_of (outputs ports m at machine found) (follow m.links (OnWire b)) ≡ None
  other_bit k c there flop fork b h =
      bit_none b (cell_source over m driven k c there b h)
      (λ i.
      let same : k ≡ found.place = cells_apart over m driven k found.place c found.flop there found.flop_there (at_bit over m driven b) h i in
      let yes : (k == machine.flop) ≡ true = eq-eqb k machine.flop (same ∙ ap (λ (z : Machine). z.flop) (sym found.made)) in
      let no : true ≡ false = sym yes ∙ flop in
      absurd (cc))
      (λ s i.
      let same : s.fork ≡ k = sym (cells_apart over m driven k s.fork c s.cell there s.there (at_bit over m driven b) h i) in
      let no : true ≡ false = sym s.among ∙ ap (has_place machine.muxes) same ∙ fork in
      absurd (cc))

  -- one that a memory drives
  pub memory_bit : (b : WireBit) → In (at_bit over m driven b) (memory_places over m driven) → carrier_of (outputs ports m at machine found) (follow m.links (OnWire b)) ≡ None
  memory_bit b h =
      bit_none b (memory_source over m driven b h)
      (λ i. memory_apart over m driven found.place found.flop found.flop_there (at_bit over m driven b) i h)
      (λ s i. memory_apart over m driven s.fork s.cell s.there (at_bit over m driven b) i h)
