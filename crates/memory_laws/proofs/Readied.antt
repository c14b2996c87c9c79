-- Where a module may be given to a pass, so may the module in which a memory of it became words.
use Rattle.std.proofs.Common.{◌≡◌, ◌<◌, ◌≤◌, ℕ, zero, suc, ◌+◌, List, [], ◌∷◌, ◌++◌, length, Some, inl, inr, ⊎_elim, refl, sym, ◌∙◌, ap, subst, arith}
use Rattle.std.specs.Prelude.{filter, flat_map, map, slice_get}
use Rattle.std.proofs.lemmas.List.Elements.{filter-append}
use Rattle.rtl_sig.specs.declared.sig.WireBit.{WireBit}
use Rattle.rtl_ir.specs.Build.{building_of}
use Rattle.rtl_ir.specs.Drivers.{drive_count, drives_of, port_drives}
use Rattle.rtl_ir.specs.Fault.{BadPort, spot}
use Rattle.rtl_ir.specs.Faults.Bits.{bits_faults}
use Rattle.rtl_ir.specs.Faults.Cells.{cell_faults, has_constant_output}
use Rattle.rtl_ir.specs.Faults.Stores.{store_faults}
use Rattle.rtl_ir.specs.Flat.Memory.{reading_cells}
use Rattle.rtl_ir.specs.Scope.{without_processes}
use Rattle.rtl_ir.specs.Types.{Library, Ports}
use Rattle.rtl_ir.specs.declared.cell.Cell.{Cell}
use Rattle.rtl_ir.specs.declared.module.Link.{Link}
use Rattle.rtl_ir.specs.declared.module.Module.{Module}
use Rattle.rtl_ir.specs.declared.store.Store.{Store}
use Rattle.rtl_ir.specs.declared.wire.Wire.{Wire}
use Rattle.net_model.proofs.Members.{Distinct-append, In-right, apart_at, apart_from, map-append}
use Rattle.net_model.proofs.Ranges.{each_filter}
use Rattle.net_model.specs.Lists.{Distinct, In}
use Rattle.net_model.specs.Mem.Expand.{expanded_memory, memory_step}
use Rattle.net_model.specs.Mem.Gather.{gathered}
use Rattle.net_model.specs.Within.{Each, IsWithin}
use Rattle.map_laws.proofs.FreshWires.{names_of}
use Rattle.map_laws.specs.Expansion.{bits_from}
use Rattle.pass_laws.specs.Bits.{cells_bits, links_bits}
use Rattle.pass_laws.specs.Ready.{IsReady}
use Rattle.pass_laws.specs.Replaces.{IsEven, IsFaultless}
use Rattle.pass_laws.proofs.Alone.{is_false, library_faultless, links_even, no_link_faults}
use Rattle.pass_laws.proofs.Counting.{bits_of, cells_more, count, count_more, driven_count, links_more}
use Rattle.pass_laws.proofs.Faultless.{HasNoFaults, all_fine, fits, no_cell_faults, no_faults, none_left, none_right}
use Rattle.pass_laws.proofs.Forming.{all_none}
use Rattle.build_laws.proofs.CountingBits.{cells_below, count_beyond, fresh_below, fresh_once, links_below, no_two, once_more, ports_below}
use Rattle.build_laws.proofs.Growing.{IsPlainCell}
use Rattle.pass_laws.specs.OwnNames.{HaveOwnNames}
use Rattle.memory_laws.proofs.Counted.{data_of, fewer_cells, parted}
use Rattle.memory_laws.proofs.Driven.{after, after_is, fresh_names, made, names_apart, ports_bits}
use Rattle.memory_laws.proofs.Faultless.{none_there, others_apart}
use Rattle.pass_laws.proofs.Finding.{in_place}
use Rattle.memory_laws.proofs.Fitting.{IsFit}
use Rattle.memory_laws.proofs.FittingPlan.{built_fits}
use Rattle.memory_laws.proofs.FittingSteps.{AreFit}
use Rattle.net_model.proofs.MemoryCells.{stays}
use Rattle.memory_laws.proofs.KeptRows.{without}
use Rattle.memory_laws.proofs.MemoryThere.{before, built, plan}
use Rattle.memory_laws.proofs.PlanIn.{expanded_within}
use Rattle.memory_laws.proofs.StillFine.{cells_new_fine, cells_stay_fine, faults_split}
use Rattle.pass_laws.proofs.Widening.{more_faults, more_drives}

-- nor have the other memories
without_none : {A B : Type 0} (f : A → List B) (at : ℕ) (xs : List A) → flat_map f xs ≡ [] → flat_map f (without at xs) ≡ []
without_none f at [] e = refl
without_none f zero (x ∷ xs) e = none_right (f x) (flat_map f xs) e
without_none f (suc at) (x ∷ xs) e =
    let a : f x ≡ [] = none_left (f x) (flat_map f xs) e in
    let b : flat_map f (without at xs) ≡ [] = without_none f at xs (none_right (f x) (flat_map f xs) e) in
    λ i. a i ++ b i

-- which have names of their own
others_named : (at : ℕ) (ss : List Store) → Distinct (map (λ (s : Store). s.name) ss) → Distinct (map (λ (s : Store). s.name) (without at ss))
others_named at [] h = h
others_named zero (s ∷ ss) h = h.1
others_named (suc at) (s ∷ ss) h = (
  apart_from s.name (map (λ (r : Store). r.name) (without at ss)) (λ name i e. apart_at s.name (map (λ (r : Store). r.name) ss) h.0 name (were at ss name i) e),
  others_named at ss h.1,
)
  where
    were : (at : ℕ) (ss : List Store) (name : List ℕ) → In name (map (λ (r : Store). r.name) (without at ss)) → In name (map (λ (r : Store). r.name) ss)
    were at [] name i = i
    were zero (r ∷ rs) name i = inr i
    were (suc at) (r ∷ rs) name (inl e) = inl e
    were (suc at) (r ∷ rs) name (inr i) = inr (were at rs name i)

module _ (ports : Ports) (k : Module) (s : Store) (place : ℕ) (there : slice_get k.memories place ≡ Some s) (ready : IsReady ports (before k s place)) (named : HaveOwnNames k) (few : (built k s place).next ≤ 1000000000) where
  abbrev m : Module
  m = before k s place

  apart : Each (λ (r : Store). r.name ≡ s.name → ⊥) (without place k.memories)
  apart = others_apart k.memories place s named there

  abbrev cells : List Cell
  cells = (made k s place there apart ready.within few).cells

  abbrev wires : List Wire
  wires = (made k s place there apart ready.within few).wires

  abbrev links : List Link
  links = (made k s place there apart ready.within few).links

  abbrev next : Module
  next = after k s place there apart ready.within few

  none : HasNoFaults without_processes ports m
  none = no_faults without_processes ports m ready.faultless

  fit : AreFit m.cells m.links (built k s place)
  fit = built_fits ports m ready named s (in_place k.memories place s there) place

  -- cells that the module had, and are none of a memory, and those that are built have no fault wherever they stand
  old_faultless : (c : Cell) → In c m.cells → IsPlainCell c → IsFaultless ports c
  old_faultless c i h =
      let fine = all_fine without_processes ports m [] m.cells none.cells c i in
      let parts = no_cell_faults without_processes ports m fine.0 c h.kind h.is fine.1 in
      library_faultless ports c h.kind h.is h.plain (fits (spot m.id c.name) c h.kind parts.shape) (is_false (has_constant_output (Library h.kind) c.pins) (BadPort (spot m.id c.name)) parts.output)

  new_faultless : Each (IsFaultless ports) cells
  new_faultless c i =
      ⊎_elim
      (λ j. old_faultless c j ((made k s place there apart ready.within few).plain c i))
      (λ (h : IsFit c). library_faultless ports c h.kind h.own h.plain h.shape h.output)
      (fit.cells c (subst (In c) (sym (ap (λ (n : Module). n.cells) (made k s place there apart ready.within few).body)) (In-right c m.cells cells i)))

  even : Each IsEven m.links
  even = links_even m.id 1 m.links none.links

  even_after : Each IsEven (m.links ++ links)
  even_after l i =
      ⊎_elim (even l) (λ (h : IsEven l). h)
      (fit.lines l (subst (In l) (sym (ap (λ (n : Module). n.links) (made k s place there apart ready.within few).body)) i))

  cells_none : cell_faults without_processes ports next [] (filter (stays s.name) (m.cells ++ cells)) ≡ []
  cells_none =
      let old : cell_faults without_processes ports next [] (filter (stays s.name) m.cells) ≡ [] =
      cells_stay_fine m s place there (m.wires ++ wires) (filter (stays s.name) (m.cells ++ cells)) (m.links ++ links) ports [] m.cells none.cells in
      let new : cell_faults without_processes ports next (filter (stays s.name) m.cells) (filter (stays s.name) cells) ≡ [] =
      cells_new_fine m s place there (m.wires ++ wires) (filter (stays s.name) (m.cells ++ cells)) (m.links ++ links) ports (filter (stays s.name) m.cells) (filter (stays s.name) cells) (each_filter (IsFaultless ports) (stays s.name) cells new_faultless) in
      ap (cell_faults without_processes ports next []) (filter-append (stays s.name) m.cells cells)
      ∙ faults_split m s place there (m.wires ++ wires) (filter (stays s.name) (m.cells ++ cells)) (m.links ++ links) ports [] (filter (stays s.name) m.cells) (filter (stays s.name) cells)
      ∙ (λ i. old i ++ new i)

  -- how often a bit is driven
  module _ (x : WireBit) where
    cells_low : count x (cells_bits ports (filter (stays s.name) (m.cells ++ cells))) + count x (flat_map data_of (reading_cells s.name m.cells)) ≤ count x (cells_bits ports m.cells) + count x (bits_from (length m.wires) wires)
    cells_low =
        let all = ap (λ z. count x (cells_bits ports z)) (filter-append (stays s.name) m.cells cells) ∙ ap (count x) (cells_more ports (filter (stays s.name) m.cells) (filter (stays s.name) cells)) ∙ count_more x (cells_bits ports (filter (stays s.name) m.cells)) (cells_bits ports (filter (stays s.name) cells)) in
        omega (arith, all, parted ports x s.name m.cells, fewer_cells ports x (stays s.name) cells, (made k s place there apart ready.within few).cells_count ports x)

    links_low : count x (links_bits (m.links ++ links)) ≤ count x (links_bits m.links) + count x (flat_map data_of (reading_cells s.name m.cells))
    links_low =
        let all = ap (count x) (links_more m.links links) ∙ count_more x (links_bits m.links) (links_bits links) in
        let reads = ap (count x) (ports_bits s.name 0 m.cells) in
        omega (arith, all, reads, (made k s place there apart ready.within few).links_count x)

    driven_low : drive_count (drives_of ports next) x ≤ drive_count (drives_of ports m) x + count x (bits_from (length m.wires) wires)
    driven_low =
        let old = driven_count ports m refl even x in
        let new = driven_count ports next refl even_after x in
        let outside : count x (bits_of (port_drives 0 (m.wires ++ wires))) ≡ count x (bits_of (port_drives 0 m.wires)) = ap (λ z. count x (bits_of z)) (more_drives 0 m.wires wires (made k s place there apart ready.within few).inner) in
        omega (arith, old, new, outside, cells_low, links_low, count_more x (cells_bits ports m.cells) (links_bits m.links), count_more x (cells_bits ports (filter (stays s.name) (m.cells ++ cells))) (links_bits (m.links ++ links)))

    old_only : x.wire < length m.wires → drive_count (drives_of ports next) x ≤ drive_count (drives_of ports m) x
    old_only h = omega (arith, driven_low, fresh_below x (length m.wires) wires h)

    fresh_only : length m.wires ≤ x.wire → drive_count (drives_of ports next) x ≤ 1
    fresh_only h =
        let n : ℕ = length m.wires in
        let p : count x (bits_of (port_drives 0 m.wires)) ≡ 0 = count_beyond n x _ (ports_below n 0 m.wires (omega arith)) h in
        let c : count x (cells_bits ports m.cells) ≡ 0 = count_beyond n x _ (cells_below n ports m.cells ready.within.cells) h in
        let l : count x (links_bits m.links) ≡ 0 = count_beyond n x _ (links_below n m.links ready.within.links) h in
        omega (arith, driven_low, driven_count ports m refl even x, count_more x (cells_bits ports m.cells) (links_bits m.links), fresh_once x n wires, p, c, l)

  bits_none : bits_faults m.id (drives_of ports next) 0 (m.wires ++ wires) ≡ []
  bits_none = no_two m.id (drives_of ports next) (drives_of ports m) (length m.wires) old_only m.wires wires refl fresh_only none.bits

  all_named : Distinct (names_of (m.wires ++ wires))
  all_named =
      subst Distinct (sym (map-append (λ (w : Wire). w.name) m.wires wires))
      (Distinct-append (names_of m.wires) (names_of wires) ready.named (fresh_names k s place there apart ready.within few) (names_apart k s place there apart ready.within few))

  next_ready : IsReady ports next
  next_ready = record {
    faultless = all_none (more_faults m.id [] m.wires wires (made k s place there apart ready.within few).inner ∙ none.wires) (without_none (store_faults without_processes m.id) place k.memories none.stores) cells_none refl (no_link_faults m.id 1 (m.links ++ links) even_after) bits_none;
    named = all_named;
    within = subst IsWithin (after_is k s place there apart ready.within few) (expanded_within k s place ready.within);
    once = once_more (length m.wires) (drives_of ports m) (drives_of ports next) old_only fresh_only ready.once;
  }

  pub before_ready : IsReady ports (expanded_memory m (plan k s place) s)
  before_ready = subst (IsReady ports) (sym (after_is k s place there apart ready.within few)) next_ready

  before_named : HaveOwnNames (expanded_memory m (plan k s place) s)
  before_named = subst HaveOwnNames (sym (after_is k s place there apart ready.within few)) (others_named place k.memories named)

module _ (ports : Ports) (m : Module) (s : Store) (at : ℕ) (ready : IsReady ports m) (named : HaveOwnNames m) (there : slice_get m.memories at ≡ Some s) (few : (memory_step (gathered m at s) s (building_of m)).next ≤ 1000000000) where
  -- the module has no process
  same : before m s at ≡ m
  same = let none : m.processes ≡ [] = none_there ports m ready named in (λ i. record m { processes = sym none i })

  few' : (built m s at).next ≤ 1000000000
  few' = subst (λ (k : Module). (memory_step (gathered k at s) s (building_of k)).next ≤ 1000000000) (sym same) few

  pub still_ready : IsReady ports (expanded_memory m (gathered m at s) s)
  still_ready =
      subst (λ (k : Module). IsReady ports (expanded_memory k (gathered k at s) s)) same
      (before_ready ports m s at there (subst (IsReady ports) (sym same) ready) named few')

  pub still_named : HaveOwnNames (expanded_memory m (gathered m at s) s)
  still_named =
      subst (λ (k : Module). HaveOwnNames (expanded_memory k (gathered k at s) s)) same
      (before_named ports m s at there (subst (IsReady ports) (sym same) ready) named few')

  pub others_left : (expanded_memory m (gathered m at s) s).memories ≡ without at m.memories
  others_left =
      subst (λ (k : Module). (expanded_memory k (gathered k at s) s).memories ≡ without at m.memories) same
      (ap (λ (n : Module). n.memories) (after_is m s at there (others_apart m.memories at s named there) (subst IsWithin (sym same) ready.within) few'))
