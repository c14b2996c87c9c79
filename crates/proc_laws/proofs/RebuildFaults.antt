-- A module without faults has none after a step that builds.
use Rattle.std.proofs.Common.{◌≡◌, ◌≤◌, ◌<◌, ℕ, ◌+◌, true, false, List, [], ◌∷◌, ◌++◌, length, inl, inr, refl, sym, ◌∙◌, ap, append_assoc, arith, length-append}
use Rattle.std.specs.Prelude.{flat_map, not}
use Rattle.cell_types.specs.declared.kind.CellKind.TheVariants as Cells
use Rattle.rtl_sig.specs.declared.sig.WireBit.{WireBit}
use Rattle.rtl_ir.specs.Assigns.{tree_bits}
use Rattle.rtl_ir.specs.Drivers.{Drive, FromRules, FromTree, Source, all_by, cell_drives, drive_count, drives_of, link_drives, port_drives, rule_drives, tree_drives}
use Rattle.rtl_ir.specs.Fault.{BadMemory, Fault, Spot, UnsupportedCell, fault_if, spot}
use Rattle.rtl_ir.specs.Faults.Bits.{bits_faults}
use Rattle.rtl_ir.specs.Faults.Cells.{cell_faults, faults_by_type, misfit, output_faults, shape_fault}
use Rattle.rtl_ir.specs.Faults.Links.{link_faults}
use Rattle.rtl_ir.specs.Faults.MemoryCells.{is_bad_memory_cell}
use Rattle.rtl_ir.specs.Faults.Processes.{process_faults}
use Rattle.rtl_ir.specs.Faults.Stores.{is_bad_store, store_faults}
use Rattle.rtl_ir.specs.Rules.{updated_bits}
use Rattle.rtl_ir.specs.Scope.{Scope, cells_alone, with_processes, without_processes}
use Rattle.rtl_ir.specs.Types.{CellType, Instance, Library, Ports, Unknown, Unsupported, cell_type}
use Rattle.rtl_ir.specs.declared.cell.Cell.{Cell}
use Rattle.rtl_ir.specs.declared.module.Link.{Link}
use Rattle.rtl_ir.specs.declared.module.Module.{Module}
use Rattle.rtl_ir.specs.declared.process.Process.{Process}
use Rattle.rtl_ir.specs.declared.store.Store.{Store}
use Rattle.rtl_ir.specs.declared.wire.Wire.{Wire}
use Rattle.net_model.proofs.Ranges.{each_both}
use Rattle.net_model.specs.Within.{CellIn, Each, LinkIn}
use Rattle.map_laws.specs.Expansion.{bits_from}
use Rattle.pass_laws.proofs.Alone.{links_even, no_link_faults}
use Rattle.pass_laws.proofs.Counting.{bits_of, bits_more, cell_drives_bits, cells_more, count, count_more, counted, link_drives_bits, links_more}
use Rattle.pass_laws.proofs.Faultless.{HasNoFaults, no_faults, none_left, none_right}
use Rattle.pass_laws.proofs.Forming.{all_none}
use Rattle.pass_laws.proofs.Widening.{cell_wider, link_wider, more_faults, more_drives}
use Rattle.pass_laws.specs.Bits.{cells_bits, links_bits}
use Rattle.pass_laws.specs.Replaces.{IsEven, IsFaultless}
use Rattle.proc_laws.specs.Ready.{IsReady}
use Rattle.build_laws.specs.Rebuilds.{Rebuilds, checked_bits, rebuilt}
use Rattle.build_laws.proofs.CountingBits.{cells_below, count_beyond, fewer, fresh_below, fresh_once, links_below, no_two, once_more, ports_below}
use Rattle.build_laws.proofs.RebuildBits.{checked_below}
use Rattle.build_laws.proofs.RebuildMemories.{memory_alike}

-- the bits that processes drive, as the check counts them
trees_bits : (b : WireBit) (first : ℕ) (qs : List Process) → count b (bits_of (tree_drives first qs)) + count b (bits_of (rule_drives first qs)) ≡ count b (flat_map checked_bits qs)
trees_bits b first [] = omega arith
trees_bits b first (q ∷ qs) =
    let trees = ap (count b) (bits_more (all_by (FromTree first) (tree_bits q.root)) (tree_drives (first + 1) qs)) ∙ count_more b (bits_of (all_by (FromTree first) (tree_bits q.root))) (bits_of (tree_drives (first + 1) qs)) in
    let rules = ap (count b) (bits_more (all_by (FromRules first) (updated_bits q.syncs)) (rule_drives (first + 1) qs)) ∙ count_more b (bits_of (all_by (FromRules first) (updated_bits q.syncs))) (bits_of (rule_drives (first + 1) qs)) in
    let all = count_more b (checked_bits q) (flat_map checked_bits qs) ∙ ap (λ z. z + count b (flat_map checked_bits qs)) (count_more b (tree_bits q.root) (updated_bits q.syncs)) in
    omega (arith, trees, rules, all, same (FromTree first) (tree_bits q.root), same (FromRules first) (updated_bits q.syncs), trees_bits b (first + 1) qs)
  where
    same : (source : Source) (xs : List WireBit) → count b (bits_of (all_by source xs)) ≡ count b xs
    same source [] = refl
    same source (x ∷ xs) = omega (arith, same source xs)

-- how often a bit of a module is driven
pub drives_count : (ports : Ports) (m : Module) → Each IsEven m.links → (b : WireBit) → drive_count (drives_of ports m) b ≡ count b (bits_of (port_drives 0 m.wires)) + (count b (cells_bits ports m.cells) + (count b (links_bits m.links) + count b (flat_map checked_bits m.processes)))
drives_count ports m even b =
    let p : List Drive = port_drives 0 m.wires in
    let c : List Drive = cell_drives ports 0 m.cells in
    let l : List Drive = link_drives m.links in
    let t : List Drive = tree_drives 0 m.processes in
    let r : List Drive = rule_drives 0 m.processes in
    let f = two (((p ++ c) ++ l) ++ t) r in
    let g = two ((p ++ c) ++ l) t in
    let h = two (p ++ c) l in
    let i = two p c in
    let cells = ap (count b) (cell_drives_bits ports 0 m.cells) in
    let links = ap (count b) (link_drives_bits m.links even) in
    omega (arith, counted b (drives_of ports m), f, g, h, i, cells, links, trees_bits b 0 m.processes)
  where
    two : (xs ys : List Drive) → count b (bits_of (xs ++ ys)) ≡ count b (bits_of xs) + count b (bits_of ys)
    two xs ys = ap (count b) (bits_more xs ys) ∙ count_more b (bits_of xs) (bits_of ys)

module _ (ports : Ports) (m : Module) (fresh : List Wire) (new : List Cell) (more : List Link) (changed : List Process) (ready : IsReady with_processes ports m) (r : Rebuilds ports m fresh new more changed) where
  abbrev after : Module
  after = rebuilt fresh new more changed m

  none : HasNoFaults with_processes ports m
  none = no_faults with_processes ports m ready.faultless

  even : Each IsEven m.links
  even = links_even m.id 1 m.links none.links

  even_after : Each IsEven (m.links ++ more)
  even_after = each_both IsEven m.links more even r.links

  longer : length m.wires ≤ length (m.wires ++ fresh)
  longer = omega (arith, length-append m.wires fresh)

  -- cells, where memories are taken and clocks are not compared
  module _ (scope : Scope) (taken : scope.memories ≡ true) (alike : scope.clocks ≡ false) where
    -- those of the module, which has the same memories still
    by_type : (earlier : List Cell) (c : Cell) (t : CellType) → faults_by_type scope after earlier c t ≡ faults_by_type with_processes m earlier c t
    by_type earlier c (Library (Cells.Word kind)) = refl
    by_type earlier c (Library (Cells.Gate kind)) = refl
    by_type earlier c (Library (Cells.Storage kind)) = refl
    by_type earlier c (Library (Cells.StorageGate kind)) = refl
    by_type earlier c (Library (Cells.Memory kind)) =
        let here : Spot = spot m.id c.name in
        λ i.
        (fault_if (not (taken i)) (UnsupportedCell here) ++ shape_fault here (misfit (Cells.Memory kind) c) ++ output_faults here (Library (Cells.Memory kind)) c.pins)
        ++ fault_if ((ap (λ z. is_bad_memory_cell z after earlier c kind) alike ∙ memory_alike after m refl earlier c kind) i) (BadMemory here)
    by_type earlier c (Instance lines) = refl
    by_type earlier c Unsupported = refl
    by_type earlier c Unknown = refl

    cells_stay : (earlier cs : List Cell) → cell_faults scope ports after earlier cs ≡ cell_faults with_processes ports m earlier cs
    cells_stay earlier [] = refl
    cells_stay earlier (c ∷ cs) =
        λ i. by_type earlier c (cell_type ports c.kind_name) i ++ cells_stay (earlier ++ c ∷ []) cs i

    -- new cells, which have no faults wherever they stand, are none of a memory
    new_type : (earlier : List Cell) (c : Cell) (t : CellType) → faults_by_type cells_alone after earlier c t ≡ [] → faults_by_type scope after earlier c t ≡ []
    new_type earlier c (Library (Cells.Word kind)) e = e
    new_type earlier c (Library (Cells.Gate kind)) e = e
    new_type earlier c (Library (Cells.Storage kind)) e = e
    new_type earlier c (Library (Cells.StorageGate kind)) e = e
    new_type earlier c (Library (Cells.Memory kind)) e = absurd (cc)
    new_type earlier c (Instance lines) e = e
    new_type earlier c Unsupported e = e
    new_type earlier c Unknown e = e

    cells_new : (earlier cs : List Cell) → Each (IsFaultless ports) cs → cell_faults scope ports after earlier cs ≡ []
    cells_new earlier [] h = refl
    cells_new earlier (c ∷ cs) h =
        λ i. new_type earlier c (cell_type ports c.kind_name) (h c (inl refl) after earlier) i ++ cells_new (earlier ++ c ∷ []) cs (λ x j. h x (inr j)) i

    split : (earlier cs ds : List Cell) → cell_faults scope ports after earlier (cs ++ ds) ≡ cell_faults scope ports after earlier cs ++ cell_faults scope ports after (earlier ++ cs) ds
    split earlier [] ds = ap (λ z. cell_faults scope ports after z ds) (sym (nothing earlier))
      where
        nothing : (xs : List Cell) → xs ++ [] ≡ xs
        nothing [] = refl
        nothing (x ∷ xs) = ap (λ z. x ∷ z) (nothing xs)
    split earlier (c ∷ cs) ds =
        let here : List Fault = faults_by_type scope after earlier c (cell_type ports c.kind_name) in
        ap (λ z. here ++ z) (split (earlier ++ c ∷ []) cs ds ∙ ap (λ z. cell_faults scope ports after (earlier ++ c ∷ []) cs ++ cell_faults scope ports after z ds) (append_assoc earlier (c ∷ []) cs))
        ∙ sym (append_assoc here (cell_faults scope ports after (earlier ++ c ∷ []) cs) (cell_faults scope ports after (earlier ++ (c ∷ cs)) ds))

    cells_none : cell_faults scope ports after [] (m.cells ++ new) ≡ []
    cells_none =
        split [] m.cells new ∙ (λ i. (cells_stay [] m.cells ∙ none.cells) i ++ cells_new m.cells new r.cells i)

    stores_none : (ss : List Store) → flat_map (store_faults with_processes m.id) ss ≡ [] → flat_map (store_faults scope m.id) ss ≡ []
    stores_none [] e = refl
    stores_none (s ∷ ss) e =
        let here : List Fault = store_faults with_processes m.id s in
        let later : List Fault = flat_map (store_faults with_processes m.id) ss in
        let told : store_faults scope m.id s ≡ here = ap (λ t. fault_if (not t) (UnsupportedCell (spot m.id s.name)) ++ fault_if (is_bad_store s) (BadMemory (spot m.id s.name))) taken in
        λ i. (told ∙ none_left here later e) i ++ stores_none ss (none_right here later e) i

    module _ (processes : process_faults scope ports after [] changed ≡ []) where
      links_none : link_faults m.id 1 (m.links ++ more) ≡ []
      links_none = no_link_faults m.id 1 (m.links ++ more) even_after

      -- how often bits are driven before and after
      before_count : (b : WireBit) → drive_count (drives_of ports m) b ≡ count b (bits_of (port_drives 0 m.wires)) + (count b (cells_bits ports m.cells) + (count b (links_bits m.links) + count b (flat_map checked_bits m.processes)))
      before_count b = drives_count ports m even b

      after_count : (b : WireBit) → drive_count (drives_of ports after) b ≡ (count b (bits_of (port_drives 0 m.wires)) + (count b (cells_bits ports m.cells) + count b (links_bits m.links))) + count b (cells_bits ports new ++ (links_bits more ++ flat_map checked_bits changed))
      after_count b =
          let all = drives_count ports after even_after b in
          let outside : count b (bits_of (port_drives 0 (m.wires ++ fresh))) ≡ count b (bits_of (port_drives 0 m.wires)) = ap (λ z. count b (bits_of z)) (more_drives 0 m.wires fresh r.inner) in
          let cells = ap (count b) (cells_more ports m.cells new) ∙ count_more b (cells_bits ports m.cells) (cells_bits ports new) in
          let links = ap (count b) (links_more m.links more) ∙ count_more b (links_bits m.links) (links_bits more) in
          omega (arith, all, outside, cells, links, count_more b (cells_bits ports new) (links_bits more ++ flat_map checked_bits changed), count_more b (links_bits more) (flat_map checked_bits changed))

      few : (b : WireBit) → count b (cells_bits ports new ++ (links_bits more ++ flat_map checked_bits changed)) ≤ count b (bits_from (length m.wires) fresh) + count b (flat_map checked_bits m.processes)
      few b =
          let less = fewer (cells_bits ports new ++ (links_bits more ++ flat_map checked_bits changed)) (bits_from (length m.wires) fresh ++ flat_map checked_bits m.processes) r.checked b in
          omega (arith, less, count_more b (bits_from (length m.wires) fresh) (flat_map checked_bits m.processes))

      old_only : (b : WireBit) → b.wire < length m.wires → drive_count (drives_of ports after) b ≤ drive_count (drives_of ports m) b
      old_only b h = omega (arith, before_count b, after_count b, few b, fresh_below b (length m.wires) fresh h)

      fresh_only : (b : WireBit) → length m.wires ≤ b.wire → drive_count (drives_of ports after) b ≤ 1
      fresh_only b h =
          let n : ℕ = length m.wires in
          let p : count b (bits_of (port_drives 0 m.wires)) ≡ 0 = count_beyond n b _ (ports_below n 0 m.wires (omega arith)) h in
          let c : count b (cells_bits ports m.cells) ≡ 0 = count_beyond n b _ (cells_below n ports m.cells ready.within.cells) h in
          let l : count b (links_bits m.links) ≡ 0 = count_beyond n b _ (links_below n m.links ready.within.links) h in
          let q : count b (flat_map checked_bits m.processes) ≡ 0 = count_beyond n b _ (checked_below n m.processes ready.within.processes) h in
          omega (arith, after_count b, few b, fresh_once b n fresh, p, c, l, q)

      bits_none : bits_faults m.id (drives_of ports after) 0 (m.wires ++ fresh) ≡ []
      bits_none = no_two m.id (drives_of ports after) (drives_of ports m) (length m.wires) old_only m.wires fresh refl fresh_only none.bits

      -- so the new module has no faults, and may be given on
      pub ready_after : IsReady scope ports after
      ready_after = record {
        faultless = all_none (more_faults m.id [] m.wires fresh r.inner ∙ none.wires) (stores_none m.memories none.stores) cells_none processes links_none bits_none;
        named = r.named;
        within = record {
          cells = each_both (CellIn (length (m.wires ++ fresh))) m.cells new (λ c i. cell_wider (length m.wires) (length (m.wires ++ fresh)) longer c (ready.within.cells c i)) r.cells_within;
          links = each_both (LinkIn (length (m.wires ++ fresh))) m.links more (λ l i. link_wider (length m.wires) (length (m.wires ++ fresh)) longer l (ready.within.links l i)) r.links_within;
          processes = r.processes_within;
        };
        once = once_more (length m.wires) (drives_of ports m) (drives_of ports after) old_only fresh_only ready.once;
      }

  -- with processes taken
  pub still_ready : IsReady with_processes ports (rebuilt fresh new more changed m)
  still_ready = ready_after with_processes refl refl r.processes

  -- and without, where none is left
  pub last_ready : changed ≡ [] → IsReady without_processes ports (rebuilt fresh new more changed m)
  last_ready e = ready_after without_processes refl refl (ap (process_faults without_processes ports after []) e)
