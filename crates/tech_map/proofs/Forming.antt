-- The module with gates in the places of cells may be given to the next pass.
use Rattle.std.proofs.Common.{◌≡◌, ◌≤◌, ◌<◌, ℕ, ◌+◌, false, List, [], ◌∷◌, ◌++◌, length, Option, Some, None, inl, inr, refl, sym, ◌∙◌, ap, subst, arith, length-append}
use Rattle.std.specs.Prelude.{map, IsPermutation}
use Rattle.cell_types.specs.declared.kind.CellKind.{CellKind}
use Rattle.rtl_sig.specs.declared.sig.WireBit.{WireBit}
use Rattle.rtl_ir.specs.Build.{Building, building_of}
use Rattle.rtl_ir.specs.Drivers.{drive_count, drives_of, port_drives}
use Rattle.rtl_ir.specs.Faults.{module_faults}
use Rattle.rtl_ir.specs.Faults.Bits.{bits_faults}
use Rattle.rtl_ir.specs.Faults.Cells.{cell_faults, is_memory_kind}
use Rattle.rtl_ir.specs.Faults.Processes.{process_faults}
use Rattle.rtl_ir.specs.Flat.Cell.{cell_kind}
use Rattle.rtl_ir.specs.Scope.{without_processes}
use Rattle.rtl_ir.specs.Types.{Ports, cell_type}
use Rattle.rtl_ir.specs.declared.cell.Cell.{Cell}
use Rattle.rtl_ir.specs.declared.module.Module.{Module}
use Rattle.rtl_ir.specs.declared.wire.Wire.{Wire}
use Rattle.net_model.proofs.Members.{Distinct-append, map-append}
use Rattle.net_model.specs.Lists.{Distinct, In}
use Rattle.net_model.specs.Within.{CellIn, Each, LinkIn}
use Rattle.map_laws.specs.Expansion.{IsWhole, IsWholeCell, IsWholeGate, IsWholeLink, bits_from, cell_bits, link_bits, links_added, wires_added}
use Rattle.map_laws.proofs.FreshWires.{names_of}
use Rattle.map_laws.proofs.Wholes.{cell_more, gate_more, line_more, link_more}
use Rattle.pass_laws.proofs.Accesses.{accesses_stay, cells_access, cells_sound, none_there}
use Rattle.pass_laws.proofs.Alone.{IsSound, faultless_sound, library_faultless, links_even, no_link_faults, shape_of}
use Rattle.pass_laws.proofs.Counting.{bits_of, count, count_more, driven_count, links_more}
use Rattle.pass_laws.proofs.Faultless.{HasNoFaults, IsPlain, no_faults, plain, type_is}
use Rattle.pass_laws.proofs.Forming.{all_none, own_cells as ready_cells}
use Rattle.pass_laws.specs.Bits.{cells_bits, links_bits, pin_bits}
use Rattle.pass_laws.specs.Ready.{IsReady}
use Rattle.pass_laws.specs.Replaces.{IsEven}
use Rattle.tech_map.specs.Techmap.{beside, stand_in, stand_ins, taken_kind, techmap_of, with_all_gates, with_gates}
use Rattle.build_laws.proofs.CountingBits.{cells_below, count_beyond, fresh_below, fresh_once, links_below, no_two, once_more, ports_below}
use Rattle.pass_laws.proofs.Widening.{more_drives, more_faults}
use Rattle.tech_map.proofs.Counts.{count-permutation}
use Rattle.tech_map.proofs.Drives.{all_drive, gate_plain}
use Rattle.tech_map.proofs.Driving.{fresh_distinct, names_apart}
use Rattle.tech_map.proofs.Growing.{AreWhole, all_add, all_added, one_added, whole_next}
use Rattle.tech_map.proofs.ByKind.{bits_are, mapped, taken_is}
use Rattle.tech_map.proofs.Remembering.{accesses_kept}
use Rattle.tech_map.proofs.Standing.{IsTakable, each_of_two, fresh, inner, lines_more, swapped, swapped_is}

-- a module that a pass may be given has what this one needs
pub takable : (ports : Ports) (m : Module) → IsReady ports m → IsTakable m
takable ports m ready =
    let fine : IsPlain m = plain ports m ready.faultless in
    record {
      processes = fine.processes;
      whole = λ c i kind own.
          let fits = shape_of ports c kind own (ready_cells ports m ready c i) in
          record { own = own; shape = fits.fit; output = fits.output; within = ready.within.cells c i };
      within = ready.within;
    }

pub ready_whole : (ports : Ports) (m : Module) → IsReady ports m → Each (IsWholeCell (length m.wires)) m.cells
ready_whole ports m ready = (takable ports m ready).whole

-- what stands in the place of a cell: the cell itself, or a gate
module _ (ports : Ports) where
  abbrev GoesOn : ℕ → Cell → Type 0
  GoesOn n g = IsSound ports g × CellIn n g

  gate_goes : (n : ℕ) (g : Cell) → IsWholeGate n g → GoesOn n g
  gate_goes n g gate = (
    faultless_sound ports g (library_faultless ports g gate.kind gate.whole.own (gate_plain gate.kind gate.gate) gate.whole.shape gate.whole.output),
    gate.whole.within,
  )

  one_goes : (n : ℕ) (c : Cell) (b : Building) → IsWholeCell (length b.body.wires) c → GoesOn n c → (k : Option CellKind) → taken_kind c ≡ k → length (with_gates k c b).body.wires ≤ n → Each (GoesOn n) (stand_in k c b)
  one_goes n c b whole fine None e few g (inl here) = subst (GoesOn n) (sym here) fine
  one_goes n c b whole fine None e few g (inr i) = absurd i
  one_goes n c b whole fine (Some kind) e few g i =
      let is = taken_is (cell_kind c) kind e in
      gate_goes n g (gate_more (length (with_gates (Some kind) c b).body.wires) n g few ((mapped kind is.taken c b (whole kind is.own)).expansion.gates g i))

  wires_later : (cs : List Cell) (b : Building) → AreWhole cs b → length b.body.wires ≤ length (with_all_gates cs b).body.wires
  wires_later cs b whole = omega (arith, ap (λ m. length m.wires) (all_add cs b whole).body, length-append b.body.wires (all_added wires_added cs b))

  all_go : (n : ℕ) (cs : List Cell) (b : Building) → AreWhole cs b → Each (GoesOn n) cs → length (with_all_gates cs b).body.wires ≤ n → Each (GoesOn n) (stand_ins cs b)
  all_go n [] b whole fine few = λ g i. absurd i
  all_go n (c ∷ cs) b whole fine few =
      let next : Building = with_gates (taken_kind c) c b in
      let later : AreWhole cs next = whole_next c cs b whole in
      each_of_two (GoesOn n) (stand_in (taken_kind c) c b) (stand_ins cs next)
      (one_goes n c b (whole c (inl refl)) (fine c (inl refl)) (taken_kind c) refl (omega (arith, wires_later cs next later, few)))
      (all_go n cs next later (λ d j. fine d (inr j)) few)

-- the connections that were added
one_line : (n : ℕ) (c : Cell) (b : Building) → IsWholeCell (length b.body.wires) c → (k : Option CellKind) → taken_kind c ≡ k → length (with_gates k c b).body.wires ≤ n → Each (IsWholeLink n) (one_added links_added k c b)
one_line n c b whole None e few l i = absurd i
one_line n c b whole (Some kind) e few l i =
    let is = taken_is (cell_kind c) kind e in
    line_more (length (with_gates (Some kind) c b).body.wires) n l few ((mapped kind is.taken c b (whole kind is.own)).expansion.lines l i)

all_lines : (n : ℕ) (cs : List Cell) (b : Building) → AreWhole cs b → length (with_all_gates cs b).body.wires ≤ n → Each (IsWholeLink n) (all_added links_added cs b)
all_lines n [] b whole few = λ l i. absurd i
all_lines n (c ∷ cs) b whole few =
    let next : Building = with_gates (taken_kind c) c b in
    let later : AreWhole cs next = whole_next c cs b whole in
    each_of_two (IsWholeLink n) (one_added links_added (taken_kind c) c b) (all_added links_added cs next)
    (one_line n c b (whole c (inl refl)) (taken_kind c) refl (omega (arith, wires_later (λ name. None) cs next later, few)))
    (all_lines n cs next later few)

-- a module that can be taken, and has no faults over these ports
module _ (ports : Ports) (m : Module) (fine : IsTakable m) (none : HasNoFaults without_processes ports m) where
  own_cells : Each (IsSound ports) m.cells
  own_cells = cells_sound ports m [] m.cells none.cells

  own_links : Each IsEven m.links
  own_links = links_even m.id 1 m.links none.links

  abbrev new : Module
  new = swapped m fine

  count_new : length new.wires ≡ length m.wires + length (fresh m fine)
  count_new = length-append m.wires (fresh m fine)

  beside_wires : length (beside m).body.wires ≡ length new.wires
  beside_wires = ap (λ n. length n.wires) (all_add m.cells (building_of m) fine.whole).body

  few : length (with_all_gates m.cells (building_of m)).body.wires ≤ length new.wires
  few = omega (arith, beside_wires)

  cells_go : Each (GoesOn ports (length new.wires)) new.cells
  cells_go =
      all_go ports (length new.wires) m.cells (building_of m) fine.whole
      (λ c i. (own_cells c i, cell_more (length m.wires) (length new.wires) c (omega (arith, count_new)) (fine.within.cells c i))) few

  whole_lines : Each (IsWholeLink (length new.wires)) (lines_more m fine)
  whole_lines = all_lines (length new.wires) m.cells (building_of m) fine.whole few

  even : Each IsEven new.links
  even =
      each_of_two IsEven m.links (lines_more m fine) own_links
      (λ l i. record { width = (whole_lines l i).even; wires = (whole_lines l i).left })

  links_within : Each (LinkIn (length new.wires)) new.links
  links_within =
      each_of_two (LinkIn (length new.wires)) m.links (lines_more m fine)
      (λ l i. link_more (length m.wires) (length new.wires) l (omega (arith, count_new)) (fine.within.links l i))
      (λ l i. (whole_lines l i).within)

  -- how often a bit is driven: as often as before, and once more where it is of a fresh wire
  abbrev of_fresh : WireBit → ℕ
  of_fresh b = count b (bits_from (length m.wires) (fresh m fine))

  own : (n : ℕ) (kind : CellKind) (c : Cell) → is_memory_kind kind ≡ false → IsWhole n kind c → pin_bits (cell_type ports c.kind_name) c.pins ≡ map (λ (b : WireBit). b) (cell_bits c)
  own n kind c is whole = ap (λ t. pin_bits t c.pins) (type_is ports c kind whole.own) ∙ bits_are n kind c is whole ∙ sym (same (cell_bits c))
    where
      same : (xs : List WireBit) → map (λ (b : WireBit). b) xs ≡ xs
      same [] = refl
      same (x ∷ xs) = ap (λ z. x ∷ z) (same xs)

  same : (xs : List WireBit) → map (λ (b : WireBit). b) xs ≡ xs
  same [] = refl
  same (x ∷ xs) = ap (λ z. x ∷ z) (same xs)

  bits : IsPermutation (cells_bits ports new.cells ++ links_bits (lines_more m fine)) (bits_from (length m.wires) (fresh m fine) ++ cells_bits ports m.cells)
  bits =
      subst (λ z. IsPermutation (cells_bits ports new.cells ++ links_bits (lines_more m fine)) (z ++ cells_bits ports m.cells)) (same (bits_from (length m.wires) (fresh m fine)))
      (all_drive (λ b. b) (λ c. pin_bits (cell_type ports c.kind_name) c.pins) link_bits own (λ n l whole. sym (same (link_bits l))) m.cells (building_of m) fine.whole)

  driven : (b : WireBit) → drive_count (drives_of ports new) b ≡ of_fresh b + drive_count (drives_of ports m) b
  driven b =
      let before = driven_count ports m fine.processes own_links b in
      let after = driven_count ports new fine.processes even b in
      let p : count b (bits_of (port_drives 0 new.wires)) ≡ count b (bits_of (port_drives 0 m.wires)) = ap (λ z. count b (bits_of z)) (more_drives 0 m.wires (fresh m fine) (inner m fine)) in
      let cells : List WireBit = cells_bits ports new.cells in
      let more : List WireBit = links_bits (lines_more m fine) in
      let l : count b (links_bits new.links) ≡ count b (links_bits m.links) + count b more = ap (count b) (links_more m.links (lines_more m fine)) ∙ count_more b (links_bits m.links) more in
      let moved : count b (cells ++ more) ≡ count b (bits_from (length m.wires) (fresh m fine) ++ cells_bits ports m.cells) = count-permutation b _ _ bits in
      omega (arith, before, after, p, l, moved, count_more b cells more, count_more b (bits_from (length m.wires) (fresh m fine)) (cells_bits ports m.cells), count_more b cells (links_bits new.links), count_more b (cells_bits ports m.cells) (links_bits m.links))

  old_only : (b : WireBit) → b.wire < length m.wires → drive_count (drives_of ports new) b ≤ drive_count (drives_of ports m) b
  old_only b h = omega (arith, driven b, fresh_below b (length m.wires) (fresh m fine) h)

  -- no bit of a fresh wire was driven
  not_before : (b : WireBit) → length m.wires ≤ b.wire → drive_count (drives_of ports m) b ≡ 0
  not_before b h =
      let before = driven_count ports m fine.processes own_links b in
      let p : count b (bits_of (port_drives 0 m.wires)) ≡ 0 = count_beyond (length m.wires) b _ (ports_below (length m.wires) 0 m.wires (omega arith)) h in
      let c : count b (cells_bits ports m.cells) ≡ 0 = count_beyond (length m.wires) b _ (cells_below (length m.wires) ports m.cells fine.within.cells) h in
      let l : count b (links_bits m.links) ≡ 0 = count_beyond (length m.wires) b _ (links_below (length m.wires) m.links fine.within.links) h in
      omega (arith, before, p, c, l, count_more b (cells_bits ports m.cells) (links_bits m.links))

  fresh_only : (b : WireBit) → length m.wires ≤ b.wire → drive_count (drives_of ports new) b ≤ 1
  fresh_only b h = omega (arith, driven b, not_before b h, fresh_once b (length m.wires) (fresh m fine))

  no_cells : cell_faults without_processes ports new [] new.cells ≡ []
  no_cells =
      none_there ports new [] new.cells (λ c i. (cells_go c i).0)
      (accesses_stay ports m new refl [] [] (λ name. refl) new.cells (accesses_kept m.cells (building_of m) fine.whole ports m (cells_access ports m [] m.cells none.cells)))

  no_bits : bits_faults m.id (drives_of ports new) 0 new.wires ≡ []
  no_bits =
      no_two m.id (drives_of ports new) (drives_of ports m) (length m.wires) old_only m.wires (fresh m fine) refl fresh_only none.bits

  -- so it has none after the pass
  pub swap_faultless : module_faults without_processes ports (swapped m fine) ≡ []
  swap_faultless =
      all_none (more_faults m.id [] m.wires (fresh m fine) (inner m fine) ∙ none.wires) none.stores no_cells
      (ap (process_faults without_processes ports new []) fine.processes)
      (no_link_faults m.id 1 new.links even) no_bits

  pub swap_ready : IsReady ports m → (beside m).next ≤ 1000000000 → IsReady ports (swapped m fine)
  swap_ready ready names = record {
    faultless = swap_faultless;
    named =
        subst Distinct (sym (map-append (λ (w : Wire). w.name) m.wires (fresh m fine)))
        (Distinct-append (names_of m.wires) (names_of (fresh m fine)) ready.named (fresh_distinct m fine names) (λ name i j. names_apart m fine names name j i));
    within = record { cells = λ c i. (cells_go c i).1; links = links_within; processes = λ q i. absurd (subst (In q) fine.processes i) };
    once = once_more (length m.wires) (drives_of ports m) (drives_of ports new) old_only fresh_only ready.once;
  }

pub techmap_ready : (ports : Ports) (m : Module) → IsReady ports m → (beside m).next ≤ 1000000000 → IsReady ports (techmap_of m)
techmap_ready ports m ready names =
    let fine : IsTakable m = takable ports m ready in
    subst (IsReady ports) (sym (swapped_is m fine)) (swap_ready ports m fine (no_faults without_processes ports m ready.faultless) ready names)
