-- The module in which a machine has its code, cell by cell: no fault of a cell or a connection, instances and memories as before,
-- fresh wires under fresh names.
use Rattle.std.proofs.Common.{◌≡◌, ◌≤◌, ℕ, zero, suc, ◌+◌, false, List, [], ◌∷◌, ◌++◌, length, Some, inl, inr, refl, sym, ◌∙◌, ap, subst, arith, append_assoc, length-append}
use Rattle.std.specs.Prelude.{slice_get}
use Rattle.cell_types.specs.declared.kind.CellKind.{CellKind}
use Rattle.rtl_ir.specs.Build.{first_number, inner_wire, made_name, made_number}
use Rattle.rtl_ir.specs.Faults.Cells.{is_memory_kind}
use Rattle.rtl_ir.specs.Flat.Cell.{instance_of, instances, listed}
use Rattle.rtl_ir.specs.Flat.Memory.{memories_rows}
use Rattle.rtl_ir.specs.Flat.Place.{Path}
use Rattle.rtl_ir.specs.Types.{Ports}
use Rattle.rtl_ir.specs.declared.cell.Cell.{Cell}
use Rattle.rtl_ir.specs.declared.machine.Machine.{Machine}
use Rattle.rtl_ir.specs.declared.module.Link.{Link}
use Rattle.rtl_ir.specs.declared.module.Module.{Module}
use Rattle.rtl_ir.specs.declared.process.Process.{Process}
use Rattle.rtl_ir.specs.declared.store.Store.{Store}
use Rattle.rtl_ir.specs.declared.wire.Wire.{Wire}
use Rattle.net_model.proofs.Ranges.{each_both, each_more, each_none}
use Rattle.net_model.specs.Fsm.Code.{Coding, code_init}
use Rattle.net_model.specs.Fsm.Find.{whole_wire}
use Rattle.net_model.specs.Lists.{Distinct, In}
use Rattle.net_model.specs.Within.{AreInner, CellIn, Each, LinkIn}
use Rattle.map_laws.proofs.FreshWires.{IsFresh, fresh_number, names_of, old_number, rising_distinct, rising_fresh}
use Rattle.map_laws.proofs.Wholes.{cell_more, link_more}
use Rattle.map_laws.specs.Expansion.{AreRising}
use Rattle.pass_laws.proofs.Accesses.{AreAccesses, accesses_replaced}
use Rattle.pass_laws.proofs.Alone.{IsSound, faultless_sound, library_faultless}
use Rattle.pass_laws.proofs.Forming.{own_accesses, own_cells, own_links}
use Rattle.pass_laws.specs.Ready.{IsReady}
use Rattle.pass_laws.specs.Replaces.{IsEven, IsFaultless, IsOutside}
use Rattle.fsm_laws.proofs.Made.{IsMade, instances_stay, memories_stay}
use Rattle.fsm_laws.specs.Machines.{IsFoundMachine}
use Rattle.fsm_laws.specs.Recoded.{all_links_made, cell_made, cells_made, fresh_wires, links_made, machine_coding, output_wires}
use Rattle.fsm_laws.proofs.Standing.{IsFit, StandsAt}
use Rattle.fsm_laws.proofs.Comparing.{stands}
use Rattle.fsm_laws.proofs.Linking.{AreGood}

-- a cell of a kind that is none of memories is none of a memory
fit_outside : (c : Cell) → IsFit c → IsOutside c
fit_outside c fit k e = subst (λ z. is_memory_kind z ≡ false) (by (sym fit.1.own ∙ e)) fit.1.plain
  where
    by : {j k : CellKind} → Some j ≡ Some k → j ≡ k
    by f = cc

pub fit_faultless : (ports : Ports) (c : Cell) → IsFit c → IsFaultless ports c
fit_faultless ports c fit = library_faultless ports c fit.0 fit.1.own fit.1.plain fit.1.shape fit.1.output

no_instances : (cells : List Cell) → Each IsFit cells → instances cells ≡ []
no_instances [] h = refl
no_instances (c ∷ cells) h =
    (λ i. listed (instance_of c ((h c (inl refl)).1.own i)) ++ no_instances cells (λ x j. h x (inr j)) i)

-- names rise
outputs_rise : (width low : ℕ) (places : List ℕ) → AreRising low (low + length places) (names_of (output_wires width low places))
outputs_rise width low [] = omega arith
outputs_rise width low (at ∷ places) =
    let last : low + 1 + length places ≡ low + length (at ∷ places) = omega arith in
    (low, omega arith, refl, subst (λ k. AreRising (low + 1) k (names_of (output_wires width (low + 1) places))) last (outputs_rise width (low + 1) places))

outputs_inner : (width low : ℕ) (places : List ℕ) → AreInner (output_wires width low places)
outputs_inner width low [] = λ w i. absurd i
outputs_inner width low (at ∷ places) = each_more _ (inner_wire (made_name low) width []) (output_wires width (low + 1) places) refl (outputs_inner width (low + 1) places)

outputs_length : (width low : ℕ) (places : List ℕ) → length (output_wires width low places) ≡ length places
outputs_length width low [] = refl
outputs_length width low (at ∷ places) = ap suc (outputs_length width (low + 1) places)

module _ (m : Module) (machine : Machine) where
  abbrev high : ℕ
  high = first_number m + 1 + length machine.muxes

  pub rising : AreRising (first_number m) high (names_of (fresh_wires m machine))
  rising = (first_number m, omega arith, refl, outputs_rise (length machine.states) (first_number m + 1) machine.muxes)

  pub inner : AreInner (fresh_wires m machine)
  inner = each_more _ (inner_wire (made_name (first_number m)) (length machine.states) (code_init machine.states machine.start)) (output_wires (length machine.states) (first_number m + 1) machine.muxes) refl (outputs_inner (length machine.states) (first_number m + 1) machine.muxes)

  pub wires_count : length (m.wires ++ fresh_wires m machine) ≡ length m.wires + 1 + length machine.muxes
  wires_count =
      let more = outputs_length (length machine.states) (first_number m + 1) machine.muxes in
      omega (arith, length-append m.wires (fresh_wires m machine), more)

  -- no fresh wire has the name of a wire of the module
  pub names_apart : high ≤ 1000000000 → (name : List ℕ) → In name (names_of m.wires) → In name (names_of (fresh_wires m machine)) → ⊥
  names_apart few name i j =
      let is : IsFresh (first_number m) high name = rising_fresh (first_number m) high (names_of (fresh_wires m machine)) rising name j in
      let number : made_number name ≡ is.number = fresh_number (first_number m) high name (omega arith) few is in
      omega (arith, number, is.above, old_number m name i)

  pub fresh_names : high ≤ 1000000000 → Distinct (names_of (fresh_wires m machine))
  fresh_names few = rising_distinct high few (first_number m) (omega arith) (names_of (fresh_wires m machine)) rising

module _ (ports : Ports) (m : Module) (wire : ℕ) (machine : Machine) (ready : IsReady ports m) (found : IsFoundMachine ports m wire machine) where
  abbrev pub coding : Coding
  coding = machine_coding m machine (whole_wire wire found.wire)

  abbrev count : ℕ
  count = length m.wires + 1 + length machine.muxes

  stands_at : (at : ℕ) (cell : Cell) → slice_get m.cells at ≡ Some cell → StandsAt ports m wire machine ready found at cell (cell_made m machine coding at cell) (links_made m machine coding at cell)
  stands_at = stands ports m wire machine ready found

  -- of each cell, from a place on
  abbrev All : (ℕ → Cell → Type 0) → ℕ → List Cell → Type 0
  All P from cells = (i : ℕ) (cell : Cell) → slice_get cells i ≡ Some cell → P (from + i) cell

  first_of : (P : ℕ → Cell → Type 0) (from : ℕ) (cell : Cell) (cells : List Cell) → All P from (cell ∷ cells) → P from cell
  first_of P from cell cells h = let place : from + 0 ≡ from = omega arith in subst (λ k. P k cell) place (h 0 cell refl)

  rest_of : (P : ℕ → Cell → Type 0) (from : ℕ) (cell : Cell) (cells : List Cell) → All P from (cell ∷ cells) → All P (from + 1) cells
  rest_of P from cell cells h i c e = let next : from + suc i ≡ from + 1 + i = omega arith in subst (λ k. P k c) next (h (suc i) c e)

  all_of : (P : ℕ → Cell → Type 0) → ((at : ℕ) (cell : Cell) → slice_get m.cells at ≡ Some cell → P at cell) → All P 0 m.cells
  all_of P h i cell e = let place : 0 + i ≡ i = omega arith in subst (λ k. P k cell) (sym place) (h i cell e)

  -- what is so of all that stands in the places of cells
  cells_each : (P : Cell → Type 0) (from : ℕ) (cells : List Cell) → All (λ at cell. Each P (cell_made m machine coding at cell)) from cells → Each P (cells_made m machine coding from cells)
  cells_each P from [] h = each_none P
  cells_each P from (cell ∷ cells) h =
      each_both P (cell_made m machine coding from cell) (cells_made m machine coding (from + 1) cells)
      (first_of (λ at c. Each P (cell_made m machine coding at c)) from cell cells h)
      (cells_each P (from + 1) cells (rest_of (λ at c. Each P (cell_made m machine coding at c)) from cell cells h))

  links_each : (P : Link → Type 0) (from : ℕ) (cells : List Cell) → All (λ at cell. Each P (links_made m machine coding at cell)) from cells → Each P (all_links_made m machine coding from cells)
  links_each P from [] h = each_none P
  links_each P from (cell ∷ cells) h =
      each_both P (links_made m machine coding from cell) (all_links_made m machine coding (from + 1) cells)
      (first_of (λ at c. Each P (links_made m machine coding at c)) from cell cells h)
      (links_each P (from + 1) cells (rest_of (λ at c. Each P (links_made m machine coding at c)) from cell cells h))

  in_cells : (at : ℕ) (cells : List Cell) (cell : Cell) → slice_get cells at ≡ Some cell → In cell cells
  in_cells at [] cell e = absurd (cc)
  in_cells zero (c ∷ cells) cell e = let same : cell ≡ c = cc in inl same
  in_cells (suc at) (c ∷ cells) cell e = inr (in_cells at cells cell e)

  one_each : (P : Cell → Type 0) (cell : Cell) (here : List Cell) → here ≡ cell ∷ [] → P cell → Each P here
  one_each P cell here e h = subst (Each P) (sym e) (each_more P cell [] h (each_none P))

  pub cells_sound : Each (IsSound ports) (cells_made m machine coding 0 m.cells)
  cells_sound =
      cells_each (IsSound ports) 0 m.cells
      (all_of (λ at cell. Each (IsSound ports) (cell_made m machine coding at cell)) (λ at cell e. by at cell e (cell_made m machine coding at cell) (links_made m machine coding at cell) (stands_at at cell e)))
    where
      by : (at : ℕ) (cell : Cell) → slice_get m.cells at ≡ Some cell → (here : List Cell) (links : List Link) → StandsAt ports m wire machine ready found at cell here links → Each (IsSound ports) here
      by at cell e here links (inl s) = one_each (IsSound ports) cell here s.0 (own_cells ports m ready cell (in_cells at m.cells cell e))
      by at cell e here links (inr r) = λ d i. faultless_sound ports d (fit_faultless ports d (r.new d i))

  pub cells_within : Each (CellIn (length m.wires + 1 + length machine.muxes)) (cells_made m machine coding 0 m.cells)
  cells_within =
      cells_each (CellIn count) 0 m.cells
      (all_of (λ at cell. Each (CellIn count) (cell_made m machine coding at cell)) (λ at cell e. by at cell e (cell_made m machine coding at cell) (links_made m machine coding at cell) (stands_at at cell e)))
    where
      by : (at : ℕ) (cell : Cell) → slice_get m.cells at ≡ Some cell → (here : List Cell) (links : List Link) → StandsAt ports m wire machine ready found at cell here links → Each (CellIn count) here
      by at cell e here links (inl s) = one_each (CellIn count) cell here s.0 (cell_more (length m.wires) count cell (omega arith) (ready.within.cells cell (in_cells at m.cells cell e)))
      by at cell e here links (inr r) = r.within

  good_at : (at : ℕ) (cell : Cell) (here : List Cell) (links : List Link) → StandsAt ports m wire machine ready found at cell here links → AreGood count links
  good_at at cell here links (inl s) = subst (AreGood count) (sym s.1) (record { even = each_none IsEven; within = each_none (LinkIn count) })
  good_at at cell here links (inr r) = r.good

  good : (at : ℕ) (cell : Cell) → slice_get m.cells at ≡ Some cell → AreGood count (links_made m machine coding at cell)
  good at cell e = good_at at cell (cell_made m machine coding at cell) (links_made m machine coding at cell) (stands_at at cell e)

  pub more_even : Each IsEven (all_links_made m machine coding 0 m.cells)
  more_even = links_each IsEven 0 m.cells (all_of (λ at cell. Each IsEven (links_made m machine coding at cell)) (λ at cell e. (good at cell e).even))

  pub links_even : Each IsEven (m.links ++ all_links_made m machine coding 0 m.cells)
  links_even = each_both IsEven m.links (all_links_made m machine coding 0 m.cells) (own_links ports m ready) more_even

  pub links_within : Each (LinkIn (length m.wires + 1 + length machine.muxes)) (m.links ++ all_links_made m machine coding 0 m.cells)
  links_within =
      each_both (LinkIn count) m.links (all_links_made m machine coding 0 m.cells)
      (λ l i. link_more (length m.wires) count l (omega arith) (ready.within.links l i))
      (links_each (LinkIn count) 0 m.cells (all_of (λ at cell. Each (LinkIn count) (links_made m machine coding at cell)) (λ at cell e. (good at cell e).within)))

  -- cells come in the place of one that is none of a memory
  made : (at : ℕ) (cell : Cell) → slice_get m.cells at ≡ Some cell → IsMade cell (cell_made m machine coding at cell)
  made at cell e = by (cell_made m machine coding at cell) (links_made m machine coding at cell) (stands_at at cell e)
    where
      by : (here : List Cell) (links : List Link) → StandsAt ports m wire machine ready found at cell here links → IsMade cell here
      by here links (inl s) = inl s.0
      by here links (inr r) =
          inr (record {
            old = fit_outside cell r.old;
            new = λ d i. fit_outside d (r.new d i);
            children = no_instances here r.new ∙ sym (no_instances (cell ∷ []) (each_more IsFit cell [] r.old (each_none IsFit)));
          })

  all_made : All (λ at cell. IsMade cell (cell_made m machine coding at cell)) 0 m.cells
  all_made = all_of (λ at cell. IsMade cell (cell_made m machine coding at cell)) made

  pub same_instances : instances (cells_made m machine coding 0 m.cells) ≡ instances m.cells
  same_instances = instances_stay m machine coding 0 m.cells all_made

  pub same_memories : (p : Path) (wires : List Wire) (processes : List Process) (stores : List Store) → memories_rows p wires (cells_made m machine coding 0 m.cells) processes stores ≡ memories_rows p wires m.cells processes stores
  same_memories p wires processes stores = memories_stay m machine coding p wires processes stores m.cells all_made

  -- cells of memories have no faults
  one_access : (pre : List Cell) (cell : Cell) (post here : List Cell) → IsMade cell here → AreAccesses ports m [] (pre ++ cell ∷ post) → AreAccesses ports m [] (pre ++ (here ++ post))
  one_access pre cell post here (inl e) h = subst (λ z. AreAccesses ports m [] (pre ++ (z ++ post))) (sym e) h
  one_access pre cell post here (inr o) h = accesses_replaced ports m m refl pre cell post here o.old o.new h

  accesses : (from : ℕ) (pre cells : List Cell) → All (λ at cell. IsMade cell (cell_made m machine coding at cell)) from cells → AreAccesses ports m [] (pre ++ cells) → AreAccesses ports m [] (pre ++ cells_made m machine coding from cells)
  accesses from pre [] h a = a
  accesses from pre (cell ∷ cells) h a =
      let here : List Cell = cell_made m machine coding from cell in
      let later : List Cell = cells_made m machine coding (from + 1) cells in
      subst (AreAccesses ports m []) (append_assoc pre here later)
      (accesses (from + 1) (pre ++ here) cells (rest_of (λ at c. IsMade c (cell_made m machine coding at c)) from cell cells h)
      (subst (AreAccesses ports m []) (sym (append_assoc pre here cells)) (one_access pre cell cells here (first_of (λ at c. IsMade c (cell_made m machine coding at c)) from cell cells h) a)))

  pub cells_access : AreAccesses ports m [] (cells_made m machine coding 0 m.cells)
  cells_access = accesses 0 [] m.cells all_made (own_accesses ports m ready)
