-- In the cold run of an accepted design no module stands in itself, where it is a netlist.
use Rattle.std.proofs.Common.{◌≡◌, ⊎_elim, ℕ, zero, suc, ◌+◌, ◌==◌, ◌||◌, Bool, true, false, cond, List, [], ◌∷◌, ◌++◌, get_or, length, Option, Some, None, inl, inr, refl, sym, ◌∙◌, ap}
use Rattle.std.specs.Prelude.{filter_map, flat_map, is_some, map, nat_lt, not, if◌then◌else◌}
use Rattle.std.specs.List.{cons_option, list_any, prefix_len, range_with_len}
use Rattle.std.specs.Str.{bytes_eq}
use Rattle.cell_types.specs.Kind.{kind_of}
use Rattle.cell_types.specs.declared.kind.CellKind.{CellKind}
use Rattle.rtl_ir.specs.Fault.{Recursion, fault_if}
use Rattle.rtl_ir.specs.Faults.{check_faults, module_faults}
use Rattle.rtl_ir.specs.Faults.Recursion.{id_at, instance_places, leads_within, place_named, recursion_faults}
use Rattle.rtl_ir.specs.Flat.Cell.{cell_kind, instance_of, instances, listed}
use Rattle.rtl_ir.specs.Flat.Place.{Frame}
use Rattle.rtl_ir.specs.Ports.{is_library_cell}
use Rattle.rtl_ir.specs.Scope.{everything}
use Rattle.rtl_ir.specs.Types.{design_ports}
use Rattle.rtl_ir.specs.declared.cell.Cell.{Cell}
use Rattle.rtl_ir.specs.declared.module.Design.{Design}
use Rattle.rtl_ir.specs.declared.module.Module.{Module}
use Rattle.net_model.specs.Lists.{In}
use Rattle.gate_laws.specs.Instances.{HaveSameInstances}
use Rattle.pass_laws.proofs.Faultless.{none_right}
use Rattle.script_core.specs.declared.outcome.Outcome.TheVariants.{Done}
use Rattle.script_core.specs.declared.word.Word.{Word}
use Rattle.script_core.specs.Cold.{IsNetlist, cold, outcome_of}
use Rattle.script_core.specs.Fold.{StartsWithProc}
use Rattle.rtl_readable.specs.Readable.{IsReadable}
use Rattle.script_core.specs.Words.{flattens}
use Rattle.script_core.proofs.FlatRuns.{outcome_leaves}
use Rattle.script_core.proofs.Refining.{own_pass}

-- ---- modules with the same names and instances

-- the name at a place
same_id : (ms ns : List Module) → HaveSameInstances ms ns → (at : ℕ) → id_at ms at ≡ id_at ns at
same_id [] [] h at = refl
same_id (m ∷ ms) (n ∷ ns) h zero = h.0
same_id (m ∷ ms) (n ∷ ns) h (suc at) = same_id ms ns h.2 at
same_id [] (n ∷ ns) h at = absurd h
same_id (m ∷ ms) [] h at = absurd h

-- how many there are
same_length : (ms ns : List Module) → HaveSameInstances ms ns → length ms ≡ length ns
same_length [] [] h = refl
same_length (m ∷ ms) (n ∷ ns) h = ap suc (same_length ms ns h.2)
same_length [] (n ∷ ns) h = absurd h
same_length (m ∷ ms) [] h = absurd h

-- the place of a name
place_after : (ms ns : List Module) → HaveSameInstances ms ns → (name : List ℕ) → prefix_len (λ (m : Module). not (bytes_eq m.id name)) ms ≡ prefix_len (λ (m : Module). not (bytes_eq m.id name)) ns
place_after [] [] h name = refl
place_after (m ∷ ms) (n ∷ ns) h name =
    λ j. cond (not (bytes_eq (h.0 j) name)) (1 + place_after ms ns h.2 name j) 0
place_after [] (n ∷ ns) h name = absurd h
place_after (m ∷ ms) [] h name = absurd h

same_place : (ms ns : List Module) → HaveSameInstances ms ns → (name : List ℕ) → place_named ms name ≡ place_named ns name
same_place ms ns h name =
    λ j. cond (nat_lt (place_after ms ns h name j) (same_length ms ns h j)) (Some (place_after ms ns h name j)) None

-- the places of instances by the instances
by_frames : (place : List ℕ → Option ℕ) (cells : List Cell) → filter_map (λ (c : Cell). if is_library_cell c.kind_name then None else place c.kind_name) cells ≡ filter_map (λ (f : Frame). place f.module_name) (instances cells)
unfolding is_library_cell cell_kind
by_frames place [] = refl
by_frames place (c ∷ cells) = by (kind_of c.kind_name) (by_frames place cells)
  where
    by : (k : Option CellKind)
        → filter_map (λ (d : Cell). if is_library_cell d.kind_name then None else place d.kind_name) cells ≡ filter_map (λ (f : Frame). place f.module_name) (instances cells)
        → cons_option (if is_some k then None else place c.kind_name) (filter_map (λ (d : Cell). if is_library_cell d.kind_name then None else place d.kind_name) cells) ≡ filter_map (λ (f : Frame). place f.module_name) (listed (instance_of c k) ++ instances cells)
    by (Some kind) later = later
    by None later = ap (cons_option (place c.kind_name)) later

same_places : (ms ns : List Module) → HaveSameInstances ms ns → (cells others : List Cell) → instances cells ≡ instances others → instance_places ms cells ≡ instance_places ns others
same_places ms ns h cells others e =
    by_frames (place_named ms) cells
    ∙ (λ j. filter_map (λ (f : Frame). same_place ms ns h f.module_name j) (e j))
    ∙ sym (by_frames (place_named ns) others)

same_graph : (all others : List Module) → HaveSameInstances all others → (ms ns : List Module) → HaveSameInstances ms ns → map (λ (m : Module). instance_places all m.cells) ms ≡ map (λ (m : Module). instance_places others m.cells) ns
same_graph all others same [] [] h = refl
same_graph all others same (m ∷ ms) (n ∷ ns) h =
    λ j. same_places all others same m.cells n.cells h.1 j ∷ same_graph all others same ms ns h.2 j
same_graph all others same [] (n ∷ ns) h = absurd h
same_graph all others same (m ∷ ms) [] h = absurd h

same_recursion : (ms ns : List Module) → HaveSameInstances ms ns → recursion_faults ms ≡ recursion_faults ns
same_recursion ms ns h =
    let graph = same_graph ms ns h ms ns h in
    let count = same_length ms ns h in
    λ j. flat_map (λ at. fault_if (leads_within (graph j) (count j) at at) (Recursion (same_id ms ns h at j))) (range_with_len 0 (count j))

-- ---- modules without instances

no_places : (ms : List Module) (cells : List Cell) → instances cells ≡ [] → instance_places ms cells ≡ []
no_places ms cells e = by_frames (place_named ms) cells ∙ ap (filter_map (λ (f : Frame). place_named ms f.module_name)) e

no_rows : (all ms : List Module) → ((m : Module) → In m ms → instances m.cells ≡ []) → (at : ℕ) → get_or (map (λ (m : Module). instance_places all m.cells) ms) at [] ≡ []
no_rows all [] h at = refl
no_rows all (m ∷ ms) h zero = no_places all m.cells (h m (inl refl))
no_rows all (m ∷ ms) h (suc at) = no_rows all ms (λ n i. h n (inr i)) at

no_lead : (ms : List Module) → ((m : Module) → In m ms → instances m.cells ≡ []) → (n at : ℕ) → leads_within (map (λ (m : Module). instance_places ms m.cells) ms) n at at ≡ false
no_lead ms h zero at = refl
no_lead ms h (suc n) at =
    ap (list_any (λ k. (k == at) || leads_within (map (λ (m : Module). instance_places ms m.cells) ms) n k at)) (no_rows ms ms h at)

no_recursion : (ms : List Module) → ((m : Module) → In m ms → instances m.cells ≡ []) → recursion_faults ms ≡ []
no_recursion ms h = all_none (range_with_len 0 (length ms))
  where
    all_none : (places : List ℕ) → flat_map (λ at. fault_if (leads_within (map (λ (m : Module). instance_places ms m.cells) ms) (length ms) at at) (Recursion (id_at ms at))) places ≡ []
    all_none [] = refl
    all_none (at ∷ places) =
        λ j. fault_if (no_lead ms h (length ms) at j) (Recursion (id_at ms at)) ++ all_none places j

-- ---- cold runs

module _ (d : Design) (readable : IsReadable d) (none : check_faults d.modules ≡ []) (script : List Word) (stage : StartsWithProc script) where
  each_alike : flattens script ≡ false → (bs cs : List Module) → ((b : Module) → In b bs → In b d.modules) → map (outcome_of script d.modules) bs ≡ map Done cs → HaveSameInstances bs cs
  each_alike plain [] [] h e = tt
  each_alike plain [] (c ∷ cs) h e = absurd cc
  each_alike plain (b ∷ bs) [] h e = absurd cc
  each_alike plain (b ∷ bs) (c ∷ cs) h e =
      let first : outcome_of script d.modules b ≡ Done c = cc in
      let rest : map (outcome_of script d.modules) bs ≡ map Done cs = cc in
      let pass = own_pass d readable none script stage plain b (h b (inl refl)) c first in
      (pass.id, pass.instances, each_alike plain bs cs (λ x i. h x (inr i)) rest)

  each_alone : flattens script ≡ true → (bs cs : List Module) → ((b : Module) → In b bs → In b d.modules) → map (outcome_of script d.modules) bs ≡ map Done cs → (c : Module) → In c cs → instances c.cells ≡ []
  each_alone flat [] [] h e n i = absurd i
  each_alone flat [] (c ∷ cs) h e n i = absurd cc
  each_alone flat (b ∷ bs) [] h e n i = absurd cc
  each_alone flat (b ∷ bs) (c ∷ cs) h e n i =
      let first : outcome_of script d.modules b ≡ Done c = cc in
      let rest : map (outcome_of script d.modules) bs ≡ map Done cs = cc in
      ⊎_elim
      (λ same. ap (λ (m : Module). instances m.cells) same ∙ (outcome_leaves d readable none script flat b (h b (inl refl)) c first).1)
      (λ j. each_alone flat bs cs (λ x k. h x (inr k)) rest n j)
      i

  pub cold_unrecursive : (n : Design) → IsNetlist (cold script d) n → recursion_faults n.modules ≡ []
  cold_unrecursive n e = by (flattens script) refl
    where
      by : (t : Bool) → flattens script ≡ t → recursion_faults n.modules ≡ []
      by true flat = no_recursion n.modules (each_alone flat d.modules n.modules (λ b i. i) e)
      by false plain =
          sym (same_recursion d.modules n.modules (each_alike plain d.modules n.modules (λ b i. i) e))
          ∙ none_right (flat_map (module_faults everything (design_ports d.modules)) d.modules) (recursion_faults d.modules) none
