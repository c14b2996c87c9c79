-- A part of an accepted design is accepted, and a design whose parts are.
use Rattle.std.proofs.Common.{◌≡◌, ℕ, Bool, true, false, cond, ◌&&◌, ◌||◌, List, [], ◌++◌, length, refl, sym, ◌∙◌, ap, subst}
use Rattle.std.specs.Prelude.{filter, flat_map, map}
use Rattle.std.specs.List.{list_any}
use Rattle.std.proofs.lemmas.Bool.{and_parts}
use Rattle.rtl_ir.specs.declared.module.Design.{Design}
use Rattle.rtl_ir.specs.declared.module.Module.{Module}
use Rattle.rtl_ir.specs.Faults.{check_faults, module_faults}
use Rattle.rtl_ir.specs.Faults.Recursion.{recursion_faults}
use Rattle.rtl_ir.specs.Ports.{instantiates}
use Rattle.rtl_ir.specs.Scope.{everything}
use Rattle.rtl_ir.specs.Types.{design_ports, module_named}
use Rattle.net_model.specs.Lists.{Distinct, In}
use Rattle.net_model.proofs.Members.{In-mapped}
use Rattle.pass_laws.proofs.Faultless.{no_faults}
use Rattle.check_laws.proofs.Counting.{none_each, none_parts}
use Rattle.script_core.specs.declared.word.Word.{Word}
use Rattle.script_core.specs.Reached.{leads_to}
use Rattle.script_core.specs.Words.{flattens}
use Rattle.script_core.proofs.Instancing.{any_found, one_found}
use Rattle.script_core.proofs.Leading.{Leads, leads_named, leads_then}
use Rattle.design_parts.specs.Parts.{depends, face, has_name, part, shown}
use Rattle.design_parts.proofs.FaceFaults.{face_fine}
use Rattle.design_parts.proofs.Filters.{each_none, filtered_in}
use Rattle.design_parts.proofs.Names.{named_once}
use Rattle.design_parts.proofs.Outcomes.{Covers, covers, covers_of, covers_own, stands, tested}
use Rattle.design_parts.proofs.Recursion.{part_unrecursive}
use Rattle.design_parts.proofs.Types.{fine_in, fine_out}

module _ (script : List Word) (own : List ℕ → Bool) (ms : List Module) where
  -- where the script flattens, a part has all that each of its modules depends on
  module _ (flat : flattens script ≡ true) (u : Distinct (map (λ (m : Module). m.id) ms)) where
    reached_from : (n : Module) → In n ms → (m : Module) → In m ms → own m.id ≡ true → depends script ms m.cells n.id ≡ true → Covers script own ms n.cells
    reached_from n j m i mine e =
        let leads : leads_to (length ms) ms m.cells n.id ≡ true = ap (λ t. cond t (leads_to (length ms) ms m.cells n.id) (instantiates m.cells n.id)) (sym flat) ∙ e in
        let t = tested ms (length ms) m.cells n.id leads in
        let same : t.0 ≡ n = one_found (module_named ms n.id) t.0 n (ap (module_named ms) (sym t.2) ∙ leads_named ms (length ms) m.cells t.0 t.1) (named_once ms u n j) in
        let there : Leads ms (length ms) m.cells n = subst (Leads ms (length ms) m.cells) same t.1 in
        covers_of script own ms flat n.cells
        (λ k l h. let far = leads_then ms k (length ms) m.cells n l there h in covers_own script own ms flat m i mine far.0 l far.1)

    others_cover : (n : Module) → In n ms → own n.id ≡ false → has_name script own ms n.id ≡ true → Covers script own ms n.cells
    others_cover n j other h =
        let needed : list_any (λ (m : Module). own m.id && depends script ms m.cells n.id) ms ≡ true = ap (λ t. t || list_any (λ (m : Module). own m.id && depends script ms m.cells n.id) ms) (sym other) ∙ h in
        let m = any_found (λ (m : Module). own m.id && depends script ms m.cells n.id) ms needed in
        let both = and_parts (own m.0.id) (depends script ms m.0.cells n.id) m.2 in
        reached_from n j m.0 m.1 both.0 both.1

  -- each module of a part is without faults
  shown_fine : Distinct (map (λ (m : Module). m.id) ms) → (m : Module) → In m ms → has_name script own ms m.id ≡ true
      → module_faults everything (design_ports ms) m ≡ [] → module_faults everything (design_ports (part script own ms)) (shown script own m) ≡ []
  shown_fine u m i h e = by (own m.id) (flattens script) refl refl
    where
      by : (a b : Bool) → own m.id ≡ a → flattens script ≡ b → module_faults everything (design_ports (part script own ms)) (cond (a || b) m (face m)) ≡ []
      by true b mine f = fine_in script own ms m (covers script own ms m i mine) e
      by false true other flat = fine_in script own ms m (others_cover flat u m i other h) e
      by false false other plain = face_fine (design_ports (part script own ms)) m (no_faults everything (design_ports ms) m e).wires

  pub part_accepted : Distinct (map (λ (m : Module). m.id) ms) → check_faults ms ≡ [] → check_faults (part script own ms) ≡ []
  part_accepted u e =
      let parts = none_parts (flat_map (module_faults everything (design_ports ms)) ms) (recursion_faults ms) e in
      λ i.
      each_none (module_faults everything (design_ports (part script own ms))) (part script own ms)
      (λ x j.
      let m = In-mapped (shown script own) x (filter (λ (n : Module). has_name script own ms n.id) ms) j in
      let there = filtered_in (λ (n : Module). has_name script own ms n.id) m.0 ms m.1 in
      ap (module_faults everything (design_ports (part script own ms))) m.2
      ∙ shown_fine u m.0 there.0 there.1 (none_each (module_faults everything (design_ports ms)) ms parts.first m.0 there.0)) i
      ++ part_unrecursive script own ms u parts.second i

  own_accepted : check_faults (part script own ms) ≡ [] → (m : Module) → In m ms → own m.id ≡ true → module_faults everything (design_ports ms) m ≡ []
  own_accepted e m i mine =
      let parts = none_parts (flat_map (module_faults everything (design_ports (part script own ms))) (part script own ms)) (recursion_faults (part script own ms)) e in
      fine_out script own ms m (covers script own ms m i mine)
      (none_each (module_faults everything (design_ports (part script own ms))) (part script own ms) parts.first m (stands script own ms m i mine))

pub whole_accepted : (script : List Word) (d : Design) (part_of : List ℕ → List ℕ → Bool) → recursion_faults d.modules ≡ []
    → ((m : Module) → In m d.modules → part_of m.id m.id ≡ true)
    → ((m : Module) → In m d.modules → check_faults (part script (part_of m.id) d.modules) ≡ []) → check_faults d.modules ≡ []
whole_accepted script d part_of none h accepted =
    λ i.
    each_none (module_faults everything (design_ports d.modules)) d.modules
    (λ m j. own_accepted script (part_of m.id) d.modules (accepted m j) m j (h m j)) i
    ++ none i
