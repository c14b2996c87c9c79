-- The outcomes of a design, put together from those of its parts.
use Rattle.std.proofs.Common.{◌≡◌, ℕ, Bool, true, ◌&&◌, List, ◌∙◌, ap}
use Rattle.std.specs.Prelude.{filter, map}
use Rattle.std.specs.List.{list_any}
use Rattle.rtl_ir.specs.declared.module.Design.{Design}
use Rattle.rtl_ir.specs.declared.module.Module.{Module}
use Rattle.net_model.specs.Lists.{In}
use Rattle.script_core.specs.declared.word.Word.{Word}
use Rattle.script_core.specs.Cold.{cold, outcome_of}
use Rattle.design_parts.specs.Parts.{depends, gathered, has_name, owned, part, shown}
use Rattle.design_parts.proofs.Faces.{shown_id}
use Rattle.design_parts.proofs.Filters.{filter_changed, filter_filter, filtered_in, map_none, map_same}
use Rattle.design_parts.proofs.Outcomes.{or_left, outcome_same, own_shown}

module _ (script : List Word) (own : List ℕ → Bool) (ms : List Module) where
  -- the own modules of a part are those of the design, in its order
  pub owned_same : owned own (part script own ms) ≡ owned own ms
  owned_same =
      filter_changed (shown script own) (shown_id script own) own (filter (λ (m : Module). has_name script own ms m.id) ms)
      ∙ ap (map (shown script own))
      (filter_filter (λ (m : Module). own m.id) (λ (m : Module). has_name script own ms m.id) ms
      (λ m i mine. or_left (own m.id) (list_any (λ (n : Module). own n.id && depends script ms n.cells m.id) ms) mine))
      ∙ map_none (shown script own) (owned own ms) (λ m i. own_shown script own ms m (filtered_in (λ (n : Module). own n.id) m ms i).1)

  pub results_same : map (outcome_of script (part script own ms)) (owned own (part script own ms)) ≡ map (outcome_of script ms) (owned own ms)
  results_same =
      ap (map (outcome_of script (part script own ms))) owned_same
      ∙ map_same (outcome_of script (part script own ms)) (outcome_of script ms) (owned own ms)
      (λ m i. let k = filtered_in (λ (n : Module). own n.id) m ms i in outcome_same script own ms m k.0 k.1)

pub whole_gathered : (script : List Word) (d : Design) (part_of : List ℕ → List ℕ → Bool) → ((m : Module) → In m d.modules → part_of m.id m.id ≡ true) → gathered script part_of d ≡ cold script d
whole_gathered script d part_of h =
    map_same (λ (m : Module). outcome_of script (part script (part_of m.id) d.modules) m) (outcome_of script d.modules) d.modules
    (λ m i. outcome_same script (part_of m.id) d.modules m i (h m i))
