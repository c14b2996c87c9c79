-- Making latches does not look at the name of a module.
use Rattle.std.proofs.Common.{◌≡◌, ℕ, zero, suc, ◌+◌, List, [], ◌∷◌, ◌++◌, Bool, true, false, Option, Some, None, if◌then◌else◌, length, refl, ap, ◌∙◌}
use Rattle.std.specs.Prelude.{map}
use Rattle.std.specs.Option.{option_map_or}
use Rattle.rtl_sig.specs.declared.sig.SigBit.{SigBit}
use Rattle.rtl_sig.specs.declared.sig.SigBit.TheVariants.{Fixed, Wire as OnWire}
use Rattle.rtl_sig.specs.declared.sig.WireBit.{WireBit}
use Rattle.rtl_ir.specs.declared.module.Link.{Link}
use Rattle.rtl_ir.specs.declared.module.Module.{Module}
use Rattle.rtl_ir.specs.declared.process.Process.{Process}
use Rattle.rtl_ir.specs.declared.process.SyncRule.{SyncRule}
use Rattle.rtl_ir.specs.Assigns.{assigned, cases_assigns, tree_bits}
use Rattle.rtl_ir.specs.Build.{Building, building_of, new_link}
use Rattle.rtl_ir.specs.Flat.Process.{may_hold}
use Rattle.rtl_ir.specs.Follow.{all_joins}
use Rattle.rtl_ir.specs.declared.follow.Join.{Join}
use Rattle.rtl_ir.specs.Rules.{acting_rules}
use Rattle.rtl_ir.specs.Signals.{has_bit, same_bit}
use Rattle.rtl_ir.specs.Tree.{Switches, NoSwitch, OneSwitch, Cases, NoCase, OneCase, CaseView}
use Rattle.net_model.specs.Proc.Latch.{Chains, Leaves, Side, always_step, always_steps, assigned_leaf, cases_chain, chain_of, is_always, latch_cell, latch_process, latch_step, latches_step, leaf_within, made_chain, missing_leaf, other_leaf, own_leaf, proc_latch_of, side_value, switches_chain, with_case_bit, without_always}
use Rattle.net_model.specs.Proc.Mux.{Trees, assigns_run, lowest}
use Rattle.proc_steps.proofs.RenamingMux.{beside_trees, case_renamed, renamed, renamed_trees, under}

module _ (id : List ℕ) where
  -- chains in a module under the name, and a result beside them
  abbrev renamed_chains : Chains → Chains
  renamed_chains t = record { trees = renamed_trees id t.trees; chains = t.chains }

  abbrev beside_chains : {A : Type 0} → A × Chains → A × Chains
  beside_chains r = (r.0, renamed_chains r.1)

  -- a leaf does not look at the name
  abbrev IsBlind : Leaves → Type 0
  IsBlind leaf = (s : SigBit) (t : Chains) → leaf s (renamed_chains t) ≡ beside_chains (leaf s t)

  case_bit_renamed : (at : List ℕ) (signal : List SigBit) (patterns : List (List SigBit)) (body acc : SigBit) (t : Chains)
      → with_case_bit at signal patterns body acc (renamed_chains t) ≡ beside_chains (with_case_bit at signal patterns body acc t)
  case_bit_renamed at signal patterns body acc t =
      ap (λ (value : List SigBit × Trees). (lowest value.0, record { trees = value.1; chains = t.chains })) (case_renamed id at signal patterns (body ∷ []) (acc ∷ []) t.trees)

  module _ (leaf : Leaves) (blind : IsBlind leaf) where
    assigned_renamed : (assigns : List Link) (b : WireBit) (prior : SigBit) (t : Chains)
        → assigned_leaf leaf assigns b prior (renamed_chains t) ≡ beside_chains (assigned_leaf leaf assigns b prior t)
    assigned_renamed assigns b prior t = by (assigned assigns b)
      where
        by : (o : Option SigBit) → option_map_or (λ s. leaf s (renamed_chains t)) o (prior, renamed_chains t) ≡ beside_chains (option_map_or (λ s. leaf s t) o (prior, t))
        by None = refl
        by (Some s) = blind s t

    mutual
      switches_renamed : (b : WireBit) (above : List ℕ) (number : ℕ) (switches : Switches) (prior : SigBit) (t : Chains)
          → switches_chain leaf b above number switches prior (renamed_chains t) ≡ beside_chains (switches_chain leaf b above number switches prior t)
      switches_renamed b above number NoSwitch prior t = refl
      switches_renamed b above number (OneSwitch signal attributes cases rest) prior t =
          by (assigns_run (cases_assigns cases) (b ∷ [])) (cases_renamed b (above ++ number ∷ []) 0 signal cases prior t) ∙ switches_renamed b above (number + 1) rest value.0 value.1
        where
          after : SigBit × Chains → SigBit × Chains
          after value = switches_chain leaf b above (number + 1) rest value.0 value.1

          value : SigBit × Chains
          value = if assigns_run (cases_assigns cases) (b ∷ []) then cases_chain leaf b (above ++ number ∷ []) 0 signal cases prior t else (prior, t)

          by : (a : Bool) → cases_chain leaf b (above ++ number ∷ []) 0 signal cases prior (renamed_chains t) ≡ beside_chains (cases_chain leaf b (above ++ number ∷ []) 0 signal cases prior t)
              → after (if a then cases_chain leaf b (above ++ number ∷ []) 0 signal cases prior (renamed_chains t) else (prior, renamed_chains t))
              ≡ after (beside_chains (if a then cases_chain leaf b (above ++ number ∷ []) 0 signal cases prior t else (prior, t)))
          by true same = ap after same
          by false same = refl

      cases_renamed : (b : WireBit) (above : List ℕ) (number : ℕ) (signal : List SigBit) (cases : Cases) (prior : SigBit) (t : Chains)
          → cases_chain leaf b above number signal cases prior (renamed_chains t) ≡ beside_chains (cases_chain leaf b above number signal cases prior t)
      cases_renamed b above number signal NoCase prior t = refl
      cases_renamed b above number signal (OneCase patterns assigns attributes switches rest) prior t =
          let here : List ℕ = above ++ number ∷ [] in
          let acc = cases_chain leaf b above (number + 1) signal rest prior t in
          let start = assigned_leaf leaf assigns b prior acc.1 in
          let body = switches_chain leaf b here 0 switches start.0 start.1 in
          ap (λ (a : SigBit × Chains). let s = assigned_leaf leaf assigns b prior a.1 in let v = switches_chain leaf b here 0 switches s.0 s.1 in with_case_bit here signal patterns v.0 a.0 v.1) (cases_renamed b above (number + 1) signal rest prior t)
          ∙ ap (λ (s : SigBit × Chains). let v = switches_chain leaf b here 0 switches s.0 s.1 in with_case_bit here signal patterns v.0 acc.0 v.1) (assigned_renamed assigns b prior acc.1)
          ∙ ap (λ (v : SigBit × Chains). with_case_bit here signal patterns v.0 acc.0 v.1) (switches_renamed b here 0 switches start.0 start.1)
          ∙ case_bit_renamed here signal patterns body.0 acc.0 body.1

    chain_renamed : (side : Side) (root : CaseView) (b : WireBit) (t : Chains) → chain_of leaf side root b (renamed_chains t) ≡ beside_chains (chain_of leaf side root b t)
    chain_renamed side root b t = by (made_chain t.chains b)
      where
        ended : SigBit × Chains → SigBit × Chains
        ended value = (value.0, record { trees = value.1.trees; chains = value.1.chains ++ record { bit = b; result = value.0 } ∷ [] })

        walked : SigBit × Chains → SigBit × Chains
        walked start = switches_chain leaf b [] 0 root.switches start.0 start.1

        start : SigBit × Chains
        start = assigned_leaf leaf root.assigns b (missing_leaf side) t

        by : (o : Option SigBit)
            → option_map_or (λ (s : SigBit). (s, renamed_chains t)) o (ended (walked (assigned_leaf leaf root.assigns b (missing_leaf side) (renamed_chains t))))
            ≡ beside_chains (option_map_or (λ (s : SigBit). (s, t)) o (ended (walked start)))
        by (Some s) = refl
        by None =
            ap (λ (s : SigBit × Chains). ended (walked s)) (assigned_renamed root.assigns b (missing_leaf side) t)
            ∙ ap ended (switches_renamed b [] 0 root.switches start.0 start.1)

  leaf_renamed : (n : ℕ) (side : Side) (root : CaseView) (bits : List WireBit) (q : WireBit) → IsBlind (leaf_within n side root bits q)
  leaf_renamed zero side root bits q (Fixed c) t = refl
  leaf_renamed (suc n) side root bits q (Fixed c) t = refl
  leaf_renamed zero side root bits q (OnWire b) t = by (same_bit b q)
    where
      by : (same : Bool) → (if same then (own_leaf side, renamed_chains t) else (other_leaf side (OnWire b), renamed_chains t)) ≡ beside_chains (if same then (own_leaf side, t) else (other_leaf side (OnWire b), t))
      by true = refl
      by false = refl
  leaf_renamed (suc n) side root bits q (OnWire b) t = by (same_bit b q) (has_bit bits b) (chain_renamed (leaf_within n side root bits q) (leaf_renamed n side root bits q) side root b t)
    where
      by : (own inside : Bool) → chain_of (leaf_within n side root bits q) side root b (renamed_chains t) ≡ beside_chains (chain_of (leaf_within n side root bits q) side root b t)
          → (if own then (own_leaf side, renamed_chains t) else if inside then chain_of (leaf_within n side root bits q) side root b (renamed_chains t) else (other_leaf side (OnWire b), renamed_chains t))
          ≡ beside_chains (if own then (own_leaf side, t) else if inside then chain_of (leaf_within n side root bits q) side root b t else (other_leaf side (OnWire b), t))
      by true inside e = refl
      by false true e = e
      by false false e = refl

  module _ (root : CaseView) (bits : List WireBit) where
    side_renamed : (side : Side) (j : Join) (t : Trees) → side_value side root bits j (renamed_trees id t) ≡ beside_trees id (side_value side root bits j t)
    side_renamed side j t =
        ap (λ (value : SigBit × Chains). (value.0, value.1.trees)) (leaf_renamed (length bits) side root bits j.bit j.source (record { trees = t; chains = [] }))

    latch_renamed : (j : Join) (t : Trees) → latch_step root bits j (renamed_trees id t) ≡ renamed_trees id (latch_step root bits j t)
    latch_renamed j t =
        let new = side_value Side.ForData root bits j t in
        ap (λ (d : SigBit × Trees). let e = side_value Side.ForEnable root bits j d.1 in record { building = latch_cell j.bit d.0 e.0 e.1.building; made = e.1.made }) (side_renamed Side.ForData j t)
        ∙ ap (λ (e : SigBit × Trees). record { building = latch_cell j.bit new.0 e.0 e.1.building; made = e.1.made }) (side_renamed Side.ForEnable j new.1)

    step_renamed : (j : Join) (t : Trees) → always_step root bits j (renamed_trees id t) ≡ renamed_trees id (always_step root bits j t)
    step_renamed j t = by (may_hold root bits j)
      where
        by : (holds : Bool)
            → (if holds then latch_step root bits j (renamed_trees id t) else record { building = new_link (OnWire j.bit ∷ []) (j.source ∷ []) (renamed_trees id t).building; made = t.made })
            ≡ renamed_trees id (if holds then latch_step root bits j t else record { building = new_link (OnWire j.bit ∷ []) (j.source ∷ []) t.building; made = t.made })
        by true = latch_renamed j t
        by false = refl

    steps_renamed : (js : List Join) (t : Trees) → always_steps root bits js (renamed_trees id t) ≡ renamed_trees id (always_steps root bits js t)
    steps_renamed [] t = refl
    steps_renamed (j ∷ js) t = ap (always_steps root bits js) (step_renamed j t) ∙ steps_renamed js (always_step root bits j t)

  process_renamed : (p : Process) (rules : List SyncRule) (b : Building) → latch_process p rules (renamed id b) ≡ renamed id (latch_process p rules b)
  process_renamed p [] b = refl
  process_renamed p (r ∷ []) b = by (is_always r.event)
    where
      by : (always : Bool)
          → (if always then (always_steps p.root (tree_bits p.root) (all_joins r.updates) (record { building = renamed id b; made = [] })).building else renamed id b)
          ≡ renamed id (if always then (always_steps p.root (tree_bits p.root) (all_joins r.updates) (record { building = b; made = [] })).building else b)
      by true = ap (λ (t : Trees). t.building) (steps_renamed p.root (tree_bits p.root) (all_joins r.updates) (record { building = b; made = [] }))
      by false = refl
  process_renamed p (r ∷ s ∷ rules) b = refl

  pub latches_renamed : (ps : List Process) (b : Building) → latches_step ps (renamed id b) ≡ renamed id (latches_step ps b)
  latches_renamed [] b = refl
  latches_renamed (p ∷ ps) b = ap (latches_step ps) (process_renamed p (acting_rules p.syncs) b) ∙ latches_renamed ps (latch_process p (acting_rules p.syncs) b)

  pub latch_of_renamed : (m : Module) → proc_latch_of (under id m) ≡ under id (proc_latch_of m)
  latch_of_renamed m = ap (λ (b : Building). record b.body { processes = map without_always m.processes }) (latches_renamed m.processes (building_of m))
