-- Chains only add to what is built.
use Rattle.std.proofs.Common.{ℕ, zero, suc, ◌+◌, Bool, true, false, if◌then◌else◌, List, [], ◌∷◌, ◌++◌, length, Option, Some, None}
use Rattle.std.specs.Option.{option_map_or}
use Rattle.rtl_ir.specs.Assigns.{assigned, cases_assigns}
use Rattle.rtl_ir.specs.declared.follow.Join.{Join}
use Rattle.rtl_ir.specs.Signals.{has_bit, same_bit}
use Rattle.rtl_ir.specs.Tree.{CaseView, Cases, NoCase, OneCase, NoSwitch, OneSwitch, Switches}
use Rattle.rtl_ir.specs.declared.module.Link.{Link}
use Rattle.rtl_sig.specs.declared.sig.SigBit.{SigBit}
use Rattle.rtl_sig.specs.declared.sig.SigBit.TheVariants.{Fixed, Wire as OnWire}
use Rattle.rtl_sig.specs.declared.sig.WireBit.{WireBit}
use Rattle.net_model.specs.Proc.Latch.{Chains, Leaves, Side, assigned_leaf, cases_chain, chain_of, leaf_within, made_chain, missing_leaf, other_leaf, own_leaf, side_value, switches_chain}
use Rattle.net_model.specs.Proc.Mux.{Trees, assigns_run}
use Rattle.mux_laws.proofs.MatchMade.{with_case_grows}
use Rattle.build_laws.proofs.Growing.{Grows, grows_both, grows_none}

-- what is added
abbrev pub ChainsGrow : Chains → Chains → Type 0
ChainsGrow t u = Grows t.trees.building u.trees.building

-- reading a leaf only adds
abbrev pub LeafGrows : Leaves → Type 0
LeafGrows leaf = (s : SigBit) (t : Chains) → ChainsGrow t (leaf s t).1

-- the cases of a switch, where they name the bit
abbrev pub switch_chain : Leaves → WireBit → Bool → List ℕ → List SigBit → Cases → SigBit → Chains → SigBit × Chains
switch_chain leaf b names at signal cases prior t = if names then cases_chain leaf b at 0 signal cases prior t else (prior, t)

module _ (leaf : Leaves) (grows : LeafGrows leaf) (b : WireBit) where
  pub assigned_grows : (assigns : List Link) (prior : SigBit) (t : Chains) → ChainsGrow t (assigned_leaf leaf assigns b prior t).1
  assigned_grows assigns prior t = by (assigned assigns b)
    where
      by : (o : Option SigBit) → ChainsGrow t (option_map_or (λ s. leaf s t) o (prior, t)).1
      by (Some s) = grows s t
      by None = grows_none t.trees.building

  switch_chain_grows : (names : Bool) (at : List ℕ) (signal : List SigBit) (cases : Cases) (prior : SigBit) (t : Chains) → ChainsGrow t (cases_chain leaf b at 0 signal cases prior t).1 → ChainsGrow t (switch_chain leaf b names at signal cases prior t).1
  switch_chain_grows true at signal cases prior t h = h
  switch_chain_grows false at signal cases prior t h = grows_none t.trees.building

  mutual
    pub switches_chain_grow : (above : List ℕ) (number : ℕ) (switches : Switches) (prior : SigBit) (t : Chains) → ChainsGrow t (switches_chain leaf b above number switches prior t).1
    switches_chain_grow above number NoSwitch prior t = grows_none t.trees.building
    switches_chain_grow above number (OneSwitch signal attributes cases rest) prior t =
        let names : Bool = assigns_run (cases_assigns cases) (b ∷ []) in
        let value = switch_chain leaf b names (above ++ number ∷ []) signal cases prior t in
        grows_both t.trees.building value.1.trees.building _ (switch_chain_grows names (above ++ number ∷ []) signal cases prior t (cases_chain_grow (above ++ number ∷ []) 0 signal cases prior t)) (switches_chain_grow above (number + 1) rest value.0 value.1)

    pub cases_chain_grow : (above : List ℕ) (number : ℕ) (signal : List SigBit) (cases : Cases) (prior : SigBit) (t : Chains) → ChainsGrow t (cases_chain leaf b above number signal cases prior t).1
    cases_chain_grow above number signal NoCase prior t = grows_none t.trees.building
    cases_chain_grow above number signal (OneCase patterns assigns attributes switches rest) prior t =
        let acc = cases_chain leaf b above (number + 1) signal rest prior t in
        let start = assigned_leaf leaf assigns b prior acc.1 in
        let body = switches_chain leaf b (above ++ number ∷ []) 0 switches start.0 start.1 in
        grows_both t.trees.building acc.1.trees.building _ (cases_chain_grow above (number + 1) signal rest prior t)
        (grows_both acc.1.trees.building start.1.trees.building _ (assigned_grows assigns prior acc.1)
        (grows_both start.1.trees.building body.1.trees.building _ (switches_chain_grow (above ++ number ∷ []) 0 switches start.0 start.1)
        (with_case_grows (above ++ number ∷ []) signal patterns (body.0 ∷ []) (acc.0 ∷ []) body.1.trees)))

-- what is added for the chain of a bit that has none yet
abbrev pub chain_new : Leaves → Side → CaseView → WireBit → Chains → SigBit × Chains
chain_new leaf side root b t =
    let start = assigned_leaf leaf root.assigns b (missing_leaf side) t in
    let value = switches_chain leaf b [] 0 root.switches start.0 start.1 in
    (value.0, record { trees = value.1.trees; chains = value.1.chains ++ record { bit = b; result = value.0 } ∷ [] })

pub chain_grows : (leaf : Leaves) → LeafGrows leaf → (side : Side) (root : CaseView) (b : WireBit) (t : Chains) → ChainsGrow t (chain_of leaf side root b t).1
chain_grows leaf grows side root b t = by (made_chain t.chains b)
  where
    by : (o : Option SigBit) → ChainsGrow t (option_map_or (λ s. (s, t)) o (chain_new leaf side root b t)).1
    by (Some s) = grows_none t.trees.building
    by None =
        let start = assigned_leaf leaf root.assigns b (missing_leaf side) t in
        let value = switches_chain leaf b [] 0 root.switches start.0 start.1 in
        grows_both t.trees.building start.1.trees.building value.1.trees.building (assigned_grows leaf grows b root.assigns (missing_leaf side) t) (switches_chain_grow leaf grows b [] 0 root.switches start.0 start.1)

-- a bit as it is read, by whether it is the bit itself and whether it is a tree bit, which has this chain
abbrev pub end_by : Bool → Side → WireBit → Chains → SigBit × Chains
end_by own side b t = if own then (own_leaf side, t) else (other_leaf side (OnWire b), t)

abbrev pub leaf_by : Bool → Bool → Side → WireBit → Chains → SigBit × Chains → SigBit × Chains
leaf_by own has side b t chain =
    if own then (own_leaf side, t) else if has then chain else (other_leaf side (OnWire b), t)

pub leaf_grows : (n : ℕ) (side : Side) (root : CaseView) (bits : List WireBit) (q : WireBit) → LeafGrows (leaf_within n side root bits q)
leaf_grows zero side root bits q (Fixed c) t = grows_none t.trees.building
leaf_grows (suc n) side root bits q (Fixed c) t = grows_none t.trees.building
leaf_grows zero side root bits q (OnWire b) t = by (same_bit b q)
  where
    by : (own : Bool) → ChainsGrow t (end_by own side b t).1
    by true = grows_none t.trees.building
    by false = grows_none t.trees.building
leaf_grows (suc n) side root bits q (OnWire b) t =
    by (same_bit b q) (has_bit bits b) (chain_grows (leaf_within n side root bits q) (leaf_grows n side root bits q) side root b t)
  where
    by : (own has : Bool) → ChainsGrow t (chain_of (leaf_within n side root bits q) side root b t).1 → ChainsGrow t (leaf_by own has side b t (chain_of (leaf_within n side root bits q) side root b t)).1
    by true has h = grows_none t.trees.building
    by false true h = h
    by false false h = grows_none t.trees.building

pub side_grows : (side : Side) (root : CaseView) (bits : List WireBit) (j : Join) (t : Trees) → Grows t.building (side_value side root bits j t).1.building
side_grows side root bits j t = leaf_grows (length bits) side root bits j.bit j.source (record { trees = t; chains = [] })
