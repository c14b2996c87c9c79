-- What switches make of a bit by a chain of multiplexers stands for what they make of its decision.
use Rattle.std.proofs.Common.{◌≡◌, ℕ, ◌+◌, Bool, true, false, List, [], ◌∷◌, ◌++◌, Option, Some, None, inl, refl, arith}
use Rattle.std.specs.Option.{option_map_or}
use Rattle.rtl_bits.specs.Knowledge.{Below}
use Rattle.rtl_bits.specs.declared.bit.Bit.{Bit}
use Rattle.rtl_ir.specs.Assigns.{assigned, cases_assigns}
use Rattle.rtl_ir.specs.Decisions.{Choice, Decision, Leaf, OneBranch, after_assigns, after_switches, branches_of}
use Rattle.rtl_ir.specs.Tree.{Cases, NoCase, OneCase, NoSwitch, OneSwitch, Switches}
use Rattle.rtl_ir.specs.declared.module.Link.{Link}
use Rattle.rtl_sig.specs.declared.sig.SigBit.{SigBit}
use Rattle.rtl_sig.specs.declared.sig.WireBit.{WireBit}
use Rattle.net_model.specs.Proc.Latch.{Chain, Chains, Leaves, assigned_leaf, cases_chain, made_chain, switches_chain, with_case_bit}
use Rattle.net_model.specs.Proc.Mux.{assigns_run, lowest}
use Rattle.mux_laws.proofs.MatchMade.{MadeStand, with_case_grows, with_case_stands}
use Rattle.mux_laws.proofs.TreeFree.{free_cases, run_free}
use Rattle.build_laws.proofs.Growing.{met_before}
use Rattle.mux_laws.proofs.TreePlaces.{Asked, CasesAt, SwitchesAt}
use Rattle.mux_laws.proofs.TreeRead.{read_branches, read_by}
use Rattle.build_laws.proofs.Moments.{AreMet, Moment, Stands, seen}
use Rattle.latch_laws.proofs.ChainGrows.{LeafGrows, assigned_grows, switch_chain, switches_chain_grow}
use Rattle.latch_laws.proofs.SourcesGiven.{CasesGive, SwitchesGive}

module _ (m : Moment) (find : List ℕ → Option Asked) (full : WireBit → Bit) where
  -- the cells of what is built are met
  abbrev pub ChainsMet : Chains → Type 0
  ChainsMet t = AreMet m t.trees.building.body.cells

  -- each chain that is made has no less than the value of its bit
  abbrev pub ChainsStand : List Chain → Type 0
  ChainsStand chains = (b : WireBit) (s : SigBit) → made_chain chains b ≡ Some s → Below (full b) (seen m s)

  -- the matches and the chains that are made stand for what they are made of
  pub record AreSound (t : Chains) : Type 0 where
    pub made : MadeStand m find t.trees.made
    pub chains : ChainsStand t.chains

  -- a leaf as it is read has no less than a value
  abbrev pub LeafStands : Leaves → (SigBit → Bit) → SigBit → Type 0
  LeafStands leaf g s =
      (t : Chains) → ChainsMet (leaf s t).1 → AreSound t → Below (g s) (seen m (leaf s t).0) × AreSound (leaf s t).1

  -- the one bit of a signal that stands for a run of one bit
  lowest_stands : (b : WireBit) (signal : List SigBit) (value : WireBit → Bit) → Stands m (b ∷ []) signal value → Below (value b) (seen m (lowest signal))
  lowest_stands b [] value h = absurd h
  lowest_stands b (s ∷ signal) value h = h.0

  module _ (leaf : Leaves) (g : SigBit → Bit) (grows : LeafGrows leaf) (b : WireBit) where
    pub assigned_stand : (assigns : List Link) (prior : SigBit) (t : Chains) (d : Decision) → ((s : SigBit) → assigned assigns b ≡ Some s → LeafStands leaf g s) → ChainsMet (assigned_leaf leaf assigns b prior t).1 → AreSound t → Below (read_by m g d) (seen m prior)
        → Below (read_by m g (after_assigns assigns b d)) (seen m (assigned_leaf leaf assigns b prior t).0) × AreSound (assigned_leaf leaf assigns b prior t).1
    assigned_stand assigns prior t d stand met sound h = by (assigned assigns b) refl met
      where
        by : (o : Option SigBit) → assigned assigns b ≡ o → ChainsMet (option_map_or (λ s. leaf s t) o (prior, t)).1 → Below (read_by m g (option_map_or (λ s. Leaf s) o d)) (seen m (option_map_or (λ s. leaf s t) o (prior, t)).0) × AreSound (option_map_or (λ s. leaf s t) o (prior, t)).1
        by (Some s) e met' = stand s e t met' sound
        by None e met' = (h, sound)

    -- a case over what stands for the cases behind it
    case_stands : (at : List ℕ) (signal : List SigBit) (patterns : List (List SigBit)) (body acc : SigBit) (t : Chains) → find at ≡ Some (record { signal = signal; patterns = patterns }) → ChainsMet (with_case_bit at signal patterns body acc t).1 → AreSound t → (value : Decision) → Below (read_by m g value) (seen m body) → (rest : Cases) (d : Decision) → Below (read_branches m g signal (branches_of b rest d) (read_by m g d)) (seen m acc)
        → Below (read_branches m g signal (OneBranch patterns value (branches_of b rest d)) (read_by m g d)) (seen m (with_case_bit at signal patterns body acc t).0) × AreSound (with_case_bit at signal patterns body acc t).1
    case_stands at signal [] body acc t found met sound value h rest d k = (h, sound)
    case_stands at signal (p ∷ patterns) body acc t found met sound value h rest d k =
        let both = with_case_stands m find (b ∷ []) (omega arith) at signal p patterns (body ∷ []) (acc ∷ []) t.trees (λ c. read_by m g value) (λ c. read_branches m g signal (branches_of b rest d) (read_by m g d)) found met sound.made (h, tt) (k, tt) in (
          lowest_stands b _ _ both.0,
          record { made = both.1; chains = sound.chains },
        )

    -- what is so of the cases of a switch
    abbrev CasesStand : List ℕ → ℕ → List SigBit → Cases → SigBit → Chains → Decision → Type 0
    CasesStand above number signal cases prior t d =
        ChainsMet (cases_chain leaf b above number signal cases prior t).1 → AreSound t → Below (read_by m g d) (seen m prior)
        → Below (read_branches m g signal (branches_of b cases d) (read_by m g d)) (seen m (cases_chain leaf b above number signal cases prior t).0) × AreSound (cases_chain leaf b above number signal cases prior t).1

    -- is so of the switch, whether it names the bit or not
    switch_stands : (at : List ℕ) (signal : List SigBit) (cases : Cases) (prior : SigBit) (t : Chains) (d : Decision) (names : Bool) → assigns_run (cases_assigns cases) (b ∷ []) ≡ names → CasesStand at 0 signal cases prior t d
        → ChainsMet (switch_chain leaf b names at signal cases prior t).1 → AreSound t → Below (read_by m g d) (seen m prior)
        → Below (read_branches m g signal (branches_of b cases d) (read_by m g d)) (seen m (switch_chain leaf b names at signal cases prior t).0) × AreSound (switch_chain leaf b names at signal cases prior t).1
    switch_stands at signal cases prior t d true e stand met sound h = stand met sound h
    switch_stands at signal cases prior t d false e stand met sound h =
        (free_cases m g b signal cases d (seen m prior) (run_free (cases_assigns cases) (b ∷ []) e b (inl refl)) h, sound)

    mutual
      pub switches_chain_stand : (above : List ℕ) (number : ℕ) (switches : Switches) (prior : SigBit) (t : Chains) (d : Decision) → SwitchesGive (LeafStands leaf g) b switches → SwitchesAt find above number switches
          → ChainsMet (switches_chain leaf b above number switches prior t).1 → AreSound t → Below (read_by m g d) (seen m prior)
          → Below (read_by m g (after_switches b switches d)) (seen m (switches_chain leaf b above number switches prior t).0) × AreSound (switches_chain leaf b above number switches prior t).1
      switches_chain_stand above number NoSwitch prior t d gives at met sound h = (h, sound)
      switches_chain_stand above number (OneSwitch signal attributes cases rest) prior t d gives at met sound h =
          let names : Bool = assigns_run (cases_assigns cases) (b ∷ []) in
          let value = switch_chain leaf b names (above ++ number ∷ []) signal cases prior t in
          let before : ChainsMet value.1 = met_before m value.1.trees.building _ (switches_chain_grow leaf grows b above (number + 1) rest value.0 value.1) met in
          let here = switch_stands (above ++ number ∷ []) signal cases prior t d names refl (cases_chain_stand (above ++ number ∷ []) 0 signal cases prior t d gives.0 at.0) before sound h in
          switches_chain_stand above (number + 1) rest value.0 value.1 (Choice signal (branches_of b cases d) d) gives.1 at.1 met here.1 here.0

      cases_chain_stand : (above : List ℕ) (number : ℕ) (signal : List SigBit) (cases : Cases) (prior : SigBit) (t : Chains) (d : Decision) → CasesGive (LeafStands leaf g) b cases → CasesAt find above number signal cases → CasesStand above number signal cases prior t d
      cases_chain_stand above number signal NoCase prior t d gives at met sound h = (h, sound)
      cases_chain_stand above number signal (OneCase patterns assigns attributes switches rest) prior t d gives at met sound h =
          let acc = cases_chain leaf b above (number + 1) signal rest prior t in
          let start = assigned_leaf leaf assigns b prior acc.1 in
          let body = switches_chain leaf b (above ++ number ∷ []) 0 switches start.0 start.1 in
          let met3 : ChainsMet body.1 = met_before m body.1.trees.building _ (with_case_grows (above ++ number ∷ []) signal patterns (body.0 ∷ []) (acc.0 ∷ []) body.1.trees) met in
          let met2 : ChainsMet start.1 = met_before m start.1.trees.building _ (switches_chain_grow leaf grows b (above ++ number ∷ []) 0 switches start.0 start.1) met3 in
          let met1 : ChainsMet acc.1 = met_before m acc.1.trees.building _ (assigned_grows leaf grows b assigns prior acc.1) met2 in
          let first = cases_chain_stand above (number + 1) signal rest prior t d gives.1.1 at.1.1 met1 sound h in
          let second = assigned_stand assigns prior acc.1 d gives.0 met2 first.1 h in
          let third = switches_chain_stand (above ++ number ∷ []) 0 switches start.0 start.1 (after_assigns assigns b d) gives.1.0 at.1.0 met3 second.1 second.0 in
          case_stands (above ++ number ∷ []) signal patterns body.0 acc.0 body.1 at.0 met third.1 (after_switches b switches (after_assigns assigns b d)) third.0 rest d first.0
