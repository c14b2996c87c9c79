-- What switches make of a run stands for what they make of the decision of each of its bits.
use Rattle.std.proofs.Common.{◌≡◌, ◌≤◌, ℕ, ◌+◌, Bool, true, false, if◌then◌else◌, List, [], ◌∷◌, ◌++◌, length, Option, Some, None, refl}
use Rattle.std.specs.Option.{option_map_or}
use Rattle.rtl_bits.proofs.Orders.{Below_refl}
use Rattle.rtl_bits.specs.Knowledge.{Below}
use Rattle.rtl_ir.specs.Assigns.{assigned, cases_assigns}
use Rattle.rtl_ir.specs.Decisions.{Choice, Decision, Leaf, OneBranch, after_assigns, after_switches, branches_of}
use Rattle.rtl_ir.specs.Tree.{Cases, NoCase, OneCase, NoSwitch, OneSwitch, Switches}
use Rattle.rtl_ir.specs.declared.module.Link.{Link}
use Rattle.rtl_sig.specs.declared.sig.SigBit.{SigBit}
use Rattle.rtl_sig.specs.declared.sig.WireBit.{WireBit}
use Rattle.net_model.specs.Proc.Mux.{Trees, assigns_run, cases_value, run_value, switches_value, with_case}
use Rattle.mux_laws.proofs.MatchMade.{MadeStand, with_case_grows, with_case_stands}
use Rattle.mux_laws.proofs.TreeFree.{free_cases, run_free}
use Rattle.build_laws.proofs.Growing.{Grows, grows_both, grows_none, met_before}
use Rattle.mux_laws.proofs.TreePlaces.{Asked, CasesAt, SwitchesAt}
use Rattle.mux_laws.proofs.TreeRead.{branched, decided}
use Rattle.build_laws.proofs.Moments.{AreMet, Moment, Stands, seen, stands_map}

-- what is added for the cases of a switch that assigns to the run
abbrev switch_value : Bool → List WireBit → List ℕ → List SigBit → Cases → List SigBit → Trees → List SigBit × Trees
switch_value assigns run at signal cases prior t = if assigns then cases_value run at 0 signal cases prior t else (prior, t)

switch_grows : (assigns : Bool) (run : List WireBit) (at : List ℕ) (signal : List SigBit) (cases : Cases) (prior : List SigBit) (t : Trees) → Grows t.building (cases_value run at 0 signal cases prior t).1.building → Grows t.building (switch_value assigns run at signal cases prior t).1.building
switch_grows true run at signal cases prior t h = h
switch_grows false run at signal cases prior t h = grows_none t.building

mutual
  pub switches_grow : (run : List WireBit) (above : List ℕ) (number : ℕ) (switches : Switches) (prior : List SigBit) (t : Trees) → Grows t.building (switches_value run above number switches prior t).1.building
  switches_grow run above number NoSwitch prior t = grows_none t.building
  switches_grow run above number (OneSwitch signal attributes cases rest) prior t =
      let value = switch_value (assigns_run (cases_assigns cases) run) run (above ++ number ∷ []) signal cases prior t in
      grows_both t.building value.1.building _ (switch_grows (assigns_run (cases_assigns cases) run) run (above ++ number ∷ []) signal cases prior t (cases_grow run (above ++ number ∷ []) 0 signal cases prior t)) (switches_grow run above (number + 1) rest value.0 value.1)

  cases_grow : (run : List WireBit) (above : List ℕ) (number : ℕ) (signal : List SigBit) (cases : Cases) (prior : List SigBit) (t : Trees) → Grows t.building (cases_value run above number signal cases prior t).1.building
  cases_grow run above number signal NoCase prior t = grows_none t.building
  cases_grow run above number signal (OneCase patterns assigns attributes switches rest) prior t =
      let acc = cases_value run above (number + 1) signal rest prior t in
      let body = switches_value run (above ++ number ∷ []) 0 switches (run_value assigns run prior) acc.1 in
      grows_both t.building acc.1.building _ (cases_grow run above (number + 1) signal rest prior t)
      (grows_both acc.1.building body.1.building _ (switches_grow run (above ++ number ∷ []) 0 switches (run_value assigns run prior) acc.1)
      (with_case_grows (above ++ number ∷ []) signal patterns body.0 acc.0 body.1))

module _ (m : Moment) (find : List ℕ → Option Asked) (run : List WireBit) (few : length run ≤ 4096) where
  -- a signal stands for the decisions of the run
  abbrev pub StandsFor : List WireBit → List SigBit → (WireBit → Decision) → Type 0
  StandsFor bits signal d = Stands m bits signal (λ b. decided m (d b))

  -- after assigns
  pub assigns_stand : (assigns : List Link) (bits : List WireBit) (prior : List SigBit) (d : WireBit → Decision) → StandsFor bits prior d → StandsFor bits (run_value assigns bits prior) (λ b. after_assigns assigns b (d b))
  assigns_stand assigns [] [] d h = tt
  assigns_stand assigns [] (s ∷ prior) d h = absurd h
  assigns_stand assigns (b ∷ bits) [] d h = absurd h
  assigns_stand assigns (b ∷ bits) (s ∷ prior) d h = (by (assigned assigns b), assigns_stand assigns bits prior d h.1)
    where
      by : (o : Option SigBit) → Below (decided m (option_map_or (λ t. Leaf t) o (d b))) (seen m (option_map_or (λ t. t) o s))
      by None = h.0
      by (Some t) = Below_refl (seen m t)

  -- a case, over what stands for the cases behind it
  case_stands : (above : List ℕ) (number : ℕ) (signal : List SigBit) (patterns : List (List SigBit)) (assigns : List Link) (switches : Switches) (rest : Cases) (acc body : List SigBit) (t : Trees) (d : WireBit → Decision) → find (above ++ number ∷ []) ≡ Some (record { signal = signal; patterns = patterns })
      → AreMet m (with_case (above ++ number ∷ []) signal patterns body acc t).1.building.body.cells → MadeStand m find t.made
      → StandsFor run body (λ b. after_switches b switches (after_assigns assigns b (d b)))
      → Stands m run acc (λ b. branched m signal (branches_of b rest (d b)) (d b))
      → Stands m run (with_case (above ++ number ∷ []) signal patterns body acc t).0 (λ b. branched m signal (OneBranch patterns (after_switches b switches (after_assigns assigns b (d b))) (branches_of b rest (d b))) (d b)) × MadeStand m find (with_case (above ++ number ∷ []) signal patterns body acc t).1.made
  case_stands above number signal [] assigns switches rest acc body t d found met made x y = (x, made)
  case_stands above number signal (p ∷ patterns) assigns switches rest acc body t d found met made x y =
      with_case_stands m find run few (above ++ number ∷ []) signal p patterns body acc t (λ b. decided m (after_switches b switches (after_assigns assigns b (d b)))) (λ b. branched m signal (branches_of b rest (d b)) (d b)) found met made x y

  -- what is so of the cases of a switch
  abbrev CasesStand : List ℕ → ℕ → List SigBit → Cases → List SigBit → Trees → (WireBit → Decision) → Type 0
  CasesStand above number signal cases prior t d =
      AreMet m (cases_value run above number signal cases prior t).1.building.body.cells → MadeStand m find t.made → StandsFor run prior d
      → Stands m run (cases_value run above number signal cases prior t).0 (λ b. branched m signal (branches_of b cases (d b)) (d b)) × MadeStand m find (cases_value run above number signal cases prior t).1.made

  -- is so of the switch, whether it assigns to the run or not
  switch_stands : (above : List ℕ) (signal : List SigBit) (cases : Cases) (prior : List SigBit) (t : Trees) (d : WireBit → Decision) (assigns : Bool) → assigns_run (cases_assigns cases) run ≡ assigns → CasesStand above 0 signal cases prior t d
      → AreMet m (switch_value assigns run above signal cases prior t).1.building.body.cells → MadeStand m find t.made → StandsFor run prior d
      → Stands m run (switch_value assigns run above signal cases prior t).0 (λ b. branched m signal (branches_of b cases (d b)) (d b)) × MadeStand m find (switch_value assigns run above signal cases prior t).1.made
  switch_stands above signal cases prior t d true e stand met made h = stand met made h
  switch_stands above signal cases prior t d false e stand met made h =
      (stands_map m run prior (λ b. decided m (d b)) (λ b. branched m signal (branches_of b cases (d b)) (d b)) (λ b i r. free_cases m (seen m) b signal cases (d b) r (run_free (cases_assigns cases) run e b i)) h, made)

  mutual
    pub switches_stand : (above : List ℕ) (number : ℕ) (switches : Switches) (prior : List SigBit) (t : Trees) (d : WireBit → Decision) → SwitchesAt find above number switches
        → AreMet m (switches_value run above number switches prior t).1.building.body.cells → MadeStand m find t.made → StandsFor run prior d
        → StandsFor run (switches_value run above number switches prior t).0 (λ b. after_switches b switches (d b)) × MadeStand m find (switches_value run above number switches prior t).1.made
    switches_stand above number NoSwitch prior t d at met made h = (h, made)
    switches_stand above number (OneSwitch signal attributes cases rest) prior t d at met made h =
        let value = switch_value (assigns_run (cases_assigns cases) run) run (above ++ number ∷ []) signal cases prior t in
        let before : AreMet m value.1.building.body.cells = met_before m value.1.building _ (switches_grow run above (number + 1) rest value.0 value.1) met in
        let here = switch_stands (above ++ number ∷ []) signal cases prior t d (assigns_run (cases_assigns cases) run) refl (cases_stand (above ++ number ∷ []) 0 signal cases prior t d at.0) before made h in
        switches_stand above (number + 1) rest value.0 value.1 (λ b. Choice signal (branches_of b cases (d b)) (d b)) at.1 met here.1 here.0

    cases_stand : (above : List ℕ) (number : ℕ) (signal : List SigBit) (cases : Cases) (prior : List SigBit) (t : Trees) (d : WireBit → Decision) → CasesAt find above number signal cases → CasesStand above number signal cases prior t d
    cases_stand above number signal NoCase prior t d at met made h = (h, made)
    cases_stand above number signal (OneCase patterns assigns attributes switches rest) prior t d at met made h =
        let acc = cases_value run above (number + 1) signal rest prior t in
        let body = switches_value run (above ++ number ∷ []) 0 switches (run_value assigns run prior) acc.1 in
        let met2 : AreMet m body.1.building.body.cells = met_before m body.1.building _ (with_case_grows (above ++ number ∷ []) signal patterns body.0 acc.0 body.1) met in
        let met1 : AreMet m acc.1.building.body.cells = met_before m acc.1.building _ (switches_grow run (above ++ number ∷ []) 0 switches (run_value assigns run prior) acc.1) met2 in
        let first = cases_stand above (number + 1) signal rest prior t d at.1.1 met1 made h in
        let second = switches_stand (above ++ number ∷ []) 0 switches (run_value assigns run prior) acc.1 (λ b. after_assigns assigns b (d b)) at.1.0 met2 first.1 (assigns_stand assigns run prior d h) in
        case_stands above number signal patterns assigns switches rest acc.0 body.0 body.1 d at.0 met second.1 second.0 first.0
