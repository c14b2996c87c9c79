-- The walk by the numbers of nodes is the walk by places.
use Rattle.std.proofs.Common.{◌≡◌, ℕ, suc, ◌+◌, Bool, true, false, List, [], ◌∷◌, ◌++◌, length, if◌then◌else◌, refl, sym, ap, subst, arith}
use Rattle.std.specs.Prelude.{unwrap_or}
use Rattle.rtl_sig.specs.declared.sig.SigBit.{SigBit}
use Rattle.rtl_sig.specs.declared.sig.WireBit.{WireBit}
use Rattle.rtl_ir.specs.declared.module.Link.{Link}
use Rattle.rtl_ir.specs.Tree.{Switches, NoSwitch, OneSwitch, Cases, NoCase, OneCase}
use Rattle.rtl_ir.specs.Assigns.{cases_assigns}
use Rattle.net_model.specs.Proc.Mux.{Trees, assigns_run, run_value}
use Rattle.net_model.specs.Proc.Mux as by_places
use Rattle.match_cells.specs.Numbers.{behind_case, behind_switch}
use Rattle.match_cells.specs.Trees.{Numbered, with_case}
use Rattle.match_cells.proofs.Places.{case_number, switch_number}
use Rattle.match_cells.proofs.Same.{Agrees, IsMade, case_same_value}
use Rattle.match_cells.proofs.Standing.{AtCases, AtSwitches, Stands, below_place, next_place, own_place}
use Rattle.proc_mux.specs.Trees.{cases_value, has_between, switches_value, value_at}
use Rattle.proc_mux.specs.declared.given.Given.{Given}

-- of either of two values that agree, the same one is taken
either_same : (root : Switches) (wide : ℕ) (t u : Bool) → u ≡ t → (r : List SigBit × Trees) (q : List SigBit × Numbered) → Agrees root wide r q → (r' : List SigBit × Trees) (q' : List SigBit × Numbered) → Agrees root wide r' q' → Agrees root wide (if t then r else r') (if u then q else q')
either_same root wide t u e r q a r' q' b = subst (λ v. Agrees root wide (if t then r else r') (if v then q else q')) (sym e) (by t)
  where
    by : (t : Bool) → Agrees root wide (if t then r else r') (if t then q else q')
    by true = a
    by false = b

module _ (root : Switches) (run : List WireBit) (given : List Given) where
  abbrev wide : ℕ
  wide = length run

  -- what is given to a run is what the assigns of the cases give it
  abbrev mutual
    pub FitsSwitches : ℕ → Switches → Type 0
    FitsSwitches n NoSwitch = Unit {0}
    FitsSwitches n (OneSwitch signal attributes cases rest) =
        (has_between given n (behind_switch n cases) ≡ assigns_run (cases_assigns cases) run) × (FitsCases (n + 1) cases × FitsSwitches (behind_switch n cases) rest)

    pub FitsCases : ℕ → Cases → Type 0
    FitsCases n NoCase = Unit {0}
    FitsCases n (OneCase patterns assigns attributes switches rest) =
        ((prior : List SigBit) → length prior ≡ wide → unwrap_or (value_at given n) prior ≡ run_value assigns run prior)
        × (FitsSwitches (n + 1) switches × FitsCases (behind_case n switches) rest)

  pub value_width : (assigns : List Link) (bits : List WireBit) (prior : List SigBit) → length prior ≡ length bits → length (run_value assigns bits prior) ≡ length bits
  value_width assigns [] prior h = refl
  value_width assigns (b ∷ bits) [] h = absurd (omega arith)
  value_width assigns (b ∷ bits) (s ∷ prior) h = ap suc (value_width assigns bits prior (omega arith))

  mutual
    unfolding switches_value

    pub switches_same : (above : List ℕ) (k n : ℕ) (ss : Switches) (prior : List SigBit) (d : Trees) (f : Numbered) → FitsSwitches n ss → AtSwitches root above k n ss → length prior ≡ wide → d.building ≡ f.building → IsMade root d.made f.made → Agrees root wide (by_places.switches_value run above k ss prior d) (switches_value given n ss prior f)
    switches_same above k n NoSwitch prior d f fits at w b m = record { value = refl; width = w; building = b; made = m }
    switches_same above k n (OneSwitch signal attributes cases rest) prior d f fits at w b m =
        let inner =
        cases_same (above ++ k ∷ []) 0 (n + 1) signal cases prior d f fits.1.0
        (λ j q i. subst (λ p. Stands root p (case_number (n + 1) cases (j ∷ q))) (below_place above k j q) (at 0 (j ∷ q) i))
        w b m in
        let a =
        either_same root wide (assigns_run (cases_assigns cases) run) (has_between given n (behind_switch n cases)) fits.0
        (by_places.cases_value run (above ++ k ∷ []) 0 signal cases prior d) (cases_value given (n + 1) signal cases prior f) inner
        (prior, d) (prior, f) (record { value = refl; width = w; building = b; made = m }) in
        let then_d : List SigBit × Trees = (if assigns_run (cases_assigns cases) run then by_places.cases_value run (above ++ k ∷ []) 0 signal cases prior d else (prior, d)) in
        let then_f : List SigBit × Numbered = (if has_between given n (behind_switch n cases) then cases_value given (n + 1) signal cases prior f else (prior, f)) in
        let rest_same =
        switches_same above (k + 1) (behind_switch n cases) rest then_f.0 then_d.1 then_f.1 fits.1.1
        (λ j q i. subst (λ p. Stands root p (switch_number (behind_switch n cases) rest (j ∷ q))) (next_place above k j q) (at (suc j) q i))
        a.width a.building a.made in
        subst (λ v. Agrees root wide (by_places.switches_value run above (k + 1) rest v then_d.1) (switches_value given (behind_switch n cases) rest then_f.0 then_f.1)) (sym a.value) rest_same

    pub cases_same : (above : List ℕ) (k n : ℕ) (signal : List SigBit) (cs : Cases) (prior : List SigBit) (d : Trees) (f : Numbered) → FitsCases n cs → AtCases root above k n cs → length prior ≡ wide → d.building ≡ f.building → IsMade root d.made f.made → Agrees root wide (by_places.cases_value run above k signal cs prior d) (cases_value given n signal cs prior f)
    cases_same above k n signal NoCase prior d f fits at w b m = record { value = refl; width = w; building = b; made = m }
    cases_same above k n signal (OneCase patterns assigns attributes switches rest) prior d f fits at w b m =
        let acc_d = by_places.cases_value run above (k + 1) signal rest prior d in
        let acc_f = cases_value given (behind_case n switches) signal rest prior f in
        let acc =
        cases_same above (k + 1) (behind_case n switches) signal rest prior d f fits.1.1
        (λ j q i. subst (λ p. Stands root p (case_number (behind_case n switches) rest (j ∷ q))) (next_place above k j q) (at (suc j) q i))
        w b m in
        let start = run_value assigns run prior in
        let body_d = by_places.switches_value run (above ++ k ∷ []) 0 switches start acc_d.1 in
        let body_f = switches_value given (n + 1) switches (unwrap_or (value_at given n) prior) acc_f.1 in
        let body : Agrees root wide body_d body_f =
        subst (λ v. Agrees root wide body_d (switches_value given (n + 1) switches v acc_f.1)) (sym (fits.0 prior w))
        (switches_same (above ++ k ∷ []) 0 (n + 1) switches start acc_d.1 acc_f.1 fits.1.0
        (λ j q i. subst (λ p. Stands root p (switch_number (n + 1) switches (j ∷ q))) (below_place above k j q) (at 0 (j ∷ q) i))
        (value_width assigns run prior w) acc.building acc.made) in
        let own = subst (λ p. Stands root p n) (own_place above k) (at 0 [] tt) in
        let last = case_same_value root (above ++ k ∷ []) own.0 n (sym own.1) signal patterns wide body_f.0 acc_f.0 body_d.1 body_f.1 body.width acc.width body.building body.made in
        subst (λ v. Agrees root wide (by_places.with_case (above ++ k ∷ []) signal patterns v acc_d.0 body_d.1) (with_case n signal patterns body_f.0 acc_f.0 body_f.1)) (sym body.value)
        (subst (λ v. Agrees root wide (by_places.with_case (above ++ k ∷ []) signal patterns body_f.0 v body_d.1) (with_case n signal patterns body_f.0 acc_f.0 body_f.1)) (sym acc.value) last)
