-- Switches that are read by the rules stay as they are when they are read so again.
use Rattle.std.proofs.Common.{◌≡◌, Bool, true, false, if◌then◌else◌, List, [], ◌∷◌, ◌++◌, append-nil, refl, sym, ◌∙◌, ap}
use Rattle.std.specs.Prelude.{filter}
use Rattle.rtl_sig.specs.declared.sig.SigBit.{SigBit}
use Rattle.rtl_ir.specs.declared.module.Link.{Link}
use Rattle.rtl_ir.specs.declared.value.Attribute.{Attribute}
use Rattle.rtl_ir.specs.Assigns.{case_assigns, each_once, left_bits, tree_bits}
use Rattle.rtl_ir.specs.Signals.{is_all_constant}
use Rattle.rtl_ir.specs.SwitchRules.{cases_by_rules, is_dropped, kept_case, patterns_left, root_by_rules, switches_by_rules, takes_the_rest, with_pattern}
use Rattle.rtl_ir.specs.Tree.{Switches, NoSwitch, OneSwitch, Cases, NoCase, OneCase, CaseView}

module _ (signal : List SigBit) where
  -- of patterns that are left, all are left
  left_again : (earlier ps : List (List SigBit)) → patterns_left signal earlier (patterns_left signal earlier ps) ≡ patterns_left signal earlier ps
  left_again earlier [] = refl
  left_again earlier (p ∷ ps) =
      by (patterns_left signal earlier ps) (patterns_left signal (with_pattern earlier p) ps) (is_dropped signal earlier p) refl (left_again earlier ps) (left_again (with_pattern earlier p) ps)
    where
      by : (here behind : List (List SigBit)) (t : Bool) → is_dropped signal earlier p ≡ t → patterns_left signal earlier here ≡ here → patterns_left signal (with_pattern earlier p) behind ≡ behind
          → patterns_left signal earlier (if t then here else p ∷ behind) ≡ (if t then here else p ∷ behind)
      by here behind true e h b = h
      by here behind false e h b =
          ap (λ t. if t then patterns_left signal earlier behind else p ∷ patterns_left signal (with_pattern earlier p) behind) e ∙ ap (λ z. p ∷ z) b

  -- a case that is kept is kept as it is
  kept_again : (earlier left : List (List SigBit)) (assigns : List Link) (attributes : List Attribute) (inner : Switches) (rest : Cases)
      → patterns_left signal earlier left ≡ left → switches_by_rules inner ≡ inner
      → cases_by_rules signal (earlier ++ filter is_all_constant left) rest ≡ rest
      → cases_by_rules signal earlier (kept_case signal left (earlier ++ filter is_all_constant left) (λ ps behind. OneCase ps assigns attributes inner behind) rest)
      ≡ kept_case signal left (earlier ++ filter is_all_constant left) (λ ps behind. OneCase ps assigns attributes inner behind) rest
  kept_again earlier [] assigns attributes inner rest again within behind =
      ap (λ z. cases_by_rules signal z rest) (sym (append-nil earlier)) ∙ behind
  kept_again earlier (q ∷ qs) assigns attributes inner rest again within behind =
      let constants : List (List SigBit) = earlier ++ filter is_all_constant (q ∷ qs) in
      by (takes_the_rest signal (q ∷ qs) constants) refl
    where
      by : (t : Bool) → takes_the_rest signal (q ∷ qs) (earlier ++ filter is_all_constant (q ∷ qs)) ≡ t
          → cases_by_rules signal earlier (if t then OneCase [] assigns attributes inner NoCase else OneCase (q ∷ qs) assigns attributes inner rest)
          ≡ (if t then OneCase [] assigns attributes inner NoCase else OneCase (q ∷ qs) assigns attributes inner rest)
      by true e = ap (λ s. OneCase [] assigns attributes s NoCase) within
      by false e =
          (λ i. kept_case signal (again i) (earlier ++ filter is_all_constant (again i)) (λ ps cs. OneCase ps assigns attributes (within i) cs) (cases_by_rules signal (earlier ++ filter is_all_constant (again i)) rest))
          ∙ ap (λ cs. kept_case signal (q ∷ qs) (earlier ++ filter is_all_constant (q ∷ qs)) (λ ps behind. OneCase ps assigns attributes inner behind) cs) behind
          ∙ ap (λ t. if t then OneCase [] assigns attributes inner NoCase else OneCase (q ∷ qs) assigns attributes inner rest) e

mutual
  pub switches_again : (switches : Switches) → switches_by_rules (switches_by_rules switches) ≡ switches_by_rules switches
  switches_again NoSwitch = refl
  switches_again (OneSwitch signal attributes cases rest) =
      λ i. OneSwitch signal attributes (cases_again signal [] cases i) (switches_again rest i)

  cases_again : (signal : List SigBit) (earlier : List (List SigBit)) (cases : Cases) → cases_by_rules signal earlier (cases_by_rules signal earlier cases) ≡ cases_by_rules signal earlier cases
  cases_again signal earlier NoCase = refl
  cases_again signal earlier (OneCase [] assigns attributes switches rest) =
      ap (λ s. OneCase [] assigns attributes s NoCase) (switches_again switches)
  cases_again signal earlier (OneCase (p ∷ ps) assigns attributes switches rest) =
      let left = patterns_left signal earlier (p ∷ ps) in
      kept_again signal earlier left assigns attributes (switches_by_rules switches) (cases_by_rules signal (earlier ++ filter is_all_constant left) rest)
      (left_again signal earlier (p ∷ ps)) (switches_again switches) (cases_again signal (earlier ++ filter is_all_constant left) rest)

pub root_again : (root : CaseView) → root_by_rules (root_by_rules root) ≡ root_by_rules root
root_again root = ap (λ s. record root { switches = s }) (switches_again root.switches)

pub tree_bits_again : (root : CaseView) → tree_bits (root_by_rules root) ≡ tree_bits root
tree_bits_again root = ap (λ c. each_once (left_bits (case_assigns c))) (root_again root)
