-- Tests of an event bit, step by step.
use Rattle.std.proofs.Common.{◌≡◌, ℕ, zero, suc, ◌+◌, ◌<◌, List, [], ◌∷◌, length, get_or, drop, Bool, true, false, ◌||◌, Option, Some, None, refl, sym, ◌∙◌, ap}
use Rattle.std.specs.Prelude.{if◌then◌else◌, option_and_then, option_map}
use Rattle.rtl_sig.specs.declared.sig.SigBit.{SigBit}
use Rattle.rtl_sig.specs.declared.sig.WireBit.{WireBit}
use Rattle.rtl_ir.specs.declared.module.Module.{Module}
use Rattle.rtl_ir.specs.EventTests.{Step, differs, meets, step_at, switch_test, test_within}
use Rattle.rtl_ir.specs.Follow.{all_joins, follow_joins}
use Rattle.rtl_ir.specs.Faults.TwoEdges.{SwitchTest, cases_test, switches_test}
use Rattle.rtl_ir.specs.Tree.{CaseView, SwitchView, cases_of, switches_of}
use Rattle.rtl_ir.specs.Types.{Ports}
use Rattle.net_index.proofs.IndexDrives.{here}
use Rattle.process_trees.specs.Tested.{met, only_place, switch_tests}

differs_false : (a : Bool) → differs a false ≡ a
differs_false true = refl
differs_false false = refl

differs_twice : (a b c : Bool) → differs a (differs b c) ≡ differs (differs a b) c
differs_twice true true true = refl
differs_twice true true false = refl
differs_twice true false c = refl
differs_twice false b c = refl

pub as_is : (o : Option Bool) → option_map (differs false) o ≡ o
as_is None = refl
as_is (Some b) = refl

twice : (a b : Bool) (o : Option Bool) → option_map (differs a) (option_map (differs b) o) ≡ option_map (differs (differs a b)) o
twice a b None = refl
twice a b (Some c) = ap Some (differs_twice a b c)

module _ (ports : Ports) (m : Module) (b : WireBit) (inverse : Bool) (s : SigBit) where
  pub tests_here : (k : ℕ) → meets (all_joins m.links) b s ≡ true → option_map (differs inverse) (test_within ports m k b s) ≡ Some inverse
  tests_here zero e = ap (λ t. option_map (differs inverse) (if t then Some false else None)) e ∙ ap Some (differs_false inverse)
  tests_here (suc k) e =
      ap (λ t. option_map (differs inverse) (if t then Some false else option_and_then (λ (step : Step). option_map (differs step.inverse) (test_within ports m k b step.input)) (step_at ports m (follow_joins (all_joins m.links) s)))) e
      ∙ ap Some (differs_false inverse)

  pub tests_last : met (meets (all_joins m.links) b s) inverse ≡ option_map (differs inverse) (test_within ports m 0 b s)
  tests_last = by (meets (all_joins m.links) b s)
    where
      by : (t : Bool) → met t inverse ≡ option_map (differs inverse) (if t then Some false else None)
      by true = ap Some (sym (differs_false inverse))
      by false = refl

  pub tests_end : (k : ℕ) → meets (all_joins m.links) b s ≡ false → None ≡ step_at ports m (follow_joins (all_joins m.links) s) → option_map (differs inverse) (test_within ports m (suc k) b s) ≡ None
  tests_end k e none =
      (λ i. option_map (differs inverse) (if e i then Some false else option_and_then (λ (step : Step). option_map (differs step.inverse) (test_within ports m k b step.input)) (sym none i)))

  pub tests_on : (k : ℕ) (step : Step) → meets (all_joins m.links) b s ≡ false → Some step ≡ step_at ports m (follow_joins (all_joins m.links) s)
      → option_map (differs inverse) (test_within ports m (suc k) b s) ≡ option_map (differs (differs inverse step.inverse)) (test_within ports m k b step.input)
  tests_on k step e some =
      (λ i. option_map (differs inverse) (if e i then Some false else option_and_then (λ (step : Step). option_map (differs step.inverse) (test_within ports m k b step.input)) (sym some i)))
      ∙ twice inverse step.inverse (test_within ports m k b step.input)

-- the test of a switch by the place of its signal
pub test_by : (ports : Ports) (m : Module) (b : WireBit) (signal : List SigBit) (patterns : List (List SigBit)) (s : SigBit) → only_place signal ≡ Some s
    → switch_test ports m b (s ∷ []) patterns ≡ switch_test ports m b signal patterns
test_by ports m b [] patterns s e = absurd (cc)
test_by ports m b (x ∷ []) patterns s e = let same : s ≡ x = cc in ap (λ z. switch_test ports m b (z ∷ []) patterns) same
test_by ports m b (x ∷ y ∷ signal) patterns s e = absurd (cc)

pub no_test : (ports : Ports) (m : Module) (b : WireBit) (signal : List SigBit) (patterns : List (List SigBit)) → only_place signal ≡ None → None ≡ switch_test ports m b signal patterns
no_test ports m b [] patterns e = refl
no_test ports m b (x ∷ []) patterns e = absurd (cc)
no_test ports m b (x ∷ y ∷ signal) patterns e = refl

-- the next of some switches and those behind it, and the next of some cases
pub next_switch : (test : SwitchTest) (ss : List SwitchView) (i : ℕ) (s : SwitchView) → i < length ss → s ≡ get_or ss i s
    → switches_test test (switches_of (drop i ss)) ≡ (switch_tests test s || switches_test test (switches_of (drop (i + 1) ss)))
next_switch test ss i s h is = ap (λ ss. switches_test test (switches_of ss)) (here ss i s h is)

pub next_case : (test : SwitchTest) (cs : List CaseView) (i : ℕ) (c : CaseView) → i < length cs → c ≡ get_or cs i c
    → cases_test test (cases_of (drop i cs)) ≡ (switches_test test c.switches || cases_test test (cases_of (drop (i + 1) cs)))
next_case test cs i c h is = ap (λ cs. cases_test test (cases_of cs)) (here cs i c h is)
