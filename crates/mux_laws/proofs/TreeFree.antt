-- Switches that name no bit of a run leave what it has.
use Rattle.std.proofs.Common.{◌≡◌, Bool, false, if◌then◌else◌, List, [], ◌∷◌, ◌++◌, Some, None, inl, inr, refl, sym, ◌∙◌, ap, subst}
use Rattle.std.specs.Prelude.{◌||◌}
use Rattle.std.specs.List.{list_any}
use Rattle.std.specs.Option.{option_map_or, option_or}
use Rattle.std.proofs.lemmas.List.Folds.{list_any-append}
use Rattle.rtl_bits.specs.Knowledge.{Below}
use Rattle.rtl_bits.specs.declared.bit.Bit.{Bit}
use Rattle.rtl_ir.specs.Assigns.{assigned, cases_assigns, last_source, switches_assigns}
use Rattle.rtl_ir.specs.Decisions.{Choice, Decision, Leaf, after_assigns, after_switches, branches_of}
use Rattle.rtl_ir.specs.Follow.{all_joins, joins}
use Rattle.rtl_ir.specs.declared.follow.Join.{Join}
use Rattle.rtl_ir.specs.Signals.{same_bit}
use Rattle.rtl_ir.specs.Tree.{Cases, NoCase, OneCase, NoSwitch, OneSwitch, Switches}
use Rattle.rtl_ir.specs.declared.module.Link.{Link}
use Rattle.rtl_sig.specs.declared.sig.SigBit.{SigBit}
use Rattle.rtl_sig.specs.declared.sig.WireBit.{WireBit}
use Rattle.net_model.specs.Lists.{In}
use Rattle.net_model.specs.Proc.Mux.{assigns_run, names_bit}
use Rattle.mux_laws.proofs.MatchBits.{any_matched}
use Rattle.mux_laws.proofs.TreeRead.{read_branches, read_by}
use Rattle.build_laws.proofs.Moments.{Moment}
use Rattle.build_laws.proofs.Orders.{chosen_both}
use Rattle.std.proofs.lemmas.Bool.{or_parts}

-- one of these lines names the bit
abbrev pub is_named : WireBit → List Link → Bool
is_named b lines = list_any (names_bit b) lines

neither : {A : Type 0} (test : A → Bool) (xs ys : List A) → list_any test (xs ++ ys) ≡ false → (list_any test xs ≡ false) × (list_any test ys ≡ false)
neither test xs ys e =
    or_parts (list_any test xs) (list_any test ys) (sym (list_any-append test xs ys) ∙ e)

free_last : (js : List Join) (b : WireBit) → list_any (λ (j : Join). same_bit j.bit b) js ≡ false → last_source js b ≡ None
free_last [] b e = refl
free_last (j ∷ js) b e =
    let both = or_parts (same_bit j.bit b) (list_any (λ (k : Join). same_bit k.bit b) js) e in
    (λ i. option_or (free_last js b both.1 i) (if both.0 i then Some j.source else None))

free_joins : (lines : List Link) (b : WireBit) → is_named b lines ≡ false → list_any (λ (j : Join). same_bit j.bit b) (all_joins lines) ≡ false
free_joins [] b e = refl
free_joins (l ∷ lines) b e =
    let both = or_parts (names_bit b l) (is_named b lines) e in
    list_any-append (λ (j : Join). same_bit j.bit b) (joins l.left l.right) (all_joins lines)
    ∙ (λ i. both.0 i || free_joins lines b both.1 i)

-- what no line names is not assigned
free_assigned : (lines : List Link) (b : WireBit) → is_named b lines ≡ false → assigned lines b ≡ None
free_assigned lines b e = free_last (all_joins lines) b (free_joins lines b e)

-- no bit of a run that no line assigns is named
pub run_free : (lines : List Link) (run : List WireBit) → assigns_run lines run ≡ false → (b : WireBit) → In b run → is_named b lines ≡ false
run_free lines [] e b i = absurd i
run_free lines (c ∷ run) e b (inl same) = ap (λ z. is_named z lines) same ∙ (or_parts (is_named c lines) (assigns_run lines run) e).0
run_free lines (c ∷ run) e b (inr i) = run_free lines run (or_parts (is_named c lines) (assigns_run lines run) e).1 b i

module _ (m : Moment) (leaf : SigBit → Bit) where
  -- the body of a case, where this is so of its switches
  free_body : (b : WireBit) (assigns : List Link) (switches : Switches) (earlier : Decision) (r : Bit) → ((d : Decision) → is_named b (switches_assigns switches) ≡ false → Below (read_by m leaf d) r → Below (read_by m leaf (after_switches b switches d)) r) → is_named b (assigns ++ switches_assigns switches) ≡ false → Below (read_by m leaf earlier) r
      → Below (read_by m leaf (after_switches b switches (after_assigns assigns b earlier))) r
  free_body b assigns switches earlier r below e h =
      let both = neither (names_bit b) assigns (switches_assigns switches) e in
      below (after_assigns assigns b earlier) both.1 (subst (λ o. Below (read_by m leaf (option_map_or (λ s. Leaf s) o earlier)) r) (sym (free_assigned assigns b both.0)) h)

  mutual
    pub free_switches : (b : WireBit) (switches : Switches) (earlier : Decision) (r : Bit) → is_named b (switches_assigns switches) ≡ false → Below (read_by m leaf earlier) r → Below (read_by m leaf (after_switches b switches earlier)) r
    free_switches b NoSwitch earlier r e h = h
    free_switches b (OneSwitch signal attributes cases rest) earlier r e h =
        let both = neither (names_bit b) (cases_assigns cases) (switches_assigns rest) e in
        free_switches b rest (Choice signal (branches_of b cases earlier) earlier) r both.1 (free_cases b signal cases earlier r both.0 h)

    pub free_cases : (b : WireBit) (signal : List SigBit) (cases : Cases) (earlier : Decision) (r : Bit) → is_named b (cases_assigns cases) ≡ false → Below (read_by m leaf earlier) r → Below (read_branches m leaf signal (branches_of b cases earlier) (read_by m leaf earlier)) r
    free_cases b signal NoCase earlier r e h = h
    free_cases b signal (OneCase [] assigns attributes switches rest) earlier r e h =
        let both = neither (names_bit b) (assigns ++ switches_assigns switches) (cases_assigns rest) e in
        free_body b assigns switches earlier r (λ d. free_switches b switches d r) both.0 h
    free_cases b signal (OneCase (p ∷ patterns) assigns attributes switches rest) earlier r e h =
        let both = neither (names_bit b) (assigns ++ switches_assigns switches) (cases_assigns rest) e in
        chosen_both (any_matched m signal (p ∷ patterns)) _ _ r (free_body b assigns switches earlier r (λ d. free_switches b switches d r) both.0 h) (free_cases b signal rest earlier r both.1 h)
