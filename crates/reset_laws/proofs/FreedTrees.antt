-- Trees in which the tests of a reset are decided: they are read by the rules still, and assign fewer bits.
use Rattle.std.proofs.Common.{◌≡◌, ℕ, suc, ◌≤◌, Bool, true, false, List, [], ◌∷◌, ◌++◌, Option, Some, None, inl, inr, ⊎_elim, refl, sym, ◌∙◌, ap, subst, arith}
use Rattle.std.specs.Prelude.{filter, if◌then◌else◌}
use Rattle.rtl_sig.specs.declared.sig.SigBit.{SigBit}
use Rattle.rtl_sig.specs.declared.sig.WireBit.{WireBit}
use Rattle.rtl_ir.specs.Assigns.{case_assigns, cases_assigns, left_bits, switches_assigns}
use Rattle.rtl_ir.specs.Faults.TwoEdges.{SwitchTest, cases_patterns, tested_bit}
use Rattle.rtl_ir.specs.Signals.{is_all_constant, wire_bits}
use Rattle.rtl_ir.specs.SwitchRules.{cases_by_rules, kept_case, patterns_left, switches_by_rules, takes_the_rest}
use Rattle.rtl_ir.specs.Tree.{CaseView, Cases, NoCase, NoSwitch, OneCase, OneSwitch, Switches}
use Rattle.rtl_ir.specs.declared.module.Link.{Link}
use Rattle.rtl_ir.specs.declared.value.Attribute.{Attribute}
use Rattle.net_model.proofs.Members.{In-cases, In-left, In-right}
use Rattle.net_model.specs.Lists.{In}
use Rattle.net_model.specs.Proc.Reset.{cases_at, is_taken, switches_at}

-- how many cases a switch has
count_cases : Cases → ℕ
count_cases NoCase = 0
count_cases (OneCase patterns assigns attributes switches rest) = suc (count_cases rest)

-- no more are left by the rules
few_cases : (signal : List SigBit) (earlier : List (List SigBit)) (cases : Cases) → count_cases (cases_by_rules signal earlier cases) ≤ count_cases cases
unfolding count_cases
few_cases signal earlier NoCase = omega arith
few_cases signal earlier (OneCase [] assigns attributes switches rest) = omega arith
few_cases signal earlier (OneCase (p ∷ ps) assigns attributes switches rest) =
    by (patterns_left signal earlier (p ∷ ps)) (few_cases signal (earlier ++ filter is_all_constant (patterns_left signal earlier (p ∷ ps))) rest)
  where
    constants : List (List SigBit)
    constants = earlier ++ filter is_all_constant (patterns_left signal earlier (p ∷ ps))

    by : (ls : List (List SigBit)) → count_cases (cases_by_rules signal constants rest) ≤ count_cases rest → count_cases (kept_case signal ls constants (λ left behind. OneCase left assigns attributes (switches_by_rules switches) behind) (cases_by_rules signal constants rest)) ≤ suc (count_cases rest)
    by [] h = omega (arith, h)
    by (l ∷ ls) h = at (takes_the_rest signal (l ∷ ls) constants) h
      where
        at : (t : Bool) → count_cases (cases_by_rules signal constants rest) ≤ count_cases rest → count_cases (if t then OneCase [] assigns attributes (switches_by_rules switches) NoCase else OneCase (l ∷ ls) assigns attributes (switches_by_rules switches) (cases_by_rules signal constants rest)) ≤ suc (count_cases rest)
        at true k = omega arith
        at false k = omega (arith, k)

-- a case with patterns that stays by the rules
record IsKept (signal : List SigBit) (earlier : List (List SigBit)) (ps : List (List SigBit)) (switches : Switches) (rest : Cases) : Type 0 where
  patterns : patterns_left signal earlier ps ≡ ps
  goes_on : takes_the_rest signal ps (earlier ++ filter is_all_constant (patterns_left signal earlier ps)) ≡ false
  inner : switches_by_rules switches ≡ switches
  behind : cases_by_rules signal (earlier ++ filter is_all_constant (patterns_left signal earlier ps)) rest ≡ rest

kept : (signal : List SigBit) (earlier : List (List SigBit)) (p : List SigBit) (ps : List (List SigBit)) (assigns : List Link) (attributes : List Attribute) (switches : Switches) (rest : Cases) → cases_by_rules signal earlier (OneCase (p ∷ ps) assigns attributes switches rest) ≡ OneCase (p ∷ ps) assigns attributes switches rest → IsKept signal earlier (p ∷ ps) switches rest
unfolding count_cases
kept signal earlier p ps assigns attributes switches rest e =
    by (patterns_left signal earlier (p ∷ ps)) refl e
  where
    constants : List (List SigBit)
    constants = earlier ++ filter is_all_constant (patterns_left signal earlier (p ∷ ps))

    at : (l : List SigBit) (ls : List (List SigBit)) → patterns_left signal earlier (p ∷ ps) ≡ l ∷ ls → (t : Bool) → takes_the_rest signal (l ∷ ls) constants ≡ t → (if t then OneCase [] assigns attributes (switches_by_rules switches) NoCase else OneCase (l ∷ ls) assigns attributes (switches_by_rules switches) (cases_by_rules signal constants rest)) ≡ OneCase (p ∷ ps) assigns attributes switches rest → IsKept signal earlier (p ∷ ps) switches rest
    at l ls f true g h = absurd (cc)
    at l ls f false g h =
        let left : l ∷ ls ≡ p ∷ ps = cc in
        let within : switches_by_rules switches ≡ switches = cc in
        let later : cases_by_rules signal constants rest ≡ rest = cc in
        record {
          patterns = f ∙ left;
          goes_on = ap (λ z. takes_the_rest signal z constants) (sym left) ∙ g;
          inner = within;
          behind = later;
        }

    by : (ls : List (List SigBit)) → patterns_left signal earlier (p ∷ ps) ≡ ls → kept_case signal ls constants (λ left behind. OneCase left assigns attributes (switches_by_rules switches) behind) (cases_by_rules signal constants rest) ≡ OneCase (p ∷ ps) assigns attributes switches rest → IsKept signal earlier (p ∷ ps) switches rest
    by [] f g =
        let few : count_cases (cases_by_rules signal constants rest) ≤ count_cases rest = few_cases signal constants rest in
        let many : count_cases (cases_by_rules signal constants rest) ≡ suc (count_cases rest) = ap count_cases g in
        absurd (omega (arith, few, many))
    by (l ∷ ls) f g = at l ls f (takes_the_rest signal (l ∷ ls) constants) refl g

pub both : (xs ys zs : List Link) (l : Link) → (In l ys → In l zs) → In l (xs ++ ys) → In l (xs ++ zs)
both xs ys zs l h i = ⊎_elim (λ a. In-left l xs zs a) (λ b. In-right l xs zs (h b)) (In-cases l xs ys i)

pub left_in : (lines : List Link) (b : WireBit) → In b (left_bits lines) → (l : Link) × In l lines × In b (wire_bits l.left)
left_in [] b i = absurd i
left_in (l ∷ lines) b i = ⊎_elim (λ h. (l, inl refl, h)) (λ k. let z = left_in lines b k in (z.0, inr z.1, z.2)) (In-cases b (wire_bits l.left) (left_bits lines) i)

pub in_left : (lines : List Link) (l : Link) (b : WireBit) → In l lines → In b (wire_bits l.left) → In b (left_bits lines)
in_left [] l b i j = absurd i
in_left (k ∷ lines) l b (inl e) j = In-left b (wire_bits k.left) (left_bits lines) (subst (λ (z : Link). In b (wire_bits z.left)) e j)
in_left (k ∷ lines) l b (inr i) j = In-right b (wire_bits k.left) (left_bits lines) (in_left lines l b i j)

module _ (test : SwitchTest) (level : Bool) where
  mutual
    -- the rules change nothing once tests are decided
    pub switches_ruled : (switches : Switches) → switches_by_rules switches ≡ switches → switches_by_rules (switches_at test level switches) ≡ switches_at test level switches
    switches_ruled NoSwitch e = refl
    switches_ruled (OneSwitch signal attributes cases rest) e =
        let here : cases_by_rules signal [] cases ≡ cases = cc in
        let later : switches_by_rules rest ≡ rest = cc in
        λ i. OneSwitch signal attributes (by (test signal (cases_patterns cases)) (open_ruled signal [] cases here) (λ inverse. taken_ruled signal [] signal [] inverse cases here) i) (switches_ruled rest later i)
      where
        by : (o : Option Bool) → cases_by_rules signal [] (cases_at test level None cases) ≡ cases_at test level None cases → ((inverse : Bool) → cases_by_rules signal [] (cases_at test level (Some inverse) cases) ≡ cases_at test level (Some inverse) cases) → cases_by_rules signal [] (cases_at test level o cases) ≡ cases_at test level o cases
        by None f g = f
        by (Some inverse) f g = g inverse

    open_ruled : (signal : List SigBit) (earlier : List (List SigBit)) (cases : Cases) → cases_by_rules signal earlier cases ≡ cases → cases_by_rules signal earlier (cases_at test level None cases) ≡ cases_at test level None cases
    open_ruled signal earlier NoCase e = refl
    open_ruled signal earlier (OneCase [] assigns attributes switches rest) e =
        let inner : switches_by_rules switches ≡ switches = cc in
        let last : NoCase ≡ rest = cc in
        (λ i. OneCase [] assigns attributes (switches_ruled switches inner i) NoCase)
        ∙ ap (λ z. OneCase [] assigns attributes (switches_at test level switches) (cases_at test level None z)) last
    open_ruled signal earlier (OneCase (p ∷ ps) assigns attributes switches rest) e =
        let k = kept signal earlier p ps assigns attributes switches rest e in
        let constants : List (List SigBit) = earlier ++ filter is_all_constant (patterns_left signal earlier (p ∷ ps)) in
        let case : List (List SigBit) → Cases → Cases = λ left behind. OneCase left assigns attributes (switches_by_rules (switches_at test level switches)) behind in
        (λ i. kept_case signal (k.patterns i) constants case (cases_by_rules signal constants (cases_at test level None rest)))
        ∙ ap (λ t. if t then case [] NoCase else case (p ∷ ps) (cases_by_rules signal constants (cases_at test level None rest))) k.goes_on
        ∙ (λ i. OneCase (p ∷ ps) assigns attributes (switches_ruled switches k.inner i) (open_ruled signal constants rest k.behind i))

    taken_ruled : (signal : List SigBit) (earlier : List (List SigBit)) (over : List SigBit) (behind : List (List SigBit)) (inverse : Bool) (cases : Cases) → cases_by_rules signal earlier cases ≡ cases → cases_by_rules over behind (cases_at test level (Some inverse) cases) ≡ cases_at test level (Some inverse) cases
    taken_ruled signal earlier over behind inverse NoCase e = refl
    taken_ruled signal earlier over behind inverse (OneCase [] assigns attributes switches rest) e =
        let inner : switches_by_rules switches ≡ switches = cc in
        λ i. OneCase [] assigns attributes (switches_ruled switches inner i) NoCase
    taken_ruled signal earlier over behind inverse (OneCase (p ∷ ps) assigns attributes switches rest) e =
        let k = kept signal earlier p ps assigns attributes switches rest e in
        by (is_taken (tested_bit level inverse) (p ∷ ps)) (switches_ruled switches k.inner)
        (taken_ruled signal (earlier ++ filter is_all_constant (patterns_left signal earlier (p ∷ ps))) over behind inverse rest k.behind)
      where
        by : (t : Bool) → switches_by_rules (switches_at test level switches) ≡ switches_at test level switches → cases_by_rules over behind (cases_at test level (Some inverse) rest) ≡ cases_at test level (Some inverse) rest → cases_by_rules over behind (if t then OneCase [] assigns attributes (switches_at test level switches) NoCase else cases_at test level (Some inverse) rest) ≡ (if t then OneCase [] assigns attributes (switches_at test level switches) NoCase else cases_at test level (Some inverse) rest)
        by true f g = λ i. OneCase [] assigns attributes (f i) NoCase
        by false f g = g

  -- the assigns below are among those that were there
  mutual
    pub switches_fewer : (switches : Switches) (l : Link) → In l (switches_assigns (switches_at test level switches)) → In l (switches_assigns switches)
    switches_fewer NoSwitch l i = absurd i
    switches_fewer (OneSwitch signal attributes cases rest) l i =
        ⊎_elim
        (λ h. In-left l (cases_assigns cases) (switches_assigns rest) (cases_fewer (test signal (cases_patterns cases)) cases l h))
        (λ k. In-right l (cases_assigns cases) (switches_assigns rest) (switches_fewer rest l k))
        (In-cases l (cases_assigns (cases_at test level (test signal (cases_patterns cases)) cases)) (switches_assigns (switches_at test level rest)) i)

    pub cases_fewer : (o : Option Bool) (cases : Cases) (l : Link) → In l (cases_assigns (cases_at test level o cases)) → In l (cases_assigns cases)
    cases_fewer o NoCase l i = absurd i
    cases_fewer None (OneCase patterns assigns attributes switches rest) l i =
        ⊎_elim
        (λ h. In-left l (assigns ++ switches_assigns switches) (cases_assigns rest) (both assigns (switches_assigns (switches_at test level switches)) (switches_assigns switches) l (switches_fewer switches l) h))
        (λ k. In-right l (assigns ++ switches_assigns switches) (cases_assigns rest) (cases_fewer None rest l k))
        (In-cases l (assigns ++ switches_assigns (switches_at test level switches)) (cases_assigns (cases_at test level None rest)) i)
    cases_fewer (Some inverse) (OneCase patterns assigns attributes switches rest) l i =
        by (is_taken (tested_bit level inverse) patterns) i (switches_fewer switches l) (cases_fewer (Some inverse) rest l)
      where
        by : (t : Bool) → In l (cases_assigns (if t then OneCase [] assigns attributes (switches_at test level switches) NoCase else cases_at test level (Some inverse) rest)) → (In l (switches_assigns (switches_at test level switches)) → In l (switches_assigns switches)) → (In l (cases_assigns (cases_at test level (Some inverse) rest)) → In l (cases_assigns rest)) → In l ((assigns ++ switches_assigns switches) ++ cases_assigns rest)
        by true j inner later =
            In-left l (assigns ++ switches_assigns switches) (cases_assigns rest)
            (⊎_elim (λ h. both assigns (switches_assigns (switches_at test level switches)) (switches_assigns switches) l inner h) (λ k. absurd k) (In-cases l (assigns ++ switches_assigns (switches_at test level switches)) [] j))
        by false j inner later = In-right l (assigns ++ switches_assigns switches) (cases_assigns rest) (later j)

  -- so a bit that is assigned was assigned
  pub bits_fewer : (root : CaseView) (b : WireBit) → In b (left_bits (case_assigns (record root { switches = switches_at test level root.switches }))) → In b (left_bits (case_assigns root))
  bits_fewer root b i =
      let z = left_in (root.assigns ++ switches_assigns (switches_at test level root.switches)) b i in
      in_left (root.assigns ++ switches_assigns root.switches) z.0 b (both root.assigns (switches_assigns (switches_at test level root.switches)) (switches_assigns root.switches) z.0 (switches_fewer root.switches z.0) z.1) z.2
