-- What the rules leave of switches stood there before.
use Rattle.std.proofs.Common.{◌≡◌, ℕ, suc, ◌≤◌, Bool, true, false, if◌then◌else◌, ◌||◌, List, [], ◌∷◌, ◌++◌, length, inl, inr, ⊎_elim, refl, ◌∙◌, ap, arith}
use Rattle.std.specs.Prelude.{◌==◌, filter, nat_lt, not}
use Rattle.std.specs.List.{list_any}
use Rattle.std.proofs.lemmas.Bool.{or_parts}
use Rattle.std.proofs.lemmas.Bool.Decides.{nat_tests}
use Rattle.rtl_sig.specs.declared.sig.SigBit.{SigBit}
use Rattle.rtl_ir.specs.declared.module.Link.{Link}
use Rattle.rtl_ir.specs.Assigns.{case_assigns, cases_assigns, switches_assigns}
use Rattle.rtl_ir.specs.Faults.ProcessLimits.{cases_pass, cases_uneven, passes_limit, switches_pass, switches_uneven}
use Rattle.rtl_ir.specs.Signals.{is_all_constant}
use Rattle.rtl_ir.specs.SwitchRules.{cases_by_rules, is_dropped, kept_case, patterns_left, root_by_rules, switches_by_rules, takes_the_rest, with_pattern}
use Rattle.rtl_ir.specs.Tree.{Switches, NoSwitch, OneSwitch, Cases, NoCase, OneCase, CaseView}
use Rattle.net_model.specs.Lists.{In}
use Rattle.net_model.specs.Within.{Each}
use Rattle.net_model.proofs.Members.{In-cases, In-left, In-right}

-- what a case becomes has what the cases behind it have, and what it has itself as a default or with what is left of its patterns
kept_has : (P : Cases → Type 0) (signal : List SigBit) (left constants : List (List SigBit)) (case : List (List SigBit) → Cases → Cases) (rest : Cases)
    → P rest → P (case [] NoCase) → P (case left rest) → P (kept_case signal left constants case rest)
kept_has P signal [] constants case rest behind last whole = behind
kept_has P signal (q ∷ qs) constants case rest behind last whole = by (takes_the_rest signal (q ∷ qs) constants)
  where
    by : (t : Bool) → P (if t then case [] NoCase else case (q ∷ qs) rest)
    by true = last
    by false = whole

-- assigns
module _ (x : Link) where
  of_case : (assigns new old newer older : List Link) → (In x new → In x old) → (In x newer → In x older) → In x ((assigns ++ new) ++ newer) → In x ((assigns ++ old) ++ older)
  of_case assigns new old newer older f g i =
      ⊎_elim
      (λ l. In-left x (assigns ++ old) older (⊎_elim (λ a. In-left x assigns old a) (λ b. In-right x assigns old (f b)) (In-cases x assigns new l)))
      (λ r. In-right x (assigns ++ old) older (g r))
      (In-cases x (assigns ++ new) newer i)

  mutual
    ruled_switches : (switches : Switches) → In x (switches_assigns (switches_by_rules switches)) → In x (switches_assigns switches)
    ruled_switches NoSwitch i = i
    ruled_switches (OneSwitch signal attributes cases rest) i =
        ⊎_elim
        (λ l. In-left x (cases_assigns cases) (switches_assigns rest) (ruled_cases signal [] cases l))
        (λ r. In-right x (cases_assigns cases) (switches_assigns rest) (ruled_switches rest r))
        (In-cases x (cases_assigns (cases_by_rules signal [] cases)) (switches_assigns (switches_by_rules rest)) i)

    ruled_cases : (signal : List SigBit) (earlier : List (List SigBit)) (cases : Cases) → In x (cases_assigns (cases_by_rules signal earlier cases)) → In x (cases_assigns cases)
    ruled_cases signal earlier NoCase i = i
    ruled_cases signal earlier (OneCase [] assigns attributes switches rest) i =
        of_case assigns (switches_assigns (switches_by_rules switches)) (switches_assigns switches) [] (cases_assigns rest) (ruled_switches switches) (λ j. absurd j) i
    ruled_cases signal earlier (OneCase (p ∷ ps) assigns attributes switches rest) i =
        let left = patterns_left signal earlier (p ∷ ps) in
        let constants = earlier ++ filter is_all_constant left in
        let inner : Switches = switches_by_rules switches in
        let behind : Cases = cases_by_rules signal constants rest in
        let all : List Link = (assigns ++ switches_assigns switches) ++ cases_assigns rest in
        kept_has (λ cs. In x (cases_assigns cs) → In x all) signal left constants (λ qs cs. OneCase qs assigns attributes inner cs) behind
        (λ j. In-right x (assigns ++ switches_assigns switches) (cases_assigns rest) (ruled_cases signal constants rest j))
        (of_case assigns (switches_assigns inner) (switches_assigns switches) [] (cases_assigns rest) (ruled_switches switches) (λ j. absurd j))
        (of_case assigns (switches_assigns inner) (switches_assigns switches) (cases_assigns behind) (cases_assigns rest) (ruled_switches switches) (ruled_cases signal constants rest))
        i

  pub ruled_assigns : (root : CaseView) → In x (case_assigns (root_by_rules root)) → In x (case_assigns root)
  ruled_assigns root i =
      ⊎_elim
      (λ l. In-left x root.assigns (switches_assigns root.switches) l)
      (λ r. In-right x root.assigns (switches_assigns root.switches) (ruled_switches root.switches r))
      (In-cases x root.assigns (switches_assigns (switches_by_rules root.switches)) i)

-- what none of these is, none of those is that stand among them
pub none_among : {A : Type 0} (f : A → Bool) (xs ys : List A) → ((x : A) → In x xs → In x ys) → list_any f ys ≡ false → list_any f xs ≡ false
none_among f [] ys h e = refl
none_among f (x ∷ xs) ys h e = λ i. is_none ys e x (h x (inl refl)) i || none_among f xs ys (λ y j. h y (inr j)) e i
  where
    is_none : (ys : List _) → list_any f ys ≡ false → Each (λ y. f y ≡ false) ys
    is_none [] e x i = absurd i
    is_none (y ∷ ys) e x (inl i) = ap f i ∙ (or_parts (f y) (list_any f ys) e).0
    is_none (y ∷ ys) e x (inr i) = is_none ys (or_parts (f y) (list_any f ys) e).1 x i

-- patterns
left_among : (signal : List SigBit) (earlier ps : List (List SigBit)) (x : List SigBit) → In x (patterns_left signal earlier ps) → In x ps
left_among signal earlier [] x i = i
left_among signal earlier (p ∷ ps) x i =
    by (is_dropped signal earlier p) (left_among signal earlier ps x) (left_among signal (with_pattern earlier p) ps x) i
  where
    by : (t : Bool) → (In x (patterns_left signal earlier ps) → In x ps) → (In x (patterns_left signal (with_pattern earlier p) ps) → In x ps)
        → In x (if t then patterns_left signal earlier ps else p ∷ patterns_left signal (with_pattern earlier p) ps) → In x (p ∷ ps)
    by true f g i = inr (f i)
    by false f g (inl i) = inl i
    by false f g (inr i) = inr (g i)

left_fewer : (signal : List SigBit) (earlier ps : List (List SigBit)) → length (patterns_left signal earlier ps) ≤ length ps
left_fewer signal earlier [] = omega arith
left_fewer signal earlier (p ∷ ps) =
    by (is_dropped signal earlier p) (left_fewer signal earlier ps) (left_fewer signal (with_pattern earlier p) ps)
  where
    by : (t : Bool) → length (patterns_left signal earlier ps) ≤ length ps → length (patterns_left signal (with_pattern earlier p) ps) ≤ length ps
        → length (if t then patterns_left signal earlier ps else p ∷ patterns_left signal (with_pattern earlier p) ps) ≤ suc (length ps)
    by true f g = omega arith
    by false f g = omega arith

fewer_pass : (m n : ℕ) → m ≤ n → nat_lt 4096 n ≡ false → nat_lt 4096 m ≡ false
fewer_pass m n h e = grind (arith, nat_tests)

left_pass : (signal : List SigBit) (earlier ps : List (List SigBit)) → passes_limit ps ≡ false → passes_limit (patterns_left signal earlier ps) ≡ false
left_pass signal earlier ps e = fewer_pass (length (patterns_left signal earlier ps)) (length ps) (left_fewer signal earlier ps) e

-- limits and widths
mutual
  pub ruled_pass : (switches : Switches) → switches_pass switches ≡ false → switches_pass (switches_by_rules switches) ≡ false
  ruled_pass NoSwitch e = refl
  ruled_pass (OneSwitch signal attributes cases rest) e =
      let two = or_parts (passes_limit signal || cases_pass cases) (switches_pass rest) e in
      let one = or_parts (passes_limit signal) (cases_pass cases) two.0 in
      λ i. (one.0 i || ruled_cases_pass signal [] cases one.1 i) || ruled_pass rest two.1 i

  ruled_cases_pass : (signal : List SigBit) (earlier : List (List SigBit)) (cases : Cases) → cases_pass cases ≡ false → cases_pass (cases_by_rules signal earlier cases) ≡ false
  ruled_cases_pass signal earlier NoCase e = refl
  ruled_cases_pass signal earlier (OneCase [] assigns attributes switches rest) e =
      let two = or_parts (passes_limit {A = List SigBit} [] || switches_pass switches) (cases_pass rest) e in
      let one = or_parts (passes_limit {A = List SigBit} []) (switches_pass switches) two.0 in
      λ i. (false || ruled_pass switches one.1 i) || false
  ruled_cases_pass signal earlier (OneCase (p ∷ ps) assigns attributes switches rest) e =
      let two = or_parts (passes_limit (p ∷ ps) || switches_pass switches) (cases_pass rest) e in
      let one = or_parts (passes_limit (p ∷ ps)) (switches_pass switches) two.0 in
      let left = patterns_left signal earlier (p ∷ ps) in
      let constants = earlier ++ filter is_all_constant left in
      let inner : switches_pass (switches_by_rules switches) ≡ false = ruled_pass switches one.1 in
      let behind : cases_pass (cases_by_rules signal constants rest) ≡ false = ruled_cases_pass signal constants rest two.1 in
      let own : passes_limit left ≡ false = left_pass signal earlier (p ∷ ps) one.0 in
      kept_has (λ cs. cases_pass cs ≡ false) signal left constants (λ qs cs. OneCase qs assigns attributes (switches_by_rules switches) cs) (cases_by_rules signal constants rest)
      behind (λ i. (false || inner i) || false) (λ i. (own i || inner i) || behind i)

mutual
  pub ruled_uneven : (switches : Switches) → switches_uneven switches ≡ false → switches_uneven (switches_by_rules switches) ≡ false
  ruled_uneven NoSwitch e = refl
  ruled_uneven (OneSwitch signal attributes cases rest) e =
      let parts = or_parts (cases_uneven (length signal) cases) (switches_uneven rest) e in
      λ i. ruled_cases_uneven (length signal) signal [] cases parts.0 i || ruled_uneven rest parts.1 i

  ruled_cases_uneven : (width : ℕ) (signal : List SigBit) (earlier : List (List SigBit)) (cases : Cases) → cases_uneven width cases ≡ false → cases_uneven width (cases_by_rules signal earlier cases) ≡ false
  ruled_cases_uneven width signal earlier NoCase e = refl
  ruled_cases_uneven width signal earlier (OneCase [] assigns attributes switches rest) e =
      let two = or_parts (false || switches_uneven switches) (cases_uneven width rest) e in
      λ i. (false || ruled_uneven switches two.0 i) || false
  ruled_cases_uneven width signal earlier (OneCase (p ∷ ps) assigns attributes switches rest) e =
      let odd : List SigBit → Bool = λ (pattern : List SigBit). not (length pattern == width) in
      let two = or_parts (list_any odd (p ∷ ps) || switches_uneven switches) (cases_uneven width rest) e in
      let one = or_parts (list_any odd (p ∷ ps)) (switches_uneven switches) two.0 in
      let left = patterns_left signal earlier (p ∷ ps) in
      let constants = earlier ++ filter is_all_constant left in
      let inner : switches_uneven (switches_by_rules switches) ≡ false = ruled_uneven switches one.1 in
      let behind : cases_uneven width (cases_by_rules signal constants rest) ≡ false = ruled_cases_uneven width signal constants rest two.1 in
      let own : list_any odd left ≡ false = none_among odd left (p ∷ ps) (left_among signal earlier (p ∷ ps)) one.0 in
      kept_has (λ cs. cases_uneven width cs ≡ false) signal left constants (λ qs cs. OneCase qs assigns attributes (switches_by_rules switches) cs) (cases_by_rules signal constants rest)
      behind (λ i. (false || inner i) || false) (λ i. (own i || inner i) || behind i)
