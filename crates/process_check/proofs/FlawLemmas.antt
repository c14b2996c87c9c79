-- What may be wrong with a process, all of one kind at once, is what the faults say.
use Rattle.std.proofs.Common.{◌≡◌, ℕ, ◌+◌, ◌<◌, ◌≤◌, Bool, true, false, ◌||◌, List, [], ◌∷◌, ◌++◌, length, get_or, drop, flat_map, refl, sym, ◌∙◌, ap}
use Rattle.std.proofs.lemmas.List.{drop_all}
use Rattle.std.specs.List.{list_any}
use Rattle.rtl_ir.specs.declared.module.Link.{Link}
use Rattle.rtl_ir.specs.declared.process.Process.{Process}
use Rattle.rtl_ir.specs.declared.process.SyncRule.{SyncRule}
use Rattle.rtl_ir.specs.declared.process.WriteLine.{WriteLine}
use Rattle.rtl_ir.specs.Assigns.{case_assigns, cases_assigns, switches_assigns}
use Rattle.rtl_ir.specs.Faults.Links.{is_uneven}
use Rattle.rtl_ir.specs.Faults.ProcessLimits.{cases_pass, cases_uneven, gives_to_constant, has_uneven, is_too_wide, memory_lines, passes_limit, switches_pass, switches_uneven, update_lines}
use Rattle.rtl_ir.specs.Tree.{Switches, NoSwitch, OneSwitch, Cases, NoCase, OneCase, CaseView, SwitchView, switches_of, cases_of}
use Rattle.process_check.specs.declared.flaws.Flaw.{Flaw}
use Rattle.process_check.specs.declared.flaws.Flaw.TheVariants.{TooWide, Uneven, Constant}
use Rattle.process_check.specs.Flaws.{case_has, cases_have, line_has, other_width, patterns_have, rule_has, switch_has, switches_have, write_has}
use Rattle.process_check.proofs.Among.{any-append}
use Rattle.process_trees.proofs.Fronts.{front}

or_assoc : (x y z : Bool) → ((x || y) || z) ≡ (x || (y || z))
or_assoc true y z = refl
or_assoc false y z = refl

or_false : (x : Bool) → (x || false) ≡ x
or_false true = refl
or_false false = refl

paired : (a b c d : Bool) → ((a || b) || (c || d)) ≡ ((a || c) || (b || d))
paired true b c d = refl
paired false true true d = refl
paired false true false d = refl
paired false false c d = refl

none_any : {A : Type 0} (xs : List A) → list_any (λ x. false) xs ≡ false
none_any [] = refl
none_any (x ∷ xs) = none_any xs

-- the lines of the rules, all at once
rules_any : (f : Link → Bool) (g : WriteLine → Bool) (rules : List SyncRule)
    → list_any (λ (r : SyncRule). list_any f r.updates || list_any g r.writes) rules
    ≡ (list_any f (flat_map (λ (r : SyncRule). r.updates) rules) || list_any g (flat_map (λ (r : SyncRule). r.writes) rules))
rules_any f g [] = refl
rules_any f g (r ∷ rs) =
    ap (λ t. (list_any f r.updates || list_any g r.writes) || t) (rules_any f g rs)
    ∙ paired (list_any f r.updates) (list_any g r.writes) (list_any f (flat_map (λ (q : SyncRule). q.updates) rs)) (list_any g (flat_map (λ (q : SyncRule). q.writes) rs))
    ∙ (λ i. sym (any-append f r.updates (flat_map (λ (q : SyncRule). q.updates) rs)) i || sym (any-append g r.writes (flat_map (λ (q : SyncRule). q.writes) rs)) i)

mutual
  wide_switches : (ss : Switches) → switches_have TooWide ss ≡ switches_pass ss
  wide_switches NoSwitch = refl
  wide_switches (OneSwitch signal a cases rest) = λ i. (passes_limit signal || wide_cases (length signal) cases i) || wide_switches rest i

  wide_cases : (width : ℕ) (cs : Cases) → cases_have TooWide width cs ≡ cases_pass cs
  wide_cases width NoCase = refl
  wide_cases width (OneCase patterns assigns a switches rest) =
      λ i. (passes_limit patterns || (none_any assigns i || wide_switches switches i)) || wide_cases width rest i

pub too_wide_is : (p : Process) → (case_has TooWide p.root || list_any (rule_has TooWide) p.syncs) ≡ is_too_wide p
too_wide_is p =
    (λ i. (none_any p.root.assigns i || wide_switches p.root.switches i) || rules_any (line_has TooWide) (write_has TooWide) p.syncs i)
    ∙ ap (λ t. switches_pass p.root.switches || (t || list_any (write_has TooWide) (memory_lines p))) (none_any (update_lines p))

shuffle : (p a su sa ru ra : Bool) → ((p || (a || (su || sa))) || (ru || ra)) ≡ (((p || su) || ru) || ((a || sa) || ra))
shuffle true a su sa ru ra = refl
shuffle false true true sa ru ra = refl
shuffle false true false sa true ra = refl
shuffle false true false sa false ra = refl
shuffle false false true sa ru ra = refl
shuffle false false false true true ra = refl
shuffle false false false true false ra = refl
shuffle false false false false ru ra = refl

mutual
  uneven_switches : (ss : Switches) → switches_have Uneven ss ≡ (switches_uneven ss || list_any is_uneven (switches_assigns ss))
  uneven_switches NoSwitch = refl
  uneven_switches (OneSwitch signal a cases rest) =
      (λ i. uneven_cases (length signal) cases i || uneven_switches rest i)
      ∙ paired (cases_uneven (length signal) cases) (list_any is_uneven (cases_assigns cases)) (switches_uneven rest) (list_any is_uneven (switches_assigns rest))
      ∙ ap (λ t. (cases_uneven (length signal) cases || switches_uneven rest) || t) (sym (any-append is_uneven (cases_assigns cases) (switches_assigns rest)))

  uneven_cases : (width : ℕ) (cs : Cases) → cases_have Uneven width cs ≡ (cases_uneven width cs || list_any is_uneven (cases_assigns cs))
  uneven_cases width NoCase = refl
  uneven_cases width (OneCase patterns assigns a switches rest) =
      (λ i. (list_any (other_width width) patterns || (list_any is_uneven assigns || uneven_switches switches i)) || uneven_cases width rest i)
      ∙ shuffle (list_any (other_width width) patterns) (list_any is_uneven assigns) (switches_uneven switches) (list_any is_uneven (switches_assigns switches)) (cases_uneven width rest) (list_any is_uneven (cases_assigns rest))
      ∙ ap (λ t. ((list_any (other_width width) patterns || switches_uneven switches) || cases_uneven width rest) || t)
      (ap (λ t. t || list_any is_uneven (cases_assigns rest)) (sym (any-append is_uneven assigns (switches_assigns switches)))
      ∙ sym (any-append is_uneven (assigns ++ switches_assigns switches) (cases_assigns rest)))

in_order : (a su sa u w : Bool) → ((a || (su || sa)) || (u || w)) ≡ (((su || (a || sa)) || u) || w)
in_order true true sa u w = refl
in_order true false sa u w = refl
in_order false true sa u w = refl
in_order false false true u w = refl
in_order false false false u w = refl

pub uneven_is : (p : Process) → (case_has Uneven p.root || list_any (rule_has Uneven) p.syncs) ≡ has_uneven p
uneven_is p =
    let root = p.root in
    (λ i. (list_any is_uneven root.assigns || uneven_switches root.switches i) || rules_any (line_has Uneven) (write_has Uneven) p.syncs i)
    ∙ in_order (list_any is_uneven root.assigns) (switches_uneven root.switches) (list_any is_uneven (switches_assigns root.switches)) (list_any is_uneven (update_lines p)) (list_any (write_has Uneven) (memory_lines p))
    ∙ ap (λ t. ((switches_uneven root.switches || t) || list_any is_uneven (update_lines p)) || list_any (write_has Uneven) (memory_lines p)) (sym (any-append is_uneven root.assigns (switches_assigns root.switches)))

mutual
  constant_switches : (ss : Switches) → switches_have Constant ss ≡ list_any (line_has Constant) (switches_assigns ss)
  constant_switches NoSwitch = refl
  constant_switches (OneSwitch signal a cases rest) =
      (λ i. constant_cases (length signal) cases i || constant_switches rest i) ∙ sym (any-append (line_has Constant) (cases_assigns cases) (switches_assigns rest))

  constant_cases : (width : ℕ) (cs : Cases) → cases_have Constant width cs ≡ list_any (line_has Constant) (cases_assigns cs)
  constant_cases width NoCase = refl
  constant_cases width (OneCase patterns assigns a switches rest) =
      (λ i. (list_any (line_has Constant) assigns || constant_switches switches i) || constant_cases width rest i)
      ∙ ap (λ t. t || list_any (line_has Constant) (cases_assigns rest)) (sym (any-append (line_has Constant) assigns (switches_assigns switches)))
      ∙ sym (any-append (line_has Constant) (assigns ++ switches_assigns switches) (cases_assigns rest))

pub constant_is : (p : Process) → (case_has Constant p.root || list_any (rule_has Constant) p.syncs) ≡ gives_to_constant p
constant_is p =
    (λ i. (list_any (line_has Constant) p.root.assigns || constant_switches p.root.switches i) || rules_any (line_has Constant) (write_has Constant) p.syncs i)
    ∙ (λ i. sym (any-append (line_has Constant) p.root.assigns (switches_assigns p.root.switches)) i || (list_any (line_has Constant) (update_lines p) || none_any (memory_lines p) i))
    ∙ ap (λ t. list_any (line_has Constant) (case_assigns p.root) || t) (or_false (list_any (line_has Constant) (update_lines p)))

-- the next switch, and those behind it
pub switch_here : (flaw : Flaw) (items : List SwitchView) (k : ℕ) (s : SwitchView) → k < length items → s ≡ get_or items k s
    → switches_have flaw (switches_of (drop k items)) ≡ (switch_has flaw s || switches_have flaw (switches_of (drop (k + 1) items)))
switch_here flaw items k s lt is = ap (λ xs. switches_have flaw (switches_of xs)) (front items k s lt is)

-- the next case, and those behind it
pub case_here : (flaw : Flaw) (width : ℕ) (items : List CaseView) (k : ℕ) (c : CaseView) → k < length items → c ≡ get_or items k c
    → cases_have flaw width (cases_of (drop k items)) ≡ ((patterns_have flaw width c.patterns || case_has flaw c) || cases_have flaw width (cases_of (drop (k + 1) items)))
case_here flaw width items k c lt is = ap (λ xs. cases_have flaw width (cases_of xs)) (front items k c lt is)

pub switches_end : (flaw : Flaw) (items : List SwitchView) (k : ℕ) → length items ≤ k → switches_have flaw (switches_of (drop k items)) ≡ false
switches_end flaw items k past = ap (λ xs. switches_have flaw (switches_of xs)) (drop_all k items past)

pub cases_end : (flaw : Flaw) (width : ℕ) (items : List CaseView) (k : ℕ) → length items ≤ k → cases_have flaw width (cases_of (drop k items)) ≡ false
cases_end flaw width items k past = ap (λ xs. cases_have flaw width (cases_of xs)) (drop_all k items past)
