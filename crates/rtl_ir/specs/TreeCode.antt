-- What a type that leads back to itself needs to be seen as its trees: a code by which a tree is told from any other,
-- and that what stands in a tree is less deep than the tree.
use Rattle.std.specs.Prelude.{◌≡◌, ◌+◌, ◌≤◌, max, List, [], ◌∷◌, refl}
use Rattle.std.proofs.Common.{sym, ◌∙◌, ap, subst, le_of_eq}
use denote.Param.Weighed.{most, max_none}
use Rattle.std.specs.Coded.{Coded, code_by, coded×, coded_list}
use base.Stored.{Gv, gnil, gcons}
use Rattle.rtl_sig.specs.declared.sig.SigBit.{SigBit}
use Rattle.rtl_sig.specs.contracts.sig.SigBit as sig_bit
use Rattle.rtl_ir.specs.declared.value.Attribute.{Attribute}
use Rattle.rtl_ir.specs.contracts.value.Attribute as attribute
use Rattle.rtl_ir.specs.declared.module.Link.{Link}
use Rattle.rtl_ir.specs.contracts.module.Link as link
use Rattle.rtl_ir.specs.Tree.{Switches, NoSwitch, OneSwitch, Cases, NoCase, OneCase, CaseView, SwitchView, switches_of, cases_of, switches_depth, cases_depth, switch_depth, case_depth}

-- the codes of what stands beside the switches and the cases
abbrev pub coded_signal : Coded (List SigBit)
coded_signal = coded_list sig_bit.the_row.coded

abbrev pub coded_patterns : Coded (List (List SigBit))
coded_patterns = coded_list coded_signal

abbrev pub coded_attributes : Coded (List Attribute)
coded_attributes = coded_list attribute.the_row.coded

abbrev pub coded_assigns : Coded (List Link)
coded_assigns = coded_list link.the_row.coded

abbrev mutual
  -- the code of a list of switches: that of the first one's parts, then that of the rest
  pub switches_code : Switches → Gv
  switches_code NoSwitch = gnil
  switches_code (OneSwitch signal attributes cases rest) =
      gcons (coded_signal.code signal) (gcons (coded_attributes.code attributes) (gcons (cases_code cases) (switches_code rest)))

  -- the code of a list of cases: that of the first one's parts, then that of the rest
  pub cases_code : Cases → Gv
  cases_code NoCase = gnil
  cases_code (OneCase patterns assigns attributes switches rest) =
      gcons (coded_patterns.code patterns) (gcons (coded_assigns.code assigns) (gcons (coded_attributes.code attributes) (gcons (switches_code switches) (cases_code rest))))

-- the first part of a code, and the parts behind it
abbrev first : Gv → Gv
first (gcons a b) = a
first g = gnil

abbrev behind : Gv → Gv
behind (gcons a b) = b
behind g = gnil

-- a code has parts
abbrev HasParts : Gv → Type 0
HasParts (gcons a b) = Unit {0}
HasParts g = ⊥

-- equal parts make equal lists
one_switch : {s s' : List SigBit} {a a' : List Attribute} {cs cs' : Cases} {ss ss' : Switches}
    → s ≡ s' → a ≡ a' → cs ≡ cs' → ss ≡ ss' → OneSwitch s a cs ss ≡ OneSwitch s' a' cs' ss'
one_switch {s' = s'} {a} {a'} {cs} {cs'} {ss} p q r t =
    ap (λ x. OneSwitch x a cs ss) p ∙ ap (λ x. OneSwitch s' x cs ss) q ∙ ap (λ x. OneSwitch s' a' x ss) r ∙ ap (λ x. OneSwitch s' a' cs' x) t

one_case : {p p' : List (List SigBit)} {l l' : List Link} {a a' : List Attribute} {ss ss' : Switches} {cs cs' : Cases}
    → p ≡ p' → l ≡ l' → a ≡ a' → ss ≡ ss' → cs ≡ cs' → OneCase p l a ss cs ≡ OneCase p' l' a' ss' cs'
one_case {p' = p'} {l} {l'} {a} {a'} {ss} {ss'} {cs} e f g h i =
    ap (λ x. OneCase x l a ss cs) e ∙ ap (λ x. OneCase p' x a ss cs) f ∙ ap (λ x. OneCase p' l' x ss cs) g ∙ ap (λ x. OneCase p' l' a' x cs) h ∙ ap (λ x. OneCase p' l' a' ss' x) i

mutual
  -- switches of one code are equal
  pub switches_code-inj : (x y : Switches) → switches_code x ≡ switches_code y → x ≡ y
  switches_code-inj NoSwitch NoSwitch e = refl
  switches_code-inj NoSwitch (OneSwitch s a cs ss) e = absurd (subst HasParts (sym e) tt)
  switches_code-inj (OneSwitch s a cs ss) NoSwitch e = absurd (subst HasParts e tt)
  switches_code-inj (OneSwitch s a cs ss) (OneSwitch s' a' cs' ss') e =
      one_switch
      (coded_signal.inj s s' (ap first e))
      (coded_attributes.inj a a' (ap (λ g. first (behind g)) e))
      (cases_code-inj cs cs' (ap (λ g. first (behind (behind g))) e))
      (switches_code-inj ss ss' (ap (λ g. behind (behind (behind g))) e))

  -- cases of one code are equal
  pub cases_code-inj : (x y : Cases) → cases_code x ≡ cases_code y → x ≡ y
  cases_code-inj NoCase NoCase e = refl
  cases_code-inj NoCase (OneCase p l a ss cs) e = absurd (subst HasParts (sym e) tt)
  cases_code-inj (OneCase p l a ss cs) NoCase e = absurd (subst HasParts e tt)
  cases_code-inj (OneCase p l a ss cs) (OneCase p' l' a' ss' cs') e =
      one_case
      (coded_patterns.inj p p' (ap first e))
      (coded_assigns.inj l l' (ap (λ g. first (behind g)) e))
      (coded_attributes.inj a a' (ap (λ g. first (behind (behind g))) e))
      (switches_code-inj ss ss' (ap (λ g. first (behind (behind (behind g)))) e))
      (cases_code-inj cs cs' (ap (λ g. behind (behind (behind (behind g)))) e))

-- a list of switches can be stored as its code
abbrev pub coded_switches : Coded Switches
coded_switches = record { code = switches_code; inj = switches_code-inj }

-- a list of cases can be stored as its code
abbrev pub coded_cases : Coded Cases
coded_cases = record { code = cases_code; inj = cases_code-inj }

-- a case can be stored as its parts
abbrev pub coded_case : Coded CaseView
coded_case =
    code_by (List (List SigBit) × (List Link × (Switches × List Attribute)))
    (coded× coded_patterns (coded× coded_assigns (coded× coded_switches coded_attributes)))
    (λ c. (c.patterns, (c.assigns, (c.switches, c.attributes))))
    (λ p. record { patterns = p.0; assigns = p.1.0; switches = p.1.1.0; attributes = p.1.1.1 })
    (λ _. refl)

-- a switch can be stored as its parts
abbrev pub coded_switch : Coded SwitchView
coded_switch =
    code_by (List SigBit × (Cases × List Attribute))
    (coded× coded_signal (coded× coded_cases coded_attributes))
    (λ s. (s.signal, (s.cases, s.attributes)))
    (λ p. record { signal = p.0; cases = p.1.0; attributes = p.1.1 })
    (λ _. refl)

-- the depth of a list of switches is that of the deepest one, and one more
switches_depth-most : (ss : List SwitchView) → most (λ s. switch_depth s + 1) ss ≡ switches_depth (switches_of ss)
switches_depth-most [] = refl
switches_depth-most (s ∷ ss) = ap (max (switch_depth s + 1)) (switches_depth-most ss)

cases_depth-most : (cs : List CaseView) → most (λ c. case_depth c + 1) cs ≡ cases_depth (cases_of cs)
cases_depth-most [] = refl
cases_depth-most (c ∷ cs) = ap (max (case_depth c + 1)) (cases_depth-most cs)

-- the switches of a case are less deep than the case
pub case_falls : (ss : List SwitchView) → max (most (λ s. switch_depth s + 1) ss) 0 ≤ switches_depth (switches_of ss)
case_falls ss = le_of_eq (max_none (most (λ s. switch_depth s + 1) ss) ∙ switches_depth-most ss)

-- the cases of a switch are less deep than the switch
pub switch_falls : (cs : List CaseView) → max (most (λ c. case_depth c + 1) cs) 0 ≤ cases_depth (cases_of cs)
switch_falls cs = le_of_eq (max_none (most (λ c. case_depth c + 1) cs) ∙ cases_depth-most cs)
