-- The bits that trees name, one switch or one case further on.
use Rattle.std.proofs.Common.{◌≡◌, ℕ, suc, ◌+◌, ◌<◌, Bool, true, false, cond, List, [], ◌∷◌, ◌++◌, length, drop, get_or, append_assoc, append-nil, refl, sym, ◌∙◌, ap, add-one, drop-cons}
use Rattle.rtl_sig.specs.declared.sig.SigBit.{SigBit}
use Rattle.rtl_sig.specs.declared.sig.WireBit.{WireBit}
use Rattle.rtl_ir.specs.declared.module.Link.{Link}
use Rattle.rtl_ir.specs.declared.value.Attribute.{Attribute}
use Rattle.rtl_ir.specs.Assigns.{cases_assigns, left_bits, switches_assigns}
use Rattle.rtl_ir.specs.Signals.{wire_bits}
use Rattle.rtl_ir.specs.SwitchRules.{cases_by_rules, kept_case, patterns_left, switches_by_rules, takes_the_rest}
use Rattle.rtl_ir.specs.Tree.{Cases, NoCase, OneCase, CaseView, SwitchView, switches_of, cases_of}
use Rattle.net_index.specs.declared.driver_rules.Reading.{Reading}
use Rattle.net_index.specs.declared.driver_rules.Reading.TheVariants.{Dropped, Kept, Last}
use Rattle.net_index.specs.DriverRules.{constants_after, reading_left, reading_of}

pub left_bits-append : (xs ys : List Link) → left_bits (xs ++ ys) ≡ left_bits xs ++ left_bits ys
left_bits-append [] ys = refl
left_bits-append (l ∷ xs) ys = ap (λ bits. wire_bits l.left ++ bits) (left_bits-append xs ys) ∙ sym (append_assoc (wire_bits l.left) (left_bits xs) (left_bits ys))

-- what the switches of a list name
abbrev pub switch_bits : List SwitchView → List WireBit
switch_bits items = left_bits (switches_assigns (switches_by_rules (switches_of items)))

-- what a case names, and those behind it, as it is read
abbrev pub read_as : Reading → List Link → List Link → List Link
read_as Dropped own behind = behind
read_as Kept own behind = own ++ behind
read_as Last own behind = own

abbrev pub own_assigns : CaseView → List Link
own_assigns c = c.assigns ++ switches_assigns (switches_by_rules c.switches)

case_kept : (signal : List SigBit) (left constants : List (List SigBit)) (c : CaseView) (behind : Cases)
    → cases_assigns (kept_case signal left constants (λ ps rest. OneCase ps c.assigns c.attributes (switches_by_rules c.switches) rest) behind)
    ≡ read_as (reading_left signal left constants) (own_assigns c) (cases_assigns behind)
case_kept signal [] constants c behind = refl
case_kept signal (p ∷ ps) constants c behind = by (takes_the_rest signal (p ∷ ps) constants)
  where
    by : (t : Bool)
        → cases_assigns (cond t (OneCase [] c.assigns c.attributes (switches_by_rules c.switches) NoCase) (OneCase (p ∷ ps) c.assigns c.attributes (switches_by_rules c.switches) behind))
        ≡ read_as (cond t Last Kept) (own_assigns c) (cases_assigns behind)
    by true = append-nil (own_assigns c)
    by false = refl

pub case_read : (signal : List SigBit) (earlier : List (List SigBit)) (c : CaseView) (rest : Cases)
    → cases_assigns (cases_by_rules signal earlier (OneCase c.patterns c.assigns c.attributes c.switches rest))
    ≡ read_as (reading_of signal earlier c.patterns) (own_assigns c) (cases_assigns (cases_by_rules signal (constants_after signal earlier c.patterns) rest))
case_read signal earlier c rest = by c.patterns
  where
    by : (ps : List (List SigBit)) → cases_assigns (cases_by_rules signal earlier (OneCase ps c.assigns c.attributes c.switches rest))
        ≡ read_as (reading_of signal earlier ps) (own_assigns c) (cases_assigns (cases_by_rules signal (constants_after signal earlier ps) rest))
    by [] = append-nil (own_assigns c)
    by (p ∷ ps) = case_kept signal (patterns_left signal earlier (p ∷ ps)) (constants_after signal earlier (p ∷ ps)) c (cases_by_rules signal (constants_after signal earlier (p ∷ ps)) rest)

-- what the cases of a list name behind these patterns of constants
abbrev pub case_bits : List SigBit → List (List SigBit) → List CaseView → List WireBit
case_bits signal earlier items = left_bits (cases_assigns (cases_by_rules signal earlier (cases_of items)))

case_here : (signal : List SigBit) (earlier : List (List SigBit)) (items : List CaseView) (k : ℕ) (c : CaseView) → k < length items → c ≡ get_or items k c
    → (r : Reading) → r ≡ reading_of signal earlier c.patterns
    → case_bits signal earlier (drop k items) ≡ left_bits (read_as r (own_assigns c) (cases_assigns (cases_by_rules signal (constants_after signal earlier c.patterns) (cases_of (drop (k + 1) items)))))
case_here signal earlier items k c lt is r e =
    let next : suc k ≡ k + 1 = sym (add-one k) in
    let front : drop k items ≡ c ∷ drop (k + 1) items = drop-cons items k c lt ∙ (λ j. sym is j ∷ drop (next j) items) in
    let behind = cases_assigns (cases_by_rules signal (constants_after signal earlier c.patterns) (cases_of (drop (k + 1) items))) in
    ap (case_bits signal earlier) front ∙ ap left_bits (case_read signal earlier c (cases_of (drop (k + 1) items)) ∙ ap (λ x. read_as x (own_assigns c) behind) (sym e))

-- a case is the last
pub case_last : (signal : List SigBit) (earlier : List (List SigBit)) (items : List CaseView) (k : ℕ) (c : CaseView) → k < length items → c ≡ get_or items k c
    → Last ≡ reading_of signal earlier c.patterns
    → (done new all : List WireBit) → new ≡ done ++ left_bits (own_assigns c) → done ++ case_bits signal earlier (drop k items) ≡ all → new ≡ all
case_last signal earlier items k c lt is e done new all made before =
    made ∙ ap (λ bits. done ++ bits) (sym (case_here signal earlier items k c lt is Last e)) ∙ before

-- a case is followed by others
pub case_goes : (signal : List SigBit) (earlier after : List (List SigBit)) (items : List CaseView) (k : ℕ) (c : CaseView) → k < length items → c ≡ get_or items k c
    → Kept ≡ reading_of signal earlier c.patterns → after ≡ constants_after signal earlier c.patterns
    → (done new all : List WireBit) → new ≡ done ++ left_bits (own_assigns c) → done ++ case_bits signal earlier (drop k items) ≡ all → new ++ case_bits signal after (drop (k + 1) items) ≡ all
case_goes signal earlier after items k c lt is e f done new all made before =
    let behind = cases_assigns (cases_by_rules signal (constants_after signal earlier c.patterns) (cases_of (drop (k + 1) items))) in
    (λ j. made j ++ case_bits signal (f j) (drop (k + 1) items))
    ∙ append_assoc done (left_bits (own_assigns c)) (left_bits behind)
    ∙ ap (λ bits. done ++ bits) (sym (left_bits-append (own_assigns c) behind) ∙ sym (case_here signal earlier items k c lt is Kept e))
    ∙ before

-- what is neither of two readings is the third
pub kept_is : (r : Reading) → (r ≡ Dropped → ⊥) → (r ≡ Last → ⊥) → Kept ≡ r
kept_is Dropped f g = absurd (f refl)
kept_is Kept f g = refl
kept_is Last f g = absurd (g refl)

-- the cases of a switch are those that it holds
pub switch_cases : (raw items : List CaseView) (signal : List SigBit) (attributes : List Attribute) (s : SwitchView) → items ≡ raw
    → record { signal = signal; cases = cases_of raw; attributes = attributes } ≡ s
    → case_bits s.signal [] items ≡ left_bits (cases_assigns (cases_by_rules s.signal [] s.cases))
switch_cases raw items signal attributes s e view =
    ap (case_bits s.signal []) e ∙ ap (λ (x : SwitchView). left_bits (cases_assigns (cases_by_rules s.signal [] x.cases))) view
