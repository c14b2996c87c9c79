-- Trees by the rules, one switch or one case further on.
use Rattle.std.proofs.Common.{◌≡◌, ℕ, ◌+◌, ◌<◌, ◌≤◌, Bool, true, false, cond, Result, Ok, Err, List, [], ◌∷◌, ◌++◌, length, drop, get_or, refl, sym, ◌∙◌, ap}
use Rattle.std.proofs.lemmas.List.{drop_all}
use Rattle.std.specs.Prelude.{IfOk}
use Rattle.rtl_bits.specs.declared.memory.Memory.{Memory}
use Rattle.rtl_sig.specs.declared.sig.SigBit.{SigBit}
use Rattle.rtl_ir.specs.declared.module.Link.{Link}
use Rattle.rtl_ir.specs.declared.value.Attribute.{Attribute}
use Rattle.rtl_ir.specs.SwitchRules.{cases_by_rules, kept_case, patterns_left, switches_by_rules, takes_the_rest}
use Rattle.rtl_ir.specs.Tree.{Switches, NoSwitch, OneSwitch, Cases, NoCase, OneCase, CaseView, SwitchView, switches_of, cases_of}
use Rattle.process_trees.specs.declared.reading.Reading.{Reading}
use Rattle.process_trees.specs.declared.reading.Reading.TheVariants.{Dropped, Kept, Last}
use Rattle.process_trees.proofs.Fronts.{front}
use Rattle.process_trees.specs.Reading.{cases_before, constants_after, reading_left, reading_of, ruled_case, ruled_switch, switches_before}

switches_then : (xs : List SwitchView) (s : SwitchView) (rest : Switches) → switches_before (xs ++ s ∷ []) rest ≡ switches_before xs (OneSwitch s.signal s.attributes s.cases rest)
switches_then [] s rest = refl
switches_then (x ∷ xs) s rest = ap (OneSwitch x.signal x.attributes x.cases) (switches_then xs s rest)

switches_all : (xs : List SwitchView) → switches_before xs NoSwitch ≡ switches_of xs
switches_all [] = refl
switches_all (x ∷ xs) = ap (OneSwitch x.signal x.attributes x.cases) (switches_all xs)

cases_then : (xs : List CaseView) (c : CaseView) (rest : Cases) → cases_before (xs ++ c ∷ []) rest ≡ cases_before xs (OneCase c.patterns c.assigns c.attributes c.switches rest)
cases_then [] c rest = refl
cases_then (x ∷ xs) c rest = ap (OneCase x.patterns x.assigns x.attributes x.switches) (cases_then xs c rest)

cases_all : (xs : List CaseView) → cases_before xs NoCase ≡ cases_of xs
cases_all [] = refl
cases_all (x ∷ xs) = ap (OneCase x.patterns x.assigns x.attributes x.switches) (cases_all xs)

-- one more switch
pub switch_next : (items : List SwitchView) (k : ℕ) (s : SwitchView) → k < length items → s ≡ get_or items k s → (done new : List SwitchView) (made : SwitchView) → new ≡ done ++ made ∷ [] → made ≡ ruled_switch s
    → (all : Switches) → switches_before done (switches_by_rules (switches_of (drop k items))) ≡ all → switches_before new (switches_by_rules (switches_of (drop (k + 1) items))) ≡ all
switch_next items k s lt is done new made put ruled all before =
    let rest : Switches = switches_by_rules (switches_of (drop (k + 1) items)) in
    (λ j. switches_before (put j) rest)
    ∙ (λ j. switches_before (done ++ ruled j ∷ []) rest)
    ∙ switches_then done (ruled_switch s) rest
    ∙ ap (λ xs. switches_before done (switches_by_rules (switches_of xs))) (sym (front items k s lt is))
    ∙ before

-- no more
pub switches_end : (items : List SwitchView) (k : ℕ) → length items ≤ k → (done : List SwitchView) (all : Switches)
    → switches_before done (switches_by_rules (switches_of (drop k items))) ≡ all → switches_of done ≡ all
switches_end items k h done all before =
    sym (switches_all done) ∙ ap (λ xs. switches_before done (switches_by_rules (switches_of xs))) (sym (drop_all k items h)) ∙ before

pub cases_end : (signal : List SigBit) (earlier : List (List SigBit)) (items : List CaseView) (k : ℕ) → length items ≤ k → (done : List CaseView) (all : Cases)
    → cases_before done (cases_by_rules signal earlier (cases_of (drop k items))) ≡ all → cases_of done ≡ all
cases_end signal earlier items k h done all before =
    sym (cases_all done) ∙ ap (λ xs. cases_before done (cases_by_rules signal earlier (cases_of xs))) (sym (drop_all k items h)) ∙ before

-- what becomes of a case, and of those behind it, as it is read
abbrev pub case_as : Reading → CaseView → Cases → Cases
case_as Dropped c behind = behind
case_as (Kept patterns) c behind = OneCase patterns c.assigns c.attributes (switches_by_rules c.switches) behind
case_as Last c behind = OneCase [] c.assigns c.attributes (switches_by_rules c.switches) NoCase

case_kept : (signal : List SigBit) (left constants : List (List SigBit)) (c : CaseView) (behind : Cases)
    → kept_case signal left constants (λ ps rest. OneCase ps c.assigns c.attributes (switches_by_rules c.switches) rest) behind ≡ case_as (reading_left signal left constants) c behind
case_kept signal [] constants c behind = refl
case_kept signal (p ∷ ps) constants c behind = by (takes_the_rest signal (p ∷ ps) constants)
  where
    by : (t : Bool)
        → cond t (OneCase [] c.assigns c.attributes (switches_by_rules c.switches) NoCase) (OneCase (p ∷ ps) c.assigns c.attributes (switches_by_rules c.switches) behind)
        ≡ case_as (cond t Last (Kept (p ∷ ps))) c behind
    by true = refl
    by false = refl

case_read : (signal : List SigBit) (earlier : List (List SigBit)) (c : CaseView) (rest : Cases)
    → cases_by_rules signal earlier (OneCase c.patterns c.assigns c.attributes c.switches rest)
    ≡ case_as (reading_of signal earlier c.patterns) c (cases_by_rules signal (constants_after signal earlier c.patterns) rest)
case_read signal earlier c rest = by c.patterns
  where
    by : (ps : List (List SigBit)) → cases_by_rules signal earlier (OneCase ps c.assigns c.attributes c.switches rest)
        ≡ case_as (reading_of signal earlier ps) c (cases_by_rules signal (constants_after signal earlier ps) rest)
    by [] = refl
    by (p ∷ ps) = case_kept signal (patterns_left signal earlier (p ∷ ps)) (constants_after signal earlier (p ∷ ps)) c (cases_by_rules signal (constants_after signal earlier (p ∷ ps)) rest)

module _ (signal : List SigBit) (earlier : List (List SigBit)) (items : List CaseView) (k : ℕ) (c : CaseView) (lt : k < length items) (is : c ≡ get_or items k c) where
  here : (r : Reading) → r ≡ reading_of signal earlier c.patterns
      → cases_by_rules signal earlier (cases_of (drop k items)) ≡ case_as r c (cases_by_rules signal (constants_after signal earlier c.patterns) (cases_of (drop (k + 1) items)))
  here r e =
      ap (λ xs. cases_by_rules signal earlier (cases_of xs)) (front items k c lt is)
      ∙ case_read signal earlier c (cases_of (drop (k + 1) items))
      ∙ ap (λ x. case_as x c (cases_by_rules signal (constants_after signal earlier c.patterns) (cases_of (drop (k + 1) items)))) (sym e)

  -- a case goes
  pub case_goes : Dropped ≡ reading_of signal earlier c.patterns → (after : List (List SigBit)) → after ≡ constants_after signal earlier c.patterns
      → (done new : List CaseView) → new ≡ done → (all : Cases) → cases_before done (cases_by_rules signal earlier (cases_of (drop k items))) ≡ all
      → cases_before new (cases_by_rules signal after (cases_of (drop (k + 1) items))) ≡ all
  case_goes e after f done new put all before =
      (λ j. cases_before (put j) (cases_by_rules signal (f j) (cases_of (drop (k + 1) items)))) ∙ ap (cases_before done) (sym (here Dropped e)) ∙ before

  -- a case stays, and others behind it
  pub case_stays : (patterns : List (List SigBit)) → Kept patterns ≡ reading_of signal earlier c.patterns → (after : List (List SigBit)) → after ≡ constants_after signal earlier c.patterns
      → (done new : List CaseView) (made : CaseView) → new ≡ done ++ made ∷ [] → made ≡ ruled_case patterns c
      → (all : Cases) → cases_before done (cases_by_rules signal earlier (cases_of (drop k items))) ≡ all
      → cases_before new (cases_by_rules signal after (cases_of (drop (k + 1) items))) ≡ all
  case_stays patterns e after f done new made put ruled all before =
      (λ j. cases_before (put j) (cases_by_rules signal (f j) (cases_of (drop (k + 1) items))))
      ∙ (λ j. cases_before (done ++ ruled j ∷ []) (cases_by_rules signal (constants_after signal earlier c.patterns) (cases_of (drop (k + 1) items))))
      ∙ cases_then done (ruled_case patterns c) (cases_by_rules signal (constants_after signal earlier c.patterns) (cases_of (drop (k + 1) items)))
      ∙ ap (cases_before done) (sym (here (Kept patterns) e)) ∙ before

  -- a case is the last
  pub case_last : Last ≡ reading_of signal earlier c.patterns → (done new : List CaseView) (made : CaseView) → new ≡ done ++ made ∷ [] → made ≡ ruled_case [] c
      → (all : Cases) → cases_before done (cases_by_rules signal earlier (cases_of (drop k items))) ≡ all → cases_of new ≡ all
  case_last e done new made put ruled all before =
      ap cases_of put ∙ sym (cases_all (done ++ made ∷ [])) ∙ (λ j. cases_before (done ++ ruled j ∷ []) NoCase) ∙ cases_then done (ruled_case [] c) NoCase
      ∙ ap (cases_before done) (sym (here Last e)) ∙ before

-- what is made of a case and of a switch, of what they hold
pub ruled_whole : (ps : List (List SigBit)) (qs : List (List SigBit)) (a : List Link) (ss : List SwitchView) (t : List Attribute) (c : CaseView)
    → ps ≡ qs → a ≡ c.assigns → switches_of ss ≡ switches_by_rules c.switches → t ≡ c.attributes
    → record { patterns = ps; assigns = a; switches = switches_of ss; attributes = t } ≡ ruled_case qs c
ruled_whole ps qs a ss t c p e f g = λ i. record { patterns = p i; assigns = e i; switches = f i; attributes = g i }

pub switch_made : (r : Result SwitchView Memory) (s : SwitchView) (cs : Cases) → IfOk r (λ made. made ≡ record s { cases = cs }) → cs ≡ cases_by_rules s.signal [] s.cases → IfOk r (λ ruled. ruled ≡ ruled_switch s)
switch_made (Ok made) s cs e f = e ∙ ap (λ z. record s { cases = z }) f
switch_made (Err memory) s cs e f = tt

-- the cases of a switch are those that it holds
pub switch_cases : (raw items : List CaseView) (signal : List SigBit) (attributes : List Attribute) (s : SwitchView) → items ≡ raw
    → record { signal = signal; cases = cases_of raw; attributes = attributes } ≡ s
    → cases_by_rules s.signal [] (cases_of items) ≡ cases_by_rules s.signal [] s.cases
switch_cases raw items signal attributes s e view =
    ap (λ xs. cases_by_rules s.signal [] (cases_of xs)) e ∙ ap (λ (x : SwitchView). cases_by_rules s.signal [] x.cases) view
