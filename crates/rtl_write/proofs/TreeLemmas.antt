-- The text of trees, one switch or one case further on.
use Rattle.std.proofs.Common.{◌≡◌, ℕ, suc, ◌+◌, ◌<◌, ◌≤◌, List, [], ◌∷◌, ◌++◌, length, drop, get_or, refl, sym, ap, ◌∙◌, append_assoc, append-nil, add-one, drop-cons}
use Rattle.std.specs.Prelude.{codes}
use Rattle.std.specs.List.{flat_map}
use Rattle.std.proofs.Math.ListN.{drop_of_length-le}
use Rattle.rtl_sig.specs.declared.sig.SigBit.{SigBit}
use Rattle.rtl_ir.specs.declared.value.Attribute.{Attribute}
use Rattle.rtl_ir.specs.declared.module.Link.{Link}
use Rattle.rtl_ir.specs.declared.wire.Wire.{Wire}
use Rattle.rtl_ir.specs.Tree.{NoSwitch, NoCase, CaseView, SwitchView, switches_of, cases_of}
use Rattle.rtl_write.specs.Text.{assign_text, case_head, switch_head, deeper, switches_text, cases_text}

-- the text of a switch
abbrev pub one_switch : List Wire → List ℕ → SwitchView → List ℕ
one_switch wires blanks s = switch_head wires blanks s.signal s.attributes ++ cases_text wires (deeper blanks) s.cases ++ blanks ++ codes "end\n"

-- the text of a case
abbrev pub one_case : List Wire → List ℕ → CaseView → List ℕ
one_case wires blanks c = case_head wires blanks c.patterns c.attributes ++ flat_map (assign_text wires (deeper blanks)) c.assigns ++ switches_text wires (deeper blanks) c.switches

pub no_switches : (wires : List Wire) (blanks : List ℕ) → switches_text wires blanks NoSwitch ≡ []
unfolding switches_text
no_switches wires blanks = refl

pub no_cases : (wires : List Wire) (blanks : List ℕ) → cases_text wires blanks NoCase ≡ []
unfolding cases_text
no_cases wires blanks = refl

switches_first : (wires : List Wire) (blanks : List ℕ) (s : SwitchView) (rest : List SwitchView) → switches_text wires blanks (switches_of (s ∷ rest)) ≡ one_switch wires blanks s ++ switches_text wires blanks (switches_of rest)
unfolding switches_text
switches_first wires blanks s rest = refl

cases_first : (wires : List Wire) (blanks : List ℕ) (c : CaseView) (rest : List CaseView) → cases_text wires blanks (cases_of (c ∷ rest)) ≡ one_case wires blanks c ++ cases_text wires blanks (cases_of rest)
unfolding cases_text
cases_first wires blanks c rest = refl

-- one more switch is written
pub switch_goes : (done all : List ℕ) (wires : List Wire) (blanks : List ℕ) (items : List SwitchView) (k : ℕ) (s : SwitchView) → k < length items → s ≡ get_or items k s
    → done ++ switches_text wires blanks (switches_of (drop k items)) ≡ all
    → (done ++ one_switch wires blanks s) ++ switches_text wires blanks (switches_of (drop (k + 1) items)) ≡ all
switch_goes done all wires blanks items k s lt is before =
    let front : drop k items ≡ s ∷ drop (k + 1) items = rw add-one (drop-cons items k s lt ∙ ap (λ (x : SwitchView). x ∷ drop (suc k) items) (sym is)) in
    append_assoc done (one_switch wires blanks s) (switches_text wires blanks (switches_of (drop (k + 1) items)))
    ∙ ap (λ (text : List ℕ). done ++ text) (sym (ap (λ (rest : List SwitchView). switches_text wires blanks (switches_of rest)) front ∙ switches_first wires blanks s (drop (k + 1) items)))
    ∙ before

-- no switch is left
pub switches_end : (done all : List ℕ) (wires : List Wire) (blanks : List ℕ) (items : List SwitchView) (k : ℕ) → length items ≤ k
    → done ++ switches_text wires blanks (switches_of (drop k items)) ≡ all → done ≡ all
switches_end done all wires blanks items k le before =
    sym (ap (λ (rest : List SwitchView). done ++ switches_text wires blanks (switches_of rest)) (drop_of_length-le items le) ∙ ap (λ (text : List ℕ). done ++ text) (no_switches wires blanks) ∙ append-nil done) ∙ before

-- one more case is written
pub case_goes : (done all : List ℕ) (wires : List Wire) (blanks outer inner : List ℕ) (items : List CaseView) (k : ℕ) (c : CaseView) → k < length items → c ≡ get_or items k c → outer ≡ blanks → inner ≡ deeper blanks
    → done ++ cases_text wires blanks (cases_of (drop k items)) ≡ all
    → ((done ++ case_head wires outer c.patterns c.attributes) ++ (flat_map (assign_text wires inner) c.assigns ++ switches_text wires inner c.switches)) ++ cases_text wires blanks (cases_of (drop (k + 1) items)) ≡ all
case_goes done all wires blanks outer inner items k c lt is same deep before =
    let rest = cases_text wires blanks (cases_of (drop (k + 1) items)) in
    let front : drop k items ≡ c ∷ drop (k + 1) items = rw add-one (drop-cons items k c lt ∙ ap (λ (x : CaseView). x ∷ drop (suc k) items) (sym is)) in
    let body = λ (b : List ℕ). flat_map (assign_text wires b) c.assigns ++ switches_text wires b c.switches in
    let head = λ (b : List ℕ). case_head wires b c.patterns c.attributes in
    ap (λ (b : List ℕ). ((done ++ head b) ++ body inner) ++ rest) same
    ∙ ap (λ (b : List ℕ). ((done ++ head blanks) ++ body b) ++ rest) deep
    ∙ ap (λ (text : List ℕ). text ++ rest) (append_assoc done (head blanks) (body (deeper blanks)) ∙ ap (λ (text : List ℕ). done ++ text) (sym (append_assoc (head blanks) (flat_map (assign_text wires (deeper blanks)) c.assigns) (switches_text wires (deeper blanks) c.switches))))
    ∙ append_assoc done (one_case wires blanks c) rest
    ∙ ap (λ (text : List ℕ). done ++ text) (sym (ap (λ (some : List CaseView). cases_text wires blanks (cases_of some)) front ∙ cases_first wires blanks c (drop (k + 1) items)))
    ∙ before

-- no case is left
pub cases_end : (done all : List ℕ) (wires : List Wire) (blanks : List ℕ) (items : List CaseView) (k : ℕ) → length items ≤ k
    → done ++ cases_text wires blanks (cases_of (drop k items)) ≡ all → done ≡ all
cases_end done all wires blanks items k le before =
    sym (ap (λ (rest : List CaseView). done ++ cases_text wires blanks (cases_of rest)) (drop_of_length-le items le) ∙ ap (λ (text : List ℕ). done ++ text) (no_cases wires blanks) ∙ append-nil done) ∙ before

-- the assigns and the switches of a case are written
pub body_is : (out after start : List ℕ) (wires : List Wire) (blanks : List ℕ) (items raw : List SwitchView) (slice assigns : List Link) (patterns : List (List SigBit)) (attributes : List Attribute) (c : CaseView)
    → out ≡ after ++ switches_text wires blanks (switches_of items) → after ≡ start ++ flat_map (assign_text wires blanks) slice → items ≡ raw → slice ≡ assigns
    → record { patterns = patterns; assigns = assigns; switches = switches_of raw; attributes = attributes } ≡ c
    → out ≡ start ++ (flat_map (assign_text wires blanks) c.assigns ++ switches_text wires blanks c.switches)
body_is out after start wires blanks items raw slice assigns patterns attributes c written before same copied view =
    written ∙ ap (λ (l : List ℕ). l ++ switches_text wires blanks (switches_of items)) before
    ∙ append_assoc start (flat_map (assign_text wires blanks) slice) (switches_text wires blanks (switches_of items))
    ∙ ap (λ (l : List Link). start ++ (flat_map (assign_text wires blanks) l ++ switches_text wires blanks (switches_of items))) copied
    ∙ ap (λ (l : List SwitchView). start ++ (flat_map (assign_text wires blanks) assigns ++ switches_text wires blanks (switches_of l))) same
    ∙ ap (λ (v : CaseView). start ++ (flat_map (assign_text wires blanks) v.assigns ++ switches_text wires blanks v.switches)) view

-- a switch is written
pub switch_is : (out before_end looped after start : List ℕ) (wires : List Wire) (blanks inner : List ℕ) (items raw : List CaseView) (signal : List SigBit) (slice attributes : List Attribute) (s : SwitchView)
    → out ≡ before_end ++ codes "end\n" → before_end ≡ looped ++ blanks → looped ≡ after ++ cases_text wires inner (cases_of items)
    → after ≡ start ++ switch_head wires blanks signal slice → inner ≡ deeper blanks → items ≡ raw → slice ≡ attributes
    → record { signal = signal; cases = cases_of raw; attributes = attributes } ≡ s
    → out ≡ start ++ (switch_head wires blanks s.signal s.attributes ++ cases_text wires (deeper blanks) s.cases ++ blanks ++ codes "end\n")
switch_is out before_end looped after start wires blanks inner items raw signal slice attributes s ended closed written before deep same copied view =
    let end = codes "end\n" in
    let text = λ (v : SwitchView). switch_head wires blanks v.signal v.attributes ++ cases_text wires (deeper blanks) v.cases ++ blanks ++ end in
    let head = switch_head wires blanks signal attributes in
    let cases = cases_text wires (deeper blanks) (cases_of raw) in
    let began : after ≡ start ++ head = before ∙ ap (λ (l : List Attribute). start ++ switch_head wires blanks signal l) copied in
    let middle : cases_text wires inner (cases_of items) ≡ cases = ap (λ (b : List ℕ). cases_text wires b (cases_of items)) deep ∙ ap (λ (l : List CaseView). cases_text wires (deeper blanks) (cases_of l)) same in
    ended ∙ ap (λ (l : List ℕ). l ++ end) (closed ∙ ap (λ (l : List ℕ). l ++ blanks) (written ∙ ap (λ (l : List ℕ). after ++ l) middle ∙ ap (λ (l : List ℕ). l ++ cases) began))
    ∙ (simp append_assoc)
    ∙ ap (λ (v : SwitchView). start ++ text v) view
