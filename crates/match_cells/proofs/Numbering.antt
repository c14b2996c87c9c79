-- How the nodes of a tree are numbered.
use Rattle.std.proofs.Common.{◌≡◌, ℕ, zero, suc, ◌+◌, ◌<◌, ◌≤◌, List, [], ◌∷◌, ◌++◌, length, drop, get_or, Some, refl, sym, ◌∙◌, ap, arith, add-one, append_assoc, length-append, append-nil}
use Rattle.std.specs.Prelude.{slice_get, slice_set}
use Rattle.std.proofs.Math.Seq.{drop-cons}
use Rattle.rtl_ir.specs.Tree.{CaseView, SwitchView, Switches, NoSwitch, OneSwitch, Cases, NoCase, OneCase, cases_of, switches_of}
use Rattle.match_cells.specs.Numbers.{HasCases, HasSwitches, behind_case, behind_switch, case_behind, cases_behind, cases_size, switch_behind, switches_behind, switches_size}

mutual
  pub switches_count : (n : ℕ) (ss : Switches) → length (switches_behind n ss) ≡ switches_size ss
  switches_count n NoSwitch = refl
  switches_count n (OneSwitch s a cs rest) =
      omega (arith, length-append (cases_behind (n + 1) cs) (switches_behind (behind_switch n cs) rest), cases_count (n + 1) cs, switches_count (behind_switch n cs) rest)

  pub cases_count : (n : ℕ) (cs : Cases) → length (cases_behind n cs) ≡ cases_size cs
  cases_count n NoCase = refl
  cases_count n (OneCase ps ls a ss rest) =
      omega (arith, length-append (switches_behind (n + 1) ss) (cases_behind (behind_case n ss) rest), switches_count (n + 1) ss, cases_count (behind_case n ss) rest)

-- what stands in a row at a place
get_middle : {A : Type 0} (xs : List A) (y : A) (zs : List A) → slice_get (xs ++ y ∷ zs) (length xs) ≡ Some y
get_middle [] y zs = refl
get_middle (x ∷ xs) y zs = get_middle xs y zs

set_middle : {A : Type 0} (xs : List A) (y v : A) (zs : List A) → slice_set (xs ++ y ∷ zs) (length xs) v ≡ xs ++ v ∷ zs
set_middle [] y v zs = refl
set_middle (x ∷ xs) y v zs = ap (λ r. x ∷ r) (set_middle xs y v zs)

-- a table has the nodes of which it is made
mutual
  pub has_switches : (table : List ℕ) (n : ℕ) (ss : Switches) (pre post : List ℕ) → table ≡ pre ++ (switches_behind n ss ++ post) → n ≡ length pre → HasSwitches table n ss
  has_switches table n NoSwitch pre post e at = tt
  has_switches table n (OneSwitch s a cs rest) pre post e at =
      let b = behind_switch n cs in
      let below = cases_behind (n + 1) cs in
      let later = switches_behind b rest in
      let split : table ≡ (pre ++ b ∷ []) ++ (below ++ (later ++ post)) =
      e ∙ ap (λ r. pre ++ b ∷ r) (append_assoc below later post) ∙ sym (append_assoc pre (b ∷ []) (below ++ (later ++ post))) in
      let behind : table ≡ ((pre ++ b ∷ []) ++ below) ++ (later ++ post) = split ∙ sym (append_assoc (pre ++ b ∷ []) below (later ++ post)) in (
        ap (λ r. slice_get r n) e ∙ ap (slice_get (pre ++ b ∷ ((below ++ later) ++ post))) at ∙ get_middle pre b ((below ++ later) ++ post),
        (
          has_cases table (n + 1) cs (pre ++ b ∷ []) (later ++ post) split (omega (arith, length-append pre (b ∷ []), at)),
          has_switches table b rest ((pre ++ b ∷ []) ++ below) post behind (omega (arith, length-append pre (b ∷ []), length-append (pre ++ b ∷ []) below, cases_count (n + 1) cs, at)),
        ),
      )

  pub has_cases : (table : List ℕ) (n : ℕ) (cs : Cases) (pre post : List ℕ) → table ≡ pre ++ (cases_behind n cs ++ post) → n ≡ length pre → HasCases table n cs
  has_cases table n NoCase pre post e at = tt
  has_cases table n (OneCase ps ls a ss rest) pre post e at =
      let b = behind_case n ss in
      let below = switches_behind (n + 1) ss in
      let later = cases_behind b rest in
      let split : table ≡ (pre ++ b ∷ []) ++ (below ++ (later ++ post)) =
      e ∙ ap (λ r. pre ++ b ∷ r) (append_assoc below later post) ∙ sym (append_assoc pre (b ∷ []) (below ++ (later ++ post))) in
      let behind : table ≡ ((pre ++ b ∷ []) ++ below) ++ (later ++ post) = split ∙ sym (append_assoc (pre ++ b ∷ []) below (later ++ post)) in (
        ap (λ r. slice_get r n) e ∙ ap (slice_get (pre ++ b ∷ ((below ++ later) ++ post))) at ∙ get_middle pre b ((below ++ later) ++ post),
        (
          has_switches table (n + 1) ss (pre ++ b ∷ []) (later ++ post) split (omega (arith, length-append pre (b ∷ []), at)),
          has_cases table b rest ((pre ++ b ∷ []) ++ below) post behind (omega (arith, length-append pre (b ∷ []), length-append (pre ++ b ∷ []) below, switches_count (n + 1) ss, at)),
        ),
      )

pub has_root : (root : CaseView) (table : List ℕ) → table ≡ case_behind 0 root → HasSwitches table 1 root.switches
has_root root table e = has_switches table 1 root.switches (behind_case 0 root.switches ∷ []) [] (e ∙ ap (λ r. behind_case 0 root.switches ∷ r) (sym (append-nil (switches_behind 1 root.switches)))) refl

-- a switch that is put goes last
module _ (ss : List SwitchView) (at : ℕ) (s : SwitchView) (h : at < length ss) (e : s ≡ get_or ss at s) where
  switch_next : drop at ss ≡ s ∷ drop (suc at) ss
  switch_next = drop-cons ss at s h ∙ ap (λ d. d ∷ drop (suc at) ss) (sym e)

  pub switch_put : (table table' all : List ℕ) → table' ≡ table ++ switch_behind (length table) s → table ++ switches_behind (length table) (switches_of (drop at ss)) ≡ all → table' ++ switches_behind (length table') (switches_of (drop (at + 1) ss)) ≡ all
  switch_put table table' all made so =
      let n = length table in
      let later = drop (suc at) ss in
      let long : length table' ≡ behind_switch n s.cases =
      ap length made ∙ omega (arith, length-append table (switch_behind n s), cases_count (n + 1) s.cases) in
      (λ i. made i ++ switches_behind (long i) (switches_of (drop (add-one at i) ss)))
      ∙ append_assoc table (switch_behind n s) (switches_behind (behind_switch n s.cases) (switches_of later))
      ∙ ap (λ ds. table ++ switches_behind n (switches_of ds)) (sym switch_next)
      ∙ so

module _ (cs : List CaseView) (at : ℕ) (c : CaseView) (h : at < length cs) (e : c ≡ get_or cs at c) where
  case_next : drop at cs ≡ c ∷ drop (suc at) cs
  case_next = drop-cons cs at c h ∙ ap (λ d. d ∷ drop (suc at) cs) (sym e)

  pub case_put : (table table' all : List ℕ) → table' ≡ table ++ case_behind (length table) c → table ++ cases_behind (length table) (cases_of (drop at cs)) ≡ all → table' ++ cases_behind (length table') (cases_of (drop (at + 1) cs)) ≡ all
  case_put table table' all made so =
      let n = length table in
      let later = drop (suc at) cs in
      let long : length table' ≡ behind_case n c.switches =
      ap length made ∙ omega (arith, length-append table (case_behind n c), switches_count (n + 1) c.switches) in
      (λ i. made i ++ cases_behind (long i) (cases_of (drop (add-one at i) cs)))
      ∙ append_assoc table (case_behind n c) (cases_behind (behind_case n c.switches) (cases_of later))
      ∙ ap (λ ds. table ++ cases_behind n (cases_of ds)) (sym case_next)
      ∙ so

none_left : {A : Type 0} (xs : List A) (at : ℕ) → length xs ≤ at → drop at xs ≡ []
none_left [] zero h = refl
none_left [] (suc at) h = refl
none_left (x ∷ xs) zero h = absurd (omega arith)
none_left (x ∷ xs) (suc at) h = none_left xs at (omega arith)

-- once all are put, the node is closed
pub case_closed : (old pushed table new : List ℕ) (items : List SwitchView) (c : CaseView) (at : ℕ) → length items ≤ at → pushed ≡ old ++ 0 ∷ [] → table ++ switches_behind (length table) (switches_of (drop at items)) ≡ pushed ++ switches_behind (length pushed) (switches_of items) → switches_of items ≡ c.switches → new ≡ slice_set table (length old) (length table) → new ≡ old ++ case_behind (length old) c
case_closed old pushed table new items c at past push so are close =
    let n = length old in
    let one : length pushed ≡ n + 1 = ap length push ∙ length-append old (0 ∷ []) in
    let below = switches_behind (n + 1) c.switches in
    let whole : table ≡ old ++ 0 ∷ below =
    sym (append-nil table)
    ∙ ap (λ ds. table ++ switches_behind (length table) (switches_of ds)) (sym (none_left items at past))
    ∙ so ∙ (λ i. push i ++ switches_behind (one i) (are i)) ∙ append_assoc old (0 ∷ []) below in
    let long : length table ≡ behind_case n c.switches =
    ap length whole ∙ omega (arith, length-append old (0 ∷ below), switches_count (n + 1) c.switches) in
    close ∙ (λ i. slice_set (whole i) n (long i)) ∙ set_middle old 0 (behind_case n c.switches) below

pub switch_closed : (old pushed table new : List ℕ) (items : List CaseView) (s : SwitchView) (at : ℕ) → length items ≤ at → pushed ≡ old ++ 0 ∷ [] → table ++ cases_behind (length table) (cases_of (drop at items)) ≡ pushed ++ cases_behind (length pushed) (cases_of items) → cases_of items ≡ s.cases → new ≡ slice_set table (length old) (length table) → new ≡ old ++ switch_behind (length old) s
switch_closed old pushed table new items s at past push so are close =
    let n = length old in
    let one : length pushed ≡ n + 1 = ap length push ∙ length-append old (0 ∷ []) in
    let below = cases_behind (n + 1) s.cases in
    let whole : table ≡ old ++ 0 ∷ below =
    sym (append-nil table)
    ∙ ap (λ ds. table ++ cases_behind (length table) (cases_of ds)) (sym (none_left items at past))
    ∙ so ∙ (λ i. push i ++ cases_behind (one i) (are i)) ∙ append_assoc old (0 ∷ []) below in
    let long : length table ≡ behind_switch n s.cases =
    ap length whole ∙ omega (arith, length-append old (0 ∷ below), cases_count (n + 1) s.cases) in
    close ∙ (λ i. slice_set (whole i) n (long i)) ∙ set_middle old 0 (behind_switch n s.cases) below
