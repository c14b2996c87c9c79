-- The way through a tree, step by step.
use Rattle.std.proofs.Common.{◌≡◌, ℕ, zero, suc, ◌+◌, ◌<◌, ◌≤◌, Bool, true, false, List, [], ◌∷◌, length, drop, get_or, Some, if◌then◌else◌, refl, sym, ◌∙◌, ap, subst, arith, add-one}
use Rattle.std.specs.Prelude.{slice_get, unwrap_or}
use Rattle.std.proofs.Math.Seq.{drop-cons}
use Rattle.rtl_sig.specs.declared.sig.SigBit.{SigBit}
use Rattle.rtl_ir.specs.Tree.{CaseView, SwitchView, Switches, NoSwitch, OneSwitch, Cases, NoCase, OneCase, cases_of, switches_of}
use Rattle.net_index.specs.Builder.{PassesLimit}
use Rattle.match_cells.specs.Numbers.{HasCases, HasSwitches, behind_case, behind_switch}
use Rattle.match_cells.specs.Trees.{Numbered, with_case}
use Rattle.proc_mux.specs.Trees.{case_value, cases_value, has_between, switch_value, switches_value, value_at}
use Rattle.proc_mux.specs.declared.given.Given.{Given}
use Rattle.match_cells.proofs.Growing.{Grows, grows_more, grows_none, over_later}
use Rattle.match_cells.proofs.NodeRows.{node_next, node_of}
use Rattle.match_cells.proofs.Steps.{with_case_grows}

either_grows : (h : Bool) (prior : List SigBit) (t : Numbered) (r : List SigBit × Numbered) → Grows t.building r.1.building → Grows t.building (if h then r else (prior, t)).1.building
either_grows true prior t r g = g
either_grows false prior t r g = grows_none t.building

module _ (given : List Given) where
  mutual
    unfolding switches_value

    pub switches_grow : (n : ℕ) (ss : Switches) (prior : List SigBit) (t : Numbered) → Grows t.building (switches_value given n ss prior t).1.building
    switches_grow n NoSwitch prior t = grows_none t.building
    switches_grow n (OneSwitch signal attributes cases rest) prior t =
        let inner = cases_value given (n + 1) signal cases prior t in
        let value = switch_value given n signal cases prior t in
        let last = switches_value given (behind_switch n cases) rest value.0 value.1 in
        grows_more t.building value.1.building last.1.building
        (either_grows (has_between given n (behind_switch n cases)) prior t inner (cases_grow (n + 1) signal cases prior t))
        (switches_grow (behind_switch n cases) rest value.0 value.1)

    pub cases_grow : (n : ℕ) (signal : List SigBit) (cs : Cases) (prior : List SigBit) (t : Numbered) → Grows t.building (cases_value given n signal cs prior t).1.building
    cases_grow n signal NoCase prior t = grows_none t.building
    cases_grow n signal (OneCase patterns assigns attributes switches rest) prior t =
        let acc = cases_value given (behind_case n switches) signal rest prior t in
        let body = switches_value given (n + 1) switches (unwrap_or (value_at given n) prior) acc.1 in
        let last = with_case n signal patterns body.0 acc.0 body.1 in
        grows_more t.building acc.1.building last.1.building (cases_grow (behind_case n switches) signal rest prior t)
        (grows_more acc.1.building body.1.building last.1.building
        (switches_grow (n + 1) switches (unwrap_or (value_at given n) prior) acc.1)
        (with_case_grows n signal patterns body.0 acc.0 body.1))

  pub case_grows : (n : ℕ) (signal : List SigBit) (patterns : List (List SigBit)) (switches : Switches) (prior acc : List SigBit) (t : Numbered) → Grows t.building (case_value given n signal patterns switches prior acc t).1.building
  case_grows n signal patterns switches prior acc t =
      let body = switches_value given (n + 1) switches (unwrap_or (value_at given n) prior) t in
      grows_more t.building body.1.building (with_case n signal patterns body.0 acc body.1).1.building
      (switches_grow (n + 1) switches (unwrap_or (value_at given n) prior) t)
      (with_case_grows n signal patterns body.0 acc body.1)

  -- the body of a case passes a limit only where the case does
  pub body_over : (n : ℕ) (signal : List SigBit) (patterns : List (List SigBit)) (switches : Switches) (prior acc start : List SigBit) (t : Numbered) → start ≡ unwrap_or (value_at given n) prior → (inner : Switches) → inner ≡ switches → PassesLimit (switches_value given (n + 1) inner start t).1.building → PassesLimit (case_value given n signal patterns switches prior acc t).1.building
  body_over n signal patterns switches prior acc start t is inner same over =
      let body = switches_value given (n + 1) switches (unwrap_or (value_at given n) prior) t in
      over_later body.1.building (with_case n signal patterns body.0 acc body.1).1.building (with_case_grows n signal patterns body.0 acc body.1)
      (subst (λ (r : List SigBit × Numbered). PassesLimit r.1.building) (λ i. switches_value given (n + 1) (same i) (is i) t) over)

  no_switch : (n : ℕ) (prior : List SigBit) (t : Numbered) → switches_value given n NoSwitch prior t ≡ (prior, t)
  unfolding switches_value
  no_switch n prior t = refl

  one_switch : (n : ℕ) (s : SwitchView) (rest : Switches) (prior : List SigBit) (t : Numbered) → switches_value given n (OneSwitch s.signal s.attributes s.cases rest) prior t ≡ (let value = switch_value given n s.signal s.cases prior t in switches_value given (behind_switch n s.cases) rest value.0 value.1)
  unfolding switches_value
  one_switch n s rest prior t = refl

  no_case : (n : ℕ) (signal prior : List SigBit) (t : Numbered) → cases_value given n signal NoCase prior t ≡ (prior, t)
  unfolding switches_value
  no_case n signal prior t = refl

  one_case : (n : ℕ) (signal : List SigBit) (c : CaseView) (rest : Cases) (prior : List SigBit) (t : Numbered) → cases_value given n signal (OneCase c.patterns c.assigns c.attributes c.switches rest) prior t ≡ (let acc = cases_value given (behind_case n c.switches) signal rest prior t in case_value given n signal c.patterns c.switches prior acc.0 acc.1)
  unfolding switches_value
  one_case n signal c rest prior t = refl

  -- behind the last switch the value is what all give
  pub switches_end : (ss : List SwitchView) (at n : ℕ) → length ss ≤ at → (value : List SigBit) (t : Numbered) (all : List SigBit × Numbered) → switches_value given n (switches_of (drop at ss)) value t ≡ all → (value, t) ≡ all
  switches_end [] zero n h value t all so = sym (no_switch n value t) ∙ so
  switches_end [] (suc at) n h value t all so = sym (no_switch n value t) ∙ so
  switches_end (s ∷ ss) zero n h value t all so = absurd (omega arith)
  switches_end (s ∷ ss) (suc at) n h value t all so = switches_end ss at n (omega arith) value t all so

  -- one more switch, at a place
  module _ (ss : List SwitchView) (at : ℕ) (s : SwitchView) (h : at < length ss) (e : s ≡ get_or ss at s) where
    abbrev later : List SwitchView
    later = drop (suc at) ss

    next : drop at ss ≡ s ∷ later
    next = drop-cons ss at s h ∙ ap (λ d. d ∷ later) (sym e)

    pub has_switch : (table : List ℕ) (n : ℕ) → HasSwitches table n (switches_of (drop at ss)) → (slice_get table n ≡ Some (behind_switch n s.cases)) × (HasCases table (n + 1) s.cases × HasSwitches table (behind_switch n s.cases) (switches_of (drop (at + 1) ss)))
    has_switch table n has =
        let r : HasSwitches table n (switches_of (s ∷ later)) = subst (λ ds. HasSwitches table n (switches_of ds)) next has in
        (r.0, (r.1.0, subst (λ ds. HasSwitches table (behind_switch n s.cases) (switches_of ds)) (ap (λ j. drop j ss) (sym (add-one at))) r.1.1))

    pub switch_goes : (n m : ℕ) (prior value : List SigBit) (t t' : Numbered) (all : List SigBit × Numbered) → m ≡ behind_switch n s.cases → (value, t') ≡ switch_value given n s.signal s.cases prior t → switches_value given n (switches_of (drop at ss)) prior t ≡ all → switches_value given m (switches_of (drop (at + 1) ss)) value t' ≡ all
    switch_goes n m prior value t t' all is made so =
        (λ i. switches_value given (is i) (switches_of (drop (add-one at i) ss)) (made i).0 (made i).1)
        ∙ sym (one_switch n s (switches_of later) prior t)
        ∙ ap (λ ds. switches_value given n (switches_of ds) prior t) (sym next)
        ∙ so

    pub switch_over : (n : ℕ) (prior : List SigBit) (t : Numbered) (all : List SigBit × Numbered) → switches_value given n (switches_of (drop at ss)) prior t ≡ all → PassesLimit (switch_value given n s.signal s.cases prior t).1.building → PassesLimit all.1.building
    switch_over n prior t all so over =
        let value = switch_value given n s.signal s.cases prior t in
        let last = switches_value given (behind_switch n s.cases) (switches_of later) value.0 value.1 in
        subst (λ (r : List SigBit × Numbered). PassesLimit r.1.building)
        (sym (one_switch n s (switches_of later) prior t) ∙ ap (λ ds. switches_value given n (switches_of ds) prior t) (sym next) ∙ so)
        (over_later value.1.building last.1.building (switches_grow (behind_switch n s.cases) (switches_of later) value.0 value.1) over)

  -- the cases of a switch from one of them on
  module _ (n : ℕ) (signal prior : List SigBit) (t : Numbered) where
    abbrev pub cases_from : List CaseView → ℕ → List SigBit × Numbered
    cases_from cs k = cases_value given (node_of n cs k) signal (cases_of (drop k cs)) prior t

    -- behind the last case nothing is done yet
    pub cases_end : (cs : List CaseView) (k : ℕ) → length cs ≤ k → (prior, t) ≡ cases_from cs k
    cases_end cs k h = sym (ap (λ ds. cases_value given (node_of n cs k) signal (cases_of ds) prior t) (none cs k h) ∙ no_case (node_of n cs k) signal prior t)
      where
        none : (cs : List CaseView) (k : ℕ) → length cs ≤ k → drop k cs ≡ []
        none [] zero h = refl
        none [] (suc k) h = refl
        none (c ∷ cs) zero h = absurd (omega arith)
        none (c ∷ cs) (suc k) h = none cs k (omega arith)

    later_grows : (m : ℕ) (cs : List CaseView) (k : ℕ) → Grows (cases_value given (node_of m cs k) signal (cases_of (drop k cs)) prior t).1.building (cases_value given m signal (cases_of cs) prior t).1.building
    later_grows m cs zero = grows_none (cases_value given m signal (cases_of cs) prior t).1.building
    later_grows m [] (suc k) = grows_none (cases_value given m signal (cases_of []) prior t).1.building
    later_grows m (c ∷ cs) (suc k) =
        let acc = cases_value given (behind_case m c.switches) signal (cases_of cs) prior t in
        grows_more (cases_value given (node_of m (c ∷ cs) (suc k)) signal (cases_of (drop (suc k) (c ∷ cs))) prior t).1.building acc.1.building (cases_value given m signal (cases_of (c ∷ cs)) prior t).1.building
        (later_grows (behind_case m c.switches) cs k)
        (subst (λ (r : List SigBit × Numbered). Grows acc.1.building r.1.building) (sym (one_case m signal c (cases_of cs) prior t)) (case_grows m signal c.patterns c.switches prior acc.0 acc.1))

    -- one more case, at a place
    module _ (cs : List CaseView) (k : ℕ) (c : CaseView) (h : k < length cs) (e : c ≡ get_or cs k c) where
      abbrev behind : List CaseView
      behind = drop (suc k) cs

      here : drop k cs ≡ c ∷ behind
      here = drop-cons cs k c h ∙ ap (λ d. d ∷ behind) (sym e)

      abbrev node : ℕ
      node = node_of n cs k

      -- what stands for the cases behind it
      acc_is : (at : ℕ) → at ≡ k + 1 → (value : List SigBit) (t' : Numbered) → (value, t') ≡ cases_from cs at → (value, t') ≡ cases_value given (behind_case node c.switches) signal (cases_of behind) prior t
      acc_is at next value t' so =
          so ∙ ap (cases_from cs) (next ∙ add-one k)
          ∙ ap (λ m. cases_value given m signal (cases_of behind) prior t) (node_next n cs k c behind here)

      from_here : cases_from cs k ≡ (let acc = cases_value given (behind_case node c.switches) signal (cases_of behind) prior t in case_value given node signal c.patterns c.switches prior acc.0 acc.1)
      from_here = ap (λ ds. cases_value given node signal (cases_of ds) prior t) here ∙ one_case node signal c (cases_of behind) prior t

      module _ (at m : ℕ) (before : List SigBit) (next : at ≡ k + 1) (is : m ≡ node) (same : before ≡ prior) (value : List SigBit) (t' : Numbered) (so : (value, t') ≡ cases_from cs at) where
        made_here : case_value given m signal c.patterns c.switches before value t' ≡ cases_from cs k
        made_here =
            let acc = acc_is at next value t' so in
            (λ i. case_value given (is i) signal c.patterns c.switches (same i) (acc i).0 (acc i).1) ∙ sym from_here

        pub case_goes : (r : List SigBit × Numbered) → r ≡ case_value given m signal c.patterns c.switches before value t' → r ≡ cases_from cs k
        case_goes r made = made ∙ made_here

        -- where it passes a limit, all cases do
        pub case_over : PassesLimit (case_value given m signal c.patterns c.switches before value t').1.building → PassesLimit (cases_value given n signal (cases_of cs) prior t).1.building
        case_over over =
            over_later (cases_from cs k).1.building (cases_value given n signal (cases_of cs) prior t).1.building (later_grows n cs k)
            (subst (λ (r : List SigBit × Numbered). PassesLimit r.1.building) made_here over)
