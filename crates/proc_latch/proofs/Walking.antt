-- The way through a tree for the chain of a bit, step by step.
use Rattle.std.proofs.Common.{◌≡◌, ℕ, zero, suc, ◌+◌, ◌<◌, ◌≤◌, Bool, true, false, List, [], ◌∷◌, length, drop, get_or, Option, Some, None, if◌then◌else◌, refl, sym, ◌∙◌, ap, subst, arith, add-one}
use Rattle.std.specs.Prelude.{slice_get}
use Rattle.std.proofs.Math.Seq.{drop-cons}
use Rattle.rtl_sig.specs.declared.sig.SigBit.{SigBit}
use Rattle.rtl_ir.specs.Tree.{CaseView, SwitchView, Switches, NoSwitch, OneSwitch, Cases, NoCase, OneCase, cases_of, switches_of}
use Rattle.net_index.specs.Builder.{PassesLimit}
use Rattle.match_cells.specs.Numbers.{HasCases, HasSwitches, behind_case, behind_switch}
use Rattle.match_cells.proofs.Growing.{Grows, grows_more, grows_none, over_later}
use Rattle.match_cells.proofs.NodeRows.{node_next, node_of}
use Rattle.match_cells.proofs.Steps.{with_case_grows}
use Rattle.proc_latch.specs.Chains.{Chained, Leaf, case_chain, cases_chain, start_leaf, switch_chain, switches_chain, with_case_bit}
use Rattle.proc_latch.specs.Givens.{has_between, value_at}
use Rattle.proc_latch.specs.declared.given.Given.{Given}

-- a step only adds to what is built
abbrev pub Adds : Chained → SigBit × Chained → Type 0
Adds t r = Grows t.trees.building r.1.trees.building

-- a leaf only adds
abbrev pub LeafAdds : Leaf → Type 0
LeafAdds leaf = (s : SigBit) (t : Chained) → Adds t (leaf s t)

-- what passes a limit does with what is added later
pub adds_over : (r r' : SigBit × Chained) → Adds r.1 r' → PassesLimit r.1.trees.building → PassesLimit r'.1.trees.building
adds_over r r' g over = over_later r.1.trees.building r'.1.trees.building g over

pub adds_both : (t : Chained) (r r' : SigBit × Chained) → Adds t r → Adds r.1 r' → Adds t r'
adds_both t r r' g h = grows_more t.trees.building r.1.trees.building r'.1.trees.building g h

pub case_bit_adds : (n : ℕ) (signal : List SigBit) (patterns : List (List SigBit)) (body acc : SigBit) (t : Chained) → Adds t (with_case_bit n signal patterns body acc t)
unfolding with_case_bit
case_bit_adds n signal patterns body acc t = with_case_grows n signal patterns (body ∷ []) (acc ∷ []) t.trees

either_adds : (h : Bool) (prior : SigBit) (t : Chained) (r : SigBit × Chained) → Adds t r → Adds t (if h then r else (prior, t))
either_adds true prior t r g = g
either_adds false prior t r g = grows_none t.trees.building

module _ (leaf : Leaf) (given : List Given) (leaves : LeafAdds leaf) where
  pub start_adds : (o : Option SigBit) (prior : SigBit) (t : Chained) → Adds t (start_leaf leaf o prior t)
  start_adds None prior t = grows_none t.trees.building
  start_adds (Some s) prior t = leaves s t

  mutual
    unfolding switches_chain

    pub switches_add : (n : ℕ) (ss : Switches) (prior : SigBit) (t : Chained) → Adds t (switches_chain leaf given n ss prior t)
    switches_add n NoSwitch prior t = grows_none t.trees.building
    switches_add n (OneSwitch signal attributes cases rest) prior t =
        let inner = cases_chain leaf given (n + 1) signal cases prior t in
        let value = switch_chain leaf given n signal cases prior t in
        let last = switches_chain leaf given (behind_switch n cases) rest value.0 value.1 in
        adds_both t value last
        (either_adds (has_between given n (behind_switch n cases)) prior t inner (cases_add (n + 1) signal cases prior t))
        (switches_add (behind_switch n cases) rest value.0 value.1)

    pub cases_add : (n : ℕ) (signal : List SigBit) (cs : Cases) (prior : SigBit) (t : Chained) → Adds t (cases_chain leaf given n signal cs prior t)
    cases_add n signal NoCase prior t = grows_none t.trees.building
    cases_add n signal (OneCase patterns assigns attributes switches rest) prior t =
        let acc = cases_chain leaf given (behind_case n switches) signal rest prior t in
        let start = start_leaf leaf (value_at given n) prior acc.1 in
        let body = switches_chain leaf given (n + 1) switches start.0 start.1 in
        let last = with_case_bit n signal patterns body.0 acc.0 body.1 in
        adds_both t acc last (cases_add (behind_case n switches) signal rest prior t)
        (adds_both acc.1 start last (start_adds (value_at given n) prior acc.1)
        (adds_both start.1 body last (switches_add (n + 1) switches start.0 start.1)
        (case_bit_adds n signal patterns body.0 acc.0 body.1)))

  -- behind what a case begins with
  module _ (n : ℕ) (signal : List SigBit) (patterns : List (List SigBit)) (switches : Switches) (prior acc : SigBit) (t : Chained) where
    abbrev begun : SigBit × Chained
    begun = start_leaf leaf (value_at given n) prior t

    abbrev bodied : SigBit × Chained
    bodied = switches_chain leaf given (n + 1) switches begun.0 begun.1

    abbrev whole : SigBit × Chained
    whole = case_chain leaf given n signal patterns switches prior acc t

    start_on : Adds begun.1 whole
    start_on =
        adds_both begun.1 bodied whole (switches_add (n + 1) switches begun.0 begun.1)
        (case_bit_adds n signal patterns bodied.0 acc bodied.1)

    pub case_adds : Adds t whole
    case_adds = adds_both t begun whole (start_adds (value_at given n) prior t) start_on

    -- where it passes a limit, the case does
    pub start_over : (o : Option SigBit) → o ≡ value_at given n → PassesLimit (start_leaf leaf o prior t).1.trees.building → PassesLimit whole.1.trees.building
    start_over o is over =
        adds_over begun whole start_on (subst (λ x. PassesLimit (start_leaf leaf x prior t).1.trees.building) is over)

    -- .. the body
    pub body_over : (start : SigBit) (t' : Chained) (o : Option SigBit) → o ≡ value_at given n → (start, t') ≡ start_leaf leaf o prior t → (inner : Switches) → inner ≡ switches → PassesLimit (switches_chain leaf given (n + 1) inner start t').1.trees.building → PassesLimit whole.1.trees.building
    body_over start t' o is made inner same over =
        let e : (start, t') ≡ begun = made ∙ ap (λ x. start_leaf leaf x prior t) is in
        adds_over bodied whole (case_bit_adds n signal patterns bodied.0 acc bodied.1)
        (subst (λ (r : SigBit × Chained). PassesLimit r.1.trees.building) (λ i. switches_chain leaf given (n + 1) (same i) (e i).0 (e i).1) over)

    -- all three are the case
    pub case_is : (start : SigBit) (t' : Chained) (o : Option SigBit) → o ≡ value_at given n → (start, t') ≡ start_leaf leaf o prior t → (inner : Switches) → inner ≡ switches → (body : SigBit) (t'' : Chained) → (body, t'') ≡ switches_chain leaf given (n + 1) inner start t' → with_case_bit n signal patterns body acc t'' ≡ whole
    case_is start t' o is made inner same body t'' bodied_is =
        let e : (start, t') ≡ begun = made ∙ ap (λ x. start_leaf leaf x prior t) is in
        let f : (body, t'') ≡ bodied = bodied_is ∙ (λ i. switches_chain leaf given (n + 1) (same i) (e i).0 (e i).1) in
        λ i. with_case_bit n signal patterns (f i).0 acc (f i).1

  no_switch : (n : ℕ) (prior : SigBit) (t : Chained) → switches_chain leaf given n NoSwitch prior t ≡ (prior, t)
  unfolding switches_chain
  no_switch n prior t = refl

  one_switch : (n : ℕ) (s : SwitchView) (rest : Switches) (prior : SigBit) (t : Chained) → switches_chain leaf given n (OneSwitch s.signal s.attributes s.cases rest) prior t ≡ (let value = switch_chain leaf given n s.signal s.cases prior t in switches_chain leaf given (behind_switch n s.cases) rest value.0 value.1)
  unfolding switches_chain
  one_switch n s rest prior t = refl

  no_case : (n : ℕ) (signal : List SigBit) (prior : SigBit) (t : Chained) → cases_chain leaf given n signal NoCase prior t ≡ (prior, t)
  unfolding switches_chain
  no_case n signal prior t = refl

  one_case : (n : ℕ) (signal : List SigBit) (c : CaseView) (rest : Cases) (prior : SigBit) (t : Chained) → cases_chain leaf given n signal (OneCase c.patterns c.assigns c.attributes c.switches rest) prior t ≡ (let acc = cases_chain leaf given (behind_case n c.switches) signal rest prior t in case_chain leaf given n signal c.patterns c.switches prior acc.0 acc.1)
  unfolding switches_chain
  one_case n signal c rest prior t = refl

  -- behind the last switch the value is what all give
  pub switches_end : (ss : List SwitchView) (at n : ℕ) → length ss ≤ at → (value : SigBit) (t : Chained) (all : SigBit × Chained) → switches_chain leaf given n (switches_of (drop at ss)) value t ≡ all → (value, t) ≡ all
  switches_end [] zero n h value t all so = sym (no_switch n value t) ∙ so
  switches_end [] (suc at) n h value t all so = sym (no_switch n value t) ∙ so
  switches_end (s ∷ ss) zero n h value t all so = absurd (omega arith)
  switches_end (s ∷ ss) (suc at) n h value t all so = switches_end ss at n (omega arith) value t all so

  -- one more switch, at a place
  module _ (ss : List SwitchView) (at : ℕ) (s : SwitchView) (h : at < length ss) (e : s ≡ get_or ss at s) where
    abbrev later : List SwitchView
    later = drop (suc at) ss

    next : drop at ss ≡ s ∷ later
    next = drop-cons ss at s h ∙ ap (λ d. d ∷ later) (sym e)

    pub has_switch : (table : List ℕ) (n : ℕ) → HasSwitches table n (switches_of (drop at ss)) → (slice_get table n ≡ Some (behind_switch n s.cases)) × (HasCases table (n + 1) s.cases × HasSwitches table (behind_switch n s.cases) (switches_of (drop (at + 1) ss)))
    has_switch table n has =
        let r : HasSwitches table n (switches_of (s ∷ later)) = subst (λ ds. HasSwitches table n (switches_of ds)) next has in
        (r.0, (r.1.0, subst (λ ds. HasSwitches table (behind_switch n s.cases) (switches_of ds)) (ap (λ j. drop j ss) (sym (add-one at))) r.1.1))

    pub switch_goes : (n m : ℕ) (prior value : SigBit) (t t' : Chained) (all : SigBit × Chained) → m ≡ behind_switch n s.cases → (value, t') ≡ switch_chain leaf given n s.signal s.cases prior t → switches_chain leaf given n (switches_of (drop at ss)) prior t ≡ all → switches_chain leaf given m (switches_of (drop (at + 1) ss)) value t' ≡ all
    switch_goes n m prior value t t' all is made so =
        (λ i. switches_chain leaf given (is i) (switches_of (drop (add-one at i) ss)) (made i).0 (made i).1)
        ∙ sym (one_switch n s (switches_of later) prior t)
        ∙ ap (λ ds. switches_chain leaf given n (switches_of ds) prior t) (sym next)
        ∙ so

    pub switch_over : (n : ℕ) (prior : SigBit) (t : Chained) (all : SigBit × Chained) → switches_chain leaf given n (switches_of (drop at ss)) prior t ≡ all → PassesLimit (switch_chain leaf given n s.signal s.cases prior t).1.trees.building → PassesLimit all.1.trees.building
    switch_over n prior t all so over =
        let value = switch_chain leaf given n s.signal s.cases prior t in
        let last = switches_chain leaf given (behind_switch n s.cases) (switches_of later) value.0 value.1 in
        subst (λ (r : SigBit × Chained). PassesLimit r.1.trees.building)
        (sym (one_switch n s (switches_of later) prior t) ∙ ap (λ ds. switches_chain leaf given n (switches_of ds) prior t) (sym next) ∙ so)
        (over_later value.1.trees.building last.1.trees.building (switches_add (behind_switch n s.cases) (switches_of later) value.0 value.1) over)

  -- the cases of a switch from one of them on
  module _ (n : ℕ) (signal : List SigBit) (prior : SigBit) (t : Chained) where
    abbrev pub cases_from : List CaseView → ℕ → SigBit × Chained
    cases_from cs k = cases_chain leaf given (node_of n cs k) signal (cases_of (drop k cs)) prior t

    -- behind the last case nothing is done yet
    pub cases_end : (cs : List CaseView) (k : ℕ) → length cs ≤ k → (prior, t) ≡ cases_from cs k
    cases_end cs k h = sym (ap (λ ds. cases_chain leaf given (node_of n cs k) signal (cases_of ds) prior t) (none cs k h) ∙ no_case (node_of n cs k) signal prior t)
      where
        none : (cs : List CaseView) (k : ℕ) → length cs ≤ k → drop k cs ≡ []
        none [] zero h = refl
        none [] (suc k) h = refl
        none (c ∷ cs) zero h = absurd (omega arith)
        none (c ∷ cs) (suc k) h = none cs k (omega arith)

    later_grows : (m : ℕ) (cs : List CaseView) (k : ℕ) → Grows (cases_chain leaf given (node_of m cs k) signal (cases_of (drop k cs)) prior t).1.trees.building (cases_chain leaf given m signal (cases_of cs) prior t).1.trees.building
    later_grows m cs zero = grows_none (cases_chain leaf given m signal (cases_of cs) prior t).1.trees.building
    later_grows m [] (suc k) = grows_none (cases_chain leaf given m signal (cases_of []) prior t).1.trees.building
    later_grows m (c ∷ cs) (suc k) =
        let acc = cases_chain leaf given (behind_case m c.switches) signal (cases_of cs) prior t in
        grows_more (cases_chain leaf given (node_of m (c ∷ cs) (suc k)) signal (cases_of (drop (suc k) (c ∷ cs))) prior t).1.trees.building acc.1.trees.building (cases_chain leaf given m signal (cases_of (c ∷ cs)) prior t).1.trees.building
        (later_grows (behind_case m c.switches) cs k)
        (subst (λ (r : SigBit × Chained). Grows acc.1.trees.building r.1.trees.building) (sym (one_case m signal c (cases_of cs) prior t)) (case_adds m signal c.patterns c.switches prior acc.0 acc.1))

    -- one more case, at a place
    module _ (cs : List CaseView) (k : ℕ) (c : CaseView) (h : k < length cs) (e : c ≡ get_or cs k c) where
      abbrev behind : List CaseView
      behind = drop (suc k) cs

      here : drop k cs ≡ c ∷ behind
      here = drop-cons cs k c h ∙ ap (λ d. d ∷ behind) (sym e)

      abbrev node : ℕ
      node = node_of n cs k

      -- what stands for the cases behind it
      acc_is : (at : ℕ) → at ≡ k + 1 → (value : SigBit) (t' : Chained) → (value, t') ≡ cases_from cs at → (value, t') ≡ cases_chain leaf given (behind_case node c.switches) signal (cases_of behind) prior t
      acc_is at next value t' so =
          so ∙ ap (cases_from cs) (next ∙ add-one k)
          ∙ ap (λ m. cases_chain leaf given m signal (cases_of behind) prior t) (node_next n cs k c behind here)

      from_here : cases_from cs k ≡ (let acc = cases_chain leaf given (behind_case node c.switches) signal (cases_of behind) prior t in case_chain leaf given node signal c.patterns c.switches prior acc.0 acc.1)
      from_here = ap (λ ds. cases_chain leaf given node signal (cases_of ds) prior t) here ∙ one_case node signal c (cases_of behind) prior t

      module _ (at m : ℕ) (before : SigBit) (next : at ≡ k + 1) (is : m ≡ node) (same : before ≡ prior) (value : SigBit) (t' : Chained) (so : (value, t') ≡ cases_from cs at) where
        made_here : case_chain leaf given m signal c.patterns c.switches before value t' ≡ cases_from cs k
        made_here =
            let acc = acc_is at next value t' so in
            (λ i. case_chain leaf given (is i) signal c.patterns c.switches (same i) (acc i).0 (acc i).1) ∙ sym from_here

        pub case_goes : (r : SigBit × Chained) → r ≡ case_chain leaf given m signal c.patterns c.switches before value t' → r ≡ cases_from cs k
        case_goes r made = made ∙ made_here

        -- where it passes a limit, all cases do
        pub case_over : PassesLimit (case_chain leaf given m signal c.patterns c.switches before value t').1.trees.building → PassesLimit (cases_chain leaf given n signal (cases_of cs) prior t).1.trees.building
        case_over over =
            over_later (cases_from cs k).1.trees.building (cases_chain leaf given n signal (cases_of cs) prior t).1.trees.building (later_grows n cs k)
            (subst (λ (r : SigBit × Chained). PassesLimit r.1.trees.building) made_here over)
