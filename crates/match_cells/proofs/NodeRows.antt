-- The numbers of the nodes of switches and cases in a row.
use Rattle.std.proofs.Common.{◌≡◌, ℕ, zero, suc, ◌+◌, ◌<◌, ◌≤◌, List, [], ◌∷◌, ◌++◌, length, drop, get_or, Some, refl, sym, ◌∙◌, ap, subst, arith, append_assoc, add-one}
use Rattle.std.specs.Prelude.{slice_get, unwrap_or}
use Rattle.std.proofs.Math.Seq.{drop-cons}
use Rattle.rtl_ir.specs.Tree.{CaseView, SwitchView, cases_depth, cases_of, switches_depth, switches_of}
use Rattle.match_cells.specs.Numbers.{HasCases, HasSwitches, behind_case, case_nodes}

-- the node of a case among cases, the first of which has this number
abbrev pub node_of : ℕ → List CaseView → ℕ → ℕ
node_of n cs zero = n
node_of n [] (suc k) = n
node_of n (c ∷ cs) (suc k) = node_of (behind_case n c.switches) cs k

pub nodes_has : (n : ℕ) (cs : List CaseView) (k d : ℕ) → k < length cs → get_or (case_nodes n (cases_of cs)) k d ≡ node_of n cs k
nodes_has n [] k d h = absurd (omega arith)
nodes_has n (c ∷ cs) zero d h = refl
nodes_has n (c ∷ cs) (suc k) d h = nodes_has (behind_case n c.switches) cs k d (omega arith)

pub nodes_length : (n : ℕ) (cs : List CaseView) → length (case_nodes n (cases_of cs)) ≡ length cs
nodes_length n [] = refl
nodes_length n (c ∷ cs) = omega (arith, nodes_length (behind_case n c.switches) cs)

-- the node behind a case is that of the next one
pub node_next : (n : ℕ) (cs : List CaseView) (k : ℕ) (c : CaseView) (rest : List CaseView) → drop k cs ≡ c ∷ rest → node_of n cs (suc k) ≡ behind_case (node_of n cs k) c.switches
node_next n [] zero c rest e = absurd (cc)
node_next n [] (suc k) c rest e = absurd (cc)
node_next n (d ∷ cs) zero c rest e =
    let same : d ≡ c = cc in
    ap (λ (x : CaseView). behind_case n x.switches) same
node_next n (d ∷ cs) (suc k) c rest e = node_next (behind_case n d.switches) cs k c rest e

-- the switches of a case are less deep than the cases
cases_deeper : (cs : List CaseView) (k : ℕ) (d : CaseView) → k < length cs → switches_depth (get_or cs k d).switches + 1 ≤ cases_depth (cases_of cs)
cases_deeper [] k d h = absurd (omega arith)
cases_deeper (c ∷ cs) zero d h = omega arith
cases_deeper (c ∷ cs) (suc k) d h =
    let l : switches_depth (get_or cs k d).switches + 1 ≤ cases_depth (cases_of cs) = cases_deeper cs k d (omega arith) in
    omega arith

pub case_deep : (cs : List CaseView) (k : ℕ) (c : CaseView) → k < length cs → c ≡ get_or cs k c → switches_depth c.switches + 1 ≤ cases_depth (cases_of cs)
case_deep cs k c h e = subst (λ (x : CaseView). switches_depth x.switches + 1 ≤ cases_depth (cases_of cs)) (sym e) (cases_deeper cs k c h)

-- .. and the cases of a switch than the switches
switches_deeper : (ss : List SwitchView) (k : ℕ) (d : SwitchView) → k < length ss → cases_depth (get_or ss k d).cases + 1 ≤ switches_depth (switches_of ss)
switches_deeper [] k d h = absurd (omega arith)
switches_deeper (s ∷ ss) zero d h = omega arith
switches_deeper (s ∷ ss) (suc k) d h =
    let l : cases_depth (get_or ss k d).cases + 1 ≤ switches_depth (switches_of ss) = switches_deeper ss k d (omega arith) in
    omega arith

pub switch_deep : (ss : List SwitchView) (k : ℕ) (s : SwitchView) → k < length ss → s ≡ get_or ss k s → cases_depth s.cases + 1 ≤ switches_depth (switches_of ss)
switch_deep ss k s h e = subst (λ (x : SwitchView). cases_depth x.cases + 1 ≤ switches_depth (switches_of ss)) (sym e) (switches_deeper ss k s h)

-- a table has the nodes of the cases from any of them on
pub has_later : (table : List ℕ) (n : ℕ) (cs : List CaseView) (k : ℕ) → HasCases table n (cases_of cs) → HasCases table (node_of n cs k) (cases_of (drop k cs))
has_later table n cs zero h = h
has_later table n [] (suc k) h = tt
has_later table n (c ∷ cs) (suc k) h = has_later table (behind_case n c.switches) cs k h.1.1

-- what a table has at a node
pub entry_is : (table : List ℕ) (n m behind : ℕ) → slice_get table n ≡ Some behind → m ≡ unwrap_or (slice_get table n) n → m ≡ behind
entry_is table n m behind e is = is ∙ ap (λ o. unwrap_or o n) e

pub node_is : (n : ℕ) (cs : List CaseView) (k d : ℕ) (nodes : List ℕ) → k < length cs → nodes ≡ case_nodes n (cases_of cs) → get_or nodes k d ≡ node_of n cs k
node_is n cs k d nodes h are = ap (λ ms. get_or ms k d) are ∙ nodes_has n cs k d h

-- one more case of a row, at a place
module _ (table : List ℕ) (n : ℕ) (cs : List CaseView) (k : ℕ) (c : CaseView) (h : k < length cs) (e : c ≡ get_or cs k c) where
  case_next : drop k cs ≡ c ∷ drop (suc k) cs
  case_next = drop-cons cs k c h ∙ ap (λ d. d ∷ drop (suc k) cs) (sym e)

  -- what a table has of it, and of those behind it
  pub has_case : HasCases table n (cases_of (drop k cs)) → (slice_get table n ≡ Some (behind_case n c.switches)) × (HasSwitches table (n + 1) c.switches × HasCases table (behind_case n c.switches) (cases_of (drop (k + 1) cs)))
  has_case has =
      let r : HasCases table n (cases_of (c ∷ drop (suc k) cs)) = subst (λ ds. HasCases table n (cases_of ds)) case_next has in
      (r.0, (r.1.0, subst (λ ds. HasCases table (behind_case n c.switches) (cases_of ds)) (ap (λ j. drop j cs) (sym (add-one k))) r.1.1))

  -- its number goes last
  pub nodes_go : (nodes nodes' : List ℕ) (all : List ℕ) (m : ℕ) → nodes ++ case_nodes n (cases_of (drop k cs)) ≡ all → nodes' ≡ nodes ++ n ∷ [] → m ≡ behind_case n c.switches → nodes' ++ case_nodes m (cases_of (drop (k + 1) cs)) ≡ all
  nodes_go nodes nodes' all m so more is =
      (λ i. more i ++ case_nodes (is i) (cases_of (drop (add-one k i) cs)))
      ∙ append_assoc nodes (n ∷ []) (case_nodes (behind_case n c.switches) (cases_of (drop (suc k) cs)))
      ∙ ap (λ ds. nodes ++ case_nodes n (cases_of ds)) (sym case_next)
      ∙ so

  -- what a table has of a case, by the nodes of all cases
  pub case_table : (nodes : List ℕ) (d : ℕ) → nodes ≡ case_nodes n (cases_of cs) → HasCases table n (cases_of cs) → (slice_get table (get_or nodes k d) ≡ Some (behind_case (get_or nodes k d) c.switches)) × HasSwitches table (get_or nodes k d + 1) c.switches
  case_table nodes d are has =
      let r : HasCases table (node_of n cs k) (cases_of (c ∷ drop (suc k) cs)) = subst (λ ds. HasCases table (node_of n cs k) (cases_of ds)) case_next (has_later table n cs k has) in
      let P : ℕ → Type 0 = λ m. (slice_get table m ≡ Some (behind_case m c.switches)) × HasSwitches table (m + 1) c.switches in
      subst P (sym (node_is n cs k d nodes h are)) (r.0, r.1.0)
