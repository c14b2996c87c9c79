-- Trees are decided case by case.
use Rattle.std.proofs.Common.{◌≡◌, ℕ, ◌+◌, ◌<◌, ◌≤◌, Bool, true, false, cond, List, [], ◌∷◌, ◌++◌, length, get_or, map, take, take_all, drop, Option, Some, None, Result, Ok, Err, IfOk, add-one, refl, sym, ◌∙◌, ap, subst}
use Rattle.std.proofs.Math.Seq.{take-suc}
use Rattle.std.proofs.lemmas.List.{drop_all, map-append}
use Rattle.rtl_bits.specs.declared.memory.Memory.{Memory}
use Rattle.rtl_sig.specs.declared.sig.SigBit.{SigBit}
use Rattle.rtl_ir.specs.declared.module.Link.{Link}
use Rattle.rtl_ir.specs.declared.value.Attribute.{Attribute}
use Rattle.rtl_ir.specs.Faults.TwoEdges.{SwitchTest, cases_patterns, tested_bit}
use Rattle.rtl_ir.specs.Tree.{CaseView, SwitchView, Cases, OneCase, NoCase, OneSwitch, switches_of, cases_of}
use Rattle.net_model.specs.Proc.Reset.{cases_at, is_taken, switches_at}
use Rattle.process_trees.specs.Levels.{case_at, open_case, switch_at, switch_by}
use Rattle.process_trees.proofs.Fronts.{front}

-- one item more of those that are made
pub made_next : {A B : Type 0} (f : A → B) (items : List A) (k : ℕ) (x : A) → k < length items → x ≡ get_or items k x → (done new : List B) (made : B)
    → new ≡ done ++ made ∷ [] → made ≡ f x → done ≡ map f (take k items) → new ≡ map f (take (k + 1) items)
made_next f items k x h is done new made put same so_far =
    let more : take (k + 1) items ≡ take k items ++ x ∷ [] = ap (λ n. take n items) (add-one k) ∙ take-suc items k x h ∙ (λ j. take k items ++ sym is j ∷ []) in
    put ∙ (λ j. so_far j ++ same j ∷ []) ∙ sym (ap (map f) more ∙ map-append f (take k items) (x ∷ []))

pub made_all : {A B : Type 0} (f : A → B) (items : List A) (k : ℕ) → length items ≤ k → (done : List B) → done ≡ map f (take k items) → done ≡ map f items
made_all f items k h done so_far = so_far ∙ ap (map f) (take_all k items h)

module _ (test : SwitchTest) (level : Bool) where
  pub switches_map : (ss : List SwitchView) → switches_at test level (switches_of ss) ≡ switches_of (map (switch_at test level) ss)
  switches_map [] = refl
  switches_map (s ∷ ss) = ap (OneSwitch s.signal s.attributes (cases_at test level (test s.signal (cases_patterns s.cases)) s.cases)) (switches_map ss)

  pub cases_map : (cs : List CaseView) → cases_at test level None (cases_of cs) ≡ cases_of (map (open_case test level) cs)
  cases_map [] = refl
  cases_map (c ∷ cs) = ap (OneCase c.patterns c.assigns c.attributes (switches_at test level c.switches)) (cases_map cs)

  -- a case of what it holds
  pub case_whole : (ps qs : List (List SigBit)) (a : List Link) (raw items done : List SwitchView) (t : List Attribute) (qs' : List (List SigBit)) (a' : List Link) (t' : List Attribute) (c : CaseView)
      → ps ≡ qs → a ≡ a' → t ≡ t' → items ≡ raw → done ≡ map (switch_at test level) items → record { patterns = qs'; assigns = a'; switches = switches_of raw; attributes = t' } ≡ c
      → record { patterns = ps; assigns = a; switches = switches_of done; attributes = t } ≡ case_at test level qs c
  case_whole ps qs a raw items done t qs' a' t' c p e f same made view =
      let inner : switches_of done ≡ switches_at test level (switches_of raw) = ap switches_of made ∙ sym (switches_map items) ∙ ap (λ ss. switches_at test level (switches_of ss)) same in
      (λ i. record { patterns = p i; assigns = e i; switches = inner i; attributes = f i }) ∙ ap (case_at test level qs) view

  -- a switch by its test
  pub switch_tested : (o : Option Bool) (s : SwitchView) (r : Result SwitchView Memory) → o ≡ test s.signal (cases_patterns s.cases)
      → IfOk r (λ made. made ≡ switch_by test level o s) → IfOk r (λ made. made ≡ switch_at test level s)
  switch_tested o s r e made = subst (λ x. IfOk r (λ (m : SwitchView). m ≡ switch_by test level x s)) e made

  -- a switch of its cases
  pub switch_made : (o : Option Bool) (s : SwitchView) (cs : Cases) (r : Result SwitchView Memory) → IfOk r (λ made. made ≡ record s { cases = cs })
      → cs ≡ cases_at test level o s.cases → IfOk r (λ made. made ≡ switch_by test level o s)
  switch_made o s cs (Ok made) e f = e ∙ ap (λ z. record s { cases = z }) f
  switch_made o s cs (Err memory) e f = tt

  -- the cases of a switch are those that it holds
  pub cases_held : (o : Option Bool) (raw items : List CaseView) (signal : List SigBit) (attributes : List Attribute) (s : SwitchView) → items ≡ raw
      → record { signal = signal; cases = cases_of raw; attributes = attributes } ≡ s → cases_at test level o (cases_of items) ≡ cases_at test level o s.cases
  cases_held o raw items signal attributes s e view =
      ap (λ xs. cases_at test level o (cases_of xs)) e ∙ ap (λ (x : SwitchView). cases_at test level o x.cases) view

  module _ (inverse : Bool) (items : List CaseView) (k : ℕ) (c : CaseView) (h : k < length items) (is : c ≡ get_or items k c) where
    here : (t : Bool) → t ≡ is_taken (tested_bit level inverse) c.patterns
        → cases_at test level (Some inverse) (cases_of (drop k items))
        ≡ cond t (OneCase [] c.assigns c.attributes (switches_at test level c.switches) NoCase) (cases_at test level (Some inverse) (cases_of (drop (k + 1) items)))
    here t e =
        ap (λ xs. cases_at test level (Some inverse) (cases_of xs)) (front items k c h is)
        ∙ ap (λ b. cond b (OneCase [] c.assigns c.attributes (switches_at test level c.switches) NoCase) (cases_at test level (Some inverse) (cases_of (drop (k + 1) items)))) (sym e)

    -- a case is taken
    pub case_taken : true ≡ is_taken (tested_bit level inverse) c.patterns → (new : List CaseView) (made : CaseView) → new ≡ made ∷ [] → made ≡ case_at test level [] c
        → (all : Cases) → cases_at test level (Some inverse) (cases_of (drop k items)) ≡ all → cases_of new ≡ all
    case_taken e new made put same all before =
        ap cases_of put ∙ ap (λ x. cases_of (x ∷ [])) same ∙ sym (here true e) ∙ before

    -- or it is not
    pub case_passed : false ≡ is_taken (tested_bit level inverse) c.patterns → (all : Cases)
        → cases_at test level (Some inverse) (cases_of (drop k items)) ≡ all → cases_at test level (Some inverse) (cases_of (drop (k + 1) items)) ≡ all
    case_passed e all before = sym (here false e) ∙ before

  -- none is taken
  pub none_taken : (inverse : Bool) (items : List CaseView) (k : ℕ) → length items ≤ k → (none : List CaseView) → none ≡ [] → (all : Cases)
      → cases_at test level (Some inverse) (cases_of (drop k items)) ≡ all → cases_of none ≡ all
  none_taken inverse items k h none e all before =
      ap cases_of e ∙ ap (λ xs. cases_at test level (Some inverse) (cases_of xs)) (sym (drop_all k items h)) ∙ before
