-- The first leaf of an expanded decision stands at the end of the way along the assigns where each switch takes its first case.
use Rattle.std.proofs.Common.{◌≡◌, ℕ, zero, suc, Bool, true, false, cond, List, [], ◌∷◌, ◌++◌, Option, Some, None, unwrap_or, append_assoc, refl, sym, ◌∙◌, ap}
use Rattle.std.specs.Prelude.{if◌then◌else◌}
use Rattle.std.specs.Option.{option_map_or, option_or}
use Rattle.rtl_bits.specs.declared.bit.Bit.{Bit}
use Rattle.rtl_bits.specs.declared.bit.Bit.TheVariants.{X}
use Rattle.rtl_sig.specs.declared.sig.SigBit.{SigBit}
use Rattle.rtl_sig.specs.declared.sig.SigBit.TheVariants.{Fixed, Wire as OnWire}
use Rattle.rtl_sig.specs.declared.sig.WireBit.{WireBit}
use Rattle.rtl_ir.specs.declared.module.Link.{Link}
use Rattle.rtl_ir.specs.Assigns.{assigned, last_source}
use Rattle.rtl_ir.specs.Decisions.{Decision, Leaf, Choice, Branches, NoBranch, OneBranch, after_assigns, after_switches, branches_of, branches_with_leaves, case_decision, expanded_within, leaves_before, leaves_of, with_leaves}
use Rattle.rtl_ir.specs.Flat.Start.{first_constant}
use Rattle.rtl_ir.specs.Follow.{all_joins, joins, source_at}
use Rattle.rtl_ir.specs.declared.follow.Join.{Join}
use Rattle.rtl_ir.specs.Signals.{has_bit, same_bit}
use Rattle.rtl_ir.specs.Tree.{Switches, NoSwitch, OneSwitch, Cases, NoCase, OneCase, CaseView}
use Rattle.proc_tree.specs.Leaves.{case_first, cases_first, constant_or_x, switches_first}

abbrev mutual
  -- the first leaf of a decision
  pub first_of : Decision → SigBit
  first_of (Leaf s) = s
  first_of (Choice signal branches last) = first_before branches (first_of last)

  -- the first leaf of branches, or that of the last value where there is none
  pub first_before : Branches → SigBit → SigBit
  first_before NoBranch last = last
  first_before (OneBranch patterns value rest) last = first_of value

-- it stands first
mutual
  stands_first : (d : Decision) (more : List SigBit) → first_constant (leaves_of d ++ more) ≡ constant_or_x (first_of d)
  stands_first (Leaf (Fixed c)) more = refl
  stands_first (Leaf (OnWire b)) more = refl
  stands_first (Choice signal branches last) more = stands_before branches (leaves_of last) (first_of last) more (stands_first last more)

  stands_before : (branches : Branches) (leaves : List SigBit) (last : SigBit) (more : List SigBit) → first_constant (leaves ++ more) ≡ constant_or_x last → first_constant (leaves_before branches leaves ++ more) ≡ constant_or_x (first_before branches last)
  stands_before NoBranch leaves last more e = e
  stands_before (OneBranch [] value rest) leaves last more e = stands_first value more
  stands_before (OneBranch (p ∷ ps) value rest) leaves last more e =
      ap first_constant (append_assoc (leaves_of value) (leaves_before rest leaves) more) ∙ stands_first value (leaves_before rest leaves ++ more)

nothing_more : (xs : List SigBit) → xs ++ [] ≡ xs
nothing_more [] = refl
nothing_more (x ∷ xs) = ap (λ z. x ∷ z) (nothing_more xs)

pub first_is : (d : Decision) → first_constant (leaves_of d) ≡ constant_or_x (first_of d)
first_is d = ap first_constant (sym (nothing_more (leaves_of d))) ∙ stands_first d []

-- leaves that are replaced
mutual
  replaced : (f : SigBit → Decision) (d : Decision) → first_of (with_leaves f d) ≡ first_of (f (first_of d))
  replaced f (Leaf s) = refl
  replaced f (Choice signal branches last) = replaced_before f branches (first_of (with_leaves f last)) (first_of last) (replaced f last)

  replaced_before : (f : SigBit → Decision) (branches : Branches) (new last : SigBit) → new ≡ first_of (f last) → first_before (branches_with_leaves f branches) new ≡ first_of (f (first_before branches last))
  replaced_before f NoBranch new last e = e
  replaced_before f (OneBranch patterns value rest) new last e = replaced f value

-- the last of places, where they are two lists
last_of_both : (xs ys : List Join) (b : WireBit) → last_source (xs ++ ys) b ≡ option_or (last_source ys b) (last_source xs b)
last_of_both [] ys b = by (last_source ys b)
  where
    by : (o : Option SigBit) → o ≡ option_or o None
    by None = refl
    by (Some s) = refl
last_of_both (j ∷ xs) ys b =
    ap (λ o. option_or o here) (last_of_both xs ys b) ∙ by (last_source ys b)
  where
    here : Option SigBit
    here = if same_bit j.bit b then Some j.source else None

    by : (o : Option SigBit) → option_or (option_or o (last_source xs b)) (if same_bit j.bit b then Some j.source else None) ≡ option_or o (option_or (last_source xs b) (if same_bit j.bit b then Some j.source else None))
    by None = refl
    by (Some s) = refl

joins_of_both : (xs ys : List Link) → all_joins (xs ++ ys) ≡ all_joins xs ++ all_joins ys
joins_of_both [] ys = refl
joins_of_both (l ∷ xs) ys = ap (λ z. joins l.left l.right ++ z) (joins_of_both xs ys) ∙ sym (append_assoc (joins l.left l.right) (all_joins xs) (all_joins ys))

pub assigned_both : (xs ys : List Link) (b : WireBit) → assigned (xs ++ ys) b ≡ option_or (assigned ys b) (assigned xs b)
assigned_both xs ys b = ap (λ js. last_source js b) (joins_of_both xs ys) ∙ last_of_both (all_joins xs) (all_joins ys) b

or_then : (o e : Option SigBit) (s : SigBit) → unwrap_or (option_or o e) s ≡ unwrap_or o (unwrap_or e s)
or_then None e s = refl
or_then (Some x) e s = refl

first_assigned : (assigns : List Link) (b : WireBit) (earlier : Decision) → first_of (after_assigns assigns b earlier) ≡ unwrap_or (assigned assigns b) (first_of earlier)
first_assigned assigns b earlier = by (assigned assigns b)
  where
    by : (o : Option SigBit) → first_of (option_map_or (λ s. Leaf s) o earlier) ≡ unwrap_or o (first_of earlier)
    by None = refl
    by (Some s) = refl

-- the first leaf is what the last of the first assigns gives, else that of the earlier value
mutual
  first_switches : (b : WireBit) (switches : Switches) (earlier : Decision) → first_of (after_switches b switches earlier) ≡ unwrap_or (assigned (switches_first switches) b) (first_of earlier)
  first_switches b NoSwitch earlier = refl
  first_switches b (OneSwitch signal attributes cases rest) earlier =
      first_switches b rest (Choice signal (branches_of b cases earlier) earlier)
      ∙ ap (unwrap_or (assigned (switches_first rest) b)) (first_cases b cases earlier)
      ∙ sym (or_then (assigned (switches_first rest) b) (assigned (cases_first cases) b) (first_of earlier))
      ∙ ap (λ o. unwrap_or o (first_of earlier)) (sym (assigned_both (cases_first cases) (switches_first rest) b))

  first_cases : (b : WireBit) (cases : Cases) (earlier : Decision) → first_before (branches_of b cases earlier) (first_of earlier) ≡ unwrap_or (assigned (cases_first cases) b) (first_of earlier)
  first_cases b NoCase earlier = refl
  first_cases b (OneCase patterns assigns attributes switches rest) earlier =
      first_switches b switches (after_assigns assigns b earlier)
      ∙ ap (unwrap_or (assigned (switches_first switches) b)) (first_assigned assigns b earlier)
      ∙ sym (or_then (assigned (switches_first switches) b) (assigned assigns b) (first_of earlier))
      ∙ ap (λ o. unwrap_or o (first_of earlier)) (sym (assigned_both assigns (switches_first switches) b))

first_case : (root : CaseView) (b : WireBit) → first_of (case_decision root b) ≡ unwrap_or (assigned (case_first root) b) (Fixed X)
first_case root b =
    first_switches b root.switches (after_assigns root.assigns b (Leaf (Fixed X)))
    ∙ ap (unwrap_or (assigned (switches_first root.switches) b)) (first_assigned root.assigns b (Leaf (Fixed X)))
    ∙ sym (or_then (assigned (switches_first root.switches) b) (assigned root.assigns b) (Fixed X))
    ∙ ap (λ o. unwrap_or o (Fixed X)) (sym (assigned_both root.assigns (switches_first root.switches) b))

-- one step of the way of a bit: to the first leaf, where it is a bit of the tree
pub first_step : (root : CaseView) (bits : List WireBit) (n : ℕ) (b : WireBit)
    → first_of (expanded_within root bits (suc n) (OnWire b)) ≡ cond (has_bit bits b) (first_of (expanded_within root bits n (unwrap_or (assigned (case_first root) b) (Fixed X)))) (OnWire b)
first_step root bits n b = by (has_bit bits b)
  where
    by : (t : Bool) → first_of (cond t (with_leaves (expanded_within root bits n) (case_decision root b)) (Leaf (OnWire b))) ≡ cond t (first_of (expanded_within root bits n (unwrap_or (assigned (case_first root) b) (Fixed X)))) (OnWire b)
    by true = replaced (expanded_within root bits n) (case_decision root b) ∙ ap (λ s. first_of (expanded_within root bits n s)) (first_case root b)
    by false = refl

pub first_fixed : (root : CaseView) (bits : List WireBit) (n : ℕ) (c : Bit) → first_of (expanded_within root bits n (Fixed c)) ≡ Fixed c
first_fixed root bits zero c = refl
first_fixed root bits (suc n) c = refl

-- the first of places in turned order is the last
pub first_of_both : (xs ys : List Join) (b : WireBit) → source_at (xs ++ ys) b ≡ option_or (source_at xs b) (source_at ys b)
first_of_both [] ys b = refl
first_of_both (j ∷ xs) ys b = by (same_bit j.bit b) (first_of_both xs ys b)
  where
    by : (t : Bool) → source_at (xs ++ ys) b ≡ option_or (source_at xs b) (source_at ys b) → cond t (Some j.source) (source_at (xs ++ ys) b) ≡ option_or (cond t (Some j.source) (source_at xs b)) (source_at ys b)
    by true e = refl
    by false e = e
