-- What is left of a tree makes of the bits what all of it makes of them, one part further on.
use Rattle.std.proofs.Common.{◌≡◌, ◌<◌, ◌≤◌, ℕ, zero, suc, ◌+◌, Bool, true, false, if◌then◌else◌, List, [], ◌∷◌, length, get_or, set, drop, ◌-◌, min, Option, refl, sym, ◌∙◌, ap, subst, arith, add-one, true≢false}
use Rattle.std.specs.Prelude.{nat_eq, nat_lt}
use Rattle.std.proofs.Math.Seq.{drop-cons}
use Rattle.std.proofs.lemmas.Bool.{eqb-true, eq-eqb}
use borrow.Author.Tests.{ltb-true, ltb-false}
use Rattle.std.proofs.lemmas.List.{drop_all, get_or-set_other, get_or-set_same, get_or_past}
use Rattle.rtl_bits.specs.declared.bit.Bit.{Bit}
use Rattle.rtl_bits.specs.declared.bit.Bit.TheVariants.{S0, S1, X, Z, M, Dash}
use Rattle.rtl_bits.specs.Tables.{and_of, merge_of}
use Rattle.flat_net.specs.declared.choices.Assign.{Assign}
use Rattle.flat_net.specs.declared.leaves.Source.{Source}
use Rattle.flat_net.specs.declared.net.Point.{Point}
use Rattle.flat_net.specs.Choices.{BranchView, ChoiceView, branches_of, choices_of}
use Rattle.flat_net.specs.Picks.{source_of}
use Rattle.net_model.specs.Picked.{chosen_of}
use Rattle.sim_eval.specs.Trees.{assigned_value, bit_of, branch_match, branch_value, branches_value, choices_value, compared, merged_with, number_pattern_match, number_place_match}
use Rattle.flat_net.proofs.TreeBits.{drop_here}

front : {A : Type 0} (items : List A) (k : ℕ) (x : A) → k < length items → x ≡ get_or items k x → drop k items ≡ x ∷ drop (k + 1) items
front items k x lt is =
    let next : suc k ≡ k + 1 = sym (add-one k) in
    drop-cons items k x lt ∙ (λ j. sym is j ∷ drop (next j) items)

-- merging

x_right : (a : Bit) → merge_of a X ≡ X
x_right S0 = refl
x_right S1 = refl
x_right X = refl
x_right Z = refl
x_right M = refl
x_right Dash = refl

pub merge_turn : (a b c : Bit) → merge_of (merge_of a b) c ≡ merge_of b (merge_of a c)
merge_turn S0 S0 S0 = refl
merge_turn S0 S0 S1 = refl
merge_turn S0 S0 X = refl
merge_turn S0 S0 Z = refl
merge_turn S0 S0 M = refl
merge_turn S0 S0 Dash = refl
merge_turn S0 S1 S0 = refl
merge_turn S0 S1 S1 = refl
merge_turn S0 S1 X = refl
merge_turn S0 S1 Z = refl
merge_turn S0 S1 M = refl
merge_turn S0 S1 Dash = refl
merge_turn S0 X c = refl
merge_turn S0 Z c = refl
merge_turn S0 M c = refl
merge_turn S0 Dash c = refl
merge_turn S1 S0 S0 = refl
merge_turn S1 S0 S1 = refl
merge_turn S1 S0 X = refl
merge_turn S1 S0 Z = refl
merge_turn S1 S0 M = refl
merge_turn S1 S0 Dash = refl
merge_turn S1 S1 S0 = refl
merge_turn S1 S1 S1 = refl
merge_turn S1 S1 X = refl
merge_turn S1 S1 Z = refl
merge_turn S1 S1 M = refl
merge_turn S1 S1 Dash = refl
merge_turn S1 X c = refl
merge_turn S1 Z c = refl
merge_turn S1 M c = refl
merge_turn S1 Dash c = refl
merge_turn X b c = sym (x_right b)
merge_turn Z b c = sym (x_right b)
merge_turn M b c = sym (x_right b)
merge_turn Dash b c = sym (x_right b)

-- assigns

-- a bit is set, where its place is in range
pub set_at : (bits new : List Bit) (n : ℕ) (v : Bit) → n < length bits → new ≡ set bits n v → (at : ℕ) → at < length bits → bit_of new at ≡ (if nat_eq n at then v else bit_of bits at)
set_at bits new n v in_range put at lt = ap (λ z. bit_of z at) put ∙ by (nat_eq n at) refl
  where
    by : (t : Bool) → nat_eq n at ≡ t → bit_of (set bits n v) at ≡ (if nat_eq n at then v else bit_of bits at)
    by true e =
        let same : n ≡ at = eqb-true n at e in
        subst (λ k. bit_of (set bits n v) k ≡ v) same (get_or-set_same bits n v X in_range) ∙ ap (λ t. if t then v else bit_of bits at) (sym e)
    by false e =
        get_or-set_other bits n at v X (λ same. true≢false (sym (eq-eqb n at (sym same)) ∙ e)) ∙ ap (λ t. if t then v else bit_of bits at) (sym e)

-- and nothing is, where it is not
pub set_not : (bits : List Bit) (n : ℕ) (v : Bit) → length bits ≤ n → (at : ℕ) → at < length bits → bit_of bits at ≡ (if nat_eq n at then v else bit_of bits at)
set_not bits n v past at lt = by (nat_eq n at) refl
  where
    by : (t : Bool) → nat_eq n at ≡ t → bit_of bits at ≡ (if t then v else bit_of bits at)
    by true e = let same : n ≡ at = eqb-true n at e in absurd (omega arith)
    by false e = refl

module _ (values : List Bit) (reset : Bit) (given : Source → Bit) (at : ℕ) where
  pub assign_next : (assigns : List Assign) (k : ℕ) (a : Assign) → k < length assigns → a ≡ get_or assigns k a → (old new all : Bit) → new ≡ (if nat_eq a.at at then given (source_of a) else old)
      → assigned_value values reset given at (drop k assigns) old ≡ all → assigned_value values reset given at (drop (k + 1) assigns) new ≡ all
  assign_next assigns k a lt is old new all put before =
      ap (assigned_value values reset given at (drop (k + 1) assigns)) put ∙ ap (λ xs. assigned_value values reset given at xs old) (sym (front assigns k a lt is)) ∙ before

  pub assign_end : (assigns : List Assign) (k : ℕ) → length assigns ≤ k → (old all : Bit) → assigned_value values reset given at (drop k assigns) old ≡ all → old ≡ all
  assign_end assigns k past old all before = ap (λ xs. assigned_value values reset given at xs old) (sym (drop_all k assigns past)) ∙ before

  -- choices

  pub choice_next : (items : List ChoiceView) (k : ℕ) (c : ChoiceView) → k < length items → c ≡ get_or items k c → (old new all : Bit) → new ≡ branches_value values reset given at (compared values reset c.signal c.test) c.branches old old
      → choices_value values reset given at (choices_of (drop k items)) old ≡ all → choices_value values reset given at (choices_of (drop (k + 1) items)) new ≡ all
  choice_next items k c lt is old new all put before =
      ap (choices_value values reset given at (choices_of (drop (k + 1) items))) put ∙ ap (λ xs. choices_value values reset given at (choices_of xs) old) (sym (front items k c lt is)) ∙ before

  pub choice_end : (items : List ChoiceView) (k : ℕ) → length items ≤ k → (old all : Bit) → choices_value values reset given at (choices_of (drop k items)) old ≡ all → old ≡ all
  choice_end items k past old all before = ap (λ xs. choices_value values reset given at (choices_of xs) old) (sym (drop_all k items past)) ∙ before

  -- branches

  module _ (signal : List Bit) (items : List BranchView) (k : ℕ) (b : BranchView) (lt : k < length items) (is : b ≡ get_or items k b) (e all : Bit) where
    here : branches_value values reset given at signal (branches_of (drop k items)) e e ≡ chosen_of (branch_match values signal b.patterns) (branch_value values reset given at b e) (branches_value values reset given at signal (branches_of (drop (k + 1) items)) e e)
    here = ap (λ xs. branches_value values reset given at signal (branches_of xs) e e) (front items k b lt is)

    -- a branch that does not match
    pub branch_passed : branch_match values signal b.patterns ≡ S0 → (merged : Option (List Bit)) → merged_with merged at (branches_value values reset given at signal (branches_of (drop k items)) e e) ≡ all
        → merged_with merged at (branches_value values reset given at signal (branches_of (drop (k + 1) items)) e e) ≡ all
    branch_passed not merged before =
        ap (λ t. merged_with merged at (chosen_of t (branch_value values reset given at b e) (branches_value values reset given at signal (branches_of (drop (k + 1) items)) e e))) (sym not)
        ∙ ap (merged_with merged at) (sym here) ∙ before

    -- a branch that matches
    pub branch_taken : branch_match values signal b.patterns ≡ S1 → (merged : Option (List Bit)) (new : Bit) → new ≡ branch_value values reset given at b e → merged_with merged at (branches_value values reset given at signal (branches_of (drop k items)) e e) ≡ all
        → merged_with merged at new ≡ all
    branch_taken sure merged new put before =
        ap (merged_with merged at) put
        ∙ ap (λ t. merged_with merged at (chosen_of t (branch_value values reset given at b e) (branches_value values reset given at signal (branches_of (drop (k + 1) items)) e e))) (sym sure)
        ∙ ap (merged_with merged at) (sym here) ∙ before

    -- a branch that may match
    pub branch_open : (branch_match values signal b.patterns ≡ S0 → ⊥) → (branch_match values signal b.patterns ≡ S1 → ⊥) → (merged more : Option (List Bit)) (other : Bit) → other ≡ branch_value values reset given at b e
        → ((v : Bit) → merged_with more at v ≡ merged_with merged at (merge_of other v)) → merged_with merged at (branches_value values reset given at signal (branches_of (drop k items)) e e) ≡ all
        → merged_with more at (branches_value values reset given at signal (branches_of (drop (k + 1) items)) e e) ≡ all
    branch_open not0 not1 merged more other is_other put before =
        put (branches_value values reset given at signal (branches_of (drop (k + 1) items)) e e)
        ∙ ap (merged_with merged at) (by (branch_match values signal b.patterns) not0 not1)
        ∙ ap (merged_with merged at) (sym here) ∙ before
      where
        by : (t : Bit) → (t ≡ S0 → ⊥) → (t ≡ S1 → ⊥)
            → merge_of other (branches_value values reset given at signal (branches_of (drop (k + 1) items)) e e) ≡ chosen_of t (branch_value values reset given at b e) (branches_value values reset given at signal (branches_of (drop (k + 1) items)) e e)
        by S0 n0 n1 = absurd (n0 refl)
        by S1 n0 n1 = absurd (n1 refl)
        by X n0 n1 = ap (λ z. merge_of z (branches_value values reset given at signal (branches_of (drop (k + 1) items)) e e)) is_other
        by Z n0 n1 = ap (λ z. merge_of z (branches_value values reset given at signal (branches_of (drop (k + 1) items)) e e)) is_other
        by M n0 n1 = ap (λ z. merge_of z (branches_value values reset given at signal (branches_of (drop (k + 1) items)) e e)) is_other
        by Dash n0 n1 = ap (λ z. merge_of z (branches_value values reset given at signal (branches_of (drop (k + 1) items)) e e)) is_other

  -- no branch is left
  pub branch_end : (signal : List Bit) (items : List BranchView) (k : ℕ) → length items ≤ k → (merged : Option (List Bit)) (e all : Bit) → merged_with merged at (branches_value values reset given at signal (branches_of (drop k items)) e e) ≡ all → merged_with merged at e ≡ all
  branch_end signal items k past merged e all before =
      ap (λ xs. merged_with merged at (branches_value values reset given at signal (branches_of xs) e e)) (sym (drop_all k items past)) ∙ before

-- patterns

no_pattern : (values xs : List Bit) → number_pattern_match values xs [] ≡ S1
no_pattern values [] = refl
no_pattern values (x ∷ xs) = refl

-- no places are left
pub pattern_none : (values signal : List Bit) (pattern : List Point) (n : ℕ) → min (length signal) (length pattern) ≤ n → number_pattern_match values (drop n signal) (drop n pattern) ≡ S1
pattern_none values [] pattern zero h = refl
pattern_none values [] pattern (suc n) h = refl
pattern_none values (s ∷ signal) [] zero h = refl
pattern_none values (s ∷ signal) [] (suc n) h = no_pattern values (drop n signal)
pattern_none values (s ∷ signal) (p ∷ pattern) zero h = absurd (omega arith)
pattern_none values (s ∷ signal) (p ∷ pattern) (suc n) h = pattern_none values signal pattern n (omega arith)

-- one place more, from the last one on
pub pattern_here : (values signal : List Bit) (pattern : List Point) (i : ℕ) (s : Bit) (p : Point) → 0 < i → i ≤ length signal → i ≤ length pattern
    → and_of (number_place_match values (get_or signal (i - 1) s) (get_or pattern (i - 1) p)) (number_pattern_match values (drop i signal) (drop i pattern)) ≡ number_pattern_match values (drop (i - 1) signal) (drop (i - 1) pattern)
pattern_here values signal pattern i s p above a b = λ j. number_pattern_match values (sym (drop_here signal i s above a) j) (sym (drop_here pattern i p above b) j)

-- merging two lists, one place more
pub record MergedTo (at : ℕ) (first others bits : List Bit) : Type 0 where
  pub merged : (k : ℕ) → k < at → bit_of bits k ≡ merge_of (bit_of others k) (bit_of first k)
  pub left : (k : ℕ) → at ≤ k → bit_of bits k ≡ bit_of first k

pub merge_next : (at : ℕ) (first others bits new : List Bit) (v : Bit) → at < length bits → MergedTo at first others bits → v ≡ merge_of (bit_of others at) (bit_of bits at) → new ≡ set bits at v → MergedTo (at + 1) first others new
merge_next at first others bits new v lt h is put = record {
  merged = λ k l. ap (λ z. bit_of z k) put ∙ by k l (nat_eq at k) refl;
  left = λ k l. ap (λ z. bit_of z k) put ∙ get_or-set_other bits at k v X (λ same. omega arith) ∙ h.left k (omega arith);
}
  where
    by : (k : ℕ) → k < at + 1 → (t : Bool) → nat_eq at k ≡ t → bit_of (set bits at v) k ≡ merge_of (bit_of others k) (bit_of first k)
    by k l true e =
        let same : at ≡ k = eqb-true at k e in
        subst (λ n. bit_of (set bits at v) n ≡ merge_of (bit_of others n) (bit_of first n)) same (get_or-set_same bits at v X lt ∙ is ∙ ap (merge_of (bit_of others at)) (h.left at (omega arith)))
    by k l false e =
        let apart : at ≡ k → ⊥ = (λ same. true≢false (sym (eq-eqb at k same) ∙ e)) in
        get_or-set_other bits at k v X (λ same. apart (sym same)) ∙ h.merged k (omega (arith, apart))

-- and past the end nothing is
pub merge_end : (at : ℕ) (first others bits : List Bit) → length first ≤ at → MergedTo at first others bits → (k : ℕ) → bit_of bits k ≡ merge_of (bit_of others k) (bit_of first k)
merge_end at first others bits past h k = by (nat_lt k at) refl
  where
    by : (t : Bool) → nat_lt k at ≡ t → bit_of bits k ≡ merge_of (bit_of others k) (bit_of first k)
    by true e = h.merged k (ltb-true k at e)
    by false e =
        let behind : at ≤ k = ltb-false k at e in
        let none : bit_of first k ≡ X = get_or_past first k X (omega arith) in
        h.left k behind ∙ none ∙ sym (x_right (bit_of others k)) ∙ ap (merge_of (bit_of others k)) (sym none)

-- a bit at a place is the same by any default
pub any_bit : (bits : List Bit) (at : ℕ) (d : Bit) → at < length bits → get_or bits at d ≡ bit_of bits at
any_bit [] at d lt = absurd (omega arith)
any_bit (b ∷ bits) zero d lt = refl
any_bit (b ∷ bits) (suc at) d lt = any_bit bits at d (omega arith)
