-- Where the nodes stand in order, those of one number are found by halves.
use Rattle.std.proofs.Common.{◌≡◌, ℕ, zero, suc, ◌+◌, ◌<◌, ◌≤◌, Bool, true, false, List, [], ◌∷◌, ◌++◌, length, take, drop, get_or, Option, if◌then◌else◌, refl, sym, ◌∙◌, ap, subst, arith}
use Rattle.std.specs.Prelude.{◌||◌, ◌&&◌, nat_le, nat_lt}
use Rattle.std.specs.List.{list_any}
use Rattle.std.specs.List.Sorted.{IsNonDecreasingBy}
use Rattle.std.specs.Option.{option_or}
use Rattle.std.proofs.Math.Seq.{drop-cons}
use Rattle.rtl_sig.specs.declared.sig.SigBit.{SigBit}
use Rattle.rtl_sig.specs.declared.sig.WireBit.{WireBit}
use Rattle.rtl_ir.specs.Follow.{all_joins}
use Rattle.rtl_ir.specs.declared.follow.Join.{Join}
use Rattle.rtl_ir.specs.Signals.{same_bit}
use Rattle.rtl_ir.specs.Tree.{CaseView, Switches, NoSwitch, OneSwitch, Cases, NoCase, OneCase}
use Rattle.match_cells.specs.Numbers.{behind_case, behind_switch, cases_size, switches_size}
use Rattle.proc_latch.specs.Givens.{AllBelow, AllFrom, AreInOrder, case_given, cases_given, has_between, own_given, switches_given, value_at}
use Rattle.proc_latch.specs.declared.given.Given.{Given}
use Rattle.proc_latch.proofs.Fitting.{below_both, below_more, cases_in, from_both, from_less, none_below, none_from, own_in, switches_in, value_none}

-- in order by places
all_at : (k : ℕ) (gs : List Given) (j : ℕ) (d : Given) → AllFrom k gs → j < length gs → k ≤ (get_or gs j d).node
all_at k [] j d h i = absurd (omega arith)
all_at k (g ∷ gs) zero d h i = h.0
all_at k (g ∷ gs) (suc j) d h i = all_at k gs j d h.1 (omega arith)

pub non_decreasing : (gs : List Given) → AreInOrder gs → IsNonDecreasingBy (λ (g : Given). g.node) gs
non_decreasing [] o i j d h k = absurd (omega arith)
non_decreasing (g ∷ gs) o zero zero d h k = omega arith
non_decreasing (g ∷ gs) o zero (suc j) d h k = all_at g.node gs j d o.0 (omega arith)
non_decreasing (g ∷ gs) o (suc i) zero d h k = absurd (omega arith)
non_decreasing (g ∷ gs) o (suc i) (suc j) d h k = non_decreasing gs o.1 i j d (omega arith) (omega arith)

-- what stands before a place, and what from it on
pub below_take : (n : ℕ) (gs : List Given) (at : ℕ) → at ≤ length gs → ((k : ℕ) (d : Given) → k < at → (get_or gs k d).node < n) → AllBelow n (take at gs)
below_take n [] zero h f = tt
below_take n [] (suc at) h f = absurd (omega arith)
below_take n (g ∷ gs) zero h f = tt
below_take n (g ∷ gs) (suc at) h f = (f 0 g (omega arith), below_take n gs at (omega arith) (λ k d i. f (suc k) d (omega arith)))

pub from_drop : (n : ℕ) (gs : List Given) (at : ℕ) → ((k : ℕ) (d : Given) → at ≤ k → k < length gs → n ≤ (get_or gs k d).node) → AllFrom n (drop at gs)
from_drop n [] zero f = tt
from_drop n [] (suc at) f = tt
from_drop n (g ∷ gs) zero f = (f 0 g (omega arith) (omega arith), from_drop n gs zero (λ k d i j. f (suc k) d (omega arith) (omega arith)))
from_drop n (g ∷ gs) (suc at) f = from_drop n gs at (λ k d i j. f (suc k) d (omega arith) (omega arith))

pub order_drop : (gs : List Given) (at : ℕ) → AreInOrder gs → AreInOrder (drop at gs)
order_drop [] zero o = tt
order_drop [] (suc at) o = tt
order_drop (g ∷ gs) zero o = o
order_drop (g ∷ gs) (suc at) o = order_drop gs at o.1

from_later : (n : ℕ) (gs : List Given) (at : ℕ) → AllFrom n gs → AllFrom n (drop at gs)
from_later n [] zero f = tt
from_later n [] (suc at) f = tt
from_later n (g ∷ gs) zero f = f
from_later n (g ∷ gs) (suc at) f = from_later n gs at f.1

pub split_at : (gs : List Given) (at : ℕ) → gs ≡ take at gs ++ drop at gs
split_at [] zero = refl
split_at [] (suc at) = refl
split_at (g ∷ gs) zero = refl
split_at (g ∷ gs) (suc at) = ap (λ x. g ∷ x) (split_at gs at)

any_both : {A : Type 0} (p : A → Bool) (xs ys : List A) → list_any p (xs ++ ys) ≡ (list_any p xs || list_any p ys)
any_both p [] ys = refl
any_both p (x ∷ xs) ys = ap (λ t. p x || t) (any_both p xs ys) ∙ again (p x) (list_any p xs) (list_any p ys)
  where
    again : (a b c : Bool) → (a || (b || c)) ≡ ((a || b) || c)
    again true b c = refl
    again false b c = refl

-- whether a node stands between is told by the first one from the lower number on
module _ (gs : List Given) (order : AreInOrder gs) (low high at : ℕ) (before : AllBelow low (take at gs)) (behind : AllFrom low (drop at gs)) where
  rest_has : has_between gs low high ≡ has_between (drop at gs) low high
  rest_has =
      ap (λ z. has_between z low high) (split_at gs at)
      ∙ any_both (λ (g : Given). nat_le low g.node && nat_lt g.node high) (take at gs) (drop at gs)
      ∙ (λ i. none_below (take at gs) low high before i || has_between (drop at gs) low high)

  pub none_at : length gs ≤ at → has_between gs low high ≡ false
  none_at past = rest_has ∙ ap (λ z. has_between z low high) (empty gs at past)
    where
      empty : (gs : List Given) (at : ℕ) → length gs ≤ at → drop at gs ≡ []
      empty [] zero h = refl
      empty [] (suc at) h = refl
      empty (g ∷ gs) zero h = absurd (omega arith)
      empty (g ∷ gs) (suc at) h = empty gs at (omega arith)

  one_at : (g : Given) (rest : List Given) → drop at gs ≡ g ∷ rest → has_between gs low high ≡ nat_lt g.node high
  one_at g rest e =
      let from : AllFrom low (g ∷ rest) = subst (AllFrom low) e behind in
      let later : AreInOrder (g ∷ rest) = subst AreInOrder e (order_drop gs at order) in
      rest_has ∙ ap (λ z. has_between z low high) e
      ∙ (λ i. (le_true low g.node from.0 i && nat_lt g.node high) || has_between rest low high)
      ∙ by (nat_lt g.node high) refl later.0
    where
      le_true : (a b : ℕ) → a ≤ b → nat_le a b ≡ true
      le_true a b h = grind (arith, h)

      past : (a b : ℕ) → nat_lt a b ≡ false → b ≤ a
      past a b h = grind (arith, h)

      by : (t : Bool) → nat_lt g.node high ≡ t → AllFrom g.node rest → (t || has_between rest low high) ≡ t
      by true f h = refl
      by false f h = none_from rest low high (from_less g.node high rest (past g.node high f) h)

  pub found_at : (d : Given) → at < length gs → (g : Given) → g ≡ get_or gs at d → has_between gs low high ≡ nat_lt g.node high
  found_at d h g e = one_at g (drop (suc at) gs) (drop-cons gs at d h ∙ ap (λ x. x ∷ drop (suc at) gs) (sym e))

-- behind the last of a node no more is given
pub value_ends : (n : ℕ) (gs : List Given) (at : ℕ) (d : Given) → at < length gs → ((get_or gs at d).node ≡ n → ⊥) → AllFrom n gs → AreInOrder gs → (found all : Option SigBit) → option_or (value_at (drop at gs) n) found ≡ all → found ≡ all
value_ends n gs at d h other from order found all so =
    let g = get_or gs at d in
    let next : drop at gs ≡ g ∷ drop (suc at) gs = drop-cons gs at d h in
    let here : AllFrom n (g ∷ drop (suc at) gs) = subst (AllFrom n) next (from_later n gs at from) in
    let later : AreInOrder (g ∷ drop (suc at) gs) = subst AreInOrder next (order_drop gs at order) in
    let more : n + 1 ≤ g.node = omega (arith, here.0, other) in
    let rest : AllFrom (n + 1) (g ∷ drop (suc at) gs) = (more, from_less g.node (n + 1) (drop (suc at) gs) more later.0) in
    sym (ap (λ z. option_or (value_at z n) found) next ∙ ap (λ o. option_or o found) (value_none (g ∷ drop (suc at) gs) n rest)) ∙ so

-- what a tree gives a bit stands in order
order_both : (k : ℕ) (xs ys : List Given) → AreInOrder xs → AllBelow k xs → AreInOrder ys → AllFrom k ys → AreInOrder (xs ++ ys)
order_both k [] ys o b p f = p
order_both k (x ∷ xs) ys o b p f =
    let low = b.0 in
    (from_both x.node xs ys o.0 (from_less k x.node ys (omega (arith, low)) f), order_both k xs ys o.1 b.1 p f)

module _ (b : WireBit) where
  own_order : (n : ℕ) (js : List Join) → AreInOrder (own_given b n js)
  own_order n [] = tt
  own_order n (j ∷ js) = by (same_bit j.bit b) (own_order n js)
    where
      by : (t : Bool) → AreInOrder (own_given b n js) → AreInOrder ((if t then record { node = n; source = j.source } ∷ [] else []) ++ own_given b n js)
      by true o = ((own_in b n js).0, o)
      by false o = o

  mutual
    switches_order : (n : ℕ) (ss : Switches) → AreInOrder (switches_given b n ss)
    switches_order n NoSwitch = tt
    switches_order n (OneSwitch s a cs rest) =
        let m = behind_switch n cs in
        order_both m (cases_given b (n + 1) cs) (switches_given b m rest) (cases_order (n + 1) cs)
        (below_more ((n + 1) + cases_size cs) m (cases_given b (n + 1) cs) (omega arith) (cases_in b (n + 1) cs).1)
        (switches_order m rest) (switches_in b m rest).0

    cases_order : (n : ℕ) (cs : Cases) → AreInOrder (cases_given b n cs)
    cases_order n NoCase = tt
    cases_order n (OneCase ps ls a ss rest) =
        let m = behind_case n ss in
        let own = own_given b n (all_joins ls) in
        let below = switches_given b (n + 1) ss in
        let o = own_in b n (all_joins ls) in
        let c = switches_in b (n + 1) ss in
        order_both m (own ++ below) (cases_given b m rest)
        (order_both (n + 1) own below (own_order n (all_joins ls)) o.1 (switches_order (n + 1) ss) c.0)
        (below_both m own below (below_more (n + 1) m own (omega arith) o.1) (below_more ((n + 1) + switches_size ss) m below (omega arith) c.1))
        (cases_order m rest) (cases_in b m rest).0

  pub case_order : (root : CaseView) → AreInOrder (case_given b 0 root)
  case_order root =
      order_both 1 (own_given b 0 (all_joins root.assigns)) (switches_given b 1 root.switches) (own_order 0 (all_joins root.assigns)) (own_in b 0 (all_joins root.assigns)).1 (switches_order 1 root.switches) (switches_in b 1 root.switches).0
