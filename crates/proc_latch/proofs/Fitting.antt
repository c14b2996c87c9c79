-- What a bit is given, node by node, is what the assigns of the cases give it.
use Rattle.std.proofs.Common.{◌≡◌, ℕ, ◌+◌, ◌<◌, ◌≤◌, Bool, true, false, List, [], ◌∷◌, ◌++◌, Option, Some, None, if◌then◌else◌, refl, sym, ◌∙◌, ap, arith, append_assoc, inl, inr, ◌⊎◌, nat_eq, append-nil}
use Rattle.std.specs.Prelude.{◌||◌, ◌&&◌, nat_le, nat_lt}
use Rattle.std.specs.List.{list_any}
use Rattle.std.specs.Option.{option_or}
use Rattle.rtl_sig.specs.declared.sig.SigBit.{SigBit}
use Rattle.rtl_sig.specs.declared.sig.WireBit.{WireBit}
use Rattle.rtl_ir.specs.declared.module.Link.{Link}
use Rattle.rtl_ir.specs.Assigns.{assigned, cases_assigns, last_source, switches_assigns}
use Rattle.rtl_ir.specs.Follow.{all_joins, joins}
use Rattle.rtl_ir.specs.declared.follow.Join.{Join}
use Rattle.rtl_ir.specs.Signals.{same_bit}
use Rattle.rtl_ir.specs.Tree.{CaseView, Switches, NoSwitch, OneSwitch, Cases, NoCase, OneCase}
use Rattle.net_model.specs.Proc.Mux.{assigns_run, names_bit}
use Rattle.match_cells.specs.Numbers.{behind_case, behind_switch, cases_size, switches_size}
use Rattle.proc_latch.specs.Givens.{AllBelow, AllFrom, case_given, cases_given, has_between, own_given, switches_given, value_at}
use Rattle.proc_latch.specs.declared.given.Given.{Given}

pub below_more : (j k : ℕ) (gs : List Given) → j ≤ k → AllBelow j gs → AllBelow k gs
below_more j k [] h b = tt
below_more j k (g ∷ gs) h b = (omega (arith, b.0), below_more j k gs h b.1)

pub from_less : (j k : ℕ) (gs : List Given) → k ≤ j → AllFrom j gs → AllFrom k gs
from_less j k [] h b = tt
from_less j k (g ∷ gs) h b = (omega (arith, b.0), from_less j k gs h b.1)

pub below_both : (k : ℕ) (xs ys : List Given) → AllBelow k xs → AllBelow k ys → AllBelow k (xs ++ ys)
below_both k [] ys h i = i
below_both k (x ∷ xs) ys h i = (h.0, below_both k xs ys h.1 i)

pub from_both : (k : ℕ) (xs ys : List Given) → AllFrom k xs → AllFrom k ys → AllFrom k (xs ++ ys)
from_both k [] ys h i = i
from_both k (x ∷ xs) ys h i = (h.0, from_both k xs ys h.1 i)

pub or_none : (o : Option SigBit) → o ≡ option_or o None
or_none None = refl
or_none (Some s) = refl

or_again : (a b c : Bool) → ((a || b) || c) ≡ (a || (b || c))
or_again true b c = refl
or_again false b c = refl

or_false : (a : Bool) → (a || false) ≡ a
or_false true = refl
or_false false = refl

any_both : {A : Type 0} (p : A → Bool) (xs ys : List A) → list_any p (xs ++ ys) ≡ (list_any p xs || list_any p ys)
any_both p [] ys = refl
any_both p (x ∷ xs) ys = ap (λ t. p x || t) (any_both p xs ys) ∙ sym (or_again (p x) (list_any p xs) (list_any p ys))

lt_false : (a b : ℕ) → b ≤ a → nat_lt a b ≡ false
lt_false a b h = grind (arith, h)

le_true : (a b : ℕ) → a ≤ b → nat_le a b ≡ true
le_true a b h = grind (arith, h)

lt_true : (a b : ℕ) → a < b → nat_lt a b ≡ true
lt_true a b h = grind (arith, h)

le_false : (a b : ℕ) → b < a → nat_le a b ≡ false
le_false a b h = grind (arith, h)

and_false : (a : Bool) → (a && false) ≡ false
and_false true = refl
and_false false = refl

pub none_below : (gs : List Given) (low high : ℕ) → AllBelow low gs → has_between gs low high ≡ false
none_below [] low high h = refl
none_below (g ∷ gs) low high h = (λ i. (le_false low g.node h.0 i && nat_lt g.node high) || none_below gs low high h.1 i)

pub none_from : (gs : List Given) (low high : ℕ) → AllFrom high gs → has_between gs low high ≡ false
none_from [] low high h = refl
none_from (g ∷ gs) low high h = (λ i. (nat_le low g.node && lt_false g.node high h.0 i) || none_from gs low high h.1 i) ∙ ap (λ t. t || false) (and_false (nat_le low g.node))

eq_other : (a b : ℕ) → a < b ⊎ b < a → nat_eq a b ≡ false
eq_other a b h = grind (arith, h)

eq_self : (a : ℕ) → nat_eq a a ≡ true
eq_self a = grind arith

pub value_behind : (pre gs : List Given) (n : ℕ) → AllBelow n pre → value_at (pre ++ gs) n ≡ value_at gs n
value_behind [] gs n h = refl
value_behind (g ∷ pre) gs n h =
    (λ i. option_or (value_behind pre gs n h.1 i) (if eq_other g.node n (inl h.0) i then Some g.source else None)) ∙ sym (or_none (value_at gs n))

pub value_none : (gs : List Given) (n : ℕ) → AllFrom (n + 1) gs → value_at gs n ≡ None
value_none [] n h = refl
value_none (g ∷ gs) n h =
    let more : n < g.node = omega (arith, h.0) in
    λ i. option_or (value_none gs n h.1 i) (if eq_other g.node n (inr more) i then Some g.source else None)

-- a place names the bit
abbrev names : WireBit → Join → Bool
names b j = same_bit j.bit b

any_joins : (b : WireBit) (ls : List Link) → list_any (names b) (all_joins ls) ≡ list_any (names_bit b) ls
any_joins b [] = refl
any_joins b (l ∷ ls) =
    any_both (names b) (joins l.left l.right) (all_joins ls) ∙ ap (λ t. names_bit b l || t) (any_joins b ls)

module _ (b : WireBit) where
  pub own_in : (n : ℕ) (js : List Join) → AllFrom n (own_given b n js) × AllBelow (n + 1) (own_given b n js)
  own_in n [] = (tt, tt)
  own_in n (j ∷ js) = by (same_bit j.bit b) (own_in n js)
    where
      by : (t : Bool) → AllFrom n (own_given b n js) × AllBelow (n + 1) (own_given b n js)
          → AllFrom n ((if t then record { node = n; source = j.source } ∷ [] else []) ++ own_given b n js) × AllBelow (n + 1) ((if t then record { node = n; source = j.source } ∷ [] else []) ++ own_given b n js)
      by true h = ((omega arith, h.0), (omega arith, h.1))
      by false h = h

  -- what the case at a node has
  own_value : (n : ℕ) (js : List Join) (rest : List Given) → AllFrom (n + 1) rest → value_at (own_given b n js ++ rest) n ≡ last_source js b
  own_value n [] rest from = value_none rest n from
  own_value n (j ∷ js) rest from = by (same_bit j.bit b) (own_value n js rest from)
    where
      by : (t : Bool) → value_at (own_given b n js ++ rest) n ≡ last_source js b
          → value_at (((if t then record { node = n; source = j.source } ∷ [] else []) ++ own_given b n js) ++ rest) n ≡ option_or (last_source js b) (if t then Some j.source else None)
      by true e = λ i. option_or (e i) (if eq_self n i then Some j.source else None)
      by false e = e ∙ or_none (last_source js b)

  own_has : (n low high : ℕ) (js : List Join) → low ≤ n → n < high → has_between (own_given b n js) low high ≡ list_any (names b) js
  own_has n low high [] h i = refl
  own_has n low high (j ∷ js) h i = by (same_bit j.bit b) (own_has n low high js h i)
    where
      by : (t : Bool) → has_between (own_given b n js) low high ≡ list_any (names b) js
          → has_between ((if t then record { node = n; source = j.source } ∷ [] else []) ++ own_given b n js) low high ≡ (t || list_any (names b) js)
      by true e = λ k. (le_true low n h k && lt_true n high i k) || e k
      by false e = e

  mutual
    pub switches_in : (n : ℕ) (ss : Switches) → AllFrom n (switches_given b n ss) × AllBelow (n + switches_size ss) (switches_given b n ss)
    switches_in n NoSwitch = (tt, tt)
    switches_in n (OneSwitch s a cs rest) =
        let m = behind_switch n cs in
        let c = cases_in (n + 1) cs in
        let r = switches_in m rest in (
          from_both n (cases_given b (n + 1) cs) (switches_given b m rest) (from_less (n + 1) n (cases_given b (n + 1) cs) (omega arith) c.0) (from_less m n (switches_given b m rest) (omega arith) r.0),
          below_both (n + switches_size (OneSwitch s a cs rest)) (cases_given b (n + 1) cs) (switches_given b m rest)
              (below_more ((n + 1) + cases_size cs) (n + switches_size (OneSwitch s a cs rest)) (cases_given b (n + 1) cs) (omega arith) c.1)
              (below_more (m + switches_size rest) (n + switches_size (OneSwitch s a cs rest)) (switches_given b m rest) (omega arith) r.1),
        )

    pub cases_in : (n : ℕ) (cs : Cases) → AllFrom n (cases_given b n cs) × AllBelow (n + cases_size cs) (cases_given b n cs)
    cases_in n NoCase = (tt, tt)
    cases_in n (OneCase ps ls a ss rest) =
        let m = behind_case n ss in
        let o = own_in n (all_joins ls) in
        let c = switches_in (n + 1) ss in
        let r = cases_in m rest in
        let own = own_given b n (all_joins ls) in
        let below = switches_given b (n + 1) ss in
        let later = cases_given b m rest in (
          from_both n (own ++ below) later (from_both n own below o.0 (from_less (n + 1) n below (omega arith) c.0)) (from_less m n later (omega arith) r.0),
          below_both (n + cases_size (OneCase ps ls a ss rest)) (own ++ below) later
              (below_both (n + cases_size (OneCase ps ls a ss rest)) own below
              (below_more (n + 1) (n + cases_size (OneCase ps ls a ss rest)) own (omega arith) o.1)
              (below_more ((n + 1) + switches_size ss) (n + cases_size (OneCase ps ls a ss rest)) below (omega arith) c.1))
              (below_more (m + cases_size rest) (n + cases_size (OneCase ps ls a ss rest)) later (omega arith) r.1),
        )

  mutual
    switches_has : (n low high : ℕ) (ss : Switches) → low ≤ n → n + switches_size ss ≤ high → has_between (switches_given b n ss) low high ≡ list_any (names_bit b) (switches_assigns ss)
    switches_has n low high NoSwitch h i = refl
    switches_has n low high (OneSwitch s a cs rest) h i =
        let m = behind_switch n cs in
        any_both (λ (g : Given). nat_le low g.node && nat_lt g.node high) (cases_given b (n + 1) cs) (switches_given b m rest)
        ∙ (λ k. cases_has (n + 1) low high cs (omega arith) (omega arith) k || switches_has m low high rest (omega arith) (omega arith) k)
        ∙ sym (any_both (names_bit b) (cases_assigns cs) (switches_assigns rest))

    cases_has : (n low high : ℕ) (cs : Cases) → low ≤ n → n + cases_size cs ≤ high → has_between (cases_given b n cs) low high ≡ list_any (names_bit b) (cases_assigns cs)
    cases_has n low high NoCase h i = refl
    cases_has n low high (OneCase ps ls a ss rest) h i =
        let m = behind_case n ss in
        let test = λ (g : Given). nat_le low g.node && nat_lt g.node high in
        let own = own_given b n (all_joins ls) in
        any_both test (own ++ switches_given b (n + 1) ss) (cases_given b m rest)
        ∙ ap (λ t. t || has_between (cases_given b m rest) low high) (any_both test own (switches_given b (n + 1) ss))
        ∙ (λ k. ((own_has n low high (all_joins ls) h (omega arith) ∙ any_joins b ls) k || switches_has (n + 1) low high ss (omega arith) (omega arith) k) || cases_has m low high rest (omega arith) (omega arith) k)
        ∙ sym (any_both (names_bit b) (ls ++ switches_assigns ss) (cases_assigns rest) ∙ ap (λ t. t || list_any (names_bit b) (cases_assigns rest)) (any_both (names_bit b) ls (switches_assigns ss)))

-- what is given to a bit is what the assigns of the cases give it
module _ (b : WireBit) (given : List Given) where
  abbrev mutual
    pub FitsSwitches : ℕ → Switches → Type 0
    FitsSwitches n NoSwitch = Unit {0}
    FitsSwitches n (OneSwitch signal attributes cases rest) =
        (has_between given n (behind_switch n cases) ≡ assigns_run (cases_assigns cases) (b ∷ [])) × (FitsCases (n + 1) cases × FitsSwitches (behind_switch n cases) rest)

    pub FitsCases : ℕ → Cases → Type 0
    FitsCases n NoCase = Unit {0}
    FitsCases n (OneCase patterns assigns attributes switches rest) =
        (value_at given n ≡ assigned assigns b) × (FitsSwitches (n + 1) switches × FitsCases (behind_case n switches) rest)

  mutual
    pub fits_switches : (n : ℕ) (ss : Switches) (pre post : List Given) → given ≡ pre ++ (switches_given b n ss ++ post) → AllBelow n pre → AllFrom (n + switches_size ss) post → FitsSwitches n ss
    fits_switches n NoSwitch pre post e low high = tt
    fits_switches n (OneSwitch s a cs rest) pre post e low high =
        let m = behind_switch n cs in
        let here = cases_given b (n + 1) cs in
        let later = switches_given b m rest in
        let test = λ (g : Given). nat_le n g.node && nat_lt g.node m in
        let split : given ≡ pre ++ (here ++ (later ++ post)) = e ∙ ap (λ x. pre ++ x) (append_assoc here later post) in
        let past : AllFrom m (later ++ post) = from_both m later post (switches_in b m rest).0 (from_less (n + switches_size (OneSwitch s a cs rest)) m post (omega arith) high) in (
          ap (λ gs. has_between gs n m) split
              ∙ any_both test pre (here ++ (later ++ post))
              ∙ (λ k. none_below pre n m low k || any_both test here (later ++ post) k)
              ∙ (λ k. cases_has b (n + 1) n m cs (omega arith) (omega arith) k || none_from (later ++ post) n m past k)
              ∙ or_false (list_any (names_bit b) (cases_assigns cs))
              ∙ sym (or_false (list_any (names_bit b) (cases_assigns cs))),
          (
            fits_cases (n + 1) cs pre (later ++ post) split (below_more n (n + 1) pre (omega arith) low) (from_less m ((n + 1) + cases_size cs) (later ++ post) (omega arith) past),
            fits_switches m rest (pre ++ here) post (split ∙ sym (append_assoc pre here (later ++ post)))
                (below_both m pre here (below_more n m pre (omega arith) low) (below_more ((n + 1) + cases_size cs) m here (omega arith) (cases_in b (n + 1) cs).1))
                (from_less (n + switches_size (OneSwitch s a cs rest)) (m + switches_size rest) post (omega arith) high),
          ),
        )

    pub fits_cases : (n : ℕ) (cs : Cases) (pre post : List Given) → given ≡ pre ++ (cases_given b n cs ++ post) → AllBelow n pre → AllFrom (n + cases_size cs) post → FitsCases n cs
    fits_cases n NoCase pre post e low high = tt
    fits_cases n (OneCase ps ls a ss rest) pre post e low high =
        let m = behind_case n ss in
        let own = own_given b n (all_joins ls) in
        let below = switches_given b (n + 1) ss in
        let later = cases_given b m rest in
        let split : given ≡ pre ++ (own ++ (below ++ (later ++ post))) =
        e ∙ ap (λ x. pre ++ x) (append_assoc (own ++ below) later post ∙ append_assoc own below (later ++ post)) in
        let past : AllFrom m (later ++ post) = from_both m later post (cases_in b m rest).0 (from_less (n + cases_size (OneCase ps ls a ss rest)) m post (omega arith) high) in
        let mid : AllFrom (n + 1) (below ++ (later ++ post)) = from_both (n + 1) below (later ++ post) (switches_in b (n + 1) ss).0 (from_less m (n + 1) (later ++ post) (omega arith) past) in
        let next : given ≡ (pre ++ own) ++ (below ++ (later ++ post)) = split ∙ sym (append_assoc pre own (below ++ (later ++ post))) in
        let before : AllBelow (n + 1) (pre ++ own) = below_both (n + 1) pre own (below_more n (n + 1) pre (omega arith) low) (own_in b n (all_joins ls)).1 in (
          ap (λ gs. value_at gs n) split
              ∙ value_behind pre (own ++ (below ++ (later ++ post))) n low
              ∙ own_value b n (all_joins ls) (below ++ (later ++ post)) mid,
          (
            fits_switches (n + 1) ss (pre ++ own) (later ++ post) next before (from_less m ((n + 1) + switches_size ss) (later ++ post) (omega arith) past),
            fits_cases m rest ((pre ++ own) ++ below) post (next ∙ sym (append_assoc (pre ++ own) below (later ++ post)))
                (below_both m (pre ++ own) below (below_more (n + 1) m (pre ++ own) (omega arith) before) (below_more ((n + 1) + switches_size ss) m below (omega arith) (switches_in b (n + 1) ss).1))
                (from_less (n + cases_size (OneCase ps ls a ss rest)) (m + cases_size rest) post (omega arith) high),
          ),
        )

-- what the root case begins with, and the switches below it
pub root_value : (c : CaseView) (b : WireBit) → value_at (case_given b 0 c) 0 ≡ assigned c.assigns b
root_value c b = own_value b 0 (all_joins c.assigns) (switches_given b 1 c.switches) (switches_in b 1 c.switches).0

pub root_fits : (c : CaseView) (b : WireBit) → FitsSwitches b (case_given b 0 c) 1 c.switches
root_fits c b =
    fits_switches b (case_given b 0 c) 1 c.switches (own_given b 0 (all_joins c.assigns)) []
    (ap (λ x. own_given b 0 (all_joins c.assigns) ++ x) (sym (append-nil (switches_given b 1 c.switches))))
    (own_in b 0 (all_joins c.assigns)).1 tt
