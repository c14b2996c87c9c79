-- What is given to a run, node by node, is what the assigns of the cases give it.
use Rattle.std.proofs.Common.{◌≡◌, ℕ, suc, ◌+◌, ◌<◌, ◌≤◌, Bool, true, false, List, [], ◌∷◌, ◌++◌, length, Option, Some, None, if◌then◌else◌, refl, sym, ◌∙◌, ap, arith, append_assoc, inl, inr, ◌⊎◌, nat_eq, append-nil, true≢false}
use Rattle.std.specs.Prelude.{◌||◌, ◌&&◌, nat_le, nat_lt, unwrap_or}
use Rattle.std.specs.List.{list_any}
use Rattle.std.specs.Option.{is_some, option_map_or, option_or}
use Rattle.rtl_sig.specs.declared.sig.SigBit.{SigBit}
use Rattle.rtl_sig.specs.declared.sig.WireBit.{WireBit}
use Rattle.rtl_ir.specs.declared.module.Link.{Link}
use Rattle.rtl_ir.specs.Assigns.{assigned, cases_assigns, last_source, switches_assigns}
use Rattle.rtl_ir.specs.Follow.{all_joins, joins}
use Rattle.rtl_ir.specs.Tree.{CaseView, Switches, NoSwitch, OneSwitch, Cases, NoCase, OneCase}
use Rattle.net_model.specs.Lists.{In}
use Rattle.net_model.specs.Proc.Mux.{assigns_run, names_bit, run_value}
use Rattle.proc_mux.specs.Givens.{unknowns}
use Rattle.match_cells.specs.Numbers.{behind_case, behind_switch, cases_size, switches_size}
use Rattle.proc_mux.specs.Trees.{has_between, value_at}
use Rattle.proc_mux.specs.declared.given.Given.{Given}
use Rattle.proc_mux.proofs.Same.{FitsCases, FitsSwitches}
use Rattle.proc_mux.proofs.Sources.{names_is, source_append}
use Rattle.proc_mux.proofs.TreeGivens.{case_given, cases_given, own_given, switches_given}

-- all of these nodes stand before a number, or none does
abbrev AllBelow : ℕ → List Given → Type 0
AllBelow k [] = Unit {0}
AllBelow k (g ∷ gs) = (g.node < k) × AllBelow k gs

abbrev AllFrom : ℕ → List Given → Type 0
AllFrom k [] = Unit {0}
AllFrom k (g ∷ gs) = (k ≤ g.node) × AllFrom k gs

below_more : (j k : ℕ) (gs : List Given) → j ≤ k → AllBelow j gs → AllBelow k gs
below_more j k [] h b = tt
below_more j k (g ∷ gs) h b = (omega (arith, b.0), below_more j k gs h b.1)

from_less : (j k : ℕ) (gs : List Given) → k ≤ j → AllFrom j gs → AllFrom k gs
from_less j k [] h b = tt
from_less j k (g ∷ gs) h b = (omega (arith, b.0), from_less j k gs h b.1)

below_both : (k : ℕ) (xs ys : List Given) → AllBelow k xs → AllBelow k ys → AllBelow k (xs ++ ys)
below_both k [] ys h i = i
below_both k (x ∷ xs) ys h i = (h.0, below_both k xs ys h.1 i)

from_both : (k : ℕ) (xs ys : List Given) → AllFrom k xs → AllFrom k ys → AllFrom k (xs ++ ys)
from_both k [] ys h i = i
from_both k (x ∷ xs) ys h i = (h.0, from_both k xs ys h.1 i)

or_again : (a b c : Bool) → ((a || b) || c) ≡ (a || (b || c))
or_again true b c = refl
or_again false b c = refl

or_false : (a : Bool) → (a || false) ≡ a
or_false true = refl
or_false false = refl

or_across : (a b c d : Bool) → ((a || b) || (c || d)) ≡ ((a || c) || (b || d))
or_across true b c d = refl
or_across false true true d = refl
or_across false true false d = refl
or_across false false true d = refl
or_across false false false d = refl

any_both : {A : Type 0} (p : A → Bool) (xs ys : List A) → list_any p (xs ++ ys) ≡ (list_any p xs || list_any p ys)
any_both p [] ys = refl
any_both p (x ∷ xs) ys = ap (λ t. p x || t) (any_both p xs ys) ∙ sym (or_again (p x) (list_any p xs) (list_any p ys))

assigns_both : (xs ys : List Link) (run : List WireBit) → assigns_run (xs ++ ys) run ≡ (assigns_run xs run || assigns_run ys run)
assigns_both xs ys [] = refl
assigns_both xs ys (b ∷ run) =
    (λ i. any_both (names_bit b) xs ys i || assigns_both xs ys run i)
    ∙ or_across (list_any (names_bit b) xs) (list_any (names_bit b) ys) (assigns_run xs run) (assigns_run ys run)

lt_false : (a b : ℕ) → b ≤ a → nat_lt a b ≡ false
lt_false a b h = grind (arith, h)

le_true : (a b : ℕ) → a ≤ b → nat_le a b ≡ true
le_true a b h = grind (arith, h)

lt_true : (a b : ℕ) → a < b → nat_lt a b ≡ true
lt_true a b h = grind (arith, h)

le_false : (a b : ℕ) → b < a → nat_le a b ≡ false
le_false a b h = grind (arith, h)

and_false : (a : Bool) → (a && false) ≡ false
and_false true = refl
and_false false = refl

none_below : (gs : List Given) (low high : ℕ) → AllBelow low gs → has_between gs low high ≡ false
none_below [] low high h = refl
none_below (g ∷ gs) low high h = (λ i. (le_false low g.node h.0 i && nat_lt g.node high) || none_below gs low high h.1 i)

none_from : (gs : List Given) (low high : ℕ) → AllFrom high gs → has_between gs low high ≡ false
none_from [] low high h = refl
none_from (g ∷ gs) low high h = (λ i. (nat_le low g.node && lt_false g.node high h.0 i) || none_from gs low high h.1 i) ∙ ap (λ t. t || false) (and_false (nat_le low g.node))

eq_other : (a b : ℕ) → a < b ⊎ b < a → nat_eq a b ≡ false
eq_other a b h = grind (arith, h)

eq_self : (a : ℕ) → nat_eq a a ≡ true
eq_self a = grind arith

value_behind : (pre gs : List Given) (n : ℕ) → AllBelow n pre → value_at (pre ++ gs) n ≡ value_at gs n
value_behind [] gs n h = refl
value_behind (g ∷ pre) gs n h = ap (λ t. if t then Some g.value else value_at (pre ++ gs) n) (eq_other g.node n (inl h.0)) ∙ value_behind pre gs n h.1

value_none : (gs : List Given) (n : ℕ) → AllFrom (n + 1) gs → value_at gs n ≡ None
value_none [] n h = refl
value_none (g ∷ gs) n h = let more : n < g.node = omega (arith, h.0) in ap (λ t. if t then Some g.value else value_at gs n) (eq_other g.node n (inr more)) ∙ value_none gs n h.1

module _ (run : List WireBit) where
  own_in : (n : ℕ) (assigns : List Link) → AllFrom n (own_given run n assigns) × AllBelow (n + 1) (own_given run n assigns)
  own_in n assigns = by (assigns_run assigns run)
    where
      by : (t : Bool) → AllFrom n (if t then record { node = n; value = run_value assigns run (unknowns run) } ∷ [] else []) × AllBelow (n + 1) (if t then record { node = n; value = run_value assigns run (unknowns run) } ∷ [] else [])
      by true = ((omega arith, tt), (omega arith, tt))
      by false = (tt, tt)

  mutual
    switches_in : (n : ℕ) (ss : Switches) → AllFrom n (switches_given run n ss) × AllBelow (n + switches_size ss) (switches_given run n ss)
    switches_in n NoSwitch = (tt, tt)
    switches_in n (OneSwitch s a cs rest) =
        let b = behind_switch n cs in
        let c = cases_in (n + 1) cs in
        let r = switches_in b rest in (
          from_both n (cases_given run (n + 1) cs) (switches_given run b rest) (from_less (n + 1) n (cases_given run (n + 1) cs) (omega arith) c.0) (from_less b n (switches_given run b rest) (omega arith) r.0),
          below_both (n + switches_size (OneSwitch s a cs rest)) (cases_given run (n + 1) cs) (switches_given run b rest)
              (below_more ((n + 1) + cases_size cs) (n + switches_size (OneSwitch s a cs rest)) (cases_given run (n + 1) cs) (omega arith) c.1)
              (below_more (b + switches_size rest) (n + switches_size (OneSwitch s a cs rest)) (switches_given run b rest) (omega arith) r.1),
        )

    cases_in : (n : ℕ) (cs : Cases) → AllFrom n (cases_given run n cs) × AllBelow (n + cases_size cs) (cases_given run n cs)
    cases_in n NoCase = (tt, tt)
    cases_in n (OneCase ps ls a ss rest) =
        let b = behind_case n ss in
        let o = own_in n ls in
        let c = switches_in (n + 1) ss in
        let r = cases_in b rest in
        let own = own_given run n ls in
        let below = switches_given run (n + 1) ss in
        let later = cases_given run b rest in (
          from_both n (own ++ below) later (from_both n own below o.0 (from_less (n + 1) n below (omega arith) c.0)) (from_less b n later (omega arith) r.0),
          below_both (n + cases_size (OneCase ps ls a ss rest)) (own ++ below) later
              (below_both (n + cases_size (OneCase ps ls a ss rest)) own below
              (below_more (n + 1) (n + cases_size (OneCase ps ls a ss rest)) own (omega arith) o.1)
              (below_more ((n + 1) + switches_size ss) (n + cases_size (OneCase ps ls a ss rest)) below (omega arith) c.1))
              (below_more (b + cases_size rest) (n + cases_size (OneCase ps ls a ss rest)) later (omega arith) r.1),
        )

  own_has : (n low high : ℕ) (assigns : List Link) → low ≤ n → n < high → has_between (own_given run n assigns) low high ≡ assigns_run assigns run
  own_has n low high assigns h i = by (assigns_run assigns run)
    where
      by : (t : Bool) → has_between (if t then record { node = n; value = run_value assigns run (unknowns run) } ∷ [] else []) low high ≡ t
      by true = (λ k. (le_true low n h k && lt_true n high i k) || false)
      by false = refl

  mutual
    switches_has : (n low high : ℕ) (ss : Switches) → low ≤ n → n + switches_size ss ≤ high → has_between (switches_given run n ss) low high ≡ assigns_run (switches_assigns ss) run
    switches_has n low high NoSwitch h i = none run
      where
        none : (run : List WireBit) → false ≡ assigns_run [] run
        none [] = refl
        none (b ∷ run) = none run
    switches_has n low high (OneSwitch s a cs rest) h i =
        let b = behind_switch n cs in
        any_both (λ (g : Given). nat_le low g.node && nat_lt g.node high) (cases_given run (n + 1) cs) (switches_given run b rest)
        ∙ (λ k. cases_has (n + 1) low high cs (omega arith) (omega arith) k || switches_has b low high rest (omega arith) (omega arith) k)
        ∙ sym (assigns_both (cases_assigns cs) (switches_assigns rest) run)

    cases_has : (n low high : ℕ) (cs : Cases) → low ≤ n → n + cases_size cs ≤ high → has_between (cases_given run n cs) low high ≡ assigns_run (cases_assigns cs) run
    cases_has n low high NoCase h i = none run
      where
        none : (run : List WireBit) → false ≡ assigns_run [] run
        none [] = refl
        none (b ∷ run) = none run
    cases_has n low high (OneCase ps ls a ss rest) h i =
        let b = behind_case n ss in
        let test = λ (g : Given). nat_le low g.node && nat_lt g.node high in
        any_both test (own_given run n ls ++ switches_given run (n + 1) ss) (cases_given run b rest)
        ∙ ap (λ t. t || has_between (cases_given run b rest) low high) (any_both test (own_given run n ls) (switches_given run (n + 1) ss))
        ∙ (λ k. (own_has n low high ls h (omega arith) k || switches_has (n + 1) low high ss (omega arith) (omega arith) k) || cases_has b low high rest (omega arith) (omega arith) k)
        ∙ sym (assigns_both (ls ++ switches_assigns ss) (cases_assigns rest) run ∙ ap (λ t. t || assigns_run (cases_assigns rest) run) (assigns_both ls (switches_assigns ss) run))

-- a line names all bits of a run, or none
abbrev pub IsEven : List WireBit → Link → Type 0
IsEven run l = (t : Bool) × ((b : WireBit) → In b run → names_bit b l ≡ t)

abbrev pub AreEven : List WireBit → List Link → Type 0
AreEven run [] = Unit {0}
AreEven run (l ∷ ls) = IsEven run l × AreEven run ls

pub even_left : (run : List WireBit) (xs ys : List Link) → AreEven run (xs ++ ys) → AreEven run xs
even_left run [] ys h = tt
even_left run (x ∷ xs) ys h = (h.0, even_left run xs ys h.1)

pub even_right : (run : List WireBit) (xs ys : List Link) → AreEven run (xs ++ ys) → AreEven run ys
even_right run [] ys h = h
even_right run (x ∷ xs) ys h = even_right run xs ys h.1

-- lines name all bits of a run, or none
pub even_all : (run : List WireBit) (ls : List Link) → AreEven run ls → (t : Bool) × ((b : WireBit) → In b run → list_any (names_bit b) ls ≡ t)
even_all run [] h = (false, λ b i. refl)
even_all run (l ∷ ls) h =
    let later = even_all run ls h.1 in
    (h.0.0 || later.0, λ b i. (λ k. h.0.1 b i k || later.1 b i k))

any_is : {A : Type 0} (p : A → Bool) (xs : List A) (t : Bool) → ((x : A) → In x xs → p x ≡ t) → list_any p xs ≡ true → t ≡ true
any_is p [] t h e = absurd (true≢false (sym e))
any_is p (x ∷ xs) true h e = refl
any_is p (x ∷ xs) false h e = any_is p xs false (λ y i. h y (inr i)) (sym (ap (λ u. u || list_any p xs) (h x (inl refl))) ∙ e)

none_is : {A : Type 0} (p : A → Bool) (xs : List A) (x : A) → In x xs → list_any p xs ≡ false → p x ≡ false
none_is p [] x i e = absurd i
none_is p (y ∷ ys) x (inl q) e = ap p q ∙ left (p y) (list_any p ys) e
  where
    left : (a b : Bool) → (a || b) ≡ false → a ≡ false
    left true b f = f
    left false b f = refl
none_is p (y ∷ ys) x (inr i) e = none_is p ys x i (right (p y) (list_any p ys) e)
  where
    right : (a b : Bool) → (a || b) ≡ false → b ≡ false
    right true b f = absurd (true≢false f)
    right false b f = f

-- lines that give a bit something name it
pub assigned_is : (ls : List Link) (b : WireBit) → is_some (assigned ls b) ≡ list_any (names_bit b) ls
assigned_is [] b = refl
assigned_is (l ∷ ls) b =
    ap is_some (source_append (joins l.left l.right) (all_joins ls) b)
    ∙ some_or (assigned ls b) (last_source (joins l.left l.right) b)
    ∙ (λ k. names_is (joins l.left l.right) b k || assigned_is ls b k)
  where
    some_or : (x y : Option SigBit) → is_some (option_or x y) ≡ (is_some y || is_some x)
    some_or None None = refl
    some_or None (Some s) = refl
    some_or (Some s) None = refl
    some_or (Some s) (Some r) = refl

-- where all bits are given something, it counts no more what they had
value_given : (ls : List Link) (bits : List WireBit) → ((b : WireBit) → In b bits → is_some (assigned ls b) ≡ true) → (prior other : List SigBit) → length prior ≡ length bits → length other ≡ length bits → run_value ls bits other ≡ run_value ls bits prior
value_given ls [] h prior other p q = refl
value_given ls (b ∷ bits) h [] other p q = absurd (omega arith)
value_given ls (b ∷ bits) h (s ∷ prior) [] p q = absurd (omega arith)
value_given ls (b ∷ bits) h (s ∷ prior) (r ∷ other) p q =
    (λ k. given (assigned ls b) r s (h b (inl refl)) k ∷ value_given ls bits (λ c i. h c (inr i)) prior other (omega arith) (omega arith) k)
  where
    given : (o : Option SigBit) (x y : SigBit) → is_some o ≡ true → option_map_or (λ t. t) o x ≡ option_map_or (λ t. t) o y
    given None x y e = absurd (true≢false (sym e))
    given (Some z) x y e = refl

-- where none is, they keep what they had
value_kept : (ls : List Link) (bits : List WireBit) → ((b : WireBit) → In b bits → is_some (assigned ls b) ≡ false) → (prior : List SigBit) → length prior ≡ length bits → prior ≡ run_value ls bits prior
value_kept ls [] h [] p = refl
value_kept ls [] h (s ∷ prior) p = absurd (omega arith)
value_kept ls (b ∷ bits) h [] p = absurd (omega arith)
value_kept ls (b ∷ bits) h (s ∷ prior) p =
    (λ k. kept (assigned ls b) (h b (inl refl)) k ∷ value_kept ls bits (λ c i. h c (inr i)) prior (omega arith) k)
  where
    kept : (o : Option SigBit) → is_some o ≡ false → s ≡ option_map_or (λ t. t) o s
    kept None e = refl
    kept (Some z) e = absurd (true≢false e)

unknowns_width : (run : List WireBit) → length (unknowns run) ≡ length run
unknowns_width [] = refl
unknowns_width (b ∷ run) = ap suc (unknowns_width run)

module _ (root : Switches) (run : List WireBit) (given : List Given) where
  -- what the case at a node has
  own_value : (n : ℕ) (ls : List Link) (rest : List Given) → AreEven run ls → AllFrom (n + 1) rest → (prior : List SigBit) → length prior ≡ length run → unwrap_or (value_at (own_given run n ls ++ rest) n) prior ≡ run_value ls run prior
  own_value n ls rest even from prior w = by (assigns_run ls run) refl
    where
      by : (t : Bool) → assigns_run ls run ≡ t → unwrap_or (value_at ((if t then record { node = n; value = run_value ls run (unknowns run) } ∷ [] else []) ++ rest) n) prior ≡ run_value ls run prior
      by true e =
          let all = even_all run ls even in
          let yes : all.0 ≡ true = any_is (λ b. list_any (names_bit b) ls) run all.0 all.1 e in
          ap (λ t. unwrap_or (if t then Some (run_value ls run (unknowns run)) else value_at rest n) prior) (eq_self n)
          ∙ value_given ls run (λ b i. assigned_is ls b ∙ all.1 b i ∙ yes) prior (unknowns run) w (unknowns_width run)
      by false e =
          ap (λ o. unwrap_or o prior) (value_none rest n from)
          ∙ value_kept ls run (λ b i. assigned_is ls b ∙ none_is (λ c. list_any (names_bit c) ls) run b i e) prior w

  mutual
    pub fits_switches : (n : ℕ) (ss : Switches) (pre post : List Given) → given ≡ pre ++ (switches_given run n ss ++ post) → AllBelow n pre → AllFrom (n + switches_size ss) post → AreEven run (switches_assigns ss) → FitsSwitches root run given n ss
    fits_switches n NoSwitch pre post e low high even = tt
    fits_switches n (OneSwitch s a cs rest) pre post e low high even =
        let b = behind_switch n cs in
        let here = cases_given run (n + 1) cs in
        let later = switches_given run b rest in
        let test = λ (g : Given). nat_le n g.node && nat_lt g.node b in
        let split : given ≡ pre ++ (here ++ (later ++ post)) = e ∙ ap (λ x. pre ++ x) (append_assoc here later post) in
        let past : AllFrom b (later ++ post) = from_both b later post (switches_in run b rest).0 (from_less (n + switches_size (OneSwitch s a cs rest)) b post (omega arith) high) in (
          ap (λ gs. has_between gs n b) split
              ∙ any_both test pre (here ++ (later ++ post))
              ∙ (λ k. none_below pre n b low k || any_both test here (later ++ post) k)
              ∙ (λ k. cases_has run (n + 1) n b cs (omega arith) (omega arith) k || none_from (later ++ post) n b past k)
              ∙ or_false (assigns_run (cases_assigns cs) run),
          (
            fits_cases (n + 1) cs pre (later ++ post) split (below_more n (n + 1) pre (omega arith) low) (from_less b ((n + 1) + cases_size cs) (later ++ post) (omega arith) past) (even_left run (cases_assigns cs) (switches_assigns rest) even),
            fits_switches b rest (pre ++ here) post (split ∙ sym (append_assoc pre here (later ++ post)))
                (below_both b pre here (below_more n b pre (omega arith) low) (below_more ((n + 1) + cases_size cs) b here (omega arith) (cases_in run (n + 1) cs).1))
                (from_less (n + switches_size (OneSwitch s a cs rest)) (b + switches_size rest) post (omega arith) high)
                (even_right run (cases_assigns cs) (switches_assigns rest) even),
          ),
        )

    pub fits_cases : (n : ℕ) (cs : Cases) (pre post : List Given) → given ≡ pre ++ (cases_given run n cs ++ post) → AllBelow n pre → AllFrom (n + cases_size cs) post → AreEven run (cases_assigns cs) → FitsCases root run given n cs
    fits_cases n NoCase pre post e low high even = tt
    fits_cases n (OneCase ps ls a ss rest) pre post e low high even =
        let b = behind_case n ss in
        let own = own_given run n ls in
        let below = switches_given run (n + 1) ss in
        let later = cases_given run b rest in
        let all = ls ++ switches_assigns ss in
        let split : given ≡ pre ++ (own ++ (below ++ (later ++ post))) =
        e ∙ ap (λ x. pre ++ x) (append_assoc (own ++ below) later post ∙ append_assoc own below (later ++ post)) in
        let past : AllFrom b (later ++ post) = from_both b later post (cases_in run b rest).0 (from_less (n + cases_size (OneCase ps ls a ss rest)) b post (omega arith) high) in
        let mid : AllFrom (n + 1) (below ++ (later ++ post)) = from_both (n + 1) below (later ++ post) (switches_in run (n + 1) ss).0 (from_less b (n + 1) (later ++ post) (omega arith) past) in
        let even_all_here : AreEven run all = even_left run all (cases_assigns rest) even in
        let next : given ≡ (pre ++ own) ++ (below ++ (later ++ post)) = split ∙ sym (append_assoc pre own (below ++ (later ++ post))) in
        let before : AllBelow (n + 1) (pre ++ own) = below_both (n + 1) pre own (below_more n (n + 1) pre (omega arith) low) (own_in run n ls).1 in (
          (λ prior w.
              ap (λ gs. unwrap_or (value_at gs n) prior) split
              ∙ ap (λ o. unwrap_or o prior) (value_behind pre (own ++ (below ++ (later ++ post))) n low)
              ∙ own_value n ls (below ++ (later ++ post)) (even_left run ls (switches_assigns ss) even_all_here) mid prior w),
          (
            fits_switches (n + 1) ss (pre ++ own) (later ++ post) next before (from_less b ((n + 1) + switches_size ss) (later ++ post) (omega arith) past) (even_right run ls (switches_assigns ss) even_all_here),
            fits_cases b rest ((pre ++ own) ++ below) post (next ∙ sym (append_assoc (pre ++ own) below (later ++ post)))
                (below_both b (pre ++ own) below (below_more (n + 1) b (pre ++ own) (omega arith) before) (below_more ((n + 1) + switches_size ss) b below (omega arith) (switches_in run (n + 1) ss).1))
                (from_less (n + cases_size (OneCase ps ls a ss rest)) (b + cases_size rest) post (omega arith) high)
                (even_right run all (cases_assigns rest) even),
          ),
        )

-- what the root case begins with, and the switches below it
pub root_value : (c : CaseView) (run : List WireBit) → AreEven run (c.assigns ++ switches_assigns c.switches) → (prior : List SigBit) → length prior ≡ length run → unwrap_or (value_at (case_given run 0 c) 0) prior ≡ run_value c.assigns run prior
root_value c run even prior w = own_value c.switches run (case_given run 0 c) 0 c.assigns (switches_given run 1 c.switches) (even_left run c.assigns (switches_assigns c.switches) even) (switches_in run 1 c.switches).0 prior w

pub root_fits : (c : CaseView) (run : List WireBit) → AreEven run (c.assigns ++ switches_assigns c.switches) → FitsSwitches c.switches run (case_given run 0 c) 1 c.switches
root_fits c run even =
    fits_switches c.switches run (case_given run 0 c) 1 c.switches (own_given run 0 c.assigns) []
    (ap (λ x. own_given run 0 c.assigns ++ x) (sym (append-nil (switches_given run 1 c.switches))))
    (own_in run 0 c.assigns).1 tt (even_right run c.assigns (switches_assigns c.switches) even)
