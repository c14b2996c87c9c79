-- The rows of the bits of a run, which the same assigns name, give it what the assigns of the cases give it.
use Rattle.std.proofs.Common.{◌≡◌, ℕ, zero, suc, ◌+◌, Bool, true, false, List, [], ◌∷◌, ◌++◌, length, drop, map, Option, Some, None, if◌then◌else◌, refl, sym, ◌∙◌, ap, arith, inl, inr, append_assoc, append-nil, length-append, zero-add, true≢false}
use Rattle.std.specs.Prelude.{◌||◌}
use Rattle.std.specs.List.{list_any}
use Rattle.std.specs.Option.{is_some, option_map_or}
use Rattle.rtl_bits.specs.declared.bit.Bit.TheVariants.{X}
use Rattle.rtl_sig.specs.declared.sig.SigBit.{SigBit}
use Rattle.rtl_sig.specs.declared.sig.SigBit.TheVariants.{Fixed}
use Rattle.rtl_sig.specs.declared.sig.WireBit.{WireBit}
use Rattle.rtl_ir.specs.declared.module.Link.{Link}
use Rattle.rtl_ir.specs.Assigns.{assigned, case_assigns, cases_assigns, switches_assigns}
use Rattle.rtl_ir.specs.Tree.{CaseView, Switches, NoSwitch, OneSwitch, Cases, NoCase, OneCase}
use Rattle.net_model.specs.Lists.{In}
use Rattle.net_model.specs.Proc.Mux.{assigns_run, names_bit, run_value}
use Rattle.match_cells.specs.Numbers.{behind_case, behind_switch}
use Rattle.proc_mux.specs.Givens.{unknowns}
use Rattle.proc_mux.specs.Rows.{case_row, placed, places_given, source_at, tree_given}
use Rattle.proc_mux.specs.declared.given.Given.{Given}
use Rattle.proc_mux.specs.declared.rows.Placed.{Placed}
use Rattle.proc_mux.proofs.Fitting.{AreEven, assigned_is, even_all, even_left, even_right}
use Rattle.proc_mux.proofs.RowParts.{cases_part, own_row, row_is, row_with, switches_part}
use Rattle.proc_mux.proofs.TreeGivens.{case_given, cases_given, own_given, switches_given}

-- what is left of a row
drop_nil : (k : ℕ) → drop {A = Placed} k [] ≡ []
drop_nil zero = refl
drop_nil (suc k) = refl

drop_more : (k m : ℕ) (row : List Placed) → drop (k + m) row ≡ drop m (drop k row)
drop_more zero m row = ap (λ j. drop j row) (zero-add m)
drop_more (suc k) m [] = drop_nil (suc k + m) ∙ sym (drop_nil m)
drop_more (suc k) m (p ∷ row) =
    let e : suc k + m ≡ suc (k + m) = omega arith in
    ap (λ j. drop j (p ∷ row)) e ∙ drop_more k m row

drop_front : (xs ys : List Placed) → drop (length xs) (xs ++ ys) ≡ ys
drop_front [] ys = refl
drop_front (x ∷ xs) ys = drop_front xs ys

source_is : (row : List Placed) (at : ℕ) (p : Placed) (rest : List Placed) → drop at row ≡ p ∷ rest → source_at row at ≡ p.source
source_is [] zero p rest e = absurd (cc)
source_is [] (suc at) p rest e = absurd (cc)
source_is (x ∷ row) zero p rest e = let same : x ≡ p = cc in ap (λ (q : Placed). q.source) same
source_is (x ∷ row) (suc at) p rest e = source_is row at p rest e

-- tests of all bits of a run
none_any : {A : Type 0} (p : A → Bool) (xs : List A) → ((x : A) → In x xs → p x ≡ false) → list_any p xs ≡ false
none_any p [] h = refl
none_any p (x ∷ xs) h = (λ i. h x (inl refl) i || none_any p xs (λ y j. h y (inr j)) i)

-- what a case gives
abbrev one_given : ℕ → List SigBit → Given
one_given n value = record { node = n; value = value }

-- no bit is given anything
mutual
  nothing_below : (n : ℕ) (ss : Switches) → [] ≡ switches_given [] n ss
  nothing_below n NoSwitch = refl
  nothing_below n (OneSwitch s a cs rest) = (λ i. nothing_in (n + 1) cs i ++ nothing_below (behind_switch n cs) rest i)

  nothing_in : (n : ℕ) (cs : Cases) → [] ≡ cases_given [] n cs
  nothing_in n NoCase = refl
  nothing_in n (OneCase ps ls a ss rest) = (λ i. nothing_below (n + 1) ss i ++ nothing_in (behind_case n ss) rest i)

module _ (rows : WireBit → List Placed) (first : WireBit) (others : List WireBit) where
  abbrev run : List WireBit
  run = first ∷ others

  given_both : (at : ℕ) (xs ys : List Placed) → places_given rows run at (xs ++ ys) ≡ places_given rows run at xs ++ places_given rows run (at + length xs) ys
  given_both at [] ys = let e : at ≡ at + 0 = omega arith in ap (λ k. places_given rows run k ys) e
  given_both at (x ∷ xs) ys =
      let e : (at + 1) + length xs ≡ at + length (x ∷ xs) = omega arith in
      let one = one_given x.node (map (λ b. source_at (rows b) at) run) in
      ap (λ gs. one ∷ gs) (given_both (at + 1) xs ys ∙ ap (λ k. places_given rows run (at + 1) xs ++ places_given rows run k ys) e)

  -- from a place on the rows of the bits have this part, and then this
  abbrev Has : ℕ → (WireBit → List Placed) → (WireBit → List Placed) → Type 0
  Has at part post = (b : WireBit) → In b run → drop at (rows b) ≡ part b ++ post b

  has_first : (at : ℕ) (part more post : WireBit → List Placed) → Has at (λ b. part b ++ more b) post → Has at part (λ b. more b ++ post b)
  has_first at part more post h b i = h b i ∙ append_assoc (part b) (more b) (post b)

  has_next : (at : ℕ) (part more post : WireBit → List Placed) → ((b : WireBit) → In b run → length (part b) ≡ length (part first)) → Has at (λ b. part b ++ more b) post → Has (at + length (part first)) more post
  has_next at part more post size h b i =
      ap (λ m. drop (at + m) (rows b)) (sym (size b i))
      ∙ drop_more at (length (part b)) (rows b)
      ∙ ap (drop (length (part b))) (has_first at part more post h b i)
      ∙ drop_front (part b) (more b ++ post b)

  -- the same assigns give all bits something
  same_some : (ls : List Link) → AreEven run ls → (b : WireBit) → In b run → is_some (assigned ls b) ≡ is_some (assigned ls first)
  same_some ls even b i =
      let all = even_all run ls even in
      assigned_is ls b ∙ all.1 b i ∙ sym (assigned_is ls first ∙ all.1 first (inl refl))

  own_size : (n : ℕ) (ls : List Link) → AreEven run ls → (b : WireBit) → In b run → length (own_row b n ls) ≡ length (own_row first n ls)
  own_size n ls even b i = by (assigned ls b) (assigned ls first) (same_some ls even b i)
    where
      by : (o q : Option SigBit) → is_some o ≡ is_some q → length (row_with n o) ≡ length (row_with n q)
      by None None e = refl
      by None (Some r) e = absurd (true≢false (sym e))
      by (Some s) None e = absurd (true≢false e)
      by (Some s) (Some r) e = refl

  both_size : (n : ℕ) (ls : List Link) (ss : Switches) → AreEven run ls → ((b : WireBit) → In b run → length (switches_part b (n + 1) ss) ≡ length (switches_part first (n + 1) ss))
      → (b : WireBit) → In b run → length (own_row b n ls ++ switches_part b (n + 1) ss) ≡ length (own_row first n ls ++ switches_part first (n + 1) ss)
  both_size n ls ss even below b i =
      let x = own_size n ls even b i in
      let y = below b i in
      omega (arith, length-append (own_row b n ls) (switches_part b (n + 1) ss), length-append (own_row first n ls) (switches_part first (n + 1) ss), x, y)

  mutual
    below_size : (n : ℕ) (ss : Switches) → AreEven run (switches_assigns ss) → (b : WireBit) → In b run → length (switches_part b n ss) ≡ length (switches_part first n ss)
    below_size n NoSwitch even b i = refl
    below_size n (OneSwitch s a cs rest) even b i =
        let next = behind_switch n cs in
        let x = cases_size_same (n + 1) cs (even_left run (cases_assigns cs) (switches_assigns rest) even) b i in
        let y = below_size next rest (even_right run (cases_assigns cs) (switches_assigns rest) even) b i in
        omega (arith, length-append (cases_part b (n + 1) cs) (switches_part b next rest), length-append (cases_part first (n + 1) cs) (switches_part first next rest), x, y)

    cases_size_same : (n : ℕ) (cs : Cases) → AreEven run (cases_assigns cs) → (b : WireBit) → In b run → length (cases_part b n cs) ≡ length (cases_part first n cs)
    cases_size_same n NoCase even b i = refl
    cases_size_same n (OneCase ps ls a ss rest) even b i =
        let next = behind_case n ss in
        let here = ls ++ switches_assigns ss in
        let one = even_left run here (cases_assigns rest) even in
        let x = both_size n ls ss (even_left run ls (switches_assigns ss) one) (below_size (n + 1) ss (even_right run ls (switches_assigns ss) one)) b i in
        let y = cases_size_same next rest (even_right run here (cases_assigns rest) even) b i in
        omega (arith, length-append (own_row b n ls ++ switches_part b (n + 1) ss) (cases_part b next rest), length-append (own_row first n ls ++ switches_part first (n + 1) ss) (cases_part first next rest), x, y)

  -- what the assigns of one case give
  module _ (at n : ℕ) (ls : List Link) (post : WireBit → List Placed) (has : Has at (λ b. own_row b n ls) post) where
    value_here : (b : WireBit) → In b run → is_some (assigned ls b) ≡ true → source_at (rows b) at ≡ option_map_or (λ t. t) (assigned ls b) (Fixed X)
    value_here b i some = by (assigned ls b) some (has b i)
      where
        by : (o : Option SigBit) → is_some o ≡ true → drop at (rows b) ≡ row_with n o ++ post b → source_at (rows b) at ≡ option_map_or (λ t. t) o (Fixed X)
        by None e d = absurd (true≢false (sym e))
        by (Some s) e d = source_is (rows b) at (placed n s) (post b) d

    values_here : (bits : List WireBit) → ((b : WireBit) → In b bits → In b run) → ((b : WireBit) → In b run → is_some (assigned ls b) ≡ true) → map (λ b. source_at (rows b) at) bits ≡ run_value ls bits (unknowns bits)
    values_here [] inside some = refl
    values_here (b ∷ bits) inside some =
        (λ k. value_here b (inside b (inl refl)) (some b (inside b (inl refl))) k ∷ values_here bits (λ c j. inside c (inr j)) some k)

    own_is : AreEven run ls → places_given rows run at (own_row first n ls) ≡ own_given run n ls
    own_is even = by (assigned ls first) refl
      where
        as_first : (t : Bool) → is_some (assigned ls first) ≡ t → (b : WireBit) → In b run → list_any (names_bit b) ls ≡ t
        as_first t e b i = sym (assigned_is ls b) ∙ same_some ls even b i ∙ e

        by : (o : Option SigBit) → assigned ls first ≡ o → places_given rows run at (row_with n o) ≡ own_given run n ls
        by None e =
            let none = none_any (λ b. list_any (names_bit b) ls) run (as_first false (ap is_some e)) in
            ap (λ t. if t then one_given n (run_value ls run (unknowns run)) ∷ [] else []) (sym none)
        by (Some s) e =
            let some = as_first true (ap is_some e) in
            let any : assigns_run ls run ≡ true = ap (λ t. t || list_any (λ b. list_any (names_bit b) ls) others) (some first (inl refl)) in
            let value = values_here run (λ b i. i) (λ b i. assigned_is ls b ∙ some b i) in
            ap (λ v. one_given n v ∷ []) value
            ∙ ap (λ t. if t then one_given n (run_value ls run (unknowns run)) ∷ [] else []) (sym any)

  case_is : (at n : ℕ) (ls : List Link) (ss : Switches) (post : WireBit → List Placed) → AreEven run ls
      → ((k : ℕ) (later : WireBit → List Placed) → Has k (λ b. switches_part b (n + 1) ss) later → places_given rows run k (switches_part first (n + 1) ss) ≡ switches_given run (n + 1) ss)
      → Has at (λ b. own_row b n ls ++ switches_part b (n + 1) ss) post
      → places_given rows run at (own_row first n ls ++ switches_part first (n + 1) ss) ≡ own_given run n ls ++ switches_given run (n + 1) ss
  case_is at n ls ss post even below has =
      let part = λ (b : WireBit). own_row b n ls in
      let more = λ (b : WireBit). switches_part b (n + 1) ss in
      given_both at (part first) (more first)
      ∙ (λ i.
      own_is at n ls (λ b. more b ++ post b) (has_first at part more post has) even i
      ++ below (at + length (part first)) post (has_next at part more post (own_size n ls even) has) i)

  mutual
    below_is : (at n : ℕ) (ss : Switches) (post : WireBit → List Placed) → AreEven run (switches_assigns ss) → Has at (λ b. switches_part b n ss) post → places_given rows run at (switches_part first n ss) ≡ switches_given run n ss
    below_is at n NoSwitch post even has = refl
    below_is at n (OneSwitch s a cs rest) post even has =
        let next = behind_switch n cs in
        let part = λ (b : WireBit). cases_part b (n + 1) cs in
        let more = λ (b : WireBit). switches_part b next rest in
        let one = even_left run (cases_assigns cs) (switches_assigns rest) even in
        let two = even_right run (cases_assigns cs) (switches_assigns rest) even in
        given_both at (part first) (more first)
        ∙ (λ i.
        cases_is at (n + 1) cs (λ b. more b ++ post b) one (has_first at part more post has) i
        ++ below_is (at + length (part first)) next rest post two (has_next at part more post (cases_size_same (n + 1) cs one) has) i)

    cases_is : (at n : ℕ) (cs : Cases) (post : WireBit → List Placed) → AreEven run (cases_assigns cs) → Has at (λ b. cases_part b n cs) post → places_given rows run at (cases_part first n cs) ≡ cases_given run n cs
    cases_is at n NoCase post even has = refl
    cases_is at n (OneCase ps ls a ss rest) post even has =
        let next = behind_case n ss in
        let here = ls ++ switches_assigns ss in
        let part = λ (b : WireBit). own_row b n ls ++ switches_part b (n + 1) ss in
        let more = λ (b : WireBit). cases_part b next rest in
        let one = even_left run here (cases_assigns rest) even in
        let own = even_left run ls (switches_assigns ss) one in
        let inner = even_right run ls (switches_assigns ss) one in
        let two = even_right run here (cases_assigns rest) even in
        given_both at (part first) (more first)
        ∙ (λ i.
        case_is at n ls ss (λ b. more b ++ post b) own (λ k later h. below_is k (n + 1) ss later inner h) (has_first at part more post has) i
        ++ cases_is (at + length (part first)) next rest post two (has_next at part more post (both_size n ls ss own (below_size (n + 1) ss inner)) has) i)

-- the rows of a tree give an even run what its cases give it
pub given_is : (root : CaseView) (run : List WireBit) → AreEven run (case_assigns root) → tree_given root run ≡ case_given run 0 root
given_is root [] even = nothing_below 1 root.switches
given_is root (first ∷ others) even =
    let run = first ∷ others in
    let rows = λ (b : WireBit). case_row 0 b root [] in
    let part = λ (b : WireBit). own_row b 0 root.assigns ++ switches_part b 1 root.switches in
    let own = even_left run root.assigns (switches_assigns root.switches) even in
    let inner = even_right run root.assigns (switches_assigns root.switches) even in
    ap (places_given rows run 0) (row_is root first)
    ∙ case_is rows first others 0 0 root.assigns root.switches (λ b. []) own
    (λ k later h. below_is rows first others k 1 root.switches later inner h)
    (λ b i. row_is root b ∙ sym (append-nil (part b)))
