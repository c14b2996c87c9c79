-- The row of a bit, case after case: what each case gives that assigns it.
use Rattle.std.proofs.Common.{◌≡◌, ℕ, suc, ◌+◌, ◌-◌, ◌<◌, ◌≤◌, Bool, true, false, List, [], ◌∷◌, ◌++◌, length, take, Option, Some, None, if◌then◌else◌, nat_eq, refl, sym, ◌∙◌, ap, arith, append_assoc, append-nil, length-append}
use Rattle.std.specs.Prelude.{slice_get}
use Rattle.std.specs.Option.{option_map_or, option_or}
use Rattle.rtl_sig.specs.declared.sig.SigBit.{SigBit}
use Rattle.rtl_sig.specs.declared.sig.WireBit.{WireBit}
use Rattle.rtl_ir.specs.declared.follow.Join.{Join}
use Rattle.rtl_ir.specs.declared.module.Link.{Link}
use Rattle.rtl_ir.specs.Assigns.{assigned, last_source}
use Rattle.rtl_ir.specs.Follow.{all_joins}
use Rattle.rtl_ir.specs.Signals.{same_bit}
use Rattle.rtl_ir.specs.Tree.{CaseView, Switches, NoSwitch, OneSwitch, Cases, NoCase, OneCase}
use Rattle.match_cells.specs.Numbers.{behind_case, behind_switch, cases_size, switches_size}
use Rattle.proc_mux.specs.Rows.{case_row, cases_row, ends_at, joins_row, placed, switches_row, with_placed}
use Rattle.proc_mux.specs.declared.rows.Placed.{Placed}

-- what the case at a node gives, as a row
abbrev pub row_with : ℕ → Option SigBit → List Placed
row_with n None = []
row_with n (Some s) = placed n s ∷ []

-- what these assigns of the case at a node give the bit
abbrev pub own_row : WireBit → ℕ → List Link → List Placed
own_row b n ls = row_with n (assigned ls b)

abbrev mutual
  -- what the cases below these switches give the bit
  pub switches_part : WireBit → ℕ → Switches → List Placed
  switches_part b n NoSwitch = []
  switches_part b n (OneSwitch s a cs rest) = cases_part b (n + 1) cs ++ switches_part b (behind_switch n cs) rest

  -- what these cases and those below them give it
  pub cases_part : WireBit → ℕ → Cases → List Placed
  cases_part b n NoCase = []
  cases_part b n (OneCase ps ls a ss rest) = (own_row b n ls ++ switches_part b (n + 1) ss) ++ cases_part b (behind_case n ss) rest

-- all of these nodes stand before a number
abbrev Below : ℕ → List Placed → Type 0
Below k [] = Unit {0}
Below k (p ∷ row) = (p.node < k) × Below k row

below_more : (j k : ℕ) (row : List Placed) → j ≤ k → Below j row → Below k row
below_more j k [] h b = tt
below_more j k (p ∷ row) h b = (omega (arith, b.0), below_more j k row h b.1)

below_both : (k : ℕ) (xs ys : List Placed) → Below k xs → Below k ys → Below k (xs ++ ys)
below_both k [] ys h i = i
below_both k (x ∷ xs) ys h i = (h.0, below_both k xs ys h.1 i)

-- the last of a row
last_length : (row : List Placed) (p : Placed) → length (row ++ p ∷ []) - 1 ≡ length row
last_length row p = omega (arith, length-append row (p ∷ []))

last_get : (row : List Placed) (p : Placed) → slice_get (row ++ p ∷ []) (length row) ≡ Some p
last_get [] p = refl
last_get (x ∷ row) p = last_get row p

node_self : (n : ℕ) → nat_eq n n ≡ true
node_self n = grind arith

node_other : (a n : ℕ) → a < n → nat_eq a n ≡ false
node_other a n h = grind (arith, h)

ends_last : (row : List Placed) (n : ℕ) (s : SigBit) → ends_at n (row ++ placed n s ∷ []) ≡ true
ends_last row n s =
    ap (λ k. option_map_or (λ (p : Placed). nat_eq p.node n) (slice_get (row ++ placed n s ∷ []) k) false) (last_length row (placed n s))
    ∙ ap (λ o. option_map_or (λ (p : Placed). nat_eq p.node n) o false) (last_get row (placed n s))
    ∙ node_self n

ends_before : (n : ℕ) (row : List Placed) → Below n row → ends_at n row ≡ false
ends_before n [] h = refl
ends_before n (p ∷ []) h = node_other p.node n h.0
ends_before n (p ∷ q ∷ row) h =
    let e : length (p ∷ q ∷ row) - 1 ≡ suc (length (q ∷ row) - 1) = omega arith in
    ap (λ k. option_map_or (λ (x : Placed). nat_eq x.node n) (slice_get (p ∷ q ∷ row) k) false) e ∙ ends_before n (q ∷ row) h.1

take_front : (row : List Placed) (p : Placed) → take (length row) (row ++ p ∷ []) ≡ row
take_front [] p = refl
take_front (x ∷ row) p = ap (λ r. x ∷ r) (take_front row p)

-- what a case gives first, and what it gives then
placed_new : (n : ℕ) (s : SigBit) (row : List Placed) → Below n row → with_placed n s row ≡ row ++ placed n s ∷ []
placed_new n s row h = ap (λ t. (if t then take (length row - 1) row else row) ++ placed n s ∷ []) (ends_before n row h)

placed_again : (n : ℕ) (s r : SigBit) (row : List Placed) → with_placed n s (row ++ placed n r ∷ []) ≡ row ++ placed n s ∷ []
placed_again n s r row =
    let all = row ++ placed n r ∷ [] in
    ap (λ t. (if t then take (length all - 1) all else all) ++ placed n s ∷ []) (ends_last row n r)
    ∙ ap (λ k. take k all ++ placed n s ∷ []) (last_length row (placed n r))
    ∙ ap (λ xs. xs ++ placed n s ∷ []) (take_front row (placed n r))

placed_one : (n : ℕ) (s : SigBit) (o : Option SigBit) (row : List Placed) → Below n row → with_placed n s (row ++ row_with n o) ≡ row ++ placed n s ∷ []
placed_one n s None row h = ap (with_placed n s) (append-nil row) ∙ placed_new n s row h
placed_one n s (Some r) row h = placed_again n s r row

or_some : (x : Option SigBit) (s : SigBit) (o : Option SigBit) → option_or x (Some s) ≡ option_or (option_or x (Some s)) o
or_some None s o = refl
or_some (Some r) s o = refl

or_left : (x o : Option SigBit) → option_or x o ≡ option_or (option_or x None) o
or_left None o = refl
or_left (Some r) o = refl

or_none : (x : Option SigBit) → option_or x None ≡ x
or_none None = refl
or_none (Some r) = refl

joins_are : (n : ℕ) (b : WireBit) (js : List Join) (row : List Placed) (o : Option SigBit) → Below n row → joins_row n b js (row ++ row_with n o) ≡ row ++ row_with n (option_or (last_source js b) o)
joins_are n b [] row o h = refl
joins_are n b (j ∷ js) row o h = by (same_bit j.bit b) (λ q. joins_are n b js row q h)
  where
    by : (t : Bool) → ((q : Option SigBit) → joins_row n b js (row ++ row_with n q) ≡ row ++ row_with n (option_or (last_source js b) q)) → joins_row n b js (if t then with_placed n j.source (row ++ row_with n o) else (row ++ row_with n o)) ≡ row ++ row_with n (option_or (option_or (last_source js b) (if t then Some j.source else None)) o)
    by true again =
        ap (joins_row n b js) (placed_one n j.source o row h)
        ∙ again (Some j.source)
        ∙ ap (λ x. row ++ row_with n x) (or_some (last_source js b) j.source o)
    by false again = again o ∙ ap (λ x. row ++ row_with n x) (or_left (last_source js b) o)

assigns_are : (b : WireBit) (n : ℕ) (ls : List Link) (row : List Placed) → Below n row → joins_row n b (all_joins ls) row ≡ row ++ own_row b n ls
assigns_are b n ls row h =
    ap (joins_row n b (all_joins ls)) (sym (append-nil row))
    ∙ joins_are n b (all_joins ls) row None h
    ∙ ap (λ x. row ++ row_with n x) (or_none (assigned ls b))

own_below : (b : WireBit) (n : ℕ) (ls : List Link) → Below (n + 1) (own_row b n ls)
own_below b n ls = by (assigned ls b)
  where
    by : (o : Option SigBit) → Below (n + 1) (row_with n o)
    by None = tt
    by (Some s) = (omega arith, tt)

mutual
  switches_below : (b : WireBit) (n : ℕ) (ss : Switches) → Below (n + switches_size ss) (switches_part b n ss)
  switches_below b n NoSwitch = tt
  switches_below b n (OneSwitch s a cs rest) =
      let k = n + switches_size (OneSwitch s a cs rest) in
      let next = behind_switch n cs in
      below_both k (cases_part b (n + 1) cs) (switches_part b next rest)
      (below_more ((n + 1) + cases_size cs) k (cases_part b (n + 1) cs) (omega arith) (cases_below b (n + 1) cs))
      (below_more (next + switches_size rest) k (switches_part b next rest) (omega arith) (switches_below b next rest))

  cases_below : (b : WireBit) (n : ℕ) (cs : Cases) → Below (n + cases_size cs) (cases_part b n cs)
  cases_below b n NoCase = tt
  cases_below b n (OneCase ps ls a ss rest) =
      let k = n + cases_size (OneCase ps ls a ss rest) in
      let next = behind_case n ss in
      let own = own_row b n ls in
      let part = switches_part b (n + 1) ss in
      below_both k (own ++ part) (cases_part b next rest)
      (below_both k own part
      (below_more (n + 1) k own (omega arith) (own_below b n ls))
      (below_more ((n + 1) + switches_size ss) k part (omega arith) (switches_below b (n + 1) ss)))
      (below_more (next + cases_size rest) k (cases_part b next rest) (omega arith) (cases_below b next rest))

mutual
  switches_are : (b : WireBit) (n : ℕ) (ss : Switches) (row : List Placed) → Below n row → switches_row n b ss row ≡ row ++ switches_part b n ss
  switches_are b n NoSwitch row h = sym (append-nil row)
  switches_are b n (OneSwitch s a cs rest) row h =
      let next = behind_switch n cs in
      let part = cases_part b (n + 1) cs in
      ap (switches_row next b rest) (cases_are b (n + 1) cs row (below_more n (n + 1) row (omega arith) h))
      ∙ switches_are b next rest (row ++ part) (below_both next row part (below_more n next row (omega arith) h) (below_more ((n + 1) + cases_size cs) next part (omega arith) (cases_below b (n + 1) cs)))
      ∙ append_assoc row part (switches_part b next rest)

  cases_are : (b : WireBit) (n : ℕ) (cs : Cases) (row : List Placed) → Below n row → cases_row n b cs row ≡ row ++ cases_part b n cs
  cases_are b n NoCase row h = sym (append-nil row)
  cases_are b n (OneCase ps ls a ss rest) row h =
      let next = behind_case n ss in
      let own = own_row b n ls in
      let part = switches_part b (n + 1) ss in
      let later = cases_part b next rest in
      let one = below_both (n + 1) row own (below_more n (n + 1) row (omega arith) h) (own_below b n ls) in
      let two =
      below_both next (row ++ own) part (below_more (n + 1) next (row ++ own) (omega arith) one) (below_more ((n + 1) + switches_size ss) next part (omega arith) (switches_below b (n + 1) ss)) in
      ap (λ r. cases_row next b rest (switches_row (n + 1) b ss r)) (assigns_are b n ls row h)
      ∙ ap (cases_row next b rest) (switches_are b (n + 1) ss (row ++ own) one)
      ∙ cases_are b next rest ((row ++ own) ++ part) two
      ∙ ap (λ r. r ++ later) (append_assoc row own part)
      ∙ append_assoc row (own ++ part) later

-- the row of a bit
pub row_is : (root : CaseView) (b : WireBit) → case_row 0 b root [] ≡ own_row b 0 root.assigns ++ switches_part b 1 root.switches
row_is root b =
    ap (switches_row 1 b root.switches) (assigns_are b 0 root.assigns [] tt)
    ∙ switches_are b 1 root.switches (own_row b 0 root.assigns) (own_below b 0 root.assigns)
