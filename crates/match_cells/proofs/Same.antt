-- What is made for cases by the numbers of nodes is what is made by places.
use Rattle.std.proofs.Common.{◌≡◌, ◌≢◌, ℕ, zero, suc, ◌<◌, Bool, true, false, List, [], ◌∷◌, ◌++◌, length, Option, Some, None, if◌then◌else◌, refl, sym, ◌∙◌, ap, subst, arith, true≢false}
use Rattle.std.specs.Prelude.{replicate, slice_set}
use Rattle.std.specs.Cmp.Lexicographic.{same_text}
use Rattle.std.proofs.lemmas.Cmp.{nat_list_eq_equiv}
use Rattle.std.specs.Option.{option_map_or, option_or}
use Rattle.rtl_sig.specs.declared.sig.SigBit.{SigBit}
use Rattle.std.specs.List.{range_with_len}
use Rattle.std.proofs.lemmas.List.{length-map}
use Rattle.std.proofs.lemmas.List.FromFn.{length-range_with_len}
use Rattle.rtl_sig.specs.declared.sig.SigBit.TheVariants.{Wire as OnWire}
use Rattle.rtl_ir.specs.Signals.{bits_of_wire, same_signal}
use Rattle.rtl_ir.specs.Build.{Building, whole}
use Rattle.rtl_ir.specs.Tree.{CaseView, Switches}
use Rattle.net_model.specs.Proc.Mux.{Made, Trees, is_default, joined_bits, made_match, mux_cell, pattern_bits, same_case}
use Rattle.net_model.specs.Proc.Mux as by_places
use Rattle.match_cells.specs.Numbers.{case_behind}
use Rattle.match_cells.specs.Trees.{Numbered, made_at, match_bit, new_match, with_case, with_mux}
use Rattle.match_cells.proofs.Numbering.{switches_count}
use Rattle.match_cells.proofs.Places.{IsInSwitches, switch_number, switch_range, switch_same}

-- what is made by places and by numbers is the same, in a tree whose first switch is node 1
module _ (root : Switches) where
  pub record IsMade (made : List Made) (table : List (Option SigBit)) : Type 0 where
    pub same : (p : List ℕ) → IsInSwitches root p → made_at table (switch_number 1 root p) ≡ made_match made p
    pub long : (p : List ℕ) → IsInSwitches root p → switch_number 1 root p < length table

  pub record Agrees (wide : ℕ) (d : List SigBit × Trees) (f : List SigBit × Numbered) : Type 0 where
    pub value : d.0 ≡ f.0
    pub width : length f.0 ≡ wide
    pub building : d.1.building ≡ f.1.building
    pub made : IsMade d.1.made f.1.made

  -- the same with a bit in place of a value
  pub record AgreesBit (d : SigBit × Trees) (f : SigBit × Numbered) : Type 0 where
    pub bit : d.0 ≡ f.0
    pub building : d.1.building ≡ f.1.building
    pub made : IsMade d.1.made f.1.made

match_more : (made : List Made) (m : Made) (p : List ℕ) → made_match (made ++ m ∷ []) p ≡ option_or (made_match made p) (if same_case m.case_at p then Some m.bit else None)
match_more [] m p = refl
match_more (x ∷ made) m p = by (same_case x.case_at p) (match_more made m p)
  where
    by : (t : Bool) → made_match (made ++ m ∷ []) p ≡ option_or (made_match made p) (if same_case m.case_at p then Some m.bit else None) → (if t then Some x.bit else made_match (made ++ m ∷ []) p) ≡ option_or (if t then Some x.bit else made_match made p) (if same_case m.case_at p then Some m.bit else None)
    by true later = refl
    by false later = later

or_none : (o : Option SigBit) → o ≡ option_or o None
or_none None = refl
or_none (Some s) = refl

at_set : (table : List (Option SigBit)) (n : ℕ) (o : Option SigBit) → n < length table → made_at (slice_set table n o) n ≡ o
at_set [] n o h = absurd (omega arith)
at_set (x ∷ table) zero o h = refl
at_set (x ∷ table) (suc n) o h = at_set table n o (omega arith)

at_other : (table : List (Option SigBit)) (n m : ℕ) (o : Option SigBit) → n ≢ m → made_at (slice_set table n o) m ≡ made_at table m
at_other [] n m o h = refl
at_other (x ∷ table) zero zero o h = absurd (h refl)
at_other (x ∷ table) zero (suc m) o h = refl
at_other (x ∷ table) (suc n) zero o h = refl
at_other (x ∷ table) (suc n) (suc m) o h = at_other table n m o (λ e. h (ap suc e))

set_long : (table : List (Option SigBit)) (n : ℕ) (o : Option SigBit) → length (slice_set table n o) ≡ length table
set_long [] n o = refl
set_long (x ∷ table) zero o = refl
set_long (x ∷ table) (suc n) o = ap suc (set_long table n o)

-- as many bits as a wire has
whole_width : (wire width : ℕ) → length (whole wire width) ≡ width
whole_width wire width =
    length-map (bits_of_wire wire width) OnWire
    ∙ length-map (range_with_len 0 width) (λ at. record { wire = wire; at = at })
    ∙ length-range_with_len 0 width

-- a match that is made goes last by places, and to its number
module _ (root : Switches) (made : List Made) (table : List (Option SigBit)) (m : IsMade root made table) (p : List ℕ) (i : IsInSwitches root p) (n : ℕ) (at : n ≡ switch_number 1 root p) (none : made_match made p ≡ None) (bit : SigBit) where
  abbrev last : Made
  last = record { case_at = p; bit = bit }

  put_same : (q : List ℕ) → IsInSwitches root q → (t : Bool) → same_case p q ≡ t → made_at (slice_set table n (Some bit)) (switch_number 1 root q) ≡ made_match (made ++ last ∷ []) q
  put_same q j true e =
      let pq : p ≡ q = same_text p q (sym e) in
      let here : switch_number 1 root q ≡ n = sym (at ∙ ap (switch_number 1 root) pq) in
      ap (made_at (slice_set table n (Some bit))) here
      ∙ at_set table n (Some bit) (subst (λ k. k < length table) (sym at) (m.long p i))
      ∙ sym (match_more made last q ∙ (λ k. option_or ((ap (made_match made) (sym pq) ∙ none) k) (if e k then Some bit else None)))
  put_same q j false e =
      let apart : n ≢ switch_number 1 root q =
      (λ same. true≢false (sym (nat_list_eq_equiv.refl p) ∙ ap (same_case p) (switch_same 1 root p q i j (sym at ∙ same)) ∙ e)) in
      at_other table n (switch_number 1 root q) (Some bit) apart
      ∙ m.same q j
      ∙ or_none (made_match made q)
      ∙ sym (match_more made last q ∙ (λ k. option_or (made_match made q) (if e k then Some bit else None)))

  pub put_made : IsMade root (made ++ last ∷ []) (slice_set table n (Some bit))
  put_made = record {
    same = λ q j. put_same q j (same_case p q) refl;
    long = λ q j. subst (λ k. switch_number 1 root q < k) (sym (set_long table n (Some bit))) (m.long q j);
  }

module _ (root : Switches) (p : List ℕ) (i : IsInSwitches root p) (n : ℕ) (at : n ≡ switch_number 1 root p) (signal : List SigBit) (patterns : List (List SigBit)) where
  abbrev made_now : Trees → SigBit × Trees
  made_now d =
      let bits = pattern_bits signal patterns d.building in
      let joined = joined_bits bits.0 bits.1 in
      (joined.0, record { building = joined.1; made = d.made ++ record { case_at = p; bit = joined.0 } ∷ [] })

  pub match_same : (d : Trees) (f : Numbered) → d.building ≡ f.building → IsMade root d.made f.made → AgreesBit root (by_places.match_bit p signal patterns d) (match_bit n signal patterns f)
  unfolding match_bit new_match
  match_same d f b m =
      let is : made_at f.made n ≡ made_match d.made p = ap (made_at f.made) at ∙ m.same p i in
      subst (λ o. AgreesBit root (by_places.match_bit p signal patterns d) (option_map_or {T = SigBit} {U = SigBit × Numbered} (λ s. (s, f)) o (new_match n signal patterns f))) (sym is)
      (by (made_match d.made p) refl)
    where
      by : (o : Option SigBit) → made_match d.made p ≡ o → AgreesBit root (option_map_or {T = SigBit} {U = SigBit × Trees} (λ s. (s, d)) o (made_now d)) (option_map_or {T = SigBit} {U = SigBit × Numbered} (λ s. (s, f)) o (new_match n signal patterns f))
      by (Some s) e = record { bit = refl; building = b; made = m }
      by None e =
          let joined : Building → SigBit × Building = λ c. joined_bits (pattern_bits signal patterns c).0 (pattern_bits signal patterns c).1 in
          record {
            bit = ap (λ c. (joined c).0) b;
            building = ap (λ c. (joined c).1) b;
            made =
                subst (λ c. IsMade root (d.made ++ record { case_at = p; bit = (joined d.building).0 } ∷ []) (slice_set f.made n (Some (joined c).0))) b
                (put_made root d.made f.made m p i n at e (joined d.building).0);
          }

  pub case_same_value : (wide : ℕ) (body acc : List SigBit) (d : Trees) (f : Numbered) → length body ≡ wide → length acc ≡ wide → d.building ≡ f.building → IsMade root d.made f.made → Agrees root wide (by_places.with_case p signal patterns body acc d) (with_case n signal patterns body acc f)
  unfolding with_case with_mux
  case_same_value wide body acc d f wb wa b m = by (is_default signal patterns) (same_signal body acc)
    where
      by : (t u : Bool) → Agrees root wide (if t then (body, d) else if u then (acc, d) else (
        (mux_cell acc body (by_places.match_bit p signal patterns d).0 (by_places.match_bit p signal patterns d).1.building).0,
        record { building = (mux_cell acc body (by_places.match_bit p signal patterns d).0 (by_places.match_bit p signal patterns d).1.building).1; made = (by_places.match_bit p signal patterns d).1.made },
      )) (if t then (body, f) else if u then (acc, f) else with_mux n signal patterns body acc f)
      by true u = record { value = refl; width = wb; building = b; made = m }
      by false true = record { value = refl; width = wa; building = b; made = m }
      by false false =
          let a = match_same d f b m in
          record {
            value = (λ k. (mux_cell acc body (a.bit k) (a.building k)).0);
            width = whole_width _ (length acc) ∙ wa;
            building = (λ k. (mux_cell acc body (a.bit k) (a.building k)).1);
            made = a.made;
          }

none_at : (count n : ℕ) → made_at (replicate count None) n ≡ None
none_at zero n = refl
none_at (suc count) zero = refl
none_at (suc count) (suc n) = none_at count n

replicate_count : {A : Type 0} (count : ℕ) (x : A) → length (replicate count x) ≡ count
replicate_count zero x = refl
replicate_count (suc count) x = ap suc (replicate_count count x)

-- nothing is made yet, by either
pub none_is_made : (c : CaseView) → IsMade c.switches [] (replicate (length (case_behind 0 c)) None)
none_is_made c = record {
  same = λ p i. none_at (length (case_behind 0 c)) (switch_number 1 c.switches p);
  long = λ p i. omega (arith, (switch_range 1 c.switches p i).1, replicate_count {A = Option SigBit} (length (case_behind 0 c)) None, switches_count 1 c.switches);
}
