-- What read ports give.
use Rattle.std.proofs.Common.{◌≡◌, ℕ, zero, suc, ◌+◌, ◌*◌, ◌-◌, ◌<◌, ◌≤◌, min, Bool, true, false, List, [], ◌∷◌, length, get_or, drop, map, Option, Some, None, add-one, refl, sym, ◌∙◌, ap, subst, arith}
use Rattle.std.specs.Prelude.{◌&&◌, nat_le, if◌then◌else◌, slice_index_or}
use Rattle.std.specs.List.{AllByRecursion}
use Rattle.std.specs.Option.{SomeIff, option_map_or}
use Rattle.std.proofs.Math.Seq.{drop-cons}
use Rattle.std.proofs.lemmas.Bool.{leb-false, leb-true, le-leb, lt-leb}
use Rattle.std.proofs.lemmas.List.{get_or_past}
use Rattle.rtl_bits.specs.declared.bit.Bit.{Bit}
use Rattle.rtl_bits.specs.declared.bit.Bit.TheVariants.{S0, S1, X, Z, M, Dash}
use Rattle.rtl_bits.specs.Knowledge.{all_known, is_known}
use Rattle.rtl_bits.specs.Numbers.{digit_of, number_of}
use Rattle.rtl_ir.specs.Flat.Place.{Place}
use Rattle.net_model.specs.Run.{Time}
use Rattle.net_model.specs.Valuation.{read_all}
use Rattle.net_model.specs.Value.{value_of}
use Rattle.net_model.specs.Words.{fetched_of}
use Rattle.net_model.proofs.Members.{map-map}
use Rattle.flat_net.specs.declared.memory.Fetched.{Fetched}
use Rattle.flat_net.specs.declared.memory.ReadPort.{ReadPort}
use Rattle.flat_net.specs.declared.net.Output.{Output}
use Rattle.flat_net.specs.declared.net.Point.{Point}
use Rattle.flat_net.specs.Points.{AreApart, place_at}
use Rattle.flat_net.specs.Within.{IsFetchedWithin, IsReadPortWithin}
use Rattle.flat_net.specs.Words.{column_of, fetched_row, port_rows}
use Rattle.sim_eval.specs.declared.cell.Worked.TheVariants.{Word}
use Rattle.sim_eval.specs.Advance.{Advances, Takes, output_fact}
use Rattle.sim_eval.specs.Fetched.{IsNumber, known_digit, number_column, number_fetched}
use Rattle.sim_eval.specs.Numbers.{number_read, number_word}
use Rattle.sim_eval.specs.Shown.{shown}
use Rattle.sim_eval.proofs.Bridges.{word_same}
use Rattle.sim_eval.proofs.Tables.{found_at}
use Rattle.sim_eval.proofs.Taking.{advances_by, fact_of}

-- where there is no word, x is read
none_fetched : (address : List Bit) (first : ℕ) → X ≡ fetched_of address first []
none_fetched address first = by (all_known address && nat_le first (number_of address))
  where
    by : (t : Bool) → X ≡ (if t then X else X)
    by true = refl
    by false = refl

-- the bit at a place of the word that a port reads
word_at : (values : List Bit) (first : ℕ) (address : List Point) (columns : List (List ℕ)) (at : ℕ) → get_or (map (number_fetched values first address) columns) at X ≡ number_fetched values first address (get_or columns at [])
word_at values first address [] at = none_fetched (number_word values address) first
word_at values first address (c ∷ columns) zero = refl
word_at values first address (c ∷ columns) (suc at) = word_at values first address columns at

module _ (ps : List Place) (values : List Bit) (apart : AreApart ps) (same : length ps ≡ length values) where
  pub column_same : (columns : List (List ℕ)) (at : ℕ) → AllByRecursion (AllByRecursion (λ n. n < length ps)) columns → read_all (shown ps values) (column_of ps columns at) ≡ number_column values (get_or columns at [])
  column_same [] at h = refl
  column_same (c ∷ columns) zero h = each c h.0
    where
      each : (ns : List ℕ) → AllByRecursion (λ n. n < length ps) ns → read_all (shown ps values) (column_of ps (ns ∷ []) 0) ≡ number_column values ns
      each [] h = refl
      each (n ∷ ns) h = (λ i. found_at X ps values n apart same h.0 i ∷ each ns h.1 i)
  column_same (c ∷ columns) (suc at) h = column_same columns at h.1

  -- the bits that a port drives
  pub advances_read : (t : Time Place) (f : Fetched) (r : ReadPort) (word new : List Bit) (changed : Bool) → IsFetchedWithin (length ps) f → IsReadPortWithin (length ps) r → word ≡ map (number_fetched values f.first r.address) f.columns
      → Takes ps (map (output_fact ps (Word word)) r.outputs) values new changed → Advances ps t (port_rows ps f r) values new changed
  advances_read t f r word new changed within inside is h =
      advances_by ps t (port_rows ps f r) values new changed (subst (λ z. Takes ps z values new changed) (sym facts) h)
    where
      bit_same : (o : Output) → value_of (fetched_row ps f r o).driver t (shown ps values) ≡ get_or word o.at X
      bit_same o =
          let address = word_same ps values apart same r.address inside.address in
          let column = column_same f.columns o.at within.columns in
          (λ i. fetched_of (address i) f.first (column i)) ∙ sym (ap (λ z. get_or z o.at X) is ∙ word_at values f.first r.address f.columns o.at)

      facts : map (fact_of t (shown ps values)) (map (fetched_row ps f r) r.outputs) ≡ map (output_fact ps (Word word)) r.outputs
      facts = map-map (fetched_row ps f r) (fact_of t (shown ps values)) r.outputs ∙ (λ i. map (λ (o : Output). record { place = place_at ps o.number; value = bit_same o i }) r.outputs)

-- known bits as digits

digit_known : (b : Bit) (digit : ℕ) → known_digit b ≡ Some digit → (is_known b ≡ true) × (digit_of b ≡ digit)
digit_known S0 digit e = (refl, cc)
digit_known S1 digit e = (refl, cc)
digit_known X digit e = absurd (let none : None ≡ Some digit = e in cc)
digit_known Z digit e = absurd (let none : None ≡ Some digit = e in cc)
digit_known M digit e = absurd (let none : None ≡ Some digit = e in cc)
digit_known Dash digit e = absurd (let none : None ≡ Some digit = e in cc)

digit_none : (b : Bit) → known_digit b ≡ None → is_known b ≡ false
digit_none S0 e = absurd (let some : Some 0 ≡ None = e in cc)
digit_none S1 e = absurd (let some : Some 1 ≡ None = e in cc)
digit_none X e = refl
digit_none Z e = refl
digit_none M e = refl
digit_none Dash e = refl

-- a digit is 0 or 1
pub digit_small : (b : Bit) (digit : ℕ) → known_digit b ≡ Some digit → digit ≤ 1
digit_small S0 digit e = let is : 0 ≡ digit = cc in omega (arith, is)
digit_small S1 digit e = let is : 1 ≡ digit = cc in omega (arith, is)
digit_small X digit e = absurd (let none : None ≡ Some digit = e in cc)
digit_small Z digit e = absurd (let none : None ≡ Some digit = e in cc)
digit_small M digit e = absurd (let none : None ≡ Some digit = e in cc)
digit_small Dash digit e = absurd (let none : None ≡ Some digit = e in cc)

-- a bit that is not known is enough
pub unknown_at : (values : List Bit) (points : List Point) (i : ℕ) (p : Point) → i < length points → known_digit (number_read values (get_or points i p)) ≡ None → all_known (number_word values points) ≡ false
unknown_at values [] i p h e = absurd (omega arith)
unknown_at values (q ∷ points) zero p h e = ap (λ b. b && all_known (number_word values points)) (digit_none (number_read values q) e)
unknown_at values (q ∷ points) (suc i) p h e = by (is_known (number_read values q)) (unknown_at values points i p (omega arith) e)
  where
    by : (t : Bool) → all_known (number_word values points) ≡ false → (t && all_known (number_word values points)) ≡ false
    by true k = k
    by false k = refl

-- a digit more, up to the bound
bounded_digit : (bound number digit : ℕ) → min (2 * min bound number + digit) bound ≡ min bound (digit + 2 * number)
bounded_digit bound number digit = omega arith

pub number_next : (bound : ℕ) (values : List Bit) (points : List Point) (i : ℕ) (p : Point) (number digit next : ℕ) → i < length points → known_digit (number_read values (get_or points i p)) ≡ Some digit
    → IsNumber bound (number_word values (drop (i + 1) points)) (Some number) → next ≡ min (2 * number + digit) bound → IsNumber bound (number_word values (drop i points)) (Some next)
number_next bound values points i p number digit next h e k is =
    let left : drop i points ≡ get_or points i p ∷ drop (i + 1) points = drop-cons points i p h ∙ ap (λ n. get_or points i p ∷ drop n points) (sym (add-one i)) in
    let d = digit_known (number_read values (get_or points i p)) digit e in
    let known : (is_known (number_read values (get_or points i p)) && all_known (number_word values (drop (i + 1) points))) ≡ true = (λ j. d.0 j && k.0 j) in
    let sum : next ≡ min bound (digit_of (number_read values (get_or points i p)) + 2 * number_of (number_word values (drop (i + 1) points))) =
    is ∙ ap (λ n. min (2 * n + digit) bound) k.1 ∙ bounded_digit bound (number_of (number_word values (drop (i + 1) points))) digit ∙ ap (λ n. min bound (n + 2 * number_of (number_word values (drop (i + 1) points)))) (sym d.1) in
    rw left (known, sum)

-- the place of the word at an address

pub place_found : (bound : ℕ) (bits : List Bit) (number first : ℕ) (words : List Bit) → IsNumber bound bits (Some number) → first ≤ number → first + length words ≤ bound → get_or words (number - first) X ≡ fetched_of bits first words
place_found bound bits number first words k h long =
    let above : nat_le first (number_of bits) ≡ true = le-leb first (number_of bits) (omega (arith, k.1)) in
    let all : (all_known bits && nat_le first (number_of bits)) ≡ true = (λ i. k.0 i && above i) in
    rw all (by (nat_le bound (number_of bits)) refl)
  where
    by : (t : Bool) → nat_le bound (number_of bits) ≡ t → get_or words (number - first) X ≡ get_or words (number_of bits - first) X
    by true e =
        let past : bound ≤ number_of bits = leb-true bound (number_of bits) e in
        get_or_past words (number - first) X (omega (arith, k.1)) ∙ sym (get_or_past words (number_of bits - first) X (omega arith))
    by false e =
        let same : number ≡ number_of bits = omega (arith, k.1, leb-false bound (number_of bits) e) in
        ap (λ n. get_or words (n - first) X) same

pub place_below : (bound : ℕ) (bits : List Bit) (number first : ℕ) (words : List Bit) → IsNumber bound bits (Some number) → number < first → first ≤ bound → X ≡ fetched_of bits first words
place_below bound bits number first words k h long =
    let below : nat_le first (number_of bits) ≡ false = lt-leb first (number_of bits) (omega (arith, k.1)) in
    let all : (all_known bits && nat_le first (number_of bits)) ≡ false = (λ i. k.0 i && below i) in
    rw all refl

pub place_unknown : (bits : List Bit) (first : ℕ) (words : List Bit) → all_known bits ≡ false → X ≡ fetched_of bits first words
place_unknown bits first words e = rw e refl

pub place_read : (bound : ℕ) (bits : List Bit) (number first : ℕ) (words : List Bit) (place : Option ℕ) → IsNumber bound bits (Some number) → first + length words ≤ bound → SomeIff place (first ≤ number) (number - first)
    → option_map_or (λ place. slice_index_or words place X) place X ≡ fetched_of bits first words
place_read bound bits number first words (Some p) k long h = ap (λ n. get_or words n X) h.1 ∙ place_found bound bits number first words k h.0 long
place_read bound bits number first words None k long h = place_below bound bits number first words k (omega (arith, h)) (omega arith)
