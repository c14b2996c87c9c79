-- The first drivers of bits: rows that count.
use Rattle.std.proofs.Common.{◌≡◌, ◌<◌, ℕ, zero, suc, Bool, true, false, cond, not, ◌||◌, List, [], ◌∷◌, ◌++◌, length, get_or, set, map, replicate, inl, inr, refl, sym, ◌∙◌, ap, subst, append_assoc}
use Rattle.std.specs.Prelude.{if◌then◌else◌, flat_map, Option, Some, None}
use Rattle.std.specs.List.{AllByRecursion}
use Rattle.std.proofs.lemmas.Bool.{true≢false}
use Rattle.std.proofs.lemmas.List.{append-nil, length-set}
use Rattle.std.proofs.lemmas.Grind.{flat_map-append}
use Rattle.std.specs.Bool.{then_some}
use Rattle.rtl_bits.specs.declared.bit.Bit.{Bit}
use Rattle.rtl_bits.specs.declared.bit.Bit.TheVariants.{X}
use Rattle.rtl_ir.specs.declared.module.Design.{Design}
use Rattle.rtl_ir.specs.declared.module.Module.{Module}
use Rattle.rtl_ir.specs.Flat.Cell.{listed}
use Rattle.rtl_ir.specs.Flat.Driver.{Driver, Driven}
use Rattle.rtl_ir.specs.Flat.Place.{Place, place_same}
use Rattle.rtl_ir.specs.Flat.Tree.{driven_rows, undriven}
use Rattle.flat_net.specs.declared.leaves.HeldBit.{HeldBit}
use Rattle.flat_net.specs.declared.memory.Fetched.{Fetched}
use Rattle.flat_net.specs.declared.memory.ReadPort.{ReadPort}
use Rattle.flat_net.specs.declared.net.Output.{Output}
use Rattle.flat_net.specs.declared.net.StoreBit.{StoreBit}
use Rattle.flat_net.specs.declared.net.Part.{Part}
use Rattle.flat_net.specs.Parts.{part_rows, parts_rows}
use Rattle.flat_net.specs.Within.{ArePartsWithin, IsHeldBitWithin, IsPartWithin, IsReadPortWithin, IsStoreWithin}
use Rattle.flat_net.specs.Words.{fetched_row, port_rows}
use Rattle.flat_net.specs.Points.{place_at, AreApart}
use Rattle.net_model.specs.Lists.{In}
use Rattle.net_model.specs.Run.{Time}
use Rattle.net_model.specs.Valuation.{Valuation}
use Rattle.net_model.specs.Value.{value_of}
use Rattle.net_model.proofs.Places.{place_same-same}
use Rattle.sim_eval.specs.First.{IsFirstOf, IsOptionWithin, and_place, and_places, firsts, marked, marked_ports, option_rows, unmarked, unmarked_ports}
use Rattle.sim_eval.specs.Shown.{found}
use Rattle.sim_eval.specs.Sim.{AreCounting, applied_at}
use Rattle.sim_eval.proofs.Tables.{found_at, found_set, same_itself}

or_cond : (a b : Bool) → (a || b) ≡ cond a true b
or_cond true b = refl
or_cond false b = refl

-- rows after rows
pub firsts-append : (seen : Place → Bool) (rows more : List Driven) → firsts seen (rows ++ more) ≡ firsts seen rows ++ firsts (and_places seen rows) more
firsts-append seen [] more = refl
firsts-append seen (r ∷ rows) more =
    let rest = firsts-append (and_place seen r.place) rows more in
    elim (seen r.place) as (λ t. (if t then firsts (and_place seen r.place) (rows ++ more) else r ∷ firsts (and_place seen r.place) (rows ++ more)) ≡ (if t then firsts (and_place seen r.place) rows else r ∷ firsts (and_place seen r.place) rows) ++ firsts (and_places (and_place seen r.place) rows) more) [ true ↦ rest | false ↦ ap (λ z. r ∷ z) rest ]

module _ {A : Type 0} (number : A → ℕ) (driver : A → Driver) (ps : List Place) (apart : AreApart ps) where
  abbrev row : A → Driven
  row x = record { place = place_at ps (number x); driver = driver x }

  -- marking a number is adding its bit
  marks : (seen : List Bool) (n : ℕ) → length ps ≡ length seen → n < length ps → and_place (found false ps seen) (place_at ps n) ≡ found false ps (set seen n true)
  marks seen n same l =
      λ i q. (or_cond (place_same (place_at ps n) q) (found false ps seen q) ∙ sym (found_set false ps seen n true q apart same l)) i

  -- the items that are kept have the rows that are
  pub rows_unmarked : (seen : List Bool) (xs : List A) → length ps ≡ length seen → AllByRecursion (λ x. number x < length ps) xs → map row (unmarked number seen xs) ≡ firsts (found false ps seen) (map row xs)
  rows_unmarked seen [] same h = refl
  rows_unmarked seen (x ∷ xs) same h =
      by (rows_unmarked (set seen (number x) true) xs (same ∙ sym (length-set seen (number x) true)) h.1) (get_or seen (number x) false) refl
    where
      by : map row (unmarked number (set seen (number x) true) xs) ≡ firsts (found false ps (set seen (number x) true)) (map row xs) → (t : Bool) → get_or seen (number x) false ≡ t → map row (unmarked number seen (x ∷ xs)) ≡ firsts (found false ps seen) (map row (x ∷ xs))
      by rest t e =
          let mark : and_place (found false ps seen) (place_at ps (number x)) ≡ found false ps (set seen (number x) true) = marks seen (number x) same h.0 in
          let at : found false ps seen (place_at ps (number x)) ≡ get_or seen (number x) false = found_at false ps seen (number x) apart same h.0 in
          let rest' : map row (unmarked number (set seen (number x) true) xs) ≡ firsts (and_place (found false ps seen) (place_at ps (number x))) (map row xs) = rest ∙ ap (λ z. firsts z (map row xs)) (sym mark) in
          subst (λ u. map row (unmarked number seen (x ∷ xs)) ≡ (if u then firsts (and_place (found false ps seen) (place_at ps (number x))) (map row xs) else row x ∷ firsts (and_place (found false ps seen) (place_at ps (number x))) (map row xs))) (sym at)
          (elim (get_or seen (number x) false) as (λ u. map row (if u then unmarked number (set seen (number x) true) xs else x ∷ unmarked number (set seen (number x) true) xs) ≡ (if u then firsts (and_place (found false ps seen) (place_at ps (number x))) (map row xs) else row x ∷ firsts (and_place (found false ps seen) (place_at ps (number x))) (map row xs))) [ true ↦ rest' | false ↦ ap (λ z. row x ∷ z) rest' ])

  -- the marks are those of all rows
  pub marks_unmarked : (seen : List Bool) (xs : List A) → length ps ≡ length seen → AllByRecursion (λ x. number x < length ps) xs → found false ps (marked number seen xs) ≡ and_places (found false ps seen) (map row xs)
  marks_unmarked seen [] same h = refl
  marks_unmarked seen (x ∷ xs) same h =
      marks_unmarked (set seen (number x) true) xs (same ∙ sym (length-set seen (number x) true)) h.1 ∙ ap (λ z. and_places z (map row xs)) (sym (marks seen (number x) same h.0))

-- what is so of all is so of those that are kept
pub within_unmarked : {A : Type 0} (number : A → ℕ) (P : A → Type 0) (seen : List Bool) (xs : List A) → AllByRecursion P xs → AllByRecursion P (unmarked number seen xs)
within_unmarked number P seen [] h = h
within_unmarked number P seen (x ∷ xs) h =
    let rest = within_unmarked number P (set seen (number x) true) xs h.1 in
    elim (get_or seen (number x) false) as (λ t. AllByRecursion P (if t then unmarked number (set seen (number x) true) xs else x ∷ unmarked number (set seen (number x) true) xs)) [ true ↦ rest | false ↦ (h.0, rest) ]

-- of the rows of a bit the first counts, so the first rows give each bit the same, but for bits that are left out
firsts_applied : (seen : Place → Bool) (rows : List Driven) (t : Time Place) (v : Valuation) (q : Place) → applied_at (firsts seen rows) t v q ≡ cond (seen q) X (applied_at rows t v q)
firsts_applied seen [] t v q = elim (seen q) as (λ u. X ≡ cond u X X) [ true ↦ refl | false ↦ refl ]
firsts_applied seen (r ∷ rows) t v q =
    by (firsts_applied (and_place seen r.place) rows t v q) (seen r.place) refl (place_same r.place q) refl
  where
    value : Bit
    value = value_of r.driver t v

    by : applied_at (firsts (and_place seen r.place) rows) t v q ≡ cond (place_same r.place q || seen q) X (applied_at rows t v q) → (u : Bool) → seen r.place ≡ u → (s : Bool) → place_same r.place q ≡ s → applied_at (if u then firsts (and_place seen r.place) rows else r ∷ firsts (and_place seen r.place) rows) t v q ≡ cond (seen q) X (cond (place_same r.place q) (value_of r.driver t v) (applied_at rows t v q))
    by rest true e true f =
        let there : seen q ≡ true = subst (λ z. seen z ≡ true) ((place_same-same r.place q).0 f) e in
        rest ∙ (ap (λ z. cond (z || seen q) X (applied_at rows t v q)) f ∙ sym (ap (λ z. cond z X (cond (place_same r.place q) (value_of r.driver t v) (applied_at rows t v q))) there))
    by rest true e false f =
        rest ∙ (ap (λ z. cond (z || seen q) X (applied_at rows t v q)) f ∙ sym (ap (λ z. cond (seen q) X (cond z (value_of r.driver t v) (applied_at rows t v q))) f))
    by rest false e true f =
        let there : seen q ≡ false = subst (λ z. seen z ≡ false) ((place_same-same r.place q).0 f) e in
        ap (λ z. cond z (value_of r.driver t v) (applied_at (firsts (and_place seen r.place) rows) t v q)) f ∙ sym (ap (λ z. cond z X (cond (place_same r.place q) (value_of r.driver t v) (applied_at rows t v q))) there ∙ ap (λ z. cond z (value_of r.driver t v) (applied_at rows t v q)) f)
    by rest false e false f =
        ap (λ z. cond z (value_of r.driver t v) (applied_at (firsts (and_place seen r.place) rows) t v q)) f ∙ (rest ∙ (ap (λ z. cond (z || seen q) X (applied_at rows t v q)) f ∙ sym (ap (λ z. cond (seen q) X (cond z (value_of r.driver t v) (applied_at rows t v q))) f)))

or_false : (a b : Bool) → (a || b) ≡ false → (a ≡ false) × (b ≡ false)
or_false true b e = absurd (true≢false e)
or_false false b e = (refl, e)

-- what is kept is no bit that is left out
firsts_fresh : (seen : Place → Bool) (rows : List Driven) (r : Driven) → In r (firsts seen rows) → seen r.place ≡ false
firsts_fresh seen [] r i = absurd i
firsts_fresh seen (q ∷ rows) r i =
    by (firsts_fresh (and_place seen q.place) rows r) (seen q.place) refl i
  where
    by : (In r (firsts (and_place seen q.place) rows) → (place_same q.place r.place || seen r.place) ≡ false) → (t : Bool) → seen q.place ≡ t → In r (if t then firsts (and_place seen q.place) rows else q ∷ firsts (and_place seen q.place) rows) → seen r.place ≡ false
    by rest true e j = (or_false (place_same q.place r.place) (seen r.place) (rest j)).1
    by rest false e (inl f) = subst (λ z. seen z.place ≡ false) (sym f) e
    by rest false e (inr j) = (or_false (place_same q.place r.place) (seen r.place) (rest j)).1

-- each row that is kept counts
firsts_once : (seen : Place → Bool) (rows : List Driven) (r : Driven) → In r (firsts seen rows) → (t : Time Place) (v : Valuation) → applied_at (firsts seen rows) t v r.place ≡ value_of r.driver t v
firsts_once seen [] r i t v = absurd i
firsts_once seen (q ∷ rows) r i t v =
    by (λ j. firsts_once (and_place seen q.place) rows r j t v) (seen q.place) i
  where
    by : (In r (firsts (and_place seen q.place) rows) → applied_at (firsts (and_place seen q.place) rows) t v r.place ≡ value_of r.driver t v) → (u : Bool) → In r (if u then firsts (and_place seen q.place) rows else q ∷ firsts (and_place seen q.place) rows) → applied_at (if u then firsts (and_place seen q.place) rows else q ∷ firsts (and_place seen q.place) rows) t v r.place ≡ value_of r.driver t v
    by rest true j = rest j
    by rest false (inl f) =
        subst (λ z. cond (place_same q.place z.place) (value_of q.driver t v) (applied_at (firsts (and_place seen q.place) rows) t v z.place) ≡ value_of z.driver t v) (sym f) (ap (λ z. cond z (value_of q.driver t v) (applied_at (firsts (and_place seen q.place) rows) t v q.place)) (same_itself q.place))
    by rest false (inr j) =
        ap (λ z. cond z (value_of q.driver t v) (applied_at (firsts (and_place seen q.place) rows) t v r.place)) (or_false (place_same q.place r.place) (seen r.place) (firsts_fresh (and_place seen q.place) rows r j)).0 ∙ rest j

-- bits without a driver are x
undriven_applied : (qs : List Place) (t : Time Place) (v : Valuation) (q : Place) → applied_at (map undriven qs) t v q ≡ X
undriven_applied [] t v q = refl
undriven_applied (p ∷ qs) t v q =
    elim (place_same p q) as (λ u. cond u X (applied_at (map undriven qs) t v q) ≡ X) [ true ↦ refl | false ↦ undriven_applied qs t v q ]

driven_applied : (rows : List Driven) (qs : List Place) (t : Time Place) (v : Valuation) (q : Place) → applied_at (rows ++ map undriven qs) t v q ≡ applied_at rows t v q
driven_applied [] qs t v q = undriven_applied qs t v q
driven_applied (r ∷ rows) qs t v q =
    ap (cond (place_same r.place q) (value_of r.driver t v)) (driven_applied rows qs t v q)

-- of the rows of a module the first ones count
pub firsts_count : (d : Design) (m : Module) (rows : List Driven) → rows ≡ firsts (λ q. false) (driven_rows d m) → AreCounting d m rows
firsts_count d m rows e =
    subst (AreCounting d m) (sym e) (record {
      same = λ t v q. firsts_applied (λ p. false) (driven_rows d m) t v q ∙ sym (driven_applied (driven_rows d m) _ t v q);
      once = firsts_once (λ p. false) (driven_rows d m);
    })

-- no number is marked yet
pub found_none : (ps : List Place) (n : ℕ) → found false ps (replicate n false) ≡ (λ q. false)
found_none ps n = λ i q. none ps n q i
  where
    none : (ps : List Place) (n : ℕ) (q : Place) → found false ps (replicate n false) q ≡ false
    none [] n q = refl
    none (p ∷ ps) zero q = refl
    none (p ∷ ps) (suc n) q =
        elim (place_same p q) as (λ t. cond t false (found false ps (replicate n false) q) ≡ false) [ true ↦ refl | false ↦ none ps n q ]

-- what is kept of a part whose rows are those of some items
pub first_items : {A : Type 0} (number : A → ℕ) (driver : List Place → A → Driver) (seen new : List Bool) (part : Part) (kept : Option Part) (xs outs : List A) → ((ps : List Place) → part_rows ps part ≡ map (λ x. record { place = place_at ps (number x); driver = driver ps x }) xs) → ((ps : List Place) → option_rows ps kept ≡ map (λ x. record { place = place_at ps (number x); driver = driver ps x }) outs) → ((count : ℕ) → IsPartWithin count part → AllByRecursion (λ x. number x < count) xs) → ((count : ℕ) → IsPartWithin count part → IsOptionWithin count kept) → outs ≡ unmarked number seen xs → new ≡ marked number seen xs → IsFirstOf seen new part kept
first_items number driver seen new part kept xs outs rows kept_rows numbers within is marks = record {
  rows = λ ps apart same h.
      kept_rows ps
      ∙ (ap (map (λ x. record { place = place_at ps (number x); driver = driver ps x })) is
      ∙ (rows_unmarked number (driver ps) ps apart seen xs same (numbers (length ps) h)
      ∙ ap (firsts (found false ps seen)) (sym (rows ps))));
  marks = λ ps apart same h.
      ap (found false ps) marks
      ∙ (marks_unmarked number (driver ps) ps apart seen xs same (numbers (length ps) h)
      ∙ ap (and_places (found false ps seen)) (sym (rows ps)));
  within = within;
}

-- marks are as many as before
length-marked : {A : Type 0} (number : A → ℕ) (seen : List Bool) (xs : List A) → length (marked number seen xs) ≡ length seen
length-marked number seen [] = refl
length-marked number seen (x ∷ xs) = length-marked number (set seen (number x) true) xs ∙ length-set seen (number x) true

places-append : (seen : Place → Bool) (rows more : List Driven) → and_places seen (rows ++ more) ≡ and_places (and_places seen rows) more
places-append seen [] more = refl
places-append seen (r ∷ rows) more = places-append (and_place seen r.place) rows more

-- what is kept of read ports
module _ (f : Fetched) (ps : List Place) (apart : AreApart ps) where
  number_in : Output → ℕ
  number_in o = o.number

  driver_in : ReadPort → Output → Driver
  driver_in r o = (fetched_row ps f r o).driver

  pub ports_unmarked : (seen : List Bool) (ports : List ReadPort) → length ps ≡ length seen → AllByRecursion (IsReadPortWithin (length ps)) ports
      → flat_map (port_rows ps f) (unmarked_ports seen ports) ≡ firsts (found false ps seen) (flat_map (port_rows ps f) ports)
  unfolding number_in driver_in
  ports_unmarked seen [] same h = refl
  ports_unmarked seen (r ∷ ports) same h =
      let here = rows_unmarked number_in (driver_in r) ps apart seen r.outputs same h.0.outputs in
      let marks = marks_unmarked number_in (driver_in r) ps apart seen r.outputs same h.0.outputs in
      let rest = ports_unmarked (marked number_in seen r.outputs) ports (same ∙ sym (length-marked number_in seen r.outputs)) h.1 in
      (λ i. here i ++ rest i)
      ∙ ap (λ z. firsts (found false ps seen) (port_rows ps f r) ++ firsts z (flat_map (port_rows ps f) ports)) marks
      ∙ sym (firsts-append (found false ps seen) (port_rows ps f r) (flat_map (port_rows ps f) ports))

  pub ports_marked : (seen : List Bool) (ports : List ReadPort) → length ps ≡ length seen → AllByRecursion (IsReadPortWithin (length ps)) ports
      → found false ps (marked_ports seen ports) ≡ and_places (found false ps seen) (flat_map (port_rows ps f) ports)
  unfolding number_in driver_in
  ports_marked seen [] same h = refl
  ports_marked seen (r ∷ ports) same h =
      let marks = marks_unmarked number_in (driver_in r) ps apart seen r.outputs same h.0.outputs in
      let rest = ports_marked (marked number_in seen r.outputs) ports (same ∙ sym (length-marked number_in seen r.outputs)) h.1 in
      rest
      ∙ ap (λ z. and_places z (flat_map (port_rows ps f) ports)) marks
      ∙ sym (places-append (found false ps seen) (port_rows ps f r) (flat_map (port_rows ps f) ports))

pub ports_within : (count : ℕ) (seen : List Bool) (ports : List ReadPort) → AllByRecursion (IsReadPortWithin count) ports → AllByRecursion (IsReadPortWithin count) (unmarked_ports seen ports)
ports_within count seen [] h = h
ports_within count seen (r ∷ ports) h =
    (record { address = h.0.address; outputs = within_unmarked (λ (o : Output). o.number) (λ (o : Output). o.number < count) seen r.outputs h.0.outputs }, ports_within count (marked (λ (o : Output). o.number) seen r.outputs) ports h.1)

-- what is kept of a part of one row
pub first_single : (n : ℕ) (driver : List Place → Driver) (seen new : List Bool) (part : Part) (kept : Option Part) (was : Bool) → ((ps : List Place) → part_rows ps part ≡ record { place = place_at ps n; driver = driver ps } ∷ []) → ((count : ℕ) → IsPartWithin count part → n < count) → was ≡ not (get_or seen n false) → kept ≡ then_some was part → new ≡ set seen n true → IsFirstOf seen new part kept
first_single n driver seen new part kept was rows number e is marks =
    let kept_is : kept ≡ then_some (not (get_or seen n false)) part = is ∙ ap (λ z. then_some z part) e in
    first_items (λ (k : ℕ). k) (λ ps k. driver ps) seen new part kept (n ∷ []) (unmarked (λ (k : ℕ). k) seen (n ∷ [])) (λ ps. rows ps)
    (λ ps. ap (option_rows ps) kept_is ∙ there ps (get_or seen n false))
    (λ count h. (number count h, tt))
    (λ count h. subst (IsOptionWithin count) (sym kept_is) (inside count h (get_or seen n false)))
    refl marks
  where
    there : (ps : List Place) (t : Bool) → option_rows ps (then_some (not t) part) ≡ map (λ (k : ℕ). record { place = place_at ps k; driver = driver ps }) (if t then [] else n ∷ [])
    there ps true = refl
    there ps false = rows ps

    inside : (count : ℕ) → IsPartWithin count part → (t : Bool) → IsOptionWithin count (then_some (not t) part)
    inside count h true = tt
    inside count h false = h

-- of all storage bits the numbers are below the count
pub stores_within : (count : ℕ) (bits : List StoreBit) → AllByRecursion (IsStoreWithin count) bits → AllByRecursion (λ (b : StoreBit). b.number < count) bits
stores_within count [] h = h
stores_within count (b ∷ bits) h = (h.0.0, stores_within count bits h.1)

-- the same of all bits that a rule updates
pub held_within : (count width : ℕ) (bits : List HeldBit) → AllByRecursion (IsHeldBitWithin count width) bits → AllByRecursion (λ (b : HeldBit). b.number < count) bits
held_within count width [] h = h
held_within count width (b ∷ bits) h = (h.0.0, held_within count width bits h.1)

-- a part more
pub first_next : (ps : List Place) (kept : List Part) (more : Option Part) (seen new : List Bool) (part : Part) (rest : List Part) (all : List Driven) → AreApart ps → length ps ≡ length seen → IsPartWithin (length ps) part → IsFirstOf seen new part more → parts_rows ps kept ++ firsts (found false ps seen) (parts_rows ps (part ∷ rest)) ≡ all → parts_rows ps (kept ++ listed more) ++ firsts (found false ps new) (parts_rows ps rest) ≡ all
first_next ps kept more seen new part rest all apart same h first e =
    let rows = parts_rows ps kept in
    let here = firsts (found false ps seen) (part_rows ps part) in
    let marks = ap (λ z. firsts z (parts_rows ps rest)) (first.marks ps apart same h) in
    let split = firsts-append (found false ps seen) (part_rows ps part) (parts_rows ps rest) in
    ap (λ z. z ++ firsts (found false ps new) (parts_rows ps rest)) (flat_map-append (part_rows ps) kept (listed more) ∙ ap (λ z. rows ++ z) (option_listed more ∙ first.rows ps apart same h))
    ∙ (append_assoc rows here (firsts (found false ps new) (parts_rows ps rest))
    ∙ (ap (λ z. rows ++ z) (ap (λ z. here ++ z) marks ∙ sym split)
    ∙ e))
  where
    option_listed : (more : Option Part) → flat_map (part_rows ps) (listed more) ≡ option_rows ps more
    option_listed None = refl
    option_listed (Some p) = append-nil (part_rows ps p)

-- of the parts kept and a part more the numbers are below the count
pub within_next : (count : ℕ) (kept : List Part) (more : Option Part) → ArePartsWithin count kept → IsOptionWithin count more → ArePartsWithin count (kept ++ listed more)
within_next count [] None h k = tt
within_next count [] (Some p) h k = (k, tt)
within_next count (p ∷ kept) more h k = (h.0, within_next count kept more h.1 k)
