-- The wires that stay are a pass.
use Rattle.std.proofs.Common.{◌≡◌, ℕ, zero, suc, ◌+◌, ◌<◌, ◌≤◌, Bool, true, false, cond, if◌then◌else◌, List, [], ◌∷◌, ◌++◌, take, Some, inl, inr, ⊎_elim, refl, sym, ◌∙◌, ap, subst, arith}
use Rattle.std.specs.Prelude.{ℤ, ◌&&◌, ◌||◌, ◌==◌, filter, flat_map, map, slice_get}
use Rattle.std.specs.List.{range_with_len}
use Rattle.std.proofs.Common.{map-id}
use Rattle.std.proofs.lemmas.Bool.{eq-eqb, le-ltb, or_parts}
use Rattle.rtl_sig.specs.declared.sig.WireBit.{WireBit}
use Rattle.rtl_ir.specs.declared.wire.Wire.{Wire}
use Rattle.rtl_ir.specs.Drivers.{Drive, FromPort, all_by, drive_count, is_input, port_drives}
use Rattle.rtl_ir.specs.Fault.{Fault, BadPort, fault_if, spot}
use Rattle.rtl_ir.specs.Faults.Bits.{bit_faults, bits_faults, faults_of_two}
use Rattle.rtl_ir.specs.Faults.Wires.{is_bad_port, wire_faults, with_number}
use Rattle.rtl_ir.specs.Ports.{is_port}
use Rattle.rtl_ir.specs.Signals.{bits_of_wire}
use Rattle.net_model.specs.Lists.{In}
use Rattle.net_model.proofs.Members.{map-map}
use Rattle.pass_laws.proofs.Counting.{bits_more, bits_of, count, count_more}
use Rattle.pass_laws.proofs.Faultless.{none_left, none_right}
use Rattle.rtl_ir.specs.Attributes.{is_kept}
use Rattle.opt_clean.specs.Kept.{marked}
use Rattle.opt_clean.specs.Wires.{mark_count, names_wire, new_place, stays, wire_marks}
use Rattle.opt_clean.proofs.Marks.{filter_marked, others}
use Rattle.pass_laws.proofs.Once.{count_or}
use Rattle.opt_clean.proofs.Showing.{wire_in}

-- the place of an item among those that are marked
module _ {A : Type 0} where
  pub place_at : (ts : List Bool) (xs : List A) (k : ℕ) (x : A) → slice_get ts k ≡ Some true → slice_get xs k ≡ Some x → slice_get (marked ts xs) (new_place ts k) ≡ Some x
  place_at [] xs k x e f = absurd (cc)
  place_at (t ∷ ts) [] k x e f = absurd (cc)
  place_at (true ∷ ts) (y ∷ xs) zero x e f = f
  place_at (false ∷ ts) (y ∷ xs) zero x e f = absurd (cc)
  place_at (true ∷ ts) (y ∷ xs) (suc k) x e f =
      let one : suc (mark_count (take k ts)) ≡ 1 + mark_count (take k ts) = omega arith in
      subst (λ n. slice_get (y ∷ marked ts xs) n ≡ Some x) one (place_at ts xs k x e f)
  place_at (false ∷ ts) (y ∷ xs) (suc k) x e f =
      let none : mark_count (take k ts) ≡ 0 + mark_count (take k ts) = omega arith in
      subst (λ n. slice_get (marked ts xs) n ≡ Some x) none (place_at ts xs k x e f)

  pub marked_at : (ts : List Bool) (xs : List A) (j : ℕ) (x : A) → slice_get (marked ts xs) j ≡ Some x → (k : ℕ) × (slice_get ts k ≡ Some true) × (slice_get xs k ≡ Some x) × (new_place ts k ≡ j)
  marked_at [] xs j x e = absurd (cc)
  marked_at (t ∷ ts) [] j x e = absurd (cc)
  marked_at (true ∷ ts) (y ∷ xs) zero x e = (0, refl, e, refl)
  marked_at (true ∷ ts) (y ∷ xs) (suc j) x e =
      let k = marked_at ts xs j x e in (suc k.0, k.1, k.2, omega (arith, k.3))
  marked_at (false ∷ ts) (y ∷ xs) j x e = let k = marked_at ts xs j x e in (suc k.0, k.1, k.2, omega (arith, k.3))

-- marked items have places of their own
pub place_one : (ts : List Bool) (i j : ℕ) → slice_get ts i ≡ Some true → slice_get ts j ≡ Some true → new_place ts i ≡ new_place ts j → i ≡ j
place_one [] i j e f g = absurd (cc)
place_one (t ∷ ts) zero zero e f g = refl
place_one (true ∷ ts) zero (suc j) e f g = absurd (omega (arith, g))
place_one (false ∷ ts) zero (suc j) e f g = absurd (cc)
place_one (true ∷ ts) (suc i) zero e f g = absurd (omega (arith, g))
place_one (false ∷ ts) (suc i) zero e f g = absurd (cc)
place_one (true ∷ ts) (suc i) (suc j) e f g = ap suc (place_one ts i j e f (omega (arith, g)))
place_one (false ∷ ts) (suc i) (suc j) e f g = ap suc (place_one ts i j e f (omega (arith, g)))

-- what is said of the wire at a place
pub mark_at : (bits : List WireBit) (first : ℕ) (ws : List Wire) (k : ℕ) (w : Wire) → slice_get ws k ≡ Some w → slice_get (wire_marks bits first ws) k ≡ Some (stays bits (first + k) w)
mark_at bits first [] k w e = absurd (cc)
mark_at bits first (v ∷ ws) zero w e =
    let same : v ≡ w = cc in
    let z : first ≡ first + 0 = omega arith in
    λ i. Some (stays bits (z i) (same i))
mark_at bits first (v ∷ ws) (suc k) w e =
    let z : first + 1 + k ≡ first + suc k = omega arith in
    subst (λ n. slice_get (wire_marks bits (first + 1) ws) k ≡ Some (stays bits n w)) z (mark_at bits (first + 1) ws k w e)

-- what goes is no port
pub gone_inner : (bits : List WireBit) (first : ℕ) (ws : List Wire) (w : Wire) → In w (others (wire_marks bits first ws) ws) → is_port w.role ≡ false
gone_inner bits first [] w i = absurd i
gone_inner bits first (v ∷ ws) w i = by (λ j. gone_inner bits (first + 1) ws w j) (stays bits first v) refl i
  where
    by : (In w (others (wire_marks bits (first + 1) ws) ws) → is_port w.role ≡ false) → (t : Bool) → stays bits first v ≡ t → In w (if t then others (wire_marks bits (first + 1) ws) ws else v ∷ others (wire_marks bits (first + 1) ws) ws) → is_port w.role ≡ false
    by later true e j = later j
    by later false e (inl f) = ap (λ (z : Wire). is_port z.role) f ∙ (or_parts (is_port v.role) (is_kept v.attributes || names_wire bits first) e).0
    by later false e (inr j) = later j

-- the ports are the same
pub kept_ports : (ts : List Bool) (ws : List Wire) → ((w : Wire) → In w (others ts ws) → is_port w.role ≡ false) → filter (λ (w : Wire). is_port w.role) (marked ts ws) ≡ filter (λ (w : Wire). is_port w.role) ws
kept_ports ts ws h = filter_marked (λ (w : Wire). is_port w.role) ts ws h

-- and have the same faults
no_number : (numbers : List ℤ) (w : Wire) → is_port w.role ≡ false → with_number numbers w ≡ numbers
no_number numbers w e = ap (λ t. if t then w.number ∷ numbers else numbers) e

pub fewer_wires : (id : List ℕ) (numbers : List ℤ) (ts : List Bool) (ws : List Wire) → ((w : Wire) → In w (others ts ws) → is_port w.role ≡ false) → wire_faults id numbers ws ≡ [] → wire_faults id numbers (marked ts ws) ≡ []
fewer_wires id numbers [] ws h e = refl
fewer_wires id numbers (t ∷ ts) [] h e = refl
fewer_wires id numbers (true ∷ ts) (w ∷ ws) h e =
    let here : List Fault = fault_if (is_bad_port numbers w) (BadPort (spot id w.name)) in
    let a : here ≡ [] = none_left here (wire_faults id (with_number numbers w) ws) e in
    let b : wire_faults id (with_number numbers w) (marked ts ws) ≡ [] = fewer_wires id (with_number numbers w) ts ws h (none_right here (wire_faults id (with_number numbers w) ws) e) in
    λ i. a i ++ b i
fewer_wires id numbers (false ∷ ts) (w ∷ ws) h e =
    let here : List Fault = fault_if (is_bad_port numbers w) (BadPort (spot id w.name)) in
    let rest : wire_faults id numbers ws ≡ [] = ap (λ z. wire_faults id z ws) (sym (no_number numbers w (h w (inl refl)))) ∙ none_right here (wire_faults id (with_number numbers w) ws) e in
    fewer_wires id numbers ts ws (λ v i. h v (inr i)) rest

-- how often the ports drive a bit of a wire
module _ (at : ℕ) where
  -- the bits of a wire are told apart by their places alone
  alike : (wire from width : ℕ) → count (record { wire = wire; at = at }) (map (λ k. record { wire = wire; at = k }) (range_with_len from width)) ≡ count (record { wire = 0; at = at }) (map (λ k. record { wire = 0; at = k }) (range_with_len from width))
  alike wire from zero = refl
  alike wire from (suc width) =
      let same : (wire == wire) ≡ true = eq-eqb wire wire refl in
      let later = alike wire (from + 1) width in
      λ i. cond (same i && (from == at)) 1 0 + later i

  there_none : (wire other width : ℕ) → (wire ≡ other → ⊥) → count (record { wire = wire; at = at }) (bits_of_wire other width) ≡ 0
  there_none wire other width h =
      ⊎_elim (λ e. e) (λ i. absurd (h (wire_in other width (record { wire = wire; at = at }) i).0)) (count_or (record { wire = wire; at = at }) (bits_of_wire other width))

  abbrev port_bits : ℕ → List Wire → List WireBit
  port_bits first ws = bits_of (port_drives first ws)

  first_bits : (first : ℕ) (w : Wire) (ws : List Wire) → port_bits first (w ∷ ws) ≡ (if is_input w.role then bits_of_wire first w.width else []) ++ port_bits (first + 1) ws
  first_bits first w ws = by (is_input w.role)
    where
      by : (t : Bool) → bits_of ((if t then all_by FromPort (bits_of_wire first w.width) else []) ++ port_drives (first + 1) ws) ≡ (if t then bits_of_wire first w.width else []) ++ port_bits (first + 1) ws
      by true =
          bits_more (all_by FromPort (bits_of_wire first w.width)) (port_drives (first + 1) ws)
          ∙ ap (λ z. z ++ port_bits (first + 1) ws) (map-map (λ (b : WireBit). record { bit = b; source = FromPort }) (λ (d : Drive). d.bit) (bits_of_wire first w.width) ∙ map-id (bits_of_wire first w.width))
      by false = refl

  later_none : (first : ℕ) (ws : List Wire) (wire : ℕ) → wire < first → count (record { wire = wire; at = at }) (port_bits first ws) ≡ 0
  later_none first [] wire h = refl
  later_none first (w ∷ ws) wire h =
      let b : WireBit = record { wire = wire; at = at } in
      let e : count b (port_bits first (w ∷ ws)) ≡ count b ((if is_input w.role then bits_of_wire first w.width else []) ++ port_bits (first + 1) ws) = ap (count b) (first_bits first w ws) in
      let rest : count b (port_bits (first + 1) ws) ≡ 0 = later_none (first + 1) ws wire (omega (arith, h)) in
      let here : count b (if is_input w.role then bits_of_wire first w.width else []) ≡ 0 = by (is_input w.role) in
      omega (arith, e, rest, here, count_more b (if is_input w.role then bits_of_wire first w.width else []) (port_bits (first + 1) ws))
    where
      by : (t : Bool) → count (record { wire = wire; at = at }) (if t then bits_of_wire first w.width else []) ≡ 0
      by true = there_none wire first w.width (λ e. absurd (omega (arith, h, e)))
      by false = refl

  -- of a wire, wherever it stands
  abbrev pub own_count : Wire → ℕ
  own_count w = count (record { wire = 0; at = at }) (if is_input w.role then bits_of_wire 0 w.width else [])

  pub port_count : (first : ℕ) (ws : List Wire) (k : ℕ) (w : Wire) → slice_get ws k ≡ Some w → count (record { wire = first + k; at = at }) (port_bits first ws) ≡ own_count w
  port_count first [] k w e = absurd (cc)
  port_count first (v ∷ ws) zero w e =
      let same : v ≡ w = cc in
      let z : first ≡ first + 0 = omega arith in
      subst (λ (u : Wire). count (record { wire = first + 0; at = at }) (port_bits first (v ∷ ws)) ≡ own_count u) same (subst (λ n. count (record { wire = n; at = at }) (port_bits first (v ∷ ws)) ≡ own_count v) z all)
    where
      by : (t : Bool) → count (record { wire = first; at = at }) (if t then bits_of_wire first v.width else []) ≡ count (record { wire = 0; at = at }) (if t then bits_of_wire 0 v.width else [])
      by true = alike first 0 v.width
      by false = refl

      all : count (record { wire = first; at = at }) (port_bits first (v ∷ ws)) ≡ own_count v
      all =
          let b : WireBit = record { wire = first; at = at } in
          let e : count b (port_bits first (v ∷ ws)) ≡ count b ((if is_input v.role then bits_of_wire first v.width else []) ++ port_bits (first + 1) ws) = ap (count b) (first_bits first v ws) in
          let rest : count b (port_bits (first + 1) ws) ≡ 0 = later_none (first + 1) ws first (omega arith) in
          let here : count b (if is_input v.role then bits_of_wire first v.width else []) ≡ own_count v = by (is_input v.role) in
          omega (arith, e, rest, here, count_more b (if is_input v.role then bits_of_wire first v.width else []) (port_bits (first + 1) ws))
  port_count first (v ∷ ws) (suc k) w e =
      let z : first + 1 + k ≡ first + suc k = omega arith in
      let b : WireBit = record { wire = first + suc k; at = at } in
      let d : count b (port_bits first (v ∷ ws)) ≡ count b ((if is_input v.role then bits_of_wire first v.width else []) ++ port_bits (first + 1) ws) = ap (count b) (first_bits first v ws) in
      let rest : count b (port_bits (first + 1) ws) ≡ own_count w = subst (λ n. count (record { wire = n; at = at }) (port_bits (first + 1) ws) ≡ own_count w) z (port_count (first + 1) ws k w e) in
      let here : count b (if is_input v.role then bits_of_wire first v.width else []) ≡ 0 = by (is_input v.role) in
      omega (arith, d, rest, here, count_more b (if is_input v.role then bits_of_wire first v.width else []) (port_bits (first + 1) ws))
    where
      by : (t : Bool) → count (record { wire = first + suc k; at = at }) (if t then bits_of_wire first v.width else []) ≡ 0
      by true = there_none (first + suc k) first v.width (λ e. absurd (omega (arith, e)))
      by false = refl

-- where each bit of a wire is driven at most once there is no fault of bits
module _ (id : List ℕ) (ds : List Drive) where
  range_once : (wire : ℕ) (w : Wire) (a n : ℕ) → ((k : ℕ) → k < n → drive_count ds (record { wire = wire; at = a + k }) ≤ 1) → flat_map (bit_faults id ds wire w) (range_with_len a n) ≡ []
  range_once wire w a zero h = refl
  range_once wire w a (suc n) h =
      let z : a + 0 ≡ a = omega arith in
      let first : drive_count ds (record { wire = wire; at = a }) ≤ 1 = subst (λ k. drive_count ds (record { wire = wire; at = k }) ≤ 1) z (h 0 (omega arith)) in
      let here : bit_faults id ds wire w a ≡ [] = ap (λ t. if t then faults_of_two id w a else []) (le-ltb 1 (drive_count ds (record { wire = wire; at = a })) first) in
      let later : flat_map (bit_faults id ds wire w) (range_with_len (a + 1) n) ≡ [] = range_once wire w (a + 1) n (λ k lt. let y : a + suc k ≡ a + 1 + k = omega arith in subst (λ j. drive_count ds (record { wire = wire; at = j }) ≤ 1) y (h (suc k) (omega (arith, lt)))) in
      λ i. here i ++ later i

  pub none_twice : (first : ℕ) (ws : List Wire) → ((k : ℕ) (w : Wire) → slice_get ws k ≡ Some w → (at : ℕ) → at < w.width → drive_count ds (record { wire = first + k; at = at }) ≤ 1) → bits_faults id ds first ws ≡ []
  none_twice first [] h = refl
  none_twice first (w ∷ ws) h =
      let here : flat_map (bit_faults id ds first w) (range_with_len 0 w.width) ≡ [] = range_once first w 0 w.width (λ k lt. let z : first + 0 ≡ first = omega arith in let y : k ≡ 0 + k = omega arith in subst (λ n. drive_count ds (record { wire = n; at = 0 + k }) ≤ 1) z (subst (λ j. drive_count ds (record { wire = first + 0; at = j }) ≤ 1) y (h 0 w refl k lt))) in
      let later : bits_faults id ds (first + 1) ws ≡ [] = none_twice (first + 1) ws (λ k v e at lt. let z : first + suc k ≡ first + 1 + k = omega arith in subst (λ n. drive_count ds (record { wire = n; at = at }) ≤ 1) z (h (suc k) v e at lt)) in
      λ i. here i ++ later i
