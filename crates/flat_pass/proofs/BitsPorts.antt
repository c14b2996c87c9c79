-- The connections of ports drive what the instance drove by its pins, and what the ports of its module had from outside.
use Rattle.std.proofs.Common.{◌≡◌, ℕ, suc, ◌+◌, ◌<◌, ◌≤◌, Bool, true, false, cond, not, List, [], ◌∷◌, ◌++◌, length, map, Some, inl, inr, refl, sym, ◌∙◌, ap, subst, arith, append_assoc, length-append}
use Rattle.std.specs.Prelude.{filter, find, flat_map}
use Rattle.std.specs.Option.{option_map_or}
use Rattle.std.specs.Ordering.{int_cmp, match_ordering}
use Rattle.std.specs.declared.cmp.Ordering.{Ordering}
use Rattle.std.specs.declared.cmp.Ordering.TheVariants.{Less, Equal, Greater}
use Rattle.std.specs.Str.{bytes_eq}
use Rattle.std.proofs.lemmas.Slice.Eq.{bytes_eq-Decides}
use Rattle.std.proofs.lemmas.List.{append-nil}
use Rattle.rtl_sig.specs.declared.sig.WireBit.{WireBit}
use Rattle.rtl_ir.specs.declared.cell.Pin.{Pin}
use Rattle.rtl_ir.specs.declared.ports.PortLine.{PortLine}
use Rattle.rtl_ir.specs.declared.wire.Role.{Role}
use Rattle.rtl_ir.specs.declared.wire.Role.TheVariants.{Inner, Input, Output, Inout}
use Rattle.rtl_ir.specs.declared.wire.Wire.{Wire}
use Rattle.rtl_ir.specs.Build.{whole}
use Rattle.rtl_ir.specs.Drivers.{FromPort, all_by, is_input, port_drives}
use Rattle.rtl_ir.specs.Outputs.{drives_pin, is_output}
use Rattle.rtl_ir.specs.Parameters.{signal_at}
use Rattle.rtl_ir.specs.Ports.{in_number_order, is_port, line_of, place_wire, ports_of}
use Rattle.rtl_ir.specs.Rules.{has_item}
use Rattle.rtl_ir.specs.Signals.{bits_of_wire, wire_bits}
use Rattle.rtl_ir.specs.Types.{Instance, port_lines, port_named}
use Rattle.net_model.specs.Lists.{Apart, Distinct, In}
use Rattle.net_model.specs.Within.{SigIn}
use Rattle.net_model.proofs.Members.{apart_at, apart_from, In-map, In-mapped, In-right}
use Rattle.pass_laws.specs.Bits.{links_bits, pin_bits}
use Rattle.pass_laws.proofs.Counting.{bits_more, bits_of, count, count_more, links_more}
use Rattle.pass_laws.proofs.Ports.{has_ordered}
use Rattle.flat_pass.specs.Flat.{place_of_wire, port_links, role_links}
use Rattle.flat_pass.proofs.Partners.{bytes_apart, bytes_same, wire_name}
use Rattle.flat_pass.proofs.Evened.{line_found}
use Rattle.flat_pass.proofs.BitsOnce.{bit_at, equal_less, less_less, less_sum, range_moved, range_zero, signal_low, whole_bits, zero_least, zero_sum}

-- a sum over a list
abbrev pub total : {A : Type 0} → (A → ℕ) → List A → ℕ
total f [] = 0
total f (x ∷ xs) = f x + total f xs

-- sums of counts
pin_true : {a b c d e : ℕ} (g : ℕ) → a ≡ c → b ≡ c → d ≡ e → a + d ≤ b + (g + e)
pin_true g h k l = omega (arith, h, k, l)

pin_false : {a d g : ℕ} (b e : ℕ) → a ≡ g → d ≤ b + e → a + d ≤ b + (g + e)
pin_false b e h k = omega (arith, h, k)

pins_sum : {a o s q x h : ℕ} → a ≤ o + s → s ≤ q → x ≡ h + q → h ≡ o → a ≤ x
pins_sum e f g h = omega (arith, e, f, g, h)

swap_sum : {a : ℕ} (x w t : ℕ) → a ≡ w + t → x + a ≡ w + (x + t)
swap_sum x w t e = omega (arith, e)

skip_sum : {a b t g : ℕ} → g ≡ 0 → a ≡ b → b ≡ t → a ≡ g + t
skip_sum e f g = omega (arith, e, f, g)

drive_sum : {x a b g t : ℕ} → x ≡ a + b → g ≡ a → t ≡ b → g + t ≡ x
drive_sum e f g = omega (arith, e, f, g)

next_sum : {p q l : ℕ} → p ≡ 1 + q → q ≡ l → p ≡ suc l
next_sum e f = omega (arith, e, f)

-- the names of ports in order
abbrev pub line_name : PortLine → List ℕ
line_name l = l.name

placed_apart : (x : List ℕ) (w : Wire) (ws : List Wire) → (x ≡ w.name → ⊥) → Apart x (map wire_name ws) → Apart x (map wire_name (place_wire w ws))
placed_apart x w [] n a = (n, tt)
placed_apart x w (v ∷ ws) n a = by (int_cmp w.number v.number) (placed_apart x w ws n a.1)
  where
    by : (o : Ordering) → Apart x (map wire_name (place_wire w ws)) → Apart x (map wire_name (match_ordering o (w ∷ v ∷ ws) (w ∷ v ∷ ws) (v ∷ place_wire w ws)))
    by Less later = (n, a)
    by Equal later = (n, a)
    by Greater later = (a.0, later)

placed_distinct : (w : Wire) (ws : List Wire) → Apart w.name (map wire_name ws) → Distinct (map wire_name ws) → Distinct (map wire_name (place_wire w ws))
placed_distinct w [] a d = (tt, tt)
placed_distinct w (v ∷ ws) a d = by (int_cmp w.number v.number) (placed_distinct w ws a.1 d.1)
  where
    by : (o : Ordering) → Distinct (map wire_name (place_wire w ws)) → Distinct (map wire_name (match_ordering o (w ∷ v ∷ ws) (w ∷ v ∷ ws) (v ∷ place_wire w ws)))
    by Less later = (a, d)
    by Equal later = (a, d)
    by Greater later = (placed_apart v.name w ws (λ e. a.0 (sym e)) d.0, later)

ordered_distinct : (ws : List Wire) → Distinct (map wire_name ws) → Distinct (map wire_name (in_number_order ws))
ordered_distinct [] d = tt
ordered_distinct (w ∷ ws) d =
    placed_distinct w (in_number_order ws) (apart_from w.name (map wire_name (in_number_order ws)) (λ y i e. let v = In-mapped wire_name y (in_number_order ws) i in
    apart_at w.name (map wire_name ws) d.0 y (subst (λ z. In z (map wire_name ws)) (sym v.2) (In-map wire_name v.0 ws (has_ordered ws v.0 v.1))) e)) (ordered_distinct ws d.1)

filtered_apart : (test : Wire → Bool) (x : List ℕ) (ws : List Wire) → Apart x (map wire_name ws) → Apart x (map wire_name (filter test ws))
filtered_apart test x [] a = tt
filtered_apart test x (w ∷ ws) a = by (test w) (filtered_apart test x ws a.1)
  where
    by : (t : Bool) → Apart x (map wire_name (filter test ws)) → Apart x (map wire_name (cond t (w ∷ filter test ws) (filter test ws)))
    by true later = (a.0, later)
    by false later = later

filtered_distinct : (test : Wire → Bool) (ws : List Wire) → Distinct (map wire_name ws) → Distinct (map wire_name (filter test ws))
filtered_distinct test [] d = tt
filtered_distinct test (w ∷ ws) d = by (test w) (filtered_distinct test ws d.1)
  where
    by : (t : Bool) → Distinct (map wire_name (filter test ws)) → Distinct (map wire_name (cond t (w ∷ filter test ws) (filter test ws)))
    by true later = (filtered_apart test w.name ws d.0, later)
    by false later = later

lines_names : (ws : List Wire) → map line_name (map line_of ws) ≡ map wire_name ws
lines_names [] = refl
lines_names (w ∷ ws) = ap (λ z. w.name ∷ z) (lines_names ws)

pub ports_distinct : (ws : List Wire) → Distinct (map wire_name ws) → Distinct (map line_name (ports_of ws))
ports_distinct ws d =
    subst Distinct (sym (lines_names (in_number_order (filter (λ (w : Wire). is_port w.role) ws)))) (ordered_distinct (filter (λ (w : Wire). is_port w.role) ws) (filtered_distinct (λ (w : Wire). is_port w.role) ws d))

-- bits of the module that the instance stands in
module _ (b : WireBit) (ws : List Wire) (names : Distinct (map wire_name ws)) (first : ℕ) (low : b.wire < first) where
  abbrev term : List Pin → PortLine → ℕ
  term pins l = cond (is_output l.role) (count b (wire_bits (signal_at pins l.name))) 0

  abbrev one : Pin → ℕ
  one p = cond (drives_pin (Instance (port_lines ws)) p.name) (count b (wire_bits p.sig)) 0

  pin_term : (p : Pin) (pins : List Pin) (l : PortLine) → bytes_eq p.name l.name ≡ false → term (p ∷ pins) l ≡ term pins l
  pin_term p pins l e =
      ap (λ t. cond (is_output l.role) (count b (wire_bits (option_map_or (λ (q : Pin). q.sig) (cond t (Some p) (find (λ (q : Pin). bytes_eq q.name l.name) pins)) []))) 0) e

  same_terms : (p : Pin) (pins : List Pin) (ls : List PortLine) → Apart p.name (map line_name ls) → total (term (p ∷ pins)) ls ≡ total (term pins) ls
  same_terms p pins [] a = refl
  same_terms p pins (l ∷ ls) a =
      λ i. pin_term p pins l (bytes_apart p.name l.name a.0) i + same_terms p pins ls a.1 i

  -- one pin more
  pin_more : (p : Pin) (pins : List Pin) (ls : List PortLine) → Distinct (map line_name ls) → ((l : PortLine) → In l ls → port_named (port_lines ws) l.name ≡ Some l) → total (term (p ∷ pins)) ls ≤ one p + total (term pins) ls
  pin_more p pins [] d known = zero_least (one p + 0)
  pin_more p pins (l ∷ ls) d known =
      by (bytes_eq p.name l.name) refl (pin_more p pins ls d.1 (λ m i. known m (inr i)))
    where
      by : (t : Bool) → bytes_eq p.name l.name ≡ t → total (term (p ∷ pins)) ls ≤ one p + total (term pins) ls → total (term (p ∷ pins)) (l ∷ ls) ≤ one p + total (term pins) (l ∷ ls)
      by true e later =
          let same : p.name ≡ l.name = (bytes_eq-Decides p.name l.name).0 e in
          let here : term (p ∷ pins) l ≡ cond (is_output l.role) (count b (wire_bits p.sig)) 0 = ap (λ t. cond (is_output l.role) (count b (wire_bits (option_map_or (λ (q : Pin). q.sig) (cond t (Some p) (find (λ (q : Pin). bytes_eq q.name l.name) pins)) []))) 0) e in
          let mine : one p ≡ cond (is_output l.role) (count b (wire_bits p.sig)) 0 = (λ i. cond (option_map_or (λ (port : PortLine). is_output port.role) (port_named (port_lines ws) (same i)) false) (count b (wire_bits p.sig)) 0) ∙ ap (λ o. cond (option_map_or (λ (port : PortLine). is_output port.role) o false) (count b (wire_bits p.sig)) 0) (known l (inl refl)) in
          let rest = same_terms p pins ls (subst (λ z. Apart z (map line_name ls)) (sym same) d.0) in
          pin_true (term pins l) here mine rest
      by false e later = pin_false (one p) (total (term pins) ls) (pin_term p pins l e) later

  no_pins : (ls : List PortLine) → total (term []) ls ≡ 0
  no_pins [] = refl
  no_pins (l ∷ ls) = zero_sum refl (by (is_output l.role)) (no_pins ls)
    where
      by : (t : Bool) → cond t (count b []) 0 ≡ count b []
      by true = refl
      by false = refl

  pins_terms : (pins : List Pin) → total (term pins) (ports_of ws) ≤ count b (pin_bits (Instance (port_lines ws)) pins)
  pins_terms [] = equal_less (no_pins (ports_of ws))
  pins_terms (p ∷ pins) =
      let more = pin_more p pins (ports_of ws) (ports_distinct ws names) (line_found ws names) in
      let rest = pins_terms pins in
      let all = count_more b (cond (drives_pin (Instance (port_lines ws)) p.name) (wire_bits p.sig) []) (pin_bits (Instance (port_lines ws)) pins) in
      let here = by (drives_pin (Instance (port_lines ws)) p.name) in
      pins_sum more rest all here
    where
      by : (t : Bool) → count b (cond t (wire_bits p.sig) []) ≡ cond t (count b (wire_bits p.sig)) 0
      by true = refl
      by false = refl

  whole_zero : (k width : ℕ) → count b (wire_bits (whole (first + k) width)) ≡ 0
  whole_zero k width =
      ap (count b) (whole_bits (first + k) width) ∙ range_zero b (first + k) 0 width (λ e. absurd (omega (arith, low, e)))

  links_term : (pins : List Pin) (l : PortLine) → count b (links_bits (port_links first ws pins l)) ≤ term pins l
  links_term pins l = by (has_item (signal_at pins l.name)) l.role
    where
      by : (t : Bool) (role : Role) → count b (links_bits (cond t (role_links role (signal_at pins l.name) (whole (first + place_of_wire ws l.name) l.width)) [])) ≤ cond (is_output role) (count b (wire_bits (signal_at pins l.name))) 0
      by false role = zero_least (cond (is_output role) (count b (wire_bits (signal_at pins l.name))) 0)
      by true Inner = zero_least 0
      by true Inout = zero_least 0
      by true Input =
          let here : count b (wire_bits (whole (first + place_of_wire ws l.name) l.width) ++ []) ≡ 0 = ap (count b) (append-nil (wire_bits (whole (first + place_of_wire ws l.name) l.width))) ∙ whole_zero (place_of_wire ws l.name) l.width in
          equal_less here
      by true Output =
          let here : count b (wire_bits (signal_at pins l.name) ++ []) ≡ count b (wire_bits (signal_at pins l.name)) = ap (count b) (append-nil (wire_bits (signal_at pins l.name))) in
          equal_less here

  links_terms : (pins : List Pin) (ls : List PortLine) → count b (links_bits (flat_map (port_links first ws pins) ls)) ≤ total (term pins) ls
  links_terms pins [] = zero_least 0
  links_terms pins (l ∷ ls) =
      let all = ap (count b) (links_more (port_links first ws pins l) (flat_map (port_links first ws pins) ls)) in
      let parts = count_more b (links_bits (port_links first ws pins l)) (links_bits (flat_map (port_links first ws pins) ls)) in
      let here = links_term pins l in
      let rest = links_terms pins ls in
      less_sum (all ∙ parts) here rest

  -- no more often than by the pins of the instance
  pub pins_counted : (pins : List Pin) → count b (links_bits (flat_map (port_links first ws pins) (ports_of ws))) ≤ count b (pin_bits (Instance (port_lines ws)) pins)
  pins_counted pins =
      less_less (links_terms pins (ports_of ws)) (pins_terms pins)

-- bits of copies
module _ (first k at : ℕ) (ws : List Wire) (names : Distinct (map wire_name ws)) where
  abbrev given : Wire → ℕ
  given w = cond (is_input w.role) (count (bit_at k at) (bits_of_wire (place_of_wire ws w.name) w.width)) 0

  abbrev given_line : PortLine → ℕ
  given_line l = cond (is_input l.role) (count (bit_at k at) (bits_of_wire (place_of_wire ws l.name) l.width)) 0

  new_term : (pins : List Pin) → ((name : List ℕ) → SigIn first (signal_at pins name)) → (l : PortLine) → count (bit_at (first + k) at) (links_bits (port_links first ws pins l)) ≤ given_line l
  new_term pins within l = by (has_item (signal_at pins l.name)) l.role
    where
      by : (t : Bool) (role : Role) → count (bit_at (first + k) at) (links_bits (cond t (role_links role (signal_at pins l.name) (whole (first + place_of_wire ws l.name) l.width)) [])) ≤ cond (is_input role) (count (bit_at k at) (bits_of_wire (place_of_wire ws l.name) l.width)) 0
      by false role = zero_least (cond (is_input role) (count (bit_at k at) (bits_of_wire (place_of_wire ws l.name) l.width)) 0)
      by true Inner = zero_least 0
      by true Inout = zero_least 0
      by true Input =
          let here : count (bit_at (first + k) at) (wire_bits (whole (first + place_of_wire ws l.name) l.width) ++ []) ≡ count (bit_at k at) (bits_of_wire (place_of_wire ws l.name) l.width) = ap (count (bit_at (first + k) at)) (append-nil (wire_bits (whole (first + place_of_wire ws l.name) l.width)) ∙ whole_bits (first + place_of_wire ws l.name) l.width) ∙ range_moved first k at (place_of_wire ws l.name) 0 l.width in
          equal_less here
      by true Output =
          let here : count (bit_at (first + k) at) (wire_bits (signal_at pins l.name) ++ []) ≡ 0 = ap (count (bit_at (first + k) at)) (append-nil (wire_bits (signal_at pins l.name))) ∙ signal_low (bit_at (first + k) at) first (omega arith) (signal_at pins l.name) (within l.name) in
          equal_less here

  new_terms : (pins : List Pin) → ((name : List ℕ) → SigIn first (signal_at pins name)) → (ls : List PortLine) → count (bit_at (first + k) at) (links_bits (flat_map (port_links first ws pins) ls)) ≤ total given_line ls
  new_terms pins within [] = zero_least 0
  new_terms pins within (l ∷ ls) =
      let all = ap (count (bit_at (first + k) at)) (links_more (port_links first ws pins l) (flat_map (port_links first ws pins) ls)) in
      let parts = count_more (bit_at (first + k) at) (links_bits (port_links first ws pins l)) (links_bits (flat_map (port_links first ws pins) ls)) in
      let here = new_term pins within l in
      let rest = new_terms pins within ls in
      less_sum (all ∙ parts) here rest

  -- the order of ports does not matter
  total_lines : (xs : List Wire) → total given_line (map line_of xs) ≡ total given xs
  total_lines [] = refl
  total_lines (x ∷ xs) = ap (λ z. given x + z) (total_lines xs)

  total_placed : (w : Wire) (xs : List Wire) → total given (place_wire w xs) ≡ given w + total given xs
  total_placed w [] = refl
  total_placed w (x ∷ xs) = by (int_cmp w.number x.number) (total_placed w xs)
    where
      by : (o : Ordering) → total given (place_wire w xs) ≡ given w + total given xs → total given (match_ordering o (w ∷ x ∷ xs) (w ∷ x ∷ xs) (x ∷ place_wire w xs)) ≡ given w + (given x + total given xs)
      by Less later = refl
      by Equal later = refl
      by Greater later = swap_sum (given x) (given w) (total given xs) later

  total_ordered : (xs : List Wire) → total given (in_number_order xs) ≡ total given xs
  total_ordered [] = refl
  total_ordered (x ∷ xs) = total_placed x (in_number_order xs) ∙ ap (λ z. given x + z) (total_ordered xs)

  total_filtered : (xs : List Wire) → total given (filter (λ (w : Wire). is_port w.role) xs) ≡ total given xs
  total_filtered [] = refl
  total_filtered (x ∷ xs) = by x.role refl (total_filtered xs)
    where
      by : (role : Role) → x.role ≡ role → total given (filter (λ (w : Wire). is_port w.role) xs) ≡ total given xs → total given (cond (is_port x.role) (x ∷ filter (λ (w : Wire). is_port w.role) xs) (filter (λ (w : Wire). is_port w.role) xs)) ≡ given x + total given xs
      by Inner e later =
          let none : given x ≡ 0 = ap (λ r. cond (is_input r) (count (bit_at k at) (bits_of_wire (place_of_wire ws x.name) x.width)) 0) e in
          let here : total given (cond (is_port x.role) (x ∷ filter (λ (w : Wire). is_port w.role) xs) (filter (λ (w : Wire). is_port w.role) xs)) ≡ total given (filter (λ (w : Wire). is_port w.role) xs) = ap (λ r. total given (cond (is_port r) (x ∷ filter (λ (w : Wire). is_port w.role) xs) (filter (λ (w : Wire). is_port w.role) xs))) e in
          skip_sum none here later
      by Input e later =
          ap (λ r. total given (cond (is_port r) (x ∷ filter (λ (w : Wire). is_port w.role) xs) (filter (λ (w : Wire). is_port w.role) xs))) e ∙ ap (λ z. given x + z) later
      by Output e later =
          ap (λ r. total given (cond (is_port r) (x ∷ filter (λ (w : Wire). is_port w.role) xs) (filter (λ (w : Wire). is_port w.role) xs))) e ∙ ap (λ z. given x + z) later
      by Inout e later =
          ap (λ r. total given (cond (is_port r) (x ∷ filter (λ (w : Wire). is_port w.role) xs) (filter (λ (w : Wire). is_port w.role) xs))) e ∙ ap (λ z. given x + z) later

  -- the place of a wire
  place_at : (pre : List Wire) (w : Wire) (xs : List Wire) → Distinct (map wire_name (pre ++ w ∷ xs)) → place_of_wire (pre ++ w ∷ xs) w.name ≡ length pre
  place_at [] w xs d = ap (λ t. cond (not t) (1 + place_of_wire xs w.name) 0) (bytes_same w.name)
  place_at (v ∷ pre) w xs d =
      let later = place_at pre w xs d.1 in
      let there : In w.name (map wire_name (pre ++ w ∷ xs)) = In-map wire_name w (pre ++ w ∷ xs) (In-right w pre (w ∷ xs) (inl refl)) in
      let here : place_of_wire (v ∷ (pre ++ w ∷ xs)) w.name ≡ 1 + place_of_wire (pre ++ w ∷ xs) w.name = ap (λ t. cond (not t) (1 + place_of_wire (pre ++ w ∷ xs) w.name) 0) (bytes_apart v.name w.name (apart_at v.name (map wire_name (pre ++ w ∷ xs)) d.0 w.name there)) in
      next_sum here later

  all_bits : (bits : List WireBit) → bits_of (all_by FromPort bits) ≡ bits
  all_bits [] = refl
  all_bits (x ∷ bits) = ap (λ z. x ∷ z) (all_bits bits)

  -- what the ports have from outside
  total_drives : (pre xs : List Wire) (n : ℕ) → ws ≡ pre ++ xs → n ≡ length pre → total given xs ≡ count (bit_at k at) (bits_of (port_drives n xs))
  total_drives pre [] n e l = refl
  total_drives pre (x ∷ xs) n e l =
      let parts = ap (count (bit_at k at)) (bits_more (cond (is_input x.role) (all_by FromPort (bits_of_wire n x.width)) []) (port_drives (n + 1) xs)) in
      let sum = count_more (bit_at k at) (bits_of (cond (is_input x.role) (all_by FromPort (bits_of_wire n x.width)) [])) (bits_of (port_drives (n + 1) xs)) in
      let place : place_of_wire ws x.name ≡ n = ap (λ z. place_of_wire z x.name) e ∙ place_at pre x xs (subst (λ z. Distinct (map wire_name z)) e names) ∙ sym l in
      let here = by (is_input x.role) place in
      let size : n + 1 ≡ length (pre ++ x ∷ []) = let len = length-append pre (x ∷ []) in omega (arith, l, len) in
      let rest = total_drives (pre ++ x ∷ []) xs (n + 1) (e ∙ sym (append_assoc pre (x ∷ []) xs)) size in
      drive_sum (parts ∙ sum) here rest
    where
      by : (t : Bool) → place_of_wire ws x.name ≡ n → cond t (count (bit_at k at) (bits_of_wire (place_of_wire ws x.name) x.width)) 0 ≡ count (bit_at k at) (bits_of (cond t (all_by FromPort (bits_of_wire n x.width)) []))
      by true p =
          ap (λ z. count (bit_at k at) (bits_of_wire z x.width)) p ∙ ap (count (bit_at k at)) (sym (all_bits (bits_of_wire n x.width)))
      by false p = refl

  -- no more often than the ports of the module from outside
  pub outside_counted : (pins : List Pin) → ((name : List ℕ) → SigIn first (signal_at pins name)) → count (bit_at (first + k) at) (links_bits (flat_map (port_links first ws pins) (ports_of ws))) ≤ count (bit_at k at) (bits_of (port_drives 0 ws))
  outside_counted pins within =
      less_less (new_terms pins within (ports_of ws)) (equal_less (total_lines (in_number_order (filter (λ (w : Wire). is_port w.role) ws))
      ∙ total_ordered (filter (λ (w : Wire). is_port w.role) ws)
      ∙ total_filtered ws
      ∙ total_drives [] ws 0 refl refl))
