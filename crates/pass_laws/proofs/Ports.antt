-- The ports among wires, in the order of their numbers.
use Rattle.std.proofs.Common.{◌≡◌, ℕ, Bool, true, false, List, [], ◌∷◌, ◌⊎◌, inl, inr, ⊎_elim, refl, sym, ◌∙◌, ap}
use Rattle.std.specs.Prelude.{map, filter, ℤ, pos, int_lt, ◌&&◌, ◌||◌}
use Rattle.std.specs.Ordering.{int_cmp, match_ordering, int_eq}
use Rattle.std.specs.declared.cmp.Ordering.{Ordering}
use Rattle.std.specs.declared.cmp.Ordering.TheVariants.{Less, Equal, Greater}
use Rattle.rtl_ir.specs.Ports.{in_number_order, is_port, line_of, place_wire, ports_of}
use Rattle.rtl_ir.specs.declared.ports.PortLine.{PortLine}
use Rattle.rtl_ir.specs.declared.wire.Wire.{Wire}
use Rattle.net_model.specs.Lists.{In, Distinct}
use Rattle.net_model.proofs.Members.{In-map, In-mapped, apart_at}
use Rattle.pass_laws.proofs.Finding.{in_filtered, filtered_in}
use Rattle.std.specs.List.{list_any}
use Rattle.rtl_ir.specs.Fault.{BadPort, fault_if, spot}
use Rattle.rtl_ir.specs.Faults.Wires.{is_bad_port, is_inout, wire_faults, with_number}
use Rattle.pass_laws.proofs.Faultless.{none_left, none_right}

pub same_item : {A B : Type 0} (f : A → B) (xs : List A) → Distinct (map f xs) → (x y : A) → In x xs → In y xs → f x ≡ f y → x ≡ y
same_item f [] h x y i j n = absurd i
same_item f (z ∷ xs) h x y (inl e) (inl g) n = e ∙ sym g
same_item f (z ∷ xs) h x y (inl e) (inr j) n = absurd (apart_at (f z) (map f xs) h.0 (f y) (In-map f y xs j) (ap f (sym e) ∙ n))
same_item f (z ∷ xs) h x y (inr i) (inl g) n = absurd (apart_at (f z) (map f xs) h.0 (f x) (In-map f x xs i) (ap f (sym g) ∙ sym n))
same_item f (z ∷ xs) h x y (inr i) (inr j) n = same_item f xs h.1 x y i j n

-- the wires in order of their numbers are the wires
place_has : (w v : Wire) (ws : List Wire) → (v ≡ w) ⊎ In v ws → In v (place_wire w ws)
place_has w v [] h = ⊎_elim (λ e. inl e) (λ i. absurd i) h
place_has w v (u ∷ ws) h = by (int_cmp w.number u.number) (place_has w v ws) h
  where
    by : (o : Ordering) → ((v ≡ w) ⊎ In v ws → In v (place_wire w ws)) → (v ≡ w) ⊎ In v (u ∷ ws) → In v (match_ordering o (w ∷ u ∷ ws) (w ∷ u ∷ ws) (u ∷ place_wire w ws))
    by Less later (inl e) = inl e
    by Less later (inr i) = inr i
    by Equal later (inl e) = inl e
    by Equal later (inr i) = inr i
    by Greater later (inl e) = inr (later (inl e))
    by Greater later (inr (inl e)) = inl e
    by Greater later (inr (inr i)) = inr (later (inr i))

has_place : (w v : Wire) (ws : List Wire) → In v (place_wire w ws) → (v ≡ w) ⊎ In v ws
has_place w v [] i = ⊎_elim (λ e. inl e) (λ j. absurd j) i
has_place w v (u ∷ ws) i = by (int_cmp w.number u.number) (has_place w v ws) i
  where
    by : (o : Ordering) → (In v (place_wire w ws) → (v ≡ w) ⊎ In v ws) → In v (match_ordering o (w ∷ u ∷ ws) (w ∷ u ∷ ws) (u ∷ place_wire w ws)) → (v ≡ w) ⊎ In v (u ∷ ws)
    by Less later j = j
    by Equal later j = j
    by Greater later (inl e) = inr (inl e)
    by Greater later (inr j) = ⊎_elim (λ e. inl e) (λ k. inr (inr k)) (later j)

pub ordered_has : (ws : List Wire) (v : Wire) → In v ws → In v (in_number_order ws)
ordered_has [] v i = absurd i
ordered_has (w ∷ ws) v (inl e) = place_has w v (in_number_order ws) (inl e)
ordered_has (w ∷ ws) v (inr i) = place_has w v (in_number_order ws) (inr (ordered_has ws v i))

pub has_ordered : (ws : List Wire) (v : Wire) → In v (in_number_order ws) → In v ws
has_ordered [] v i = absurd i
has_ordered (w ∷ ws) v i = ⊎_elim (λ e. inl e) (λ j. inr (has_ordered ws v j)) (has_place w v (in_number_order ws) i)

pub port_line : (ws : List Wire) (w : Wire) → In w ws → is_port w.role ≡ true → In (line_of w) (ports_of ws)
port_line ws w i e =
    In-map line_of w (in_number_order (filter (λ (v : Wire). is_port v.role) ws)) (ordered_has (filter (λ (v : Wire). is_port v.role) ws) w (in_filtered (λ (v : Wire). is_port v.role) ws w i e))

pub line_port : (ws : List Wire) (n : PortLine) → In n (ports_of ws) → (w : Wire) × In w ws × (is_port w.role ≡ true) × (n ≡ line_of w)
line_port ws n i =
    let k = In-mapped line_of n (in_number_order (filter (λ (v : Wire). is_port v.role) ws)) i in
    let j = filtered_in (λ (v : Wire). is_port v.role) ws k.0 (has_ordered (filter (λ (v : Wire). is_port v.role) ws) k.0 k.1) in
    (k.0, j.0, j.1, k.2)

-- no wire without faults is a port of both directions
pub single : (id : List ℕ) (numbers : List ℤ) (ws : List Wire) → wire_faults id numbers ws ≡ [] → (w : Wire) → In w ws → is_inout w.role ≡ false
single id numbers [] e w i = absurd i
single id numbers (v ∷ ws) e w (inl f) =
    ap (λ (z : Wire). is_inout z.role) f ∙ by (is_inout v.role) (none_left (fault_if (is_bad_port numbers v) (BadPort (spot id v.name))) (wire_faults id (with_number numbers v) ws) e)
  where
    by : (t : Bool) → fault_if (t || (is_port v.role && (int_lt v.number (pos 1) || list_any (int_eq v.number) numbers))) (BadPort (spot id v.name)) ≡ [] → t ≡ false
    by false g = refl
    by true g = absurd (cc)
single id numbers (v ∷ ws) e w (inr i) =
    single id (with_number numbers v) ws (none_right (fault_if (is_bad_port numbers v) (BadPort (spot id v.name))) (wire_faults id (with_number numbers v) ws) e) w i
