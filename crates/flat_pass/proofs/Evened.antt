-- The connections that a replacement brings are even: their sides have one width, and no constant stands on their left.
use Rattle.std.proofs.Common.{◌≡◌, ℕ, zero, suc, ◌+◌, Bool, true, false, cond, not, ◌&&◌, ◌||◌, List, [], ◌∷◌, length, map, Option, Some, None, ◌⊎◌, inl, inr, refl, sym, ◌∙◌, ap, subst}
use Rattle.std.specs.Prelude.{◌==◌, filter, find, flat_map}
use Rattle.std.specs.List.{list_any, range_with_len}
use Rattle.std.specs.Option.{option_map_or}
use Rattle.std.specs.Str.{bytes_eq}
use Rattle.std.proofs.lemmas.Bool.{eq-eqb, eqb-true, true≢false}
use Rattle.std.proofs.lemmas.Slice.Eq.{bytes_eq-Decides}
use Rattle.cell_types.specs.Unsupported.{is_unsupported}
use Rattle.rtl_sig.specs.declared.sig.SigBit.TheVariants.{Wire as OnWire}
use Rattle.rtl_ir.specs.declared.cell.Cell.{Cell}
use Rattle.rtl_ir.specs.declared.cell.Pin.{Pin}
use Rattle.rtl_ir.specs.declared.module.Link.{Link}
use Rattle.rtl_ir.specs.declared.ports.PortLine.{PortLine}
use Rattle.rtl_ir.specs.declared.wire.Role.{Role}
use Rattle.rtl_ir.specs.declared.wire.Role.TheVariants.{Inner, Input, Output, Inout}
use Rattle.rtl_ir.specs.declared.wire.Wire.{Wire}
use Rattle.rtl_ir.specs.Build.{whole}
use Rattle.rtl_ir.specs.Faults.Cells.{has_constant_output, has_other_width}
use Rattle.rtl_ir.specs.Flat.Cell.{cell_kind}
use Rattle.rtl_ir.specs.Outputs.{drives_pin, is_output}
use Rattle.rtl_ir.specs.Parameters.{signal_at}
use Rattle.rtl_ir.specs.Ports.{is_port, line_of, ports_of}
use Rattle.rtl_ir.specs.Rules.{has_item}
use Rattle.rtl_ir.specs.Signals.{has_constant}
use Rattle.rtl_ir.specs.Types.{Instance, Ports, cell_type, port_lines, port_named, type_by}
use Rattle.net_model.specs.Lists.{Distinct, In}
use Rattle.net_model.proofs.Members.{apart_at, In-map}
use Rattle.pass_laws.specs.Replaces.{IsEven}
use Rattle.pass_laws.proofs.Alone.{HasPorts, IsSound, IsSoundBy}
use Rattle.pass_laws.proofs.Finding.{found_there}
use Rattle.pass_laws.proofs.Ports.{line_port}
use Rattle.flat_pass.specs.Copies.{copied_link}
use Rattle.flat_pass.specs.Flat.{place_of_wire, port_links, role_links}
use Rattle.flat_pass.proofs.Partners.{bytes_apart, bytes_same, wire_name}
use Rattle.flat_pass.proofs.RowsGo.{flat_row}
use Rattle.flat_pass.proofs.Sound.{copied_constant, copied_length}

-- the port of a name
pub port_found : (ws : List Wire) → Distinct (map wire_name ws) → (w : Wire) → In w ws → is_port w.role ≡ true → port_named (port_lines ws) w.name ≡ Some (line_of w)
port_found [] d w i e = absurd i
port_found (v ∷ ws) d w (inl s) e =
    ap (λ t. port_named (map line_of (cond t (v ∷ filter (λ (x : Wire). is_port x.role) ws) (filter (λ (x : Wire). is_port x.role) ws))) w.name) (ap (λ (z : Wire). is_port z.role) (sym s) ∙ e)
    ∙ ap (λ t. cond t (Some (line_of v)) (port_named (port_lines ws) w.name)) (ap (λ (z : Wire). bytes_eq z.name w.name) (sym s) ∙ bytes_same w.name)
    ∙ ap (λ z. Some (line_of z)) (sym s)
port_found (v ∷ ws) d w (inr i) e = by (is_port v.role) (port_found ws d.1 w i e)
  where
    no : bytes_eq v.name w.name ≡ false
    no = bytes_apart v.name w.name (apart_at v.name (map wire_name ws) d.0 w.name (In-map wire_name w ws i))

    by : (t : Bool) → port_named (port_lines ws) w.name ≡ Some (line_of w) → port_named (map line_of (cond t (v ∷ filter (λ (x : Wire). is_port x.role) ws) (filter (λ (x : Wire). is_port x.role) ws))) w.name ≡ Some (line_of w)
    by true later = ap (λ t. cond t (Some (line_of v)) (port_named (port_lines ws) w.name)) no ∙ later
    by false later = later

pub line_found : (ws : List Wire) → Distinct (map wire_name ws) → (l : PortLine) → In l (ports_of ws) → port_named (port_lines ws) l.name ≡ Some l
line_found ws d l i =
    let w = line_port ws l i in
    ap (λ (z : PortLine). port_named (port_lines ws) z.name) w.3 ∙ port_found ws d w.0 w.1 w.2 ∙ ap Some (sym w.3)

-- the pin of a name
pub pin_found : (pins : List Pin) (name : List ℕ) → has_item (signal_at pins name) ≡ true → (p : Pin) × In p pins × (p.name ≡ name) × (p.sig ≡ signal_at pins name)
pin_found pins name e = by (find (λ (q : Pin). bytes_eq q.name name) pins) refl e
  where
    by : (o : Option Pin) → find (λ (q : Pin). bytes_eq q.name name) pins ≡ o → has_item (option_map_or (λ (q : Pin). q.sig) o []) ≡ true → (p : Pin) × In p pins × (p.name ≡ name) × (p.sig ≡ signal_at pins name)
    by None q f = absurd (cc)
    by (Some p) q f =
        let k = found_there (λ (r : Pin). bytes_eq r.name name) pins p q in
        (p, k.0, (bytes_eq-Decides p.name name).0 k.1, ap (λ o. option_map_or (λ (r : Pin). r.sig) o []) (sym q))

pub any_false : {A : Type 0} (test : A → Bool) (xs : List A) → list_any test xs ≡ false → (x : A) → In x xs → test x ≡ false
any_false test [] e x i = absurd i
any_false test (y ∷ xs) e x i = by (test y) refl e (λ f j. any_false test xs f x j) i
  where
    by : (t : Bool) → test y ≡ t → (t || list_any test xs) ≡ false → (list_any test xs ≡ false → In x xs → test x ≡ false) → (x ≡ y) ⊎ In x xs → test x ≡ false
    by true q f later j = absurd (true≢false f)
    by false q f later (inl s) = ap test s ∙ q
    by false q f later (inr j) = later f j

-- the whole signal of a wire
whole_length : (wire at width : ℕ) → length (map OnWire (map (λ n. record { wire = wire; at = n }) (range_with_len at width))) ≡ width
whole_length wire at zero = refl
whole_length wire at (suc width) = ap suc (whole_length wire (at + 1) width)

whole_wires : (wire at width : ℕ) → has_constant (map OnWire (map (λ n. record { wire = wire; at = n }) (range_with_len at width))) ≡ false
whole_wires wire at zero = refl
whole_wires wire at (suc width) = whole_wires wire (at + 1) width

even : (a b : ℕ) → a ≡ b → not (a == b) ≡ false
even a b e = ap not (eq-eqb a b e)

-- an instance whose module has these wires
module _ (pins : List Pin) (ws : List Wire) (names : Distinct (map wire_name ws)) (widths : list_any (has_other_width (port_lines ws)) pins ≡ false) (output : has_constant_output (Instance (port_lines ws)) pins ≡ false) (first : ℕ) where
  module _ (l : PortLine) (i : In l (ports_of ws)) (e : has_item (signal_at pins l.name) ≡ true) where
    pin_width : length (signal_at pins l.name) ≡ l.width
    pin_width =
        let p = pin_found pins l.name e in
        let one = any_false (has_other_width (port_lines ws)) pins widths p.0 p.1 in
        by (length (signal_at pins l.name) == l.width) refl ((λ j. sym e j && option_map_or (λ (port : PortLine). not (length (signal_at pins l.name) == port.width)) (sym (line_found ws names l i) j) false) ∙ (λ j. has_item (sym p.3 j) && option_map_or (λ (port : PortLine). not (length (sym p.3 j) == port.width)) (port_named (port_lines ws) (sym p.2 j)) false) ∙ one)
      where
        by : (t : Bool) → (length (signal_at pins l.name) == l.width) ≡ t → not t ≡ false → length (signal_at pins l.name) ≡ l.width
        by true q f = eqb-true (length (signal_at pins l.name)) l.width q
        by false q f = absurd (true≢false f)

    pin_wires : l.role ≡ Output → has_constant (signal_at pins l.name) ≡ false
    pin_wires r =
        let p = pin_found pins l.name e in
        let one = any_false (λ (q : Pin). drives_pin (Instance (port_lines ws)) q.name && has_constant q.sig) pins output p.0 p.1 in
        (λ j. is_output (sym r j) && has_constant (signal_at pins l.name))
        ∙ (λ j. option_map_or (λ (port : PortLine). is_output port.role) (sym (line_found ws names l i) j) false && has_constant (signal_at pins l.name))
        ∙ (λ j. option_map_or (λ (port : PortLine). is_output port.role) (port_named (port_lines ws) (sym p.2 j)) false && has_constant (sym p.3 j))
        ∙ one

    wire_length : length (whole (first + place_of_wire ws l.name) l.width) ≡ l.width
    wire_length = whole_length (first + place_of_wire ws l.name) 0 l.width

    role_even : (role : Role) → l.role ≡ role → (k : Link) → In k (role_links role (signal_at pins l.name) (whole (first + place_of_wire ws l.name) l.width)) → IsEven k
    role_even Inner r k j = absurd j
    role_even Inout r k j = absurd j
    role_even Input r k (inl s) =
        subst IsEven (sym s) (record { width = even (length (whole (first + place_of_wire ws l.name) l.width)) (length (signal_at pins l.name)) (wire_length ∙ sym pin_width); wires = whole_wires (first + place_of_wire ws l.name) 0 l.width })
    role_even Input r k (inr j) = absurd j
    role_even Output r k (inl s) =
        subst IsEven (sym s) (record { width = even (length (signal_at pins l.name)) (length (whole (first + place_of_wire ws l.name) l.width)) (pin_width ∙ sym wire_length); wires = pin_wires r })
    role_even Output r k (inr j) = absurd j

  -- the connections of its ports
  pub ports_even : (k : Link) → In k (flat_map (port_links first ws pins) (ports_of ws)) → IsEven k
  ports_even k i =
      let l = flat_row (port_links first ws pins) (ports_of ws) k i in
      by l.0 l.1 (has_item (signal_at pins l.0.name)) refl l.2
    where
      by : (l : PortLine) → In l (ports_of ws) → (t : Bool) → has_item (signal_at pins l.name) ≡ t → In k (cond t (role_links l.role (signal_at pins l.name) (whole (first + place_of_wire ws l.name) l.width)) []) → IsEven k
      by l j true e m = role_even l j e l.role refl k m
      by l j false e m = absurd m

-- copies of connections
pub copied_even : (first : ℕ) (l : Link) → IsEven l → IsEven (copied_link first l)
copied_even first l h = record {
  width = (λ j. not (copied_length first l.left j == copied_length first l.right j)) ∙ h.width;
  wires = copied_constant first l.left ∙ h.wires;
}

-- the type of an instance of a known module
pub instance_type : (ports : Ports) (c : Cell) (lines : List PortLine) → cell_kind c ≡ None → ports c.kind_name ≡ Some lines → cell_type ports c.kind_name ≡ Instance lines
unfolding cell_type cell_kind
instance_type ports c lines e f = λ i. type_by (e i) (f i) (is_unsupported c.kind_name)

pub instance_ports : (ports : Ports) (c : Cell) (lines : List PortLine) → cell_kind c ≡ None → ports c.kind_name ≡ Some lines → IsSound ports c → HasPorts c lines
instance_ports ports c lines e f s = subst (IsSoundBy c) (instance_type ports c lines e f) s
