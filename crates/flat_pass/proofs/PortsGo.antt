-- The joins between the pins of an instance and the ports of its module become connections to the copied wires.
use Rattle.std.proofs.Common.{◌≡◌, ℕ, zero, suc, ◌+◌, ◌<◌, Bool, true, false, cond, not, List, [], ◌∷◌, ◌++◌, length, map, inl, inr, refl, sym, ◌∙◌, ap, subst, arith, append_assoc}
use Rattle.std.specs.Prelude.{flat_map, slice_get}
use Rattle.std.specs.List.{range_with_len}
use Rattle.std.proofs.lemmas.List.{append-nil}
use Rattle.std.specs.Str.{bytes_eq}
use Rattle.std.proofs.lemmas.Slice.Eq.{bytes_eq-Decides}
use Rattle.rtl_sig.specs.declared.sig.SigBit.{SigBit}
use Rattle.rtl_sig.specs.declared.sig.SigBit.TheVariants.{Wire as OnWire}
use Rattle.rtl_ir.specs.declared.cell.Pin.{Pin}
use Rattle.rtl_ir.specs.declared.module.Link.{Link}
use Rattle.rtl_ir.specs.declared.ports.PortLine.{PortLine}
use Rattle.rtl_ir.specs.declared.wire.Role.{Role}
use Rattle.rtl_ir.specs.declared.wire.Role.TheVariants.{Inner, Input, Output, Inout}
use Rattle.rtl_ir.specs.declared.wire.Wire.{Wire}
use Rattle.rtl_ir.specs.Build.{whole}
use Rattle.rtl_ir.specs.Flat.Cell.{instance_rows, port_joins}
use Rattle.rtl_ir.specs.Flat.Link.{joins, link_rows}
use Rattle.rtl_ir.specs.Flat.Place.{Frame, Path, wire_place}
use Rattle.rtl_ir.specs.Flat.Point.{Point, At, name_or_empty, points, wire_points}
use Rattle.rtl_ir.specs.Parameters.{signal_at}
use Rattle.rtl_ir.specs.Ports.{ports_of}
use Rattle.rtl_ir.specs.Rules.{has_item}
use Rattle.net_model.specs.Lists.{In}
use Rattle.net_model.proofs.Members.{In-map, map-append}
use Rattle.pass_laws.proofs.Ports.{line_port}
use Rattle.flat_pass.specs.Flat.{place_of_wire, port_links, role_links}
use Rattle.flat_pass.proofs.Moving.{Move, moved, moved_word}
use Rattle.flat_pass.proofs.RowsMoved.{joins_moved, wire_moved}
use Rattle.flat_pass.proofs.Partners.{bytes_same}

-- the place of a wire among wires
pub place_found : (ws : List Wire) (w : Wire) → In w ws → (place_of_wire ws w.name < length ws) × (name_or_empty (slice_get ws (place_of_wire ws w.name)) ≡ w.name)
place_found [] w i = absurd i
place_found (v ∷ ws) w i = by (bytes_eq v.name w.name) refl (λ j. place_found ws w j) i
  where
    there : Bool → ℕ
    there t = cond (not t) (1 + place_of_wire ws w.name) 0

    by : (t : Bool) → bytes_eq v.name w.name ≡ t → (In w ws → (place_of_wire ws w.name < length ws) × (name_or_empty (slice_get ws (place_of_wire ws w.name)) ≡ w.name)) → In w (v ∷ ws) → (there t < length (v ∷ ws)) × (name_or_empty (slice_get (v ∷ ws) (there t)) ≡ w.name)
    by true e later j = (omega arith, (bytes_eq-Decides v.name w.name).0 e)
    by false e later (inl s) =
        let both : true ≡ false = sym (ap (λ (z : Wire). bytes_eq z.name w.name) (sym s) ∙ bytes_same w.name) ∙ e in
        absurd (cc)
    by false e later (inr j) =
        let k = later j in
        let less = k.0 in
        let is : 1 + place_of_wire ws w.name ≡ suc (place_of_wire ws w.name) = omega arith in
        (omega (arith, less), ap (λ z. name_or_empty (slice_get (v ∷ ws) z)) is ∙ k.1)

-- the whole signal of a wire
whole_from : (p : Path) (ws : List Wire) (wire at width : ℕ) → points p ws (map OnWire (map (λ n. record { wire = wire; at = n }) (range_with_len at width))) ≡ wire_points p (name_or_empty (slice_get ws wire)) at width
whole_from p ws wire at zero = refl
whole_from p ws wire at (suc width) =
    let next : at + 1 ≡ suc at = omega arith in
    ap (λ z. At (wire_place p (name_or_empty (slice_get ws wire)) at) ∷ z) (whole_from p ws wire (at + 1) width ∙ ap (λ n. wire_points p (name_or_empty (slice_get ws wire)) n width) next)

pub whole_points : (p : Path) (ws : List Wire) (wire width : ℕ) → points p ws (whole wire width) ≡ wire_points p (name_or_empty (slice_get ws wire)) 0 width
whole_points p ws wire width = whole_from p ws wire 0 width

pub links-append : (p : Path) (ws : List Wire) (ls ms : List Link) → link_rows p ws (ls ++ ms) ≡ link_rows p ws ls ++ link_rows p ws ms
links-append p ws [] ms = refl
links-append p ws (l ∷ ls) ms =
    ap (λ z. joins (points p ws l.left) (points p ws l.right) ++ z) (links-append p ws ls ms)
    ∙ sym (append_assoc (joins (points p ws l.left) (points p ws l.right)) (link_rows p ws ls) (link_rows p ws ms))

module _ (go : Move) (wires wires' : List Wire) (p p' : Path) (f : Frame) (child : List Wire) (first : ℕ) (pins : List Pin) (outer_goes : (name : List ℕ) → moved_word go (points p wires (signal_at pins name)) ≡ points p' wires' (signal_at pins name)) (inner_goes : (name : List ℕ) (at : ℕ) → In name (map (λ (w : Wire). w.name) child) → go (wire_place (f ∷ p) name at) ≡ wire_place p' (name_or_empty (slice_get wires' (first + place_of_wire child name))) at) where
  module _ (n : PortLine) (own : In n (ports_of child)) where
    abbrev place : ℕ
    place = first + place_of_wire child n.name

    abbrev signal : List SigBit
    signal = signal_at pins n.name

    name_of : In n.name (map (λ (w : Wire). w.name) child)
    name_of = let k = line_port child n own in subst (λ (z : PortLine). In z.name (map (λ (w : Wire). w.name) child)) (sym k.3) (In-map (λ (w : Wire). w.name) k.0 child k.1)

    inner_is : moved_word go (wire_points (f ∷ p) n.name 0 n.width) ≡ points p' wires' (whole place n.width)
    inner_is =
        wire_moved go (f ∷ p) p' n.name (name_or_empty (slice_get wires' (first + place_of_wire child n.name))) (λ at. inner_goes n.name at name_of) 0 n.width
        ∙ sym (whole_points p' wires' (first + place_of_wire child n.name) n.width)

    outer_is : moved_word go (points p wires signal) ≡ points p' wires' signal
    outer_is = outer_goes n.name

    none_left : (ls : List Point) → joins ls [] ≡ []
    none_left [] = refl
    none_left (l ∷ ls) = refl

    -- the joins of a port are the connection that comes with it
    role_moved : (role : Role) (ss : List SigBit) → signal ≡ ss → map (moved go) (port_joins role (points p wires ss) (wire_points (f ∷ p) n.name 0 n.width)) ≡ link_rows p' wires' (cond (has_item ss) (role_links role ss (whole place n.width)) [])
    role_moved Inner [] e = refl
    role_moved Inner (s ∷ ss) e = refl
    role_moved Inout [] e = refl
    role_moved Inout (s ∷ ss) e = refl
    role_moved Input [] e = ap (map (moved go)) (none_left (wire_points (f ∷ p) n.name 0 n.width))
    role_moved Output [] e = refl
    role_moved Input (s ∷ ss) e =
        joins_moved go (wire_points (f ∷ p) n.name 0 n.width) (points p wires (s ∷ ss))
        ∙ (λ i. joins (inner_is i) ((ap (λ z. moved_word go (points p wires z)) (sym e) ∙ outer_is ∙ ap (points p' wires') e) i))
        ∙ sym (append-nil (joins (points p' wires' (whole place n.width)) (points p' wires' (s ∷ ss))))
    role_moved Output (s ∷ ss) e =
        joins_moved go (points p wires (s ∷ ss)) (wire_points (f ∷ p) n.name 0 n.width)
        ∙ (λ i. joins ((ap (λ z. moved_word go (points p wires z)) (sym e) ∙ outer_is ∙ ap (points p' wires') e) i) (inner_is i))
        ∙ sym (append-nil (joins (points p' wires' (s ∷ ss)) (points p' wires' (whole place n.width))))

    port_moved : map (moved go) (port_joins n.role (points p wires signal) (wire_points (f ∷ p) n.name 0 n.width)) ≡ link_rows p' wires' (port_links first child pins n)
    port_moved = role_moved n.role signal refl

  pub ports_moved : (ns : List PortLine) → ((n : PortLine) → In n ns → In n (ports_of child)) → map (moved go) (instance_rows p wires pins f ns) ≡ link_rows p' wires' (flat_map (port_links first child pins) ns)
  ports_moved [] h = refl
  ports_moved (n ∷ ns) h =
      map-append (moved go) (port_joins n.role (points p wires (signal_at pins n.name)) (wire_points (f ∷ p) n.name 0 n.width)) (instance_rows p wires pins f ns)
      ∙ (λ i. port_moved n (h n (inl refl)) i ++ ports_moved ns (λ m j. h m (inr j)) i)
      ∙ sym (links-append p' wires' (port_links first child pins n) (flat_map (port_links first child pins) ns))
