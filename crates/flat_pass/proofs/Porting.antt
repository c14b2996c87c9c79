-- The ports of a module one after another, and the connections of their pins.
use Rattle.std.proofs.Common.{◌≡◌, ℕ, zero, suc, ◌+◌, ◌<◌, ◌≤◌, true, false, List, [], ◌∷◌, ◌++◌, length, get_or, drop, take, map, Bor, inl, inr, ⊎_elim, refl, sym, ◌∙◌, ap, subst, arith, add-one, append_assoc}
use Rattle.std.proofs.Math.Seq.{drop-cons}
use Rattle.std.proofs.lemmas.List.{append-nil, drop_all, take_all, take_more}
use Rattle.std.proofs.lemmas.List.Folds.{flat_map-map}
use Rattle.std.proofs.lemmas.Bool.Decides.{nat_tests}
use Rattle.std.specs.Prelude.{filter, flat_map, ◌==◌}
use Rattle.rtl_sig.specs.declared.sig.SigBit.{SigBit}
use Rattle.rtl_ir.specs.declared.cell.Pin.{Pin}
use Rattle.rtl_ir.specs.declared.module.Link.{Link}
use Rattle.rtl_ir.specs.declared.ports.PortLine.{PortLine}
use Rattle.rtl_ir.specs.declared.wire.Role.{Role}
use Rattle.rtl_ir.specs.declared.wire.Wire.{Wire}
use Rattle.rtl_ir.specs.Build.{whole}
use Rattle.rtl_ir.specs.Parameters.{signal_at}
use Rattle.rtl_ir.specs.Ports.{in_number_order, is_port, line_of, ports_of}
use Rattle.net_model.specs.Lists.{In}
use Rattle.net_model.specs.Within.{Each}
use Rattle.net_model.proofs.Members.{In-cases, map-append, map-map}
use Rattle.flat_pass.specs.Flat.{pin_links, port_links, role_links}
use Rattle.flat_pass.specs.Ports.{ArePorts, HasPlace, port_line}
use Rattle.flat_pass.specs.declared.ports.Port.{Port}

at_in : {A : Type 0} (xs : List A) (at : ℕ) (x : A) → at < length xs → x ≡ get_or xs at x → In x xs
at_in [] at x h e = absurd (omega (arith, h))
at_in (y ∷ ys) zero x h e = inl e
at_in (y ∷ ys) (suc at) x h e = let inside : at < length ys = omega (arith, h) in inr (at_in ys at x inside e)

-- ---- the ports

-- the line of a wire behind a reference
abbrev pub line_behind : Bor Wire → PortLine
line_behind w = line_of w.now

-- one more port
pub lines_next : (items : List (Bor Wire)) (at : ℕ) (w : Bor Wire) (ports : List Port) (p : Port) → at < length items → w ≡ get_or items at w → p.wire.now ≡ w.now → map port_line ports ≡ map line_behind (take at items) → map port_line (ports ++ p ∷ []) ≡ map line_behind (take (at + 1) items)
lines_next items at w ports p inside is same so =
    map-append port_line ports (p ∷ [])
    ∙ (λ i. so i ++ line_of (same i) ∷ [])
    ∙ ap (λ v. map line_behind (take at items) ++ line_behind v ∷ []) is
    ∙ sym (map-append line_behind (take at items) (get_or items at w ∷ []))
    ∙ ap (map line_behind) (sym (take_more items at w inside))

pub places_next : (wires : List Wire) (ports : List Port) (p : Port) → HasPlace wires p → Each (HasPlace wires) ports → Each (HasPlace wires) (ports ++ p ∷ [])
places_next wires ports p here each = λ q i. ⊎_elim (each q) (last q) (In-cases q ports (p ∷ []) i)
  where
    last : (q : Port) → In q (p ∷ []) → HasPlace wires q
    last q (inl e) = subst (HasPlace wires) (sym e) here
    last q (inr none) = absurd none

-- all of them
pub ports_done : (wires : List Wire) (items : List (Bor Wire)) (at : ℕ) (ports : List Port) → length items ≤ at → map (λ (w : Bor Wire). w.now) items ≡ in_number_order (filter (λ (w : Wire). is_port w.role) wires) → map port_line ports ≡ map line_behind (take at items) → Each (HasPlace wires) ports → ArePorts ports wires
ports_done wires items at ports ends ordered lines places = record {
  lines = lines ∙ ap (map line_behind) (take_all at items ends) ∙ sym (map-map (λ (w : Bor Wire). w.now) line_of items) ∙ ap (map line_of) ordered;
  places = places;
}

-- ---- the connections

-- a pin without bits has none
pub no_links : (role : Role) (pin wire : List SigBit) (links : List Link) → (length pin == 0) ≡ true → links ≡ links ++ pin_links role pin wire
no_links role [] wire links e = sym (append-nil links)
no_links role (b ∷ pin) wire links e = absurd (grind (arith, nat_tests))

pub some_links : (role : Role) (pin wire : List SigBit) → (length pin == 0) ≡ false → role_links role pin wire ≡ pin_links role pin wire
some_links role [] wire h = absurd (cc)
some_links role (b ∷ pin) wire h = refl

module _ (first : ℕ) (wires : List Wire) (pins : List Pin) where
  -- the connection of a port
  abbrev pub links_of_port : Port → List Link
  links_of_port p = port_links first wires pins (port_line p)

  -- one more port
  pub links_next : (ports : List Port) (at : ℕ) (x : Port) → ArePorts ports wires → at < length ports → x ≡ get_or ports at x → (signal : List SigBit) → signal ≡ signal_at pins x.wire.now.name → (links links' all : List Link) → links' ≡ links ++ pin_links x.wire.now.role signal (whole (first + x.place) x.wire.now.width) → links ++ flat_map links_of_port (drop at ports) ≡ all → links' ++ flat_map links_of_port (drop (at + 1) ports) ≡ all
  links_next ports at x are inside is signal same links links' all made so =
      let place : HasPlace wires x = are.places x (at_in ports at x inside is) in
      let here : links' ≡ links ++ links_of_port x = made ∙ (λ i. links ++ pin_links x.wire.now.role (same i) (whole (first + place i) x.wire.now.width)) in
      let left : drop at ports ≡ x ∷ drop (at + 1) ports = drop-cons ports at x inside ∙ (λ i. sym is i ∷ drop (sym (add-one at) i) ports) in
      ap (λ ls. ls ++ flat_map links_of_port (drop (at + 1) ports)) here
      ∙ append_assoc links (links_of_port x) (flat_map links_of_port (drop (at + 1) ports))
      ∙ ap (λ ps. links ++ flat_map links_of_port ps) (sym left)
      ∙ so

  -- all of them
  pub links_done : (ports : List Port) (at : ℕ) → ArePorts ports wires → length ports ≤ at → (links old : List Link) → links ++ flat_map links_of_port (drop at ports) ≡ old ++ flat_map links_of_port ports → links ≡ old ++ flat_map (port_links first wires pins) (ports_of wires)
  links_done ports at are ends links old so =
      sym (append-nil links)
      ∙ ap (λ ps. links ++ flat_map links_of_port ps) (sym (drop_all at ports ends))
      ∙ so
      ∙ ap (λ ls. old ++ ls) (sym (flat_map-map (port_links first wires pins) port_line ports) ∙ ap (flat_map (port_links first wires pins)) are.lines)
