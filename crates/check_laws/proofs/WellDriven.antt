-- What is accepted is well driven.
use Rattle.std.proofs.Common.{◌≡◌, ℕ, zero, suc, ◌+◌, ◌<◌, Bool, true, false, List, [], ◌∷◌, ◌++◌, length, Some, inl, inr, ⊎_elim, refl, sym, ◌∙◌, ap, subst, append_assoc, arith}
use Rattle.std.specs.Prelude.{map, slice_get, if◌then◌else◌}
use Rattle.std.specs.List.{range_with_len}
use Rattle.rtl_sig.specs.declared.sig.WireBit.{WireBit}
use Rattle.rtl_ir.specs.declared.cell.Cell.{Cell}
use Rattle.rtl_ir.specs.declared.cell.Pin.{Pin}
use Rattle.rtl_ir.specs.declared.module.Module.{Module}
use Rattle.rtl_ir.specs.declared.process.Process.{Process}
use Rattle.rtl_ir.specs.declared.ports.PortLine.{PortLine}
use Rattle.rtl_ir.specs.declared.wire.Role.TheVariants.{Input}
use Rattle.rtl_ir.specs.declared.wire.Wire.{Wire}
use Rattle.rtl_ir.specs.Assigns.{tree_bits}
use Rattle.rtl_ir.specs.Rules.{updated_bits}
use Rattle.rtl_ir.specs.Drivers.{Drive, FromPort, is_input, all_by, port_drives, cell_drives, link_drives, tree_drives, rule_drives, drives_of}
use Rattle.rtl_ir.specs.Faults.Bits.{has_two, bits_faults}
use Rattle.rtl_ir.specs.Flat.Cell.{Ports as FlatPorts, instances}
use Rattle.rtl_ir.specs.Flat.Driver.{Driven}
use Rattle.rtl_ir.specs.Flat.Place.{Frame, Path, Place, Spot, OfWire, OfWord, IsOf}
use Rattle.rtl_ir.specs.Flat.Point.{bit_place}
use Rattle.rtl_ir.specs.Flat.Rows.{rows_of}
use Rattle.rtl_ir.specs.Ports.{ports_of}
use Rattle.rtl_ir.specs.Signals.{wire_bits, bits_of_wire}
use Rattle.rtl_ir.specs.Types.{Ports, CellType, cell_type}
use Rattle.rtl_ir.specs.Outputs.{drives_pin}
use Rattle.net_model.specs.Lists.{In, Distinct}
use Rattle.net_model.specs.Refine.{places_of, IsWellDriven}
use Rattle.net_model.specs.Within.{Each}
use Rattle.net_model.proofs.Members.{In-left, In-right, In-cases, In-map, In-mapped, Distinct-append}
use Rattle.check_laws.specs.Sound.{HasBit, IsSoundModule}
use Rattle.check_laws.proofs.Parts.{IsPart, one_from, distinct_map}
use Rattle.check_laws.proofs.Bits.{found, slice_in, place_name, one_place}
use Rattle.check_laws.proofs.Counting.{driven, no_two, apart_drives, range_in}
use Rattle.check_laws.proofs.Named.{SamePorts, wire_of_line, ports_distinct}
use Rattle.check_laws.proofs.Ports.{role_once}
use Rattle.check_laws.proofs.Rows.{pins_bits, cells_bits, links_bits, at_places, driven-append, cells_driven, links_driven, links_left}
use Rattle.check_laws.proofs.Groups.{In-flat}
use Rattle.check_laws.proofs.Processes.{trees_bits, rules_bits, trees_driven, rules_driven}
use Rattle.check_laws.proofs.Cells.{frames_bits, frame_at, frames_once, instances_part}

-- the bits that cells drive are bits of pins
if_in : (t : Bool) (b : WireBit) (bits : List WireBit) → In b (if t then bits else []) → In b bits
if_in true b bits i = i
if_in false b bits i = absurd i

pins_have : (wires : List Wire) (type : CellType) (pins : List Pin) → ((pin : Pin) → In pin pins → Each (HasBit wires) (wire_bits pin.sig)) → Each (HasBit wires) (pins_bits type pins)
pins_have wires type [] h b i = absurd i
pins_have wires type (pin ∷ pins) h b i =
    ⊎_elim
    (λ l. h pin (inl refl) b (if_in (drives_pin type pin.name) b (wire_bits pin.sig) l))
    (λ r. pins_have wires type pins (λ z j. h z (inr j)) b r)
    (In-cases b (if drives_pin type pin.name then wire_bits pin.sig else []) (pins_bits type pins) i)

pub cells_have : (wires : List Wire) (ports : Ports) (cs : List Cell) → ((c : Cell) → In c cs → (pin : Pin) → In pin c.pins → Each (HasBit wires) (wire_bits pin.sig)) → Each (HasBit wires) (cells_bits ports cs)
cells_have wires ports [] h b i = absurd i
cells_have wires ports (c ∷ cs) h b i =
    ⊎_elim
    (λ l. pins_have wires (cell_type ports c.kind_name) c.pins (h c (inl refl)) b l)
    (λ r. cells_have wires ports cs (λ z j. h z (inr j)) b r)
    (In-cases b (pins_bits (cell_type ports c.kind_name) c.pins) (cells_bits ports cs) i)

-- each bit of an input port is driven from outside
inputs_driven : (first : ℕ) (ws : List Wire) (i at : ℕ) (w : Wire) → slice_get ws i ≡ Some w → w.role ≡ Input → at < w.width → In (record { wire = first + i; at = at }) (driven (port_drives first ws))
inputs_driven first [] i at w e r l = absurd (cc)
inputs_driven first (v ∷ vs) zero at w e r l =
    let same : v ≡ w = cc in
    let start : first ≡ first + 0 = omega arith in
    let plain : 0 + at ≡ at = omega arith in
    let input : is_input v.role ≡ true = ap (λ (z : Wire). is_input z.role) same ∙ ap is_input r in
    let inside : In at (range_with_len 0 v.width) = subst (λ z. In z (range_with_len 0 v.width)) plain (range_in 0 v.width at (subst (λ (z : Wire). at < z.width) (sym same) l)) in
    let bit : In (record { wire = first; at = at }) (bits_of_wire first v.width) = In-map (λ z. record { wire = first; at = z }) at (range_with_len 0 v.width) inside in
    let here : In (record { wire = first; at = at }) (driven (all_by FromPort (bits_of_wire first v.width))) = In-map (λ (d : Drive). d.bit) (record { bit = record { wire = first; at = at }; source = FromPort }) (all_by FromPort (bits_of_wire first v.width)) (In-map (λ z. record { bit = z; source = FromPort }) (record { wire = first; at = at }) (bits_of_wire first v.width) bit) in
    let own : In (record { wire = first; at = at }) (driven (if is_input v.role then all_by FromPort (bits_of_wire first v.width) else [])) = subst (λ t. In (record { wire = first; at = at }) (driven (if t then all_by FromPort (bits_of_wire first v.width) else []))) (sym input) here in
    subst (λ z. In (record { wire = z; at = at }) (driven (port_drives first (v ∷ vs)))) start
    (subst (In (record { wire = first; at = at })) (sym (driven-append (if is_input v.role then all_by FromPort (bits_of_wire first v.width) else []) (port_drives (first + 1) vs)))
    (In-left (record { wire = first; at = at }) (driven (if is_input v.role then all_by FromPort (bits_of_wire first v.width) else [])) (driven (port_drives (first + 1) vs)) own))
inputs_driven first (v ∷ vs) (suc i) at w e r l =
    let next : (first + 1) + i ≡ first + suc i = omega arith in
    subst (λ z. In (record { wire = z; at = at }) (driven (port_drives first (v ∷ vs)))) next
    (subst (In (record { wire = (first + 1) + i; at = at })) (sym (driven-append (if is_input v.role then all_by FromPort (bits_of_wire first v.width) else []) (port_drives (first + 1) vs)))
    (In-right (record { wire = (first + 1) + i; at = at }) (driven (if is_input v.role then all_by FromPort (bits_of_wire first v.width) else [])) (driven (port_drives (first + 1) vs)) (inputs_driven (first + 1) vs i at w e r l)))

longer : (f : Frame) (p : Path) → p ≡ f ∷ p → ⊥
longer f p e = let n : length p ≡ length (f ∷ p) = ap length e in absurd (omega arith)

-- a bit of a word
abbrev pub IsWord : Spot → Type 0
IsWord (OfWire name at) = ⊥
IsWord (OfWord name address at) = Unit {0}

-- a module with these drivers behind those of the outside, cells and connections
module _ (checked : Ports) (ports : FlatPorts) (same : (id : List ℕ) → SamePorts (checked id) (ports id)) (m : Module) (sound : IsSoundModule m) (fine : bits_faults m.id (drives_of checked m) 0 m.wires ≡ []) where
  abbrev pub later : List Drive
  later = tree_drives 0 m.processes ++ rule_drives 0 m.processes

  -- the bits that the module itself drives
  abbrev pub own_bits : List WireBit
  own_bits = cells_bits checked m.cells ++ (links_bits m.links ++ driven later)

  abbrev own : List Drive
  own = cell_drives checked 0 m.cells ++ (link_drives m.links ++ later)

  own_are : driven own ≡ own_bits
  own_are =
      driven-append (cell_drives checked 0 m.cells) (link_drives m.links ++ later)
      ∙ (ap (λ z. z ++ driven (link_drives m.links ++ later)) (cells_driven checked 0 m.cells)
      ∙ ap (λ z. cells_bits checked m.cells ++ z) (driven-append (link_drives m.links) later ∙ ap (λ z. z ++ driven later) (links_driven m.links)))

  drives_are : drives_of checked m ≡ port_drives 0 m.wires ++ own
  drives_are =
      let outside = port_drives 0 m.wires in
      let cells = cell_drives checked 0 m.cells in
      let links = link_drives m.links in
      append_assoc ((outside ++ cells) ++ links) (tree_drives 0 m.processes) (rule_drives 0 m.processes)
      ∙ (append_assoc (outside ++ cells) links later ∙ append_assoc outside cells (links ++ later))

  pub later_are : driven later ≡ trees_bits m.processes ++ rules_bits m.processes
  later_are =
      driven-append (tree_drives 0 m.processes) (rule_drives 0 m.processes)
      ∙ (λ i. trees_driven 0 m.processes i ++ rules_driven 0 m.processes i)

  more : Each (HasBit m.wires) (driven later)
  more b i =
      ⊎_elim
      (λ l. let k = In-flat (λ (p : Process). tree_bits p.root) b m.processes l in
      sound.processes k.0 k.1 b (In-left b (tree_bits k.0.root) (updated_bits k.0.syncs) k.2))
      (λ r. let k = In-flat (λ (p : Process). updated_bits p.syncs) b m.processes r in
      sound.processes k.0 k.1 b (In-right b (tree_bits k.0.root) (updated_bits k.0.syncs) k.2))
      (In-cases b (trees_bits m.processes) (rules_bits m.processes) (subst (In b) later_are i))

  own_have : Each (HasBit m.wires) own_bits
  own_have b i =
      ⊎_elim
      (cells_have m.wires checked m.cells sound.pins b)
      (λ r. ⊎_elim (λ l. sound.links b ((links_left m.links).each b l)) (more b) (In-cases b (links_bits m.links) (driven later) r))
      (In-cases b (cells_bits checked m.cells) (links_bits m.links ++ driven later) i)

  one_each : (b : WireBit) → In b (driven own) → has_two (port_drives 0 m.wires ++ own) b ≡ false
  one_each b i =
      let f = found m.wires b (own_have b (subst (In b) own_are i)) in
      let plain : 0 + b.wire ≡ b.wire = omega arith in
      subst (λ z. has_two z b ≡ false) drives_are (subst (λ z. has_two (drives_of checked m) (record { wire = z; at = b.at }) ≡ false) plain (no_two m.id (drives_of checked m) 0 m.wires fine b.wire b.at f.wire f.is f.inside))

  own_once : Distinct own_bits
  own_once = subst Distinct own_are (apart_drives (port_drives 0 m.wires) own one_each).0

  not_input : (b : WireBit) → In b own_bits → In b (driven (port_drives 0 m.wires)) → ⊥
  not_input b i j = (apart_drives (port_drives 0 m.wires) own one_each).1 b j (subst (In b) (sym own_are) i)

  places_once : (p : Path) → Distinct (at_places p m.wires own_bits)
  places_once p = distinct_map (bit_place p m.wires) own_bits (λ b c i j e. one_place p m.wires sound.wires b c (own_have b i) (own_have c j) e) own_once

  -- an input port has no bit among those that the module drives
  own_apart : (p : Path) (q : Place) → In q (at_places p m.wires own_bits) → (n : PortLine) → In n (ports_of m.wires) → n.role ≡ Input → IsOf n.name q.spot → ⊥
  own_apart p q i n j r o =
      let k = In-mapped (bit_place p m.wires) q own_bits i in
      let f = found m.wires k.0 (own_have k.0 k.1) in
      let w = wire_of_line m.wires n j in
      let name : f.wire.name ≡ w.0.name = place_name p m.wires k.0 f q n.name o.0 k.2 o.1 ∙ ap (λ (z : PortLine). z.name) w.2 in
      let one : f.wire ≡ w.0 = one_from (λ (z : Wire). z.name) m.wires sound.wires f.wire w.0 (slice_in m.wires k.0.wire f.wire f.is) w.1 name in
      let role : f.wire.role ≡ Input = ap (λ (z : Wire). z.role) one ∙ (sym (ap (λ (z : PortLine). z.role) w.2) ∙ r) in
      let plain : 0 + k.0.wire ≡ k.0.wire = omega arith in
      not_input k.0 k.1 (subst (λ z. In (record { wire = z; at = k.0.at }) (driven (port_drives 0 m.wires))) plain (inputs_driven 0 m.wires k.0.wire k.0.at f.wire f.is role f.inside))

  -- where rows have own bits, bits of input ports of instances, and bits of words, the module is well driven
  module _ (words : Path → List Place) (word : (p : Path) (q : Place) → In q (words p) → (q.path ≡ p) × IsWord q.spot) (once : (p : Path) → Distinct (words p)) (rows : (p : Path) → IsPart (places_of (rows_of ports p m)) (at_places p m.wires own_bits ++ (frames_bits ports p (instances m.cells) ++ words p))) where
    names_once : Distinct (map (λ (f : Frame). f.name) (instances m.cells))
    names_once = (instances_part m.cells).once sound.cells

    rows_once : (p : Path) → Distinct (places_of (rows_of ports p m))
    rows_once p =
        (rows p).once (Distinct-append (at_places p m.wires own_bits) (frames_bits ports p (instances m.cells) ++ words p) (places_once p)
        (Distinct-append (frames_bits ports p (instances m.cells)) (words p) (frames_once checked ports same p (instances m.cells) names_once) (once p)
        (λ q i j. let k = frame_at checked ports same p q (instances m.cells) i in longer k.0 p (sym (word p q j).0 ∙ k.2)))
        (λ q i j.
        let k = In-mapped (bit_place p m.wires) q own_bits i in
        ⊎_elim
        (λ l. let f = frame_at checked ports same p q (instances m.cells) l in longer f.0 p (sym (ap (λ (z : Place). z.path) k.2) ∙ f.2))
        (λ r. subst (λ (z : Place). IsWord z.spot) k.2 (word p q r).1)
        (In-cases q (frames_bits ports p (instances m.cells)) (words p) j)))

    rows_apart : (p : Path) (x : Driven) → In x (rows_of ports p m) → x.place.path ≡ p → (n : PortLine) → In n (ports_of m.wires) → n.role ≡ Input → IsOf n.name x.place.spot → ⊥
    rows_apart p x i e n j r o =
        ⊎_elim
        (λ l. own_apart p x.place l n j r o)
        (λ k. ⊎_elim
        (λ l. let f = frame_at checked ports same p x.place (instances m.cells) l in longer f.0 p (sym e ∙ f.2))
        (λ l. subst IsWord o.1 (word p x.place l).1)
        (In-cases x.place (frames_bits ports p (instances m.cells)) (words p) k))
        (In-cases x.place (at_places p m.wires own_bits) (frames_bits ports p (instances m.cells) ++ words p) ((rows p).each x.place (In-map (λ (z : Driven). z.place) x (rows_of ports p m) i)))

    pub well_driven : IsWellDriven ports m
    well_driven = record {
      inputs = λ p. role_once p (ports_of m.wires) (ports_distinct m.wires sound.wires);
      rows = rows_once;
      apart = rows_apart;
      instances = names_once;
    }
