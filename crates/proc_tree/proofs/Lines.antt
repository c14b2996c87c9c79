-- Wires that differ in their attributes alone: the same ports, faults and drivers.
use Rattle.std.proofs.Common.{◌≡◌, ℤ, ℕ, zero, suc, ◌+◌, ◌<◌, Bool, true, false, if◌then◌else◌, ◌&&◌, ◌||◌, List, [], ◌∷◌, ◌++◌, length, refl, sym, ◌∙◌, ap, subst}
use Rattle.std.specs.Prelude.{filter, flat_map, int_lt, map, pos, slice_get, IsSomeAnd}
use Rattle.std.specs.List.{list_any, range_with_len}
use Rattle.std.specs.Ordering.{int_cmp, int_eq, match_ordering}
use Rattle.std.specs.declared.cmp.Ordering.{Ordering}
use Rattle.std.specs.declared.cmp.Ordering.TheVariants.{Less, Equal, Greater}
use Rattle.rtl_sig.specs.declared.sig.SigBit.{SigBit}
use Rattle.rtl_sig.specs.declared.sig.SigBit.TheVariants.{Fixed, Wire as OnWire}
use Rattle.rtl_ir.specs.declared.module.Module.{Module}
use Rattle.rtl_ir.specs.declared.ports.PortLine.{PortLine}
use Rattle.rtl_ir.specs.declared.wire.Wire.{Wire}
use Rattle.rtl_ir.specs.Drivers.{Drive, FromPort, all_by, is_input, port_drives}
use Rattle.rtl_ir.specs.Fault.{BadPort, TwoDrivers, fault_if, spot}
use Rattle.rtl_ir.specs.Faults.Bits.{bits_faults, has_two}
use Rattle.rtl_ir.specs.Faults.Wires.{is_inout, wire_faults, with_number}
use Rattle.rtl_ir.specs.Ports.{in_number_order, is_port, line_of, place_wire, ports_of}
use Rattle.rtl_ir.specs.Signals.{bits_of_wire}
use Rattle.net_model.specs.Proc.Start.{begun_wires, init_attribute, is_begun, wire_starts, with_attribute}
use Rattle.proc_laws.specs.Ready.{IsBitOf}

-- the wires of two lists are the same to the outside, place by place: in name, width, role and number
abbrev pub SameLines : List Wire → List Wire → Type 0
SameLines [] [] = Unit {0}
SameLines (v ∷ vs) (w ∷ ws) = (line_of v ≡ line_of w) × SameLines vs ws
SameLines [] (w ∷ ws) = ⊥
SameLines (v ∷ vs) [] = ⊥

pub begun_lines : (m : Module) (at : ℕ) (ws : List Wire) → SameLines (begun_wires m at ws) ws
begun_lines m at [] = tt
begun_lines m at (w ∷ ws) = (by (is_begun m at), begun_lines m (at + 1) ws)
  where
    by : (t : Bool) → line_of (if t then record w { attributes = with_attribute (init_attribute (wire_starts m at w.width)) w.attributes } else w) ≡ line_of w
    by true = refl
    by false = refl

pub same_names : (vs ws : List Wire) → SameLines vs ws → map (λ (w : Wire). w.name) vs ≡ map (λ (w : Wire). w.name) ws
same_names [] [] h = refl
same_names (v ∷ vs) (w ∷ ws) h = λ i. (h.0 i).name ∷ same_names vs ws h.1 i
same_names [] (w ∷ ws) h = absurd h
same_names (v ∷ vs) [] h = absurd h

pub same_length : (vs ws : List Wire) → SameLines vs ws → length vs ≡ length ws
same_length [] [] h = refl
same_length (v ∷ vs) (w ∷ ws) h = ap suc (same_length vs ws h.1)
same_length [] (w ∷ ws) h = absurd h
same_length (v ∷ vs) [] h = absurd h

pub same_bits : (vs ws : List Wire) → SameLines vs ws → (s : SigBit) → IsBitOf ws s → IsBitOf vs s
same_bits vs ws h (Fixed c) g = tt
same_bits vs ws h (OnWire b) g = at_place vs ws h b.wire g
  where
    at_place : (vs ws : List Wire) → SameLines vs ws → (k : ℕ) → IsSomeAnd (slice_get ws k) (λ w. b.at < w.width) → IsSomeAnd (slice_get vs k) (λ w. b.at < w.width)
    at_place [] [] h k g = g
    at_place (v ∷ vs) (w ∷ ws) h zero g = subst (λ (l : PortLine). b.at < l.width) (sym h.0) g
    at_place (v ∷ vs) (w ∷ ws) h (suc k) g = at_place vs ws h.1 k g
    at_place [] (w ∷ ws) h k g = absurd h
    at_place (v ∷ vs) [] h k g = absurd h

-- faults and drivers
pub same_wire_faults : (id : List ℕ) (numbers : List ℤ) (vs ws : List Wire) → SameLines vs ws → wire_faults id numbers vs ≡ wire_faults id numbers ws
same_wire_faults id numbers [] [] h = refl
same_wire_faults id numbers (v ∷ vs) (w ∷ ws) h =
    (λ i. fault_if (is_inout (h.0 i).role || (is_port (h.0 i).role && (int_lt (h.0 i).number (pos 1) || list_any (int_eq (h.0 i).number) numbers))) (BadPort (spot id (h.0 i).name))
    ++ wire_faults id (if is_port (h.0 i).role then (h.0 i).number ∷ numbers else numbers) vs)
    ∙ ap (λ z. fault_if (is_inout w.role || (is_port w.role && (int_lt w.number (pos 1) || list_any (int_eq w.number) numbers))) (BadPort (spot id w.name)) ++ z) (same_wire_faults id (with_number numbers w) vs ws h.1)
same_wire_faults id numbers [] (w ∷ ws) h = absurd h
same_wire_faults id numbers (v ∷ vs) [] h = absurd h

pub same_port_drives : (at : ℕ) (vs ws : List Wire) → SameLines vs ws → port_drives at vs ≡ port_drives at ws
same_port_drives at [] [] h = refl
same_port_drives at (v ∷ vs) (w ∷ ws) h =
    λ i. (if is_input (h.0 i).role then all_by FromPort (bits_of_wire at (h.0 i).width) else []) ++ same_port_drives (at + 1) vs ws h.1 i
same_port_drives at [] (w ∷ ws) h = absurd h
same_port_drives at (v ∷ vs) [] h = absurd h

pub same_bits_faults : (id : List ℕ) (drives : List Drive) (at : ℕ) (vs ws : List Wire) → SameLines vs ws → bits_faults id drives at vs ≡ bits_faults id drives at ws
same_bits_faults id drives at [] [] h = refl
same_bits_faults id drives at (v ∷ vs) (w ∷ ws) h =
    λ i. flat_map (λ k. if has_two drives (record { wire = at; at = k }) then fault_if (is_input (h.0 i).role) (BadPort (spot id (h.0 i).name)) ++ TwoDrivers id (h.0 i).name k ∷ [] else []) (range_with_len 0 (h.0 i).width)
    ++ same_bits_faults id drives (at + 1) vs ws h.1 i
same_bits_faults id drives at [] (w ∷ ws) h = absurd h
same_bits_faults id drives at (v ∷ vs) [] h = absurd h

-- ports
same_among : (vs ws : List Wire) → SameLines vs ws → SameLines (filter (λ (w : Wire). is_port w.role) vs) (filter (λ (w : Wire). is_port w.role) ws)
same_among [] [] h = tt
same_among (v ∷ vs) (w ∷ ws) h =
    subst (λ t. SameLines (if t then v ∷ filter (λ (w : Wire). is_port w.role) vs else filter (λ (w : Wire). is_port w.role) vs) (filter (λ (w : Wire). is_port w.role) (w ∷ ws)))
    (sym (ap (λ (l : PortLine). is_port l.role) h.0)) (by (is_port w.role) (same_among vs ws h.1))
  where
    by : (t : Bool) → SameLines (filter (λ (w : Wire). is_port w.role) vs) (filter (λ (w : Wire). is_port w.role) ws)
        → SameLines (if t then v ∷ filter (λ (w : Wire). is_port w.role) vs else filter (λ (w : Wire). is_port w.role) vs) (if t then w ∷ filter (λ (w : Wire). is_port w.role) ws else filter (λ (w : Wire). is_port w.role) ws)
    by true g = (h.0, g)
    by false g = g
same_among [] (w ∷ ws) h = absurd h
same_among (v ∷ vs) [] h = absurd h

same_placed : (v w : Wire) → line_of v ≡ line_of w → (vs ws : List Wire) → SameLines vs ws → SameLines (place_wire v vs) (place_wire w ws)
same_placed v w e [] [] h = (e, tt)
same_placed v w e (x ∷ vs) (y ∷ ws) h =
    subst (λ o. SameLines (match_ordering o (v ∷ x ∷ vs) (v ∷ x ∷ vs) (x ∷ place_wire v vs)) (place_wire w (y ∷ ws)))
    (λ i. int_cmp (sym e i).number (sym h.0 i).number) (by (int_cmp w.number y.number) (same_placed v w e vs ws h.1))
  where
    by : (o : Ordering) → SameLines (place_wire v vs) (place_wire w ws)
        → SameLines (match_ordering o (v ∷ x ∷ vs) (v ∷ x ∷ vs) (x ∷ place_wire v vs)) (match_ordering o (w ∷ y ∷ ws) (w ∷ y ∷ ws) (y ∷ place_wire w ws))
    by Less g = (e, h)
    by Equal g = (e, h)
    by Greater g = (h.0, g)
same_placed v w e [] (y ∷ ws) h = absurd h
same_placed v w e (x ∷ vs) [] h = absurd h

same_order : (vs ws : List Wire) → SameLines vs ws → SameLines (in_number_order vs) (in_number_order ws)
same_order [] [] h = tt
same_order (v ∷ vs) (w ∷ ws) h = same_placed v w h.0 (in_number_order vs) (in_number_order ws) (same_order vs ws h.1)
same_order [] (w ∷ ws) h = absurd h
same_order (v ∷ vs) [] h = absurd h

same_all : (vs ws : List Wire) → SameLines vs ws → map line_of vs ≡ map line_of ws
same_all [] [] h = refl
same_all (v ∷ vs) (w ∷ ws) h = λ i. h.0 i ∷ same_all vs ws h.1 i
same_all [] (w ∷ ws) h = absurd h
same_all (v ∷ vs) [] h = absurd h

pub same_ports : (vs ws : List Wire) → SameLines vs ws → ports_of vs ≡ ports_of ws
same_ports vs ws h =
    let p : Wire → Bool = λ (w : Wire). is_port w.role in
    same_all (in_number_order (filter p vs)) (in_number_order (filter p ws)) (same_order (filter p vs) (filter p ws) (same_among vs ws h))
