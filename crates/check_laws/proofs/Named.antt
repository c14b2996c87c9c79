-- Modules and ports found by their names.
use Rattle.std.proofs.Common.{◌≡◌, Bool, true, false, cond, ℕ, List, [], ◌∷◌, Option, Some, None, Ordering, Less, Equal, Greater, inl, inr, refl, sym, ap, subst}
use Rattle.std.specs.Prelude.{map, filter}
use Rattle.std.specs.Option.{option_map}
use Rattle.std.specs.Ordering.{int_cmp, match_ordering}
use Rattle.std.specs.Str.{bytes_eq}
use Rattle.std.proofs.lemmas.Slice.Eq.{bytes_eq-Decides}
use Rattle.rtl_ir.specs.declared.module.Design.{Design}
use Rattle.rtl_ir.specs.declared.module.Module.{Module}
use Rattle.rtl_ir.specs.declared.ports.PortLine.{PortLine}
use Rattle.rtl_ir.specs.declared.wire.Wire.{Wire}
use Rattle.rtl_ir.specs.Flat.Tree.{named, ports_or_none, design_ports as flat_ports}
use Rattle.rtl_ir.specs.Ports.{is_port, place_wire, in_number_order, line_of, ports_of}
use Rattle.rtl_ir.specs.Types.{port_lines, module_named, design_ports, port_named}
use Rattle.net_model.specs.Lists.{In, Distinct}
use Rattle.net_model.specs.Within.{Each}
use Rattle.net_model.proofs.Members.{In-map, In-mapped, map-map, apart_at}
use Rattle.check_laws.specs.Sound.{IsSoundModule, IsSound}
use Rattle.check_laws.proofs.Parts.{IsPart, part_same, part_none, part_more, part_trans, part_filter, part_flip, part_both, part_map}

-- ports in order are ports
placed_part : {A : Type 0} (f : Wire → A) (w : Wire) (ws : List Wire) → IsPart (map f (place_wire w ws)) (map f (w ∷ ws))
placed_part f w [] = part_same (f w ∷ [])
placed_part f w (v ∷ vs) = by (int_cmp w.number v.number) (placed_part f w vs)
  where
    by : (o : Ordering) → IsPart (map f (place_wire w vs)) (map f (w ∷ vs)) → IsPart (map f (match_ordering o (w ∷ v ∷ vs) (w ∷ v ∷ vs) (v ∷ place_wire w vs))) (map f (w ∷ v ∷ vs))
    by Less h = part_same (f w ∷ f v ∷ map f vs)
    by Equal h = part_same (f w ∷ f v ∷ map f vs)
    by Greater h =
        part_trans (f v ∷ map f (place_wire w vs)) (f v ∷ f w ∷ map f vs) (f w ∷ f v ∷ map f vs)
        (part_more (f v) (map f (place_wire w vs)) (f w ∷ map f vs) h)
        (part_both (f v ∷ f w ∷ []) (map f vs) (f w ∷ f v ∷ []) (map f vs) (part_flip (f v ∷ []) (f w ∷ [])) (part_same (map f vs)))

ordered_part : {A : Type 0} (f : Wire → A) (ws : List Wire) → IsPart (map f (in_number_order ws)) (map f ws)
ordered_part f [] = part_none []
ordered_part f (w ∷ ws) =
    part_trans (map f (place_wire w (in_number_order ws))) (f w ∷ map f (in_number_order ws)) (f w ∷ map f ws)
    (placed_part f w (in_number_order ws)) (part_more (f w) (map f (in_number_order ws)) (map f ws) (ordered_part f ws))

pub ordered_lines : (ws : List Wire) → IsPart (ports_of ws) (port_lines ws)
ordered_lines ws = ordered_part line_of (filter (λ w. is_port w.role) ws)

-- a port is a wire
pub wire_of_line : (ws : List Wire) (n : PortLine) → In n (ports_of ws) → (w : Wire) × In w ws × (n ≡ line_of w)
wire_of_line ws n i =
    In-mapped line_of n ws ((part_map line_of (filter (λ w. is_port w.role) ws) ws (part_filter (λ w. is_port w.role) ws)).each n ((ordered_lines ws).each n i))

line_names : (ws : List Wire) → map (λ (n : PortLine). n.name) (port_lines ws) ≡ map (λ (w : Wire). w.name) (filter (λ w. is_port w.role) ws)
line_names ws = map-map line_of (λ (n : PortLine). n.name) (filter (λ w. is_port w.role) ws)

pub lines_distinct : (ws : List Wire) → Distinct (map (λ (w : Wire). w.name) ws) → Distinct (map (λ (n : PortLine). n.name) (port_lines ws))
lines_distinct ws u =
    subst Distinct (sym (line_names ws)) ((part_map (λ (w : Wire). w.name) (filter (λ w. is_port w.role) ws) ws (part_filter (λ w. is_port w.role) ws)).once u)

pub ports_distinct : (ws : List Wire) → Distinct (map (λ (w : Wire). w.name) ws) → Distinct (map (λ (n : PortLine). n.name) (ports_of ws))
ports_distinct ws u =
    (part_map (λ (n : PortLine). n.name) (ports_of ws) (port_lines ws) (ordered_lines ws)).once (lines_distinct ws u)

-- a port is found by its name
pub port_found : (ns : List PortLine) → Distinct (map (λ (n : PortLine). n.name) ns) → (n : PortLine) → In n ns → port_named ns n.name ≡ Some n
port_found [] u n i = absurd i
port_found (m ∷ ns) u n i = by (λ j. port_found ns u.1 n j) (bytes_eq m.name n.name) refl i
  where
    by : (In n ns → port_named ns n.name ≡ Some n) → (t : Bool) → bytes_eq m.name n.name ≡ t → In n (m ∷ ns) → cond t (Some m) (port_named ns n.name) ≡ Some n
    by later true e (inl p) = ap Some (sym p)
    by later true e (inr j) =
        absurd (apart_at m.name (map (λ (k : PortLine). k.name) ns) u.0 n.name (In-map (λ (k : PortLine). k.name) n ns j) ((bytes_eq-Decides m.name n.name).0 e))
    by later false e (inl p) =
        let same : bytes_eq m.name n.name ≡ true = (bytes_eq-Decides m.name n.name).1 (ap (λ (k : PortLine). k.name) (sym p)) in
        absurd (cc)
    by later false e (inr j) = later j

-- the ports of a name in the flat netlist, by those that the check has
pub data SamePorts : Option (List PortLine) → List PortLine → Type 0 where
  NoPorts : SamePorts None []
  PortsOf : (ws : List Wire) → Distinct (map (λ (w : Wire). w.name) ws) → SamePorts (Some (port_lines ws)) (ports_of ws)

same_named : (ms : List Module) → Each IsSoundModule ms → (id : List ℕ) → SamePorts (option_map (λ (m : Module). port_lines m.wires) (module_named ms id)) (ports_or_none (named ms id))
same_named [] h id = NoPorts
same_named (m ∷ ms) h id = by (bytes_eq m.id id) (same_named ms (λ k i. h k (inr i)) id)
  where
    by : (t : Bool) → SamePorts (option_map (λ (m : Module). port_lines m.wires) (module_named ms id)) (ports_or_none (named ms id)) → SamePorts (option_map (λ (m : Module). port_lines m.wires) (cond t (Some m) (module_named ms id))) (ports_or_none (cond t (Some m) (named ms id)))
    by true k = PortsOf m.wires (h m (inl refl)).wires
    by false k = k

pub same_ports : (d : Design) → IsSound d → (id : List ℕ) → SamePorts (design_ports d.modules id) (flat_ports d id)
same_ports d s id = same_named d.modules s.modules id
