-- The places of rows of instances: bits that their output ports drive, and bits of their input ports.
use Rattle.std.proofs.Common.{◌≡◌, ℕ, Bool, true, false, cond, List, [], ◌∷◌, ◌++◌, Some, inl, inr, ⊎_elim, refl, sym, ◌∙◌, ap, subst}
use Rattle.std.specs.Prelude.{map, find, if◌then◌else◌}
use Rattle.std.specs.Option.{option_map_or}
use Rattle.std.specs.Str.{bytes_eq}
use Rattle.std.proofs.lemmas.Slice.Eq.{bytes_eq-Decides}
use Rattle.rtl_sig.specs.declared.sig.SigBit.{SigBit}
use Rattle.rtl_sig.specs.declared.sig.WireBit.{WireBit}
use Rattle.rtl_ir.specs.declared.cell.Pin.{Pin}
use Rattle.rtl_ir.specs.declared.ports.PortLine.{PortLine}
use Rattle.rtl_ir.specs.declared.wire.Role.{Role}
use Rattle.rtl_ir.specs.declared.wire.Role.TheVariants.{Inner, Input, Output, Inout}
use Rattle.rtl_ir.specs.declared.wire.Wire.{Wire}
use Rattle.rtl_ir.specs.Flat.Cell.{port_joins, instance_rows}
use Rattle.rtl_ir.specs.Flat.Place.{Frame, Path}
use Rattle.rtl_ir.specs.Flat.Point.{Point, points, wire_points}
use Rattle.rtl_ir.specs.Flat.Link.{joins}
use Rattle.rtl_ir.specs.Flat.Tree.{if_role, role_points, places}
use Rattle.rtl_ir.specs.Outputs.{drives_pin}
use Rattle.rtl_ir.specs.Parameters.{signal_at}
use Rattle.rtl_ir.specs.Signals.{wire_bits}
use Rattle.rtl_ir.specs.Types.{CellType}
use Rattle.net_model.specs.Lists.{In, Distinct}
use Rattle.net_model.specs.Refine.{places_of}
use Rattle.net_model.proofs.Members.{In-cases, In-map, apart_at, Distinct-append}
use Rattle.check_laws.proofs.Parts.{IsPart, part_none, part_trans, part_left, apart_parts}
use Rattle.check_laws.proofs.Bits.{signal_places}
use Rattle.check_laws.proofs.Ports.{places-join}
use Rattle.check_laws.proofs.Rows.{pins_bits, at_places, signal_part, joins_part, rows_pair}

-- the bits that an output port drives, and those that the output ports drive
abbrev pub port_bits : Role → List WireBit → List WireBit
port_bits Inner bits = []
port_bits Input bits = []
port_bits Output bits = bits
port_bits Inout bits = []

abbrev pub ports_bits : List Pin → List PortLine → List WireBit
ports_bits pins [] = []
ports_bits pins (n ∷ ns) = port_bits n.role (wire_bits (signal_at pins n.name)) ++ ports_bits pins ns

module _ (p : Path) (wires : List Wire) (pins : List Pin) (f : Frame) where
  port_part : (r : Role) (ss : List SigBit) (inner : List Point) → IsPart (places_of (port_joins r (points p wires ss) inner)) (at_places p wires (port_bits r (wire_bits ss)) ++ places (if_role Input r inner))
  port_part Inner ss inner = part_none []
  port_part Inout ss inner = part_none []
  port_part Input ss inner = joins_part inner (points p wires ss)
  port_part Output ss inner =
      part_trans (places_of (joins (points p wires ss) inner)) (at_places p wires (wire_bits ss)) (at_places p wires (wire_bits ss) ++ [])
      (subst (IsPart (places_of (joins (points p wires ss) inner))) (signal_places p wires ss) (joins_part (points p wires ss) inner))
      (part_left (at_places p wires (wire_bits ss)) [])

  pub instance_part : (ns : List PortLine) → IsPart (places_of (instance_rows p wires pins f ns)) (at_places p wires (ports_bits pins ns) ++ places (role_points Input (f ∷ p) ns))
  instance_part [] = part_none []
  instance_part (n ∷ ns) =
      let ss = signal_at pins n.name in
      let inner = wire_points (f ∷ p) n.name 0 n.width in
      let here = port_joins n.role (points p wires ss) inner in
      let bits = port_bits n.role (wire_bits ss) in
      let ins = if_role Input n.role inner in
      let later = role_points Input (f ∷ p) ns in
      let rows = instance_rows p wires pins f ns in
      subst (λ z. IsPart (places_of (here ++ rows)) (at_places p wires (bits ++ ports_bits pins ns) ++ z)) (sym (places-join ins later))
      (rows_pair p wires here rows bits (ports_bits pins ns) (places ins) (places later) (port_part n.role ss inner) (instance_part ns))

-- the output ports are pins that the cell drives
abbrev pub DrivesOutputs : CellType → List PortLine → Type 0
DrivesOutputs type ns = (n : PortLine) → In n ns → n.role ≡ Output → drives_pin type n.name ≡ true

module _ (type : CellType) where
  -- the bits of a pin that is driven
  abbrev pin_bits : Pin → List WireBit
  pin_bits q = if drives_pin type q.name then wire_bits q.sig else []

  -- the bit is at the pin of this name, where this tells whether the first pin has it
  abbrev At : WireBit → Pin → List Pin → List ℕ → Bool → Type 0
  At b q ps name t = In b (wire_bits (option_map_or (λ (z : Pin). z.sig) (cond t (Some q) (find (λ (z : Pin). bytes_eq z.name name) ps)) []))

  in_pin : (q : Pin) (b : WireBit) → drives_pin type q.name ≡ true → In b (wire_bits q.sig) → In b (pin_bits q)
  in_pin q b h i = subst (λ t. In b (if t then wire_bits q.sig else [])) (sym h) i

  -- no bit is at two pins
  two_pins : (a c : List ℕ) → (a ≡ c → ⊥) → drives_pin type a ≡ true → drives_pin type c ≡ true → (ps : List Pin) → Distinct (pins_bits type ps) → (b : WireBit) → In b (wire_bits (signal_at ps a)) → In b (wire_bits (signal_at ps c)) → ⊥
  two_pins a c n h k [] u b i j = absurd i
  two_pins a c n h k (q ∷ ps) u b i j = by (bytes_eq q.name a) (bytes_eq q.name c) refl refl (two_pins a c n h k ps (apart_parts (pin_bits q) (pins_bits type ps) u).second b) i j
    where
      drives : (name : List ℕ) → bytes_eq q.name name ≡ true → drives_pin type name ≡ true → drives_pin type q.name ≡ true
      drives name e d = ap (drives_pin type) ((bytes_eq-Decides q.name name).0 e) ∙ d

      by : (s t : Bool) → bytes_eq q.name a ≡ s → bytes_eq q.name c ≡ t → (At b q ps a false → At b q ps c false → ⊥) → At b q ps a s → At b q ps c t → ⊥
      by true true e g later x y = n (sym ((bytes_eq-Decides q.name a).0 e) ∙ (bytes_eq-Decides q.name c).0 g)
      by true false e g later x y =
          (apart_parts (pin_bits q) (pins_bits type ps) u).both b (in_pin q b (drives a e h) x) ((signal_part type c k ps).each b y)
      by false true e g later x y =
          (apart_parts (pin_bits q) (pins_bits type ps) u).both b (in_pin q b (drives c g k) y) ((signal_part type a h ps).each b x)
      by false false e g later x y = later x y

  -- the port of a bit
  record AtPort (ps : List Pin) (ns : List PortLine) (b : WireBit) : Type 0 where
    port : PortLine
    listed : In port ns
    output : port.role ≡ Output
    bit : In b (wire_bits (signal_at ps port.name))

  one_port : (ps : List Pin) (n : PortLine) (r : Role) → n.role ≡ r → (b : WireBit) → In b (port_bits r (wire_bits (signal_at ps n.name))) → (n.role ≡ Output) × In b (wire_bits (signal_at ps n.name))
  one_port ps n Inner e b i = absurd i
  one_port ps n Input e b i = absurd i
  one_port ps n Output e b i = (e, i)
  one_port ps n Inout e b i = absurd i

  at_port : (ps : List Pin) (ns : List PortLine) (b : WireBit) → In b (ports_bits ps ns) → AtPort ps ns b
  at_port ps [] b i = absurd i
  at_port ps (n ∷ ns) b i =
      ⊎_elim
      (λ l. let k = one_port ps n n.role refl b l in record { port = n; listed = inl refl; output = k.0; bit = k.1 })
      (λ r. let k = at_port ps ns b r in record { port = k.port; listed = inr k.listed; output = k.output; bit = k.bit })
      (In-cases b (port_bits n.role (wire_bits (signal_at ps n.name))) (ports_bits ps ns) i)

  -- output ports of different names drive what the pins do
  pub ports_part : (ps : List Pin) (ns : List PortLine) → Distinct (map (λ (n : PortLine). n.name) ns) → DrivesOutputs type ns → IsPart (ports_bits ps ns) (pins_bits type ps)
  ports_part ps ns d h = record {
    each = λ b i. let k = at_port ps ns b i in (signal_part type k.port.name (h k.port k.listed k.output) ps).each b k.bit;
    once = λ u. once ns d h u;
  }
    where
      first : (n : PortLine) (r : Role) → (r ≡ Output → drives_pin type n.name ≡ true) → Distinct (pins_bits type ps) → Distinct (port_bits r (wire_bits (signal_at ps n.name)))
      first n Inner g u = tt
      first n Input g u = tt
      first n Output g u = (signal_part type n.name (g refl) ps).once u
      first n Inout g u = tt

      once : (ns : List PortLine) → Distinct (map (λ (n : PortLine). n.name) ns) → DrivesOutputs type ns → Distinct (pins_bits type ps) → Distinct (ports_bits ps ns)
      once [] d h u = tt
      once (n ∷ ns) d h u =
          Distinct-append (port_bits n.role (wire_bits (signal_at ps n.name))) (ports_bits ps ns)
          (first n n.role (h n (inl refl)) u)
          (once ns d.1 (λ z i. h z (inr i)) u)
          (λ b i j.
          let a = one_port ps n n.role refl b i in
          let c = at_port ps ns b j in
          two_pins n.name c.port.name
          (apart_at n.name (map (λ (z : PortLine). z.name) ns) d.0 c.port.name (In-map (λ (z : PortLine). z.name) c.port ns c.listed))
          (h n (inl refl) a.0) (h c.port (inr c.listed) c.output) ps u b a.1 c.bit)
