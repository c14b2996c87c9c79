-- Nets over the bits of wires: their gates are such as a text can give.
use Rattle.std.proofs.Common.{◌≡◌, ◌<◌, ◌≤◌, ℕ, zero, suc, ◌+◌, ◌-◌, true, false, List, [], ◌∷◌, ◌++◌, length, inl, inr, refl, sym, ◌∙◌, ap, subst, arith, append_assoc, length-append}
use Rattle.std.specs.Prelude.{IsSomeAnd, map, replicate, slice_get, take}
use Rattle.std.specs.List.{All}
use Rattle.std.proofs.lemmas.List.Elements.{All-append, All-cons, All-head, All-nil, All-replicate, All-tail, All-take}
use Rattle.cell_types.specs.PinName.{pin_text}
use Rattle.cell_types.specs.declared.gate.GateKind.{GateKind}
use Rattle.cell_types.specs.declared.gate.GateKind.TheVariants as Kind
use Rattle.cell_types.specs.declared.pin_name.PinName.{PinName}
use Rattle.cell_types.specs.declared.pin_name.PinName.TheVariants.{A, B, S, Y, Clk, En, Arst, Srst, Aload, Set, Clr, Ad, D, Q, C, E, R, L, Addr, Data}
use Rattle.rtl_bits.specs.declared.bit.Bit.{Bit}
use Rattle.rtl_bits.specs.declared.bit.Bit.TheVariants.{S0}
use Rattle.rtl_sig.specs.Signal.{extended}
use Rattle.rtl_sig.specs.declared.sig.SigBit.{SigBit}
use Rattle.rtl_sig.specs.declared.sig.SigBit.TheVariants.{Fixed}
use Rattle.rtl_ir.specs.Build.{Build, Building, inner_wire, made_name}
use Rattle.rtl_ir.specs.declared.cell.Pin.{Pin}
use Rattle.rtl_ir.specs.declared.module.Module.{Module}
use Rattle.rtl_ir.specs.declared.wire.Wire.{Wire}
use Rattle.net_index.specs.BuilderNames.{gate_name}
use Rattle.net_model.specs.Lists.{In}
use Rattle.rtl_readable.specs.Changing.{cell_names, times}
use Rattle.rtl_readable.specs.Readable.{IsBitOf, IsCell, IsCellParam, IsLink, IsName, IsPin, IsSignal, IsWire}
use Rattle.rtl_readable.proofs.Grown.{grown_bit}
use Rattle.readable_laws.specs.Extends.{Extends, made_names, wire_names}
use Rattle.readable_laws.proofs.Cells.{apart_distinct, are_apart, pins_two}
use Rattle.readable_laws.proofs.Extending.{extends_both, extends_link, no_attributes, signal_later}
use Rattle.readable_laws.proofs.Fresh.{made_is_name}
use Rattle.readable_laws.proofs.Parts.{one_signal}
use Rattle.gate_nets.specs.Gate.{bit_of, gate_of, kind_of, one}
use Rattle.gate_nets.specs.Give.{given}
use Rattle.gate_nets.specs.Reading.{gates_of}
use Rattle.gate_nets.specs.declared.gate.Gate.{Gate}
use Rattle.gate_nets.specs.declared.gate.Gate.TheVariants.{Not, Bitwise, Mux}
use Rattle.gate_nets.proofs.Added.{adds_gates, cell_of, cells_of, next_number, wires_of}
use Rattle.gate_nets.proofs.Nets.{AreFed, Fair, Goods, Logic, Net}
use Rattle.gate_nets.proofs.Standing.{length-extended}

-- the inputs of a gate are bits that wires have
abbrev pub FedBy : List Wire → Gate → Type 0
FedBy wires (Not a) = IsBitOf wires a
FedBy wires (Bitwise kind a b) = IsBitOf wires a × IsBitOf wires b
FedBy wires (Mux a b s) = IsBitOf wires a × IsBitOf wires b × IsBitOf wires s

-- what is said of bits: wires have them
abbrev pub has : List Wire → Logic
has wires = record {
  Has = λ a y. IsBitOf wires y;
  Made = λ at g. IsBitOf wires (bit_of at);
  Fed = FedBy wires;
  constant = λ b. tt;
  inverse = λ u a h. (h, λ at made. made);
  bitwise = λ kind u v a b h k. ((h, k), λ at made. made);
  choice = λ u v c a b s h k j. ((h, k, j), λ at made. made);
}

-- how many fresh names gates take
abbrev twice : List Gate → ℕ
twice [] = zero
twice (g ∷ gates) = suc (suc (twice gates))

-- names of gates and of pins
pub gate_is_name : (kind : GateKind) → IsName (gate_name kind)
gate_is_name Kind.Buf = refl
gate_is_name Kind.Not = refl
gate_is_name Kind.And = refl
gate_is_name Kind.Nand = refl
gate_is_name Kind.Or = refl
gate_is_name Kind.Nor = refl
gate_is_name Kind.Xor = refl
gate_is_name Kind.Xnor = refl
gate_is_name Kind.AndNot = refl
gate_is_name Kind.OrNot = refl
gate_is_name Kind.Mux = refl
gate_is_name Kind.Nmux = refl

pin_is_name : (name : PinName) → IsName (pin_text name)
pin_is_name A = refl
pin_is_name B = refl
pin_is_name S = refl
pin_is_name Y = refl
pin_is_name Clk = refl
pin_is_name En = refl
pin_is_name Arst = refl
pin_is_name Srst = refl
pin_is_name Aload = refl
pin_is_name Set = refl
pin_is_name Clr = refl
pin_is_name Ad = refl
pin_is_name D = refl
pin_is_name Q = refl
pin_is_name C = refl
pin_is_name E = refl
pin_is_name R = refl
pin_is_name L = refl
pin_is_name Addr = refl
pin_is_name Data = refl

abbrev pub pin_names : List Pin → List (List ℕ)
pin_names pins = map (λ (p : Pin). p.name) pins

module _ (wires : List Wire) where
  -- a pin of one bit
  pub one_is : (name : PinName) (s : SigBit) → IsBitOf wires s → IsPin wires (one name s)
  one_is name s h = record { name = pin_is_name name; sig = one_signal wires s h }

  -- pins with these bits
  pub two_are : (p q : PinName) (s t : SigBit) → IsBitOf wires s → IsBitOf wires t → All (IsPin wires) (one p s ∷ one q t ∷ [])
  two_are p q s t h i = pins_two wires (one p s) (one q t) (one_is p s h) (one_is q t i)

  pub three_are : (p q r : PinName) (s t u : SigBit) → IsBitOf wires s → IsBitOf wires t → IsBitOf wires u → All (IsPin wires) (one p s ∷ one q t ∷ one r u ∷ [])
  three_are p q r s t u h i j =
      All-cons (IsPin wires) (one p s) (one q t ∷ one r u ∷ []) (one_is p s h) (two_are q r t u i j)

  pub four_are : (p q r o : PinName) (s t u v : SigBit) → IsBitOf wires s → IsBitOf wires t → IsBitOf wires u → IsBitOf wires v → All (IsPin wires) (one p s ∷ one q t ∷ one r u ∷ one o v ∷ [])
  four_are p q r o s t u v h i j k =
      All-cons (IsPin wires) (one p s) (one q t ∷ one r u ∷ one o v ∷ []) (one_is p s h) (three_are q r o t u v i j k)

  -- the cell of a gate
  cell_is : (n wire : ℕ) (g : Gate) → n < 1000000000 → are_apart (pin_names (cell_of n wire g).pins) ≡ true → All (IsPin wires) (cell_of n wire g).pins → IsCell wires (cell_of n wire g)
  cell_is n wire g few apart pins = record {
    kind_name = gate_is_name (kind_of g);
    name = made_is_name n few;
    params = All-nil IsCellParam;
    distinct_params = apart_distinct [] refl;
    pins = pins;
    distinct_pins = apart_distinct (pin_names (cell_of n wire g).pins) apart;
    attributes = no_attributes;
  }

  gate_is : (n wire : ℕ) (g : Gate) → n < 1000000000 → FedBy wires g → IsBitOf wires (bit_of wire) → IsCell wires (cell_of n wire g)
  gate_is n wire (Not a) few h k = cell_is n wire (Not a) few refl (two_are A Y a (bit_of wire) h k)
  gate_is n wire (Bitwise kind a b) few h k =
      cell_is n wire (Bitwise kind a b) few refl (three_are A B Y a b (bit_of wire) h.0 h.1 k)
  gate_is n wire (Mux a b s) few h k =
      cell_is n wire (Mux a b s) few refl (four_are A B S Y a b s (bit_of wire) h.0 h.1 h.2 k)

  gates_are : (n wire : ℕ) (gates : List Gate) → n + twice gates ≤ 1000000000 → AreFed (has wires) gates → Fair (has wires) wire gates → All (IsCell wires) (cells_of n wire gates)
  gates_are n wire [] few fed fair = All-nil (IsCell wires)
  gates_are n wire (g ∷ gates) few fed fair =
      All-cons (IsCell wires) (cell_of n wire g) (cells_of (n + 1 + 1) (wire + 1) gates) (gate_is n wire g (omega (arith, few)) fed.0 fair.0)
      (gates_are (n + 1 + 1) (wire + 1) gates (omega (arith, few)) fed.1 fair.1)

-- the wires of gates are such as a text can give
wires_are : (n : ℕ) (gates : List Gate) → n + twice gates ≤ 1000000000 → All IsWire (wires_of n gates)
wires_are n [] few = All-nil IsWire
wires_are n (g ∷ gates) few =
    All-cons IsWire (inner_wire (made_name (n + 1)) 1 []) (wires_of (n + 1 + 1) gates)
    (record {
      name = made_is_name (n + 1) (omega (arith, few));
      some = omega arith;
      width = omega arith;
      offset = refl;
      number = refl;
      inner = λ e. refl;
      attributes = no_attributes;
    })
    (wires_are (n + 1 + 1) gates (omega (arith, few)))

-- each of them has the bit at its place
fair_from : (front : List Wire) (n : ℕ) (gates : List Gate) → Fair (has (front ++ wires_of n gates)) (length front) gates
fair_from front n [] = tt
fair_from front n (g ∷ gates) =
    let w : Wire = inner_wire (made_name (n + 1)) 1 [] in
    let rest : List Wire = wires_of (n + 1 + 1) gates in (
      there front rest w (omega arith),
      subst (λ ws. Fair (has ws) (length front + 1) gates) (append_assoc front (w ∷ []) rest)
          (subst (λ at. Fair (has ((front ++ w ∷ []) ++ rest)) at gates) (length-append front (w ∷ [])) (fair_from (front ++ w ∷ []) (n + 1 + 1) gates)),
    )
  where
    there : (front rest : List Wire) (w : Wire) → 0 < w.width → IsSomeAnd (slice_get (front ++ w ∷ rest) (length front)) (λ (v : Wire). 0 < v.width)
    there [] rest w h = h
    there (v ∷ front) rest w h = there front rest w h

-- the names of the cells and wires are the fresh ones
names_are : (name : List ℕ) (n wire : ℕ) (gates : List Gate) → times name (wire_names (wires_of n gates)) + times name (cell_names (cells_of n wire gates)) ≡ times name (made_names n (twice gates))
names_are name n wire [] = omega arith
names_are name n wire (g ∷ gates) = omega (arith, names_are name (n + 1 + 1) (wire + 1) gates)

next_after : (gates : List Gate) (b : Building) → (gates_of gates b).next ≡ b.next + twice gates
next_after [] b = omega arith
next_after (g ∷ gates) b = omega (arith, next_after gates (gate_of g b).1, next_number g b)

-- gates whose inputs are bits that the wires have
module _ (gates : List Gate) (b new : Building) (e : new ≡ gates_of gates b) where
  wires_now : new.body.wires ≡ b.body.wires ++ wires_of b.next gates
  wires_now = ap (λ z. z.body.wires) e ∙ ap (λ (m : Module). m.wires) (adds_gates gates b).body

  pub bit_now : (s : SigBit) → IsBitOf b.body.wires s → IsBitOf new.body.wires s
  bit_now s h = subst (λ ws. IsBitOf ws s) (sym wires_now) (grown_bit (wires_of b.next gates) b.body.wires s h)

  fair_now : Fair (has new.body.wires) (length b.body.wires) gates
  fair_now = subst (λ ws. Fair (has ws) (length b.body.wires) gates) (sym wires_now) (fair_from b.body.wires b.next gates)

  gates_extend : AreFed (has new.body.wires) gates → Extends b new
  gates_extend fed =
      let next : new.next ≡ b.next + twice gates = ap (λ z. z.next) e ∙ next_after gates b in
      record {
        fresh = wires_of b.next gates;
        cells = cells_of b.next (length b.body.wires) gates;
        links = [];
        body = ap (λ z. z.body) e ∙ (adds_gates gates b).body;
        taken = twice gates;
        next = next;
        names = λ name. omega (arith, names_are name b.next (length b.body.wires) gates);
        good = λ few. record {
          wires = wires_are b.next gates (omega (arith, few, next));
          cells = gates_are new.body.wires b.next (length b.body.wires) gates (omega (arith, few, next)) fed fair_now;
          links = All-nil (IsLink new.body.wires);
        };
      }

-- more wires have the bits of some
abbrev pub Grows : List Wire → List Wire → Type 0
Grows few many = (s : SigBit) → IsBitOf few s → IsBitOf many s

-- a net whose inputs are bits that the wires have, with what is so of its result
pub net_extends : {A : Type 0} {W : List Wire → A → Type 0} (m : Build A) (b : Building) → ((wires : List Wire) → Grows b.body.wires wires → Net (has wires) (Unit {0}) m (W wires)) → Extends b (m b).1 × W (m b).1.body.wires (m b).0
net_extends m b net =
    let first = net b.body.wires (λ s h. h) in
    let new : Building = (m b).1 in
    let n = net new.body.wires (bit_now (first.gates b) b new (first.is b)) in
    let fed = n.holds b tt (fair_now (n.gates b) b new (n.is b)) in
    (gates_extend (n.gates b) b new (n.is b) fed.0, fed.1)

-- bits that the wires have
pub goods_all : (wires : List Wire) (v : ℕ → Bit) (bits : List SigBit) → Goods (has wires) v bits → All (IsBitOf wires) bits
goods_all wires v [] h = All-nil (IsBitOf wires)
goods_all wires v (y ∷ bits) h =
    All-cons (IsBitOf wires) y bits h.0 (goods_all wires (λ k. v (suc k)) bits h.1)

pub all_goods : (wires : List Wire) (v : ℕ → Bit) (bits : List SigBit) → All (IsBitOf wires) bits → Goods (has wires) v bits
all_goods wires v [] h = tt
all_goods wires v (y ∷ bits) h =
    (All-head (IsBitOf wires) y bits h, all_goods wires (λ k. v (suc k)) bits (All-tail (IsBitOf wires) y bits h))

pub each_bit_is : (wires : List Wire) (bits : List SigBit) → All (IsBitOf wires) bits → (s : SigBit) → In s bits → IsBitOf wires s
each_bit_is wires (y ∷ bits) h s (inl e) = subst (IsBitOf wires) (sym e) (All-head (IsBitOf wires) y bits h)
each_bit_is wires (y ∷ bits) h s (inr i) = each_bit_is wires bits (All-tail (IsBitOf wires) y bits h) s i
each_bit_is wires [] h s i = absurd i

extended_is : (wires : List Wire) (bits : List SigBit) (n : ℕ) → n ≤ 4194304 → All (IsBitOf wires) bits → IsSignal wires (extended bits n false)
extended_is wires bits n few h = record {
  bits = All-append (IsBitOf wires) (take n bits) (replicate (n - length bits) (Fixed S0)) (All-take (IsBitOf wires) n bits h) (All-replicate (IsBitOf wires) (n - length bits) (Fixed S0) tt);
  width = omega (arith, few, length-extended bits n false);
}

-- a net whose result is given to a signal
pub given_extends : (y : List SigBit) (m : Build (List SigBit)) (b : Building) → IsSignal b.body.wires y → ((wires : List Wire) → Grows b.body.wires wires → Net (has wires) (Unit {0}) m (All (IsBitOf wires))) → Extends b (given y m b)
given_extends y m b h net =
    let made = net_extends m b net in
    let left : IsSignal (m b).1.body.wires y = signal_later b (m b).1 made.0 y h in
    extends_both b (m b).1 (given y m b) made.0
    (extends_link y (extended (m b).0 (length y) false) (m b).1 left (extended_is (m b).1.body.wires (m b).0 (length y) (omega (arith, left.width)) made.1))
