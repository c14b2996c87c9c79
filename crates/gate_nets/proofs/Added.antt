-- What gates add to a module: a cell and a wire each.
use Rattle.std.proofs.Common.{◌≡◌, ℕ, ◌+◌, List, [], ◌∷◌, ◌++◌, length, refl, sym, subst, arith}
use Rattle.std.proofs.lemmas.List.{append-nil}
use Rattle.cell_types.specs.declared.pin_name.PinName.TheVariants.{Y}
use Rattle.rtl_ir.specs.Build.{Building, inner_wire, made_name}
use Rattle.rtl_ir.specs.declared.cell.Cell.{Cell}
use Rattle.rtl_ir.specs.declared.wire.Wire.{Wire}
use Rattle.net_index.specs.Builder.{IsInLimits}
use Rattle.net_index.specs.BuilderNames.{gate_name}
use Rattle.map_laws.proofs.Expanding.{adds_more, adds_none}
use Rattle.gate_nets.proofs.LimitsKept.{limits_before}
use Rattle.map_laws.specs.Expansion.{Adds}
use Rattle.gate_nets.specs.Gate.{bit_of, gate_of, inputs_of, kind_of, one}
use Rattle.gate_nets.specs.Reading.{gates_of}
use Rattle.gate_nets.specs.declared.gate.Gate.{Gate}
use Rattle.gate_nets.proofs.Nets.{one_wire}

-- the cell of a gate, under the fresh name of a number, with the wire of one bit at a place at its output
abbrev pub cell_of : ℕ → ℕ → Gate → Cell
cell_of n wire g = record {
  kind_name = gate_name (kind_of g);
  name = made_name n;
  params = [];
  pins = inputs_of g ++ one Y (bit_of wire) ∷ [];
  attributes = [];
}

-- the cells of gates, the first of which takes this number
abbrev pub cells_of : ℕ → ℕ → List Gate → List Cell
cells_of n wire [] = []
cells_of n wire (g ∷ gates) = cell_of n wire g ∷ cells_of (n + 1 + 1) (wire + 1) gates

-- their wires: each takes the number behind that of its cell
abbrev pub wires_of : ℕ → List Gate → List Wire
wires_of n [] = []
wires_of n (g ∷ gates) = inner_wire (made_name (n + 1)) 1 [] ∷ wires_of (n + 1 + 1) gates

adds_gate : (g : Gate) (b : Building) → Adds b (gate_of g b).1 (cell_of b.next (length b.body.wires) g ∷ []) (inner_wire (made_name (b.next + 1)) 1 [] ∷ []) []
unfolding gate_of
adds_gate g b = record {
  body = λ i. record b.body {
    cells = b.body.cells ++ cell_of b.next (length b.body.wires) g ∷ [];
    wires = b.body.wires ++ inner_wire (made_name (b.next + 1)) 1 [] ∷ [];
    links = sym (append-nil b.body.links) i;
  };
  next = omega arith;
}

pub next_number : (g : Gate) (b : Building) → (gate_of g b).1.next ≡ b.next + 1 + 1
unfolding gate_of
next_number g b = refl

pub adds_gates : (gates : List Gate) (b : Building) → Adds b (gates_of gates b) (cells_of b.next (length b.body.wires) gates) (wires_of b.next gates) []
adds_gates [] b = adds_none b
adds_gates (g ∷ gates) b =
    let new : Building = (gate_of g b).1 in
    let rest : Adds new (gates_of gates new) (cells_of new.next (length new.body.wires) gates) (wires_of new.next gates) [] = adds_gates gates new in
    let here : Adds new (gates_of gates new) (cells_of (b.next + 1 + 1) (length b.body.wires + 1) gates) (wires_of (b.next + 1 + 1) gates) [] =
    subst (λ n. Adds new (gates_of gates new) (cells_of n (length b.body.wires + 1) gates) (wires_of n gates) []) (next_number g b)
    (subst (λ w. Adds new (gates_of gates new) (cells_of new.next w gates) (wires_of new.next gates) []) (one_wire g b) rest) in
    adds_more b new (gates_of gates new) (cell_of b.next (length b.body.wires) g ∷ []) (cells_of (b.next + 1 + 1) (length b.body.wires + 1) gates) (inner_wire (made_name (b.next + 1)) 1 [] ∷ []) (wires_of (b.next + 1 + 1) gates) [] [] (adds_gate g b) here

-- what is within the limits was so before
pub gates_limits : (gates : List Gate) (b : Building) → IsInLimits (gates_of gates b) → IsInLimits b
gates_limits gates b h =
    limits_before b (gates_of gates b) (cells_of b.next (length b.body.wires) gates) (wires_of b.next gates) [] (adds_gates gates b) h

pub one_limits : (g : Gate) (b : Building) → IsInLimits (gate_of g b).1 → IsInLimits b
one_limits g b h = gates_limits (g ∷ []) b h
