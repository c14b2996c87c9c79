-- The gates of nets are whole: their kinds, pins and outputs.
use Rattle.std.proofs.Common.{◌≡◌, ◌<◌, ◌≤◌, ℕ, ◌+◌, ◌*◌, false, List, [], ◌∷◌, ◌++◌, length, Some, None, inl, inr, refl, sym, ◌∙◌, ap, subst, arith}
use Rattle.std.specs.Prelude.{flat_map, map}
use Rattle.cell_types.specs.declared.kind.CellKind.TheVariants.{Gate as GateCell}
use Rattle.cell_types.specs.declared.word.BitwiseKind.TheVariants.{And, Or, Xor, Xnor}
use Rattle.rtl_ir.specs.Faults.Cells.{has_constant_output, misfit}
use Rattle.rtl_ir.specs.Types.{Library}
use Rattle.rtl_ir.specs.Flat.Cell.{cell_kind, instance_of, instances, listed}
use Rattle.rtl_ir.specs.declared.cell.Cell.{Cell}
use Rattle.rtl_ir.specs.declared.cell.Pin.{Pin}
use Rattle.rtl_ir.specs.declared.wire.Wire.{Wire}
use Rattle.rtl_sig.specs.declared.sig.SigBit.{SigBit}
use Rattle.net_model.specs.Within.{BitIn, CellIn, Each, SigIn}
use Rattle.map_laws.specs.Expansion.{AreRising, IsBare, IsWholeGate, bits_from, cell_bits, kind_bits}
use Rattle.gate_nets.specs.Gate.{bit_of, kind_of}
use Rattle.gate_nets.specs.declared.gate.Gate.{Gate}
use Rattle.gate_nets.specs.declared.gate.Gate.TheVariants.{Not, Bitwise, Mux}
use Rattle.gate_nets.proofs.Added.{cell_of, cells_of, wires_of}
use Rattle.gate_nets.proofs.Nets.{AreFed, Fair, Logic}

-- a gate is named by its kind
pub gate_named : (n wire : ℕ) (g : Gate) → cell_kind (cell_of n wire g) ≡ Some (GateCell (kind_of g))
unfolding cell_kind
gate_named n wire (Not a) = refl
gate_named n wire (Bitwise And a b) = refl
gate_named n wire (Bitwise Or a b) = refl
gate_named n wire (Bitwise Xor a b) = refl
gate_named n wire (Bitwise Xnor a b) = refl
gate_named n wire (Mux a b s) = refl

-- no gate is an instance
pub no_instances : (n wire : ℕ) (gates : List Gate) → instances (cells_of n wire gates) ≡ []
no_instances n wire [] = refl
no_instances n wire (g ∷ gates) =
    ap (λ k. listed (instance_of (cell_of n wire g) k) ++ instances (cells_of (n + 1 + 1) (wire + 1) gates)) (gate_named n wire g) ∙ no_instances (n + 1 + 1) (wire + 1) gates

-- the inputs of a gate name wires among so many
abbrev pub FedIn : ℕ → Gate → Type 0
FedIn count (Not a) = BitIn count a
FedIn count (Bitwise kind a b) = BitIn count a × BitIn count b
FedIn count (Mux a b s) = BitIn count a × BitIn count b × BitIn count s

-- what is said of bits: they name wires among so many
abbrev pub names : ℕ → Logic
names count = record {
  Has = λ a y. BitIn count y;
  Made = λ at g. BitIn count (bit_of at);
  Fed = FedIn count;
  constant = λ b. tt;
  inverse = λ u a h. (h, λ at made. made);
  bitwise = λ kind u v a b h k. ((h, k), λ at made. made);
  choice = λ u v c a b s h k j. ((h, k, j), λ at made. made);
}

-- a gate has the parameters and pins of its kind
gate_fits : (n wire : ℕ) (g : Gate) → misfit (GateCell (kind_of g)) (cell_of n wire g) ≡ None
unfolding misfit
gate_fits n wire (Not a) = refl
gate_fits n wire (Bitwise And a b) = refl
gate_fits n wire (Bitwise Or a b) = refl
gate_fits n wire (Bitwise Xor a b) = refl
gate_fits n wire (Bitwise Xnor a b) = refl
gate_fits n wire (Mux a b s) = refl

-- and no constant at its output
no_constant : (n wire : ℕ) (g : Gate) → has_constant_output (Library (GateCell (kind_of g))) (cell_of n wire g).pins ≡ false
no_constant n wire (Not a) = refl
no_constant n wire (Bitwise And a b) = refl
no_constant n wire (Bitwise Or a b) = refl
no_constant n wire (Bitwise Xor a b) = refl
no_constant n wire (Bitwise Xnor a b) = refl
no_constant n wire (Mux a b s) = refl

module _ (count : ℕ) where
  one_in : (s : SigBit) → BitIn count s → SigIn count (s ∷ [])
  one_in s h t (inl e) = subst (BitIn count) (sym e) h
  one_in s h t (inr i) = absurd i

  abbrev PinIn : Pin → Type 0
  PinIn pin = SigIn count pin.sig

  gate_within : (n wire : ℕ) (g : Gate) → FedIn count g → wire < count → CellIn count (cell_of n wire g)
  gate_within n wire (Not a) h k pin (inl e) = subst PinIn (sym e) (one_in a h)
  gate_within n wire (Not a) h k pin (inr (inl e)) = subst PinIn (sym e) (one_in (bit_of wire) k)
  gate_within n wire (Not a) h k pin (inr (inr i)) = absurd i
  gate_within n wire (Bitwise kind a b) h k pin (inl e) = subst PinIn (sym e) (one_in a h.0)
  gate_within n wire (Bitwise kind a b) h k pin (inr (inl e)) = subst PinIn (sym e) (one_in b h.1)
  gate_within n wire (Bitwise kind a b) h k pin (inr (inr (inl e))) = subst PinIn (sym e) (one_in (bit_of wire) k)
  gate_within n wire (Bitwise kind a b) h k pin (inr (inr (inr i))) = absurd i
  gate_within n wire (Mux a b s) h k pin (inl e) = subst PinIn (sym e) (one_in a h.0)
  gate_within n wire (Mux a b s) h k pin (inr (inl e)) = subst PinIn (sym e) (one_in b h.1)
  gate_within n wire (Mux a b s) h k pin (inr (inr (inl e))) = subst PinIn (sym e) (one_in s h.2)
  gate_within n wire (Mux a b s) h k pin (inr (inr (inr (inl e)))) = subst PinIn (sym e) (one_in (bit_of wire) k)
  gate_within n wire (Mux a b s) h k pin (inr (inr (inr (inr i)))) = absurd i

  gate_whole : (n wire : ℕ) (g : Gate) → FedIn count g → wire < count → IsWholeGate count (cell_of n wire g)
  gate_whole n wire g h k = record {
    kind = GateCell (kind_of g);
    gate = refl;
    whole = record {
      own = gate_named n wire g;
      shape = gate_fits n wire g;
      output = no_constant n wire g;
      within = gate_within n wire g h k;
    };
  }

  pub gates_whole : (n wire : ℕ) (gates : List Gate) → AreFed (names count) gates → wire + length gates ≤ count → Each (IsWholeGate count) (cells_of n wire gates)
  gates_whole n wire [] h k d i = absurd i
  gates_whole n wire (g ∷ gates) h k d (inl e) = subst (IsWholeGate count) (sym e) (gate_whole n wire g h.0 (omega arith))
  gates_whole n wire (g ∷ gates) h k d (inr i) = gates_whole (n + 1 + 1) (wire + 1) gates h.1 (omega arith) d i

  pub fair_names : (wire : ℕ) (gates : List Gate) → wire + length gates ≤ count → Fair (names count) wire gates
  fair_names wire [] k = tt
  fair_names wire (g ∷ gates) k = (omega arith, fair_names (wire + 1) gates (omega arith))

-- the names of the cells rise
pub cell_names : (n wire : ℕ) (gates : List Gate) (high : ℕ) → n + 2 * length gates ≤ high → AreRising n high (map (λ (d : Cell). d.name) (cells_of n wire gates))
cell_names n wire [] high h = omega arith
cell_names n wire (g ∷ gates) high h =
    (n, omega arith, refl, rising_from (n + 1) (n + 1 + 1) high _ (omega arith) (cell_names (n + 1 + 1) (wire + 1) gates high (omega arith)))
  where
    rising_from : (low more high : ℕ) (xs : List (List ℕ)) → low ≤ more → AreRising more high xs → AreRising low high xs
    rising_from low more high [] k j = omega arith
    rising_from low more high (x ∷ xs) k j = (j.0, omega (arith, j.1, k), j.2, j.3)

-- and those of the wires
pub wire_names : (n : ℕ) (gates : List Gate) (high : ℕ) → n + 2 * length gates ≤ high → AreRising n high (map (λ (w : Wire). w.name) (wires_of n gates))
wire_names n [] high h = omega arith
wire_names n (g ∷ gates) high h = (n + 1, omega arith, refl, wire_names (n + 1 + 1) gates high (omega arith))

pub wires_bare : (n : ℕ) (gates : List Gate) → Each IsBare (wires_of n gates)
wires_bare n [] w i = absurd i
wires_bare n (g ∷ gates) w (inl e) = subst IsBare (sym e) refl
wires_bare n (g ∷ gates) w (inr i) = wires_bare (n + 1 + 1) gates w i

-- each bit of a wire is driven once
pub gates_bits : (n wire : ℕ) (gates : List Gate) → flat_map cell_bits (cells_of n wire gates) ≡ bits_from wire (wires_of n gates)
gates_bits n wire [] = refl
gates_bits n wire (g ∷ gates) =
    ap (λ k. kind_bits k (cell_of n wire g) ++ flat_map cell_bits (cells_of (n + 1 + 1) (wire + 1) gates)) (gate_named n wire g)
    ∙ ap (λ z. z ++ flat_map cell_bits (cells_of (n + 1 + 1) (wire + 1) gates)) (output_bits n wire g)
    ∙ ap (λ z. record { wire = wire; at = 0 } ∷ z) (gates_bits (n + 1 + 1) (wire + 1) gates)
  where
    output_bits : (n wire : ℕ) (g : Gate) → kind_bits (Some (GateCell (kind_of g))) (cell_of n wire g) ≡ record { wire = wire; at = 0 } ∷ []
    output_bits n wire (Not a) = refl
    output_bits n wire (Bitwise And a b) = refl
    output_bits n wire (Bitwise Or a b) = refl
    output_bits n wire (Bitwise Xor a b) = refl
    output_bits n wire (Bitwise Xnor a b) = refl
    output_bits n wire (Mux a b s) = refl
