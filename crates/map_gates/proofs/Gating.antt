-- The gates of one bit are whole: their kinds, pins and outputs.
use Rattle.std.proofs.Common.{◌≡◌, ℕ, zero, suc, length, ◌-◌, Bool, true, false, List, [], ◌∷◌, None, inl, inr, refl, sym, ◌∙◌, ap, subst}
use Rattle.std.specs.Prelude.{◌||◌, slice_get, slice_index_or, unwrap_or}
use Rattle.cell_types.specs.declared.gate.GateKind.TheVariants as GateOf
use Rattle.cell_types.specs.declared.kind.CellKind.TheVariants.{Gate}
use Rattle.cell_types.specs.declared.pin_name.PinName.TheVariants.{A, B, S, Y}
use Rattle.cell_types.specs.declared.word.BitwiseKind.{BitwiseKind}
use Rattle.cell_types.specs.declared.word.BitwiseKind.TheVariants.{And, Or, Xor, Xnor}
use Rattle.rtl_sig.specs.Signal.{fill_of}
use Rattle.rtl_bits.specs.declared.bit.Bit.TheVariants.{S0}
use Rattle.rtl_sig.specs.declared.sig.SigBit.{SigBit}
use Rattle.rtl_sig.specs.declared.sig.SigBit.TheVariants.{Fixed}
use Rattle.rtl_ir.specs.Build.{made_name}
use Rattle.rtl_ir.specs.Faults.Cells.{misfit}
use Rattle.rtl_ir.specs.Signals.{is_constant, wire_bits}
use Rattle.rtl_ir.specs.declared.cell.Cell.{Cell}
use Rattle.rtl_ir.specs.declared.cell.Pin.{Pin}
use Rattle.net_index.specs.BuilderNames.{gate_name}
use Rattle.net_model.specs.Within.{BitIn, CellIn, SigIn}
use Rattle.map_laws.specs.Expansion.{IsWholeGate, cell_bits, kind_bits}
use Rattle.gate_nets.specs.Gate.{gate_for}
use Rattle.gate_nets.specs.Gate.{one}
use Rattle.map_gates.specs.Gates.{bit_at}
use Rattle.map_gates.proofs.Adding.{cell_named}
use Rattle.map_gates.proofs.Standing.{gate_named}

-- the cell under the fresh name of a number is a whole gate, and drives this bit
pub record IsGateFor (count n : ℕ) (y : SigBit) (g : Cell) : Type 0 where
  pub whole : IsWholeGate count g
  pub bits : cell_bits g ≡ wire_bits (y ∷ [])
  pub named : g.name ≡ made_name n

pub one_in : (count : ℕ) (s : SigBit) → BitIn count s → SigIn count (s ∷ [])
one_in count s h t (inl e) = subst (BitIn count) (sym e) h
one_in count s h t (inr i) = absurd i

alone : (t : Bool) → ((t || false) || false) ≡ t
alone true = refl
alone false = refl

not_fits : (a y : SigBit) (n : ℕ) → misfit (Gate GateOf.Not) (cell_named (gate_name GateOf.Not) [] (one A a ∷ one Y y ∷ []) n) ≡ None
unfolding misfit
not_fits a y n = refl

binary_fits : (kind : BitwiseKind) (a b y : SigBit) (n : ℕ) → misfit (Gate (gate_for kind)) (cell_named (gate_name (gate_for kind)) [] (one A a ∷ one B b ∷ one Y y ∷ []) n) ≡ None
unfolding misfit
binary_fits And a b y n = refl
binary_fits Or a b y n = refl
binary_fits Xor a b y n = refl
binary_fits Xnor a b y n = refl

mux_fits : (a b s y : SigBit) (n : ℕ) → misfit (Gate GateOf.Mux) (cell_named (gate_name GateOf.Mux) [] (one A a ∷ one B b ∷ one S s ∷ one Y y ∷ []) n) ≡ None
unfolding misfit
mux_fits a b s y n = refl

module _ (count n : ℕ) (y : SigBit) (driven : BitIn count y) (wire : is_constant y ≡ false) where
  pub not_for : (a : SigBit) → BitIn count a → IsGateFor count n y (cell_named (gate_name GateOf.Not) [] (one A a ∷ one Y y ∷ []) n)
  not_for a in_a =
      let pins : List Pin = one A a ∷ one Y y ∷ [] in
      record {
        whole = record {
          kind = Gate GateOf.Not;
          gate = refl;
          whole = record {
            own = gate_named GateOf.Not pins n;
            shape = not_fits a y n;
            output = alone (is_constant y) ∙ wire;
            within = within;
          };
        };
        bits = ap (λ k. kind_bits k (cell_named (gate_name GateOf.Not) [] pins n)) (gate_named GateOf.Not pins n);
        named = refl;
      }
    where
      within : CellIn count (cell_named (gate_name GateOf.Not) [] (one A a ∷ one Y y ∷ []) n)
      within pin (inl e) = subst (λ (q : Pin). SigIn count q.sig) (sym e) (one_in count a in_a)
      within pin (inr (inl e)) = subst (λ (q : Pin). SigIn count q.sig) (sym e) (one_in count y driven)
      within pin (inr (inr i)) = absurd i

  pub binary_for : (kind : BitwiseKind) (a b : SigBit) → BitIn count a → BitIn count b → IsGateFor count n y (cell_named (gate_name (gate_for kind)) [] (one A a ∷ one B b ∷ one Y y ∷ []) n)
  binary_for kind a b in_a in_b =
      let pins : List Pin = one A a ∷ one B b ∷ one Y y ∷ [] in
      record {
        whole = record {
          kind = Gate (gate_for kind);
          gate = refl;
          whole = record {
            own = gate_named (gate_for kind) pins n;
            shape = binary_fits kind a b y n;
            output = alone (is_constant y) ∙ wire;
            within = within;
          };
        };
        bits = ap (λ k. kind_bits k (cell_named (gate_name (gate_for kind)) [] pins n)) (gate_named (gate_for kind) pins n);
        named = refl;
      }
    where
      within : CellIn count (cell_named (gate_name (gate_for kind)) [] (one A a ∷ one B b ∷ one Y y ∷ []) n)
      within pin (inl e) = subst (λ (q : Pin). SigIn count q.sig) (sym e) (one_in count a in_a)
      within pin (inr (inl e)) = subst (λ (q : Pin). SigIn count q.sig) (sym e) (one_in count b in_b)
      within pin (inr (inr (inl e))) = subst (λ (q : Pin). SigIn count q.sig) (sym e) (one_in count y driven)
      within pin (inr (inr (inr i))) = absurd i

  pub mux_for : (a b s : SigBit) → BitIn count a → BitIn count b → BitIn count s → IsGateFor count n y (cell_named (gate_name GateOf.Mux) [] (one A a ∷ one B b ∷ one S s ∷ one Y y ∷ []) n)
  mux_for a b s in_a in_b in_s =
      let pins : List Pin = one A a ∷ one B b ∷ one S s ∷ one Y y ∷ [] in
      record {
        whole = record {
          kind = Gate GateOf.Mux;
          gate = refl;
          whole = record {
            own = gate_named GateOf.Mux pins n;
            shape = mux_fits a b s y n;
            output = alone (is_constant y) ∙ wire;
            within = within;
          };
        };
        bits = ap (λ k. kind_bits k (cell_named (gate_name GateOf.Mux) [] pins n)) (gate_named GateOf.Mux pins n);
        named = refl;
      }
    where
      within : CellIn count (cell_named (gate_name GateOf.Mux) [] (one A a ∷ one B b ∷ one S s ∷ one Y y ∷ []) n)
      within pin (inl e) = subst (λ (q : Pin). SigIn count q.sig) (sym e) (one_in count a in_a)
      within pin (inr (inl e)) = subst (λ (q : Pin). SigIn count q.sig) (sym e) (one_in count b in_b)
      within pin (inr (inr (inl e))) = subst (λ (q : Pin). SigIn count q.sig) (sym e) (one_in count s in_s)
      within pin (inr (inr (inr (inl e)))) = subst (λ (q : Pin). SigIn count q.sig) (sym e) (one_in count y driven)
      within pin (inr (inr (inr (inr i)))) = absurd i

-- a bit of an operand names a wire that the operand names
taken_in : (count : ℕ) (bits : List SigBit) (at : ℕ) (d : SigBit) → SigIn count bits → BitIn count d → BitIn count (slice_index_or bits at d)
taken_in count [] at d h k = k
taken_in count (b ∷ bits) zero d h k = h b (inl refl)
taken_in count (b ∷ bits) (suc at) d h k = taken_in count bits at d (λ s i. h s (inr i)) k

pub operand_in : (count : ℕ) (signed : Bool) (bits : List SigBit) (at : ℕ) → SigIn count bits → BitIn count (bit_at signed bits at)
operand_in count signed bits at h = taken_in count bits at (fill_of bits signed) h (filled signed bits h)
  where
    got_in : (bits : List SigBit) (at : ℕ) → SigIn count bits → BitIn count (unwrap_or (slice_get bits at) (Fixed S0))
    got_in [] at k = tt
    got_in (b ∷ bits) zero k = k b (inl refl)
    got_in (b ∷ bits) (suc at) k = got_in bits at (λ s i. k s (inr i))

    filled : (signed : Bool) (bits : List SigBit) → SigIn count bits → BitIn count (fill_of bits signed)
    filled false bits k = tt
    filled true bits k = got_in bits (length bits - 1) k
