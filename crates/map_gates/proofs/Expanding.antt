-- Gates that are added one for each bit of an output are an expansion.
use Rattle.std.proofs.Common.{◌≡◌, ℕ, suc, ◌+◌, false, List, [], ◌∷◌, ◌++◌, length, inl, inr, refl, sym, ◌∙◌, ap, subst, arith}
use Rattle.std.specs.Prelude.{flat_map, map}
use Rattle.std.proofs.lemmas.Bool.{or_parts}
use Rattle.std.proofs.lemmas.List.{append-nil}
use Rattle.cell_types.specs.PinName.{pin_text}
use Rattle.cell_types.specs.declared.kind.CellKind.TheVariants.{Word}
use Rattle.cell_types.specs.declared.pin_name.PinName.TheVariants.{Y}
use Rattle.cell_types.specs.declared.word.WordKind.{WordKind}
use Rattle.rtl_sig.specs.declared.sig.SigBit.{SigBit}
use Rattle.rtl_sig.specs.declared.sig.SigBit.TheVariants as sig
use Rattle.rtl_ir.specs.Build.{Building}
use Rattle.rtl_ir.specs.Signals.{has_constant, is_constant, wire_bits}
use Rattle.rtl_ir.specs.declared.cell.Cell.{Cell}
use Rattle.net_model.proofs.Ranges.{signal_in}
use Rattle.net_model.specs.Within.{BitIn, Each, SigIn}
use Rattle.map_laws.specs.Expansion.{Adds, AreRising, IsExpansion, IsWhole, IsWholeGate, cell_bits, kind_bits}
use Rattle.map_laws.proofs.Expanding.{adds_more, adds_none, wires_count}
use Rattle.map_laws.proofs.Reordering.{to_permutation}
use Rattle.map_laws.proofs.Wholes.{gate_more}
use Rattle.pass_laws.proofs.Outputs.{output_wires}
use Rattle.map_laws.specs.Operand.{pin_signal}
use Rattle.map_gates.specs.Gates.{each_bit}
use Rattle.map_gates.proofs.Adding.{cells_from, puts}
use Rattle.map_gates.proofs.Gating.{IsGateFor}
use Rattle.map_gates.proofs.Pieces.{Piece, piece_expands}

module _ (cell : ℕ → ℕ → SigBit → Cell) where
  one_adds : (at : ℕ) (y : SigBit) (b : Building) → Adds b (puts cell at y b) (cell at b.next y ∷ []) [] []
  one_adds at y b = record {
    body =
        let none : record b.body { cells = b.body.cells ++ cell at b.next y ∷ []; wires = b.body.wires ++ []; links = b.body.links ++ [] } ≡ (puts cell at y b).body = λ i. record b.body { cells = b.body.cells ++ cell at b.next y ∷ []; wires = append-nil b.body.wires i; links = append-nil b.body.links i } in
        sym none;
    next = omega arith;
  }

  pub each_adds : (at : ℕ) (ys : List SigBit) (b : Building) → Adds b (each_bit (puts cell) at ys b) (cells_from cell at b.next ys) [] []
  each_adds at [] b = adds_none b
  each_adds at (y ∷ ys) b =
      adds_more b (puts cell at y b) (each_bit (puts cell) at (y ∷ ys) b) (cell at b.next y ∷ []) (cells_from cell (suc at) (b.next + 1) ys) [] [] [] [] (one_adds at y b) (each_adds (suc at) ys (puts cell at y b))

  -- where each cell is a gate for its bit
  module _ (count : ℕ) (gate : (at n : ℕ) (y : SigBit) → BitIn count y → is_constant y ≡ false → IsGateFor count n y (cell at n y)) where
    each_named : (at : ℕ) (ys : List SigBit) (b : Building) → SigIn count ys → has_constant ys ≡ false → AreRising b.next (each_bit (puts cell) at ys b).next (map (λ (d : Cell). d.name) (cells_from cell at b.next ys))
    each_named at [] b h e = omega arith
    each_named at (y ∷ ys) b h e =
        let p = or_parts (is_constant y) (has_constant ys) e in (
          b.next,
          omega arith,
          (gate at b.next y (h y (inl refl)) p.0).named,
          each_named (suc at) ys (puts cell at y b) (λ s i. h s (inr i)) p.1,
        )

    each_whole : (at n : ℕ) (ys : List SigBit) → SigIn count ys → has_constant ys ≡ false → Each (IsWholeGate count) (cells_from cell at n ys)
    each_whole at n [] h e d i = absurd i
    each_whole at n (y ∷ ys) h e d (inl here) =
        subst (IsWholeGate count) (sym here) (gate at n y (h y (inl refl)) (or_parts (is_constant y) (has_constant ys) e).0).whole
    each_whole at n (y ∷ ys) h e d (inr i) =
        each_whole (suc at) (n + 1) ys (λ s j. h s (inr j)) (or_parts (is_constant y) (has_constant ys) e).1 d i

    each_bits : (at n : ℕ) (ys : List SigBit) → SigIn count ys → has_constant ys ≡ false → flat_map cell_bits (cells_from cell at n ys) ≡ wire_bits ys
    each_bits at n [] h e = refl
    each_bits at n (y ∷ ys) h e =
        let p = or_parts (is_constant y) (has_constant ys) e in
        (λ i. (gate at n y (h y (inl refl)) p.0).bits i ++ each_bits (suc at) (n + 1) ys (λ s j. h s (inr j)) p.1 i) ∙ first y
      where
        first : (y : SigBit) → wire_bits (y ∷ []) ++ wire_bits ys ≡ wire_bits (y ∷ ys)
        first (sig.Fixed c) = refl
        first (sig.Wire w) = refl

  -- one gate for each bit is a piece that drives the bits
  pub each_piece : (ys : List SigBit) (b : Building) → ((at n : ℕ) (y : SigBit) → BitIn (length b.body.wires) y → is_constant y ≡ false → IsGateFor (length b.body.wires) n y (cell at n y))
      → SigIn (length b.body.wires) ys → has_constant ys ≡ false → Piece b (each_bit (puts cell) 0 ys b) (wire_bits ys)
  each_piece ys b gate within wires =
      let count : ℕ = length b.body.wires in
      let new : Building = each_bit (puts cell) 0 ys b in
      let adds : Adds b new (cells_from cell 0 b.next ys) [] [] = each_adds 0 ys b in
      let same : length new.body.wires ≡ count + 0 = wires_count b new (cells_from cell 0 b.next ys) [] [] adds in
      record {
        cells = cells_from cell 0 b.next ys;
        wires = [];
        adds = adds;
        cell_names = each_named count gate 0 ys b within wires;
        wire_names = adds.next;
        bare = λ w i. absurd i;
        gates = λ d i. gate_more count (length new.body.wires) d (omega (arith, same)) (each_whole count gate 0 b.next ys within wires d i);
        driven = to_permutation _ _ (each_bits count gate 0 b.next ys within wires);
      }

  -- one gate for each bit of the output of a word cell is an expansion of it
  pub gates_expand : (kind : WordKind) (c : Cell) (b : Building) → IsWhole (length b.body.wires) (Word kind) c
      → ((at n : ℕ) (y : SigBit) → BitIn (length b.body.wires) y → is_constant y ≡ false → IsGateFor (length b.body.wires) n y (cell at n y))
      → IsExpansion b (each_bit (puts cell) 0 (pin_signal c Y) b) c
  gates_expand kind c b whole gate =
      piece_expands b (each_bit (puts cell) 0 (pin_signal c Y) b) c
      (subst (Piece b (each_bit (puts cell) 0 (pin_signal c Y) b)) (ap (λ k. kind_bits k c) (sym whole.own))
      (each_piece (pin_signal c Y) b gate (signal_in (length b.body.wires) c.pins (pin_text Y) whole.within) (output_wires (Word kind) c Y refl whole.output)))
