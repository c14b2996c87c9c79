-- What each of the two orders of knowledge gives: bits, cells and connections keep it.
use Rattle.std.proofs.Common.{ℕ, List, refl, sym, subst}
use Rattle.rtl_bits.specs.declared.bit.Bit.{Bit}
use Rattle.rtl_bits.specs.declared.bit.Bit.TheVariants.{S0, S1, X, Z, M, Dash}
use Rattle.rtl_bits.specs.Knowledge.{Below, FlatBelow, Placewise, IsMonotone, IsMonotone3}
use Rattle.rtl_bits.specs.Tables.{merge_of}
use Rattle.rtl_bits.proofs.Keeping.{Keeps, below_kept, flat_kept}
use Rattle.rtl_bits.proofs.Orders.{merge_left, merge_right, merge_flat_left, merge_flat_right}
use Rattle.cell_types.specs.declared.gate.GateKind.{GateKind}
use Rattle.cell_types.specs.declared.shape.Shape.{Shape}
use Rattle.cell_word.specs.Values.{InputsBelow, word_value_of}
use Rattle.cell_word.proofs.Monotone.{word_value_below, word_value_flat}
use Rattle.cell_gate.specs.Gates.{output_of}
use Rattle.cell_gate.specs.Storage.{IsPinMonotone}
use Rattle.cell_gate.proofs.Monotone.{output_below, output_flat, bit_below, bit_flat}
use Rattle.net_model.specs.Order.{Manner, next_bit_of}
use Rattle.net_model.specs.Valuation.{passed_of}
use Rattle.net_model.proofs.Released.{next_kept}

-- an order that bits, cells and connections keep
pub record Kept (order : Bit → Bit → Type 0) : Type 0 where
  pub bits : Keeps order
  pub gates : (kind : GateKind) → IsMonotone3 order (output_of kind)
  pub words : (shape : Shape) (low high : List (List Bit)) → InputsBelow order low high → Placewise order (word_value_of shape low) (word_value_of shape high)
  pub storage : (shape : Shape) (at : ℕ) (manner : Manner) → IsPinMonotone order (λ before now. next_bit_of manner shape at before now)
  pub passed : IsMonotone order passed_of
  pub merge_left : (a b : Bit) → order (merge_of a b) a
  pub merge_right : (a b : Bit) → order (merge_of a b) b

passed_below : IsMonotone Below passed_of
passed_below S0 b h = subst (λ z. Below S0 (passed_of z)) (sym h) refl
passed_below S1 b h = subst (λ z. Below S1 (passed_of z)) (sym h) refl
passed_below a b h = tt

passed_flat : IsMonotone FlatBelow passed_of
passed_flat S0 b h = subst (λ z. FlatBelow S0 (passed_of z)) (sym h) refl
passed_flat S1 b h = subst (λ z. FlatBelow S1 (passed_of z)) (sym h) refl
passed_flat Z b h = subst (λ z. FlatBelow Z (passed_of z)) (sym h) refl
passed_flat X b h = tt
passed_flat M b h = tt
passed_flat Dash b h = tt

pub below : Kept Below
below = record { bits = below_kept; gates = output_below; words = word_value_below; storage = next_kept Below below_kept bit_below; passed = passed_below; merge_left = merge_left; merge_right = merge_right }

pub flat : Kept FlatBelow
flat = record { bits = flat_kept; gates = output_flat; words = word_value_flat; storage = next_kept FlatBelow flat_kept bit_flat; passed = passed_flat; merge_left = merge_flat_left; merge_right = merge_flat_right }
