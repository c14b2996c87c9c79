-- Where a part of a net passes a limit, the whole net does.
use Rattle.std.proofs.Common.{ℕ, ◌+◌, List, [], ◌∷◌, length, drop, take}
use Rattle.cell_types.specs.declared.word.BitwiseKind.TheVariants.{And}
use Rattle.rtl_bits.specs.declared.bit.Bit.TheVariants.{S0}
use Rattle.rtl_ir.specs.Build.{Building}
use Rattle.rtl_sig.specs.declared.sig.SigBit.{SigBit}
use Rattle.rtl_sig.specs.declared.sig.SigBit.TheVariants.{Fixed}
use Rattle.net_index.specs.Builder.{IsInLimits}
use Rattle.gate_nets.specs.Gate.{after}
use Rattle.gate_nets.specs.declared.gate.Gate.TheVariants.{Bitwise}
use Rattle.gate_nets.proofs.Limits.{each_limits, sum_limits}
use Rattle.map_mul.specs.Product.{added_row, product_from, row_of}

pub row_limits : (bits : List SigBit) (by : SigBit) (b : Building) → IsInLimits (row_of bits by b).1 → IsInLimits b
row_limits bits by b h = each_limits (λ bit. Bitwise And bit by) bits b h

pub added_limits : (so_far a : List SigBit) (at : ℕ) (by : SigBit) (b : Building) → IsInLimits (added_row so_far a at by b).1 → IsInLimits b
unfolding after added_row
added_limits so_far a at by b h =
    let row = row_of (take (length (drop at so_far)) a) by b in
    row_limits (take (length (drop at so_far)) a) by b (sum_limits (drop at so_far) row.0 (Fixed S0) row.1 h)

pub product_limits : (so_far a : List SigBit) (at : ℕ) (bits : List SigBit) (b : Building) → IsInLimits (product_from so_far a at bits b).1 → IsInLimits b
unfolding after
product_limits so_far a at [] b h = h
product_limits so_far a at (by ∷ bits) b h =
    added_limits so_far a at by b (product_limits (added_row so_far a at by b).0 a (at + 1) bits (added_row so_far a at by b).1 h)
