-- What each of the two orders of knowledge gives to proofs that use either: one record for both.
use Rattle.std.proofs.Common.{◌≡◌}
use Rattle.rtl_bits.specs.declared.bit.Bit.{Bit}
use Rattle.rtl_bits.specs.declared.bit.Bit.TheVariants.{X}
use Rattle.rtl_bits.specs.Knowledge.{IsKnown, Below, FlatBelow, IsMonotone, IsMonotone2, IsMonotone3}
use Rattle.rtl_bits.specs.Tables.{seen_of, merge_of, not_of, and_of, or_of, xor_of, mux_of}
use Rattle.rtl_bits.proofs.Orders.{Below_refl, Below_trans, Below_known, Below_from_flat, FlatBelow_refl, FlatBelow_trans}
use Rattle.rtl_bits.proofs.Tables.{seen_of_mono, merge_of_mono, not_of_mono, and_of_mono, or_of_mono, xor_of_mono, mux_of_mono, seen_of_flat, merge_of_flat, not_of_flat, and_of_flat, or_of_flat, xor_of_flat, mux_of_flat}

-- an order that each function of bits keeps
pub record Keeps (order : Bit → Bit → Type 0) : Type 0 where
  pub self : (a : Bit) → order a a
  pub bottom : (a : Bit) → order X a
  pub known : (a b : Bit) → IsKnown a → order a b → b ≡ a
  pub through : (a b c : Bit) → order a b → order b c → order a c
  pub seen : IsMonotone order seen_of
  pub merge : IsMonotone2 order merge_of
  pub not : IsMonotone order not_of
  pub and : IsMonotone2 order and_of
  pub or : IsMonotone2 order or_of
  pub xor : IsMonotone2 order xor_of
  pub mux : IsMonotone3 order mux_of

pub below_kept : Keeps Below
below_kept = record {
  self = Below_refl;
  bottom = λ a. tt;
  known = Below_known;
  through = Below_trans;
  seen = seen_of_mono;
  merge = merge_of_mono;
  not = not_of_mono;
  and = and_of_mono;
  or = or_of_mono;
  xor = xor_of_mono;
  mux = mux_of_mono;
}

pub flat_kept : Keeps FlatBelow
flat_kept = record {
  self = FlatBelow_refl;
  bottom = λ a. tt;
  known = λ a b k h. Below_known a b k (Below_from_flat a b h);
  through = FlatBelow_trans;
  seen = seen_of_flat;
  merge = merge_of_flat;
  not = not_of_flat;
  and = and_of_flat;
  or = or_of_flat;
  xor = xor_of_flat;
  mux = mux_of_flat;
}
