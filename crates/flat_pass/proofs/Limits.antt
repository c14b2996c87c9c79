-- Whether a module is within the limits, by numbers that are counted along the way.
use Rattle.std.proofs.Common.{◌≡◌, ℕ, ◌<◌, Bool, true, false, length, refl, arith}
use Rattle.std.specs.Prelude.{nat_le, ◌&&◌}
use Rattle.std.proofs.lemmas.Bool.Decides.{nat_tests}
use Rattle.net_index.specs.Numbering.{bit_count, widths_of}
use Rattle.rtl_ir.specs.Build.{Building}
use Rattle.flat_pass.specs.Flat.{is_within}

pub within_is : (b : Building) (cells bits : ℕ) → cells ≡ length b.body.cells → bits ≡ bit_count (widths_of b.body.wires) → (nat_le cells 1048576 && (nat_le bits 4194304 && nat_le b.next 1000000000)) ≡ is_within b
unfolding is_within
within_is b cells bits c w = λ i. nat_le (c i) 1048576 && (nat_le (w i) 4194304 && nat_le b.next 1000000000)

-- past the fresh numbers is past the limits
pub past_next : (b : Building) → 1000000000 < b.next → is_within b ≡ false
unfolding is_within
past_next b over = by (nat_le (length b.body.cells) 1048576) (nat_le (bit_count (widths_of b.body.wires)) 4194304) (nat_le b.next 1000000000) (grind (arith, nat_tests))
  where
    by : (a b c : Bool) → c ≡ false → (a && (b && c)) ≡ false
    by true true c e = e
    by true false c e = refl
    by false b c e = refl
