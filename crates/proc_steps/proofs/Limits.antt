-- The limits as a test, and what the steps answer by them.
use Rattle.std.proofs.Common.{◌≡◌, Bool, true, false, refl, arith}
use Rattle.std.proofs.lemmas.Bool.Decides.{nat_tests}
use Rattle.rtl_ir.specs.Build.{Building}
use Rattle.net_index.specs.Builder.{IsInLimits, PassesLimit}
use Rattle.proc_steps.specs.Limits.{is_within}

pub within_limits : (b : Building) → is_within b ≡ true → IsInLimits b
unfolding is_within
within_limits b e = record { cells = grind (arith, nat_tests); bits = grind (arith, nat_tests); names = grind (arith, nat_tests) }

pub limits_within : (b : Building) → IsInLimits b → is_within b ≡ true
unfolding is_within
limits_within b h =
    let c = h.cells in
    let w = h.bits in
    let n = h.names in
    grind (arith, nat_tests)

pub limits_passed : (b : Building) → PassesLimit b → is_within b ≡ false
limits_passed b over = by (is_within b) refl
  where
    by : (t : Bool) → is_within b ≡ t → is_within b ≡ false
    by false e = e
    by true e = absurd (over (within_limits b e))
