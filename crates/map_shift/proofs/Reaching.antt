-- Moves that are cut off at the width of the word.
use Rattle.std.proofs.Common.{◌≡◌, ◌<◌, ◌≤◌, ℕ, ◌-◌, ◌^◌, min, List, ◌++◌, drop, length, take, ap, arith, ◌∙◌}
use Rattle.std.specs.Prelude.{replicate}
use Rattle.std.proofs.Math.Pow.{pow_mono}
use Rattle.std.proofs.lemmas.List.{drop_min}
use Rattle.rtl_sig.specs.declared.sig.SigBit.{SigBit}
use Rattle.map_shift.specs.Moves.{moved_of}
use Rattle.map_shift.specs.declared.moves.Way.{Way}
use Rattle.map_shift.specs.declared.moves.Way.TheVariants.{Left, Right}

pub moved_cut : (way : Way) (fill : SigBit) (n : ℕ) (bits : List SigBit) → moved_of way fill (min n (length bits)) bits ≡ moved_of way fill n bits
moved_cut Left fill n bits =
    let e : min (min n (length bits)) (length bits) ≡ min n (length bits) = omega arith in
    let f : length bits - min n (length bits) ≡ length bits - n = omega arith in
    ap (λ z. replicate z fill ++ take (length bits - min n (length bits)) bits) e ∙ ap (λ z. replicate (min n (length bits)) fill ++ take z bits) f
moved_cut Right fill n bits =
    let e : min (min n (length bits)) (length bits) ≡ min n (length bits) = omega arith in
    ap (λ z. z ++ replicate (min (min n (length bits)) (length bits)) fill) (drop_min n bits) ∙ ap (λ z. drop n bits ++ replicate z fill) e

-- a power that is past all widths
pub reach_all : (place width : ℕ) → 64 ≤ place → width < 2 ^ 64 → width ≡ min (2 ^ place) width
reach_all place width h k =
    let more : 2 ^ 64 ≤ 2 ^ place = pow_mono h in
    omega (arith, more, k)
