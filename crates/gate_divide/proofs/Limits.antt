-- Where a part of a net passes a limit, the whole net does.
use Rattle.std.proofs.Common.{◌≡◌, sym, subst, ℕ, zero, suc, List, [], ◌∷◌, ◌++◌, drop}
use Rattle.cell_types.specs.declared.word.BitwiseKind.{BitwiseKind}
use Rattle.cell_types.specs.declared.word.BitwiseKind.TheVariants.{And, Or, Xor}
use Rattle.cell_types.specs.declared.word.DivisionKind.{DivisionKind}
use Rattle.cell_types.specs.declared.word.DivisionKind.TheVariants.{Div, Mod, DivFloor, ModFloor}
use Rattle.rtl_bits.specs.declared.bit.Bit.TheVariants.{S0, S1}
use Rattle.rtl_ir.specs.Build.{Build, Building}
use Rattle.rtl_sig.specs.declared.sig.SigBit.{SigBit}
use Rattle.rtl_sig.specs.declared.sig.SigBit.TheVariants.{Fixed}
use Rattle.net_index.specs.Builder.{IsInLimits, PassesLimit}
use Rattle.gate_nets.specs.Gate.{after}
use Rattle.gate_nets.specs.Sum.{negative_of}
use Rattle.gate_nets.specs.Words.{fold_of, inverse_of, select_of}
use Rattle.gate_nets.specs.declared.gate.Gate.TheVariants.{Not, Bitwise, Mux}
use Rattle.gate_nets.proofs.Added.{one_limits}
use Rattle.gate_nets.proofs.Limits as nets
use Rattle.gate_divide.specs.Division.{digit_of, divided_of, less_of}
use Rattle.gate_divide.specs.Kinds.{rounded_of}
use Rattle.gate_divide.specs.Rounding.{floor_quotient_of, floor_remainder_of, is_rounded_of, lowered_of, lowered_where, remainder_of, truncated_of}
use Rattle.gate_divide.specs.Signs.{negated_where, top_of}
use Rattle.gate_divide.specs.declared.division.Division.{Division}

-- what is within the limits after a net was so before it
abbrev Keeps : {A : Type 0} → Build A → Type 0
Keeps m = (b : Building) → IsInLimits (m b).1 → IsInLimits b

then_limits : {A B : Type 0} (m : Build A) (k : A → Build B) → Keeps m → ((a : A) → Keeps (k a)) → Keeps (after m k)
unfolding after
then_limits m k first next b h = first b (next (m b).0 (m b).1 h)

pub each_limits : (bits : List SigBit) → Keeps (inverse_of bits)
each_limits bits b h = nets.each_limits Not bits b h

fold_limits : (kind : BitwiseKind) (bits : List SigBit) → Keeps (fold_of kind bits)
fold_limits kind [] b h = h
fold_limits kind (x ∷ bits) b h = nets.fold_limits kind x bits b h

pub select_limits : (x y : List SigBit) (s : SigBit) → Keeps (select_of x y s)
select_limits x y s b h = nets.pairs_limits (λ u v. Mux u v s) x y b h

negative_limits : (bits : List SigBit) → Keeps (negative_of bits)
negative_limits bits = then_limits _ _ (each_limits bits) λ inverse. then_limits _ _ (nets.sum_limits _ inverse (Fixed S1)) λ total b h. h

pub negated_limits : (bits : List SigBit) (s : SigBit) → Keeps (negated_where bits s)
unfolding negated_where
negated_limits bits s = then_limits _ _ (negative_limits bits) λ complement. select_limits bits complement s

pub remainder_limits : (a rest : List SigBit) → Keeps (remainder_of a rest)
unfolding remainder_of
remainder_limits a rest = negated_limits rest (top_of a)

pub rounded_limits : (left : List SigBit) (differ : SigBit) → Keeps (is_rounded_of left differ)
unfolding is_rounded_of
rounded_limits left differ = then_limits _ _ (fold_limits Or left) λ some. one_limits (Bitwise And some differ)

truncated_limits : (a b quotient : List SigBit) → Keeps (truncated_of a b quotient)
unfolding truncated_of
truncated_limits a b quotient = then_limits _ _ (one_limits (Bitwise Xor (top_of a) (top_of b))) λ differ. negated_limits quotient differ

pub lowered_limits : (whole : List SigBit) (rounded : SigBit) → Keeps (lowered_where whole rounded)
unfolding lowered_where
lowered_limits whole rounded = then_limits _ _ (nets.sum_limits whole _ (Fixed S0)) λ less. select_limits whole less.bits rounded

pub down_limits : (a : List SigBit) (differ : SigBit) (quotient rest : List SigBit) → Keeps (lowered_of a differ quotient rest)
unfolding lowered_of
down_limits a differ quotient rest =
    then_limits _ _ (negated_limits quotient differ) λ whole.
    then_limits _ _ (remainder_limits a rest) λ left.
    then_limits _ _ (rounded_limits left differ) λ rounded.
    lowered_limits whole rounded

floor_quotient_limits : (a b quotient rest : List SigBit) → Keeps (floor_quotient_of a b quotient rest)
unfolding floor_quotient_of
floor_quotient_limits a b quotient rest =
    then_limits _ _ (one_limits (Bitwise Xor (top_of a) (top_of b))) λ differ. down_limits a differ quotient rest

floor_remainder_limits : (a b rest : List SigBit) → Keeps (floor_remainder_of a b rest)
unfolding floor_remainder_of
floor_remainder_limits a b rest =
    then_limits _ _ (one_limits (Bitwise Xor (top_of a) (top_of b))) λ differ.
    then_limits _ _ (remainder_limits a rest) λ left.
    then_limits _ _ (rounded_limits left differ) λ rounded.
    then_limits _ _ (nets.sum_limits left b (Fixed S0)) λ more.
    select_limits left more.bits rounded

less_limits : (wide divisor : List SigBit) → Keeps (less_of wide divisor)
unfolding less_of
less_limits wide divisor = then_limits _ _ (each_limits (divisor ++ Fixed S0 ∷ [])) λ inverse. nets.sum_limits wide inverse (Fixed S1)

pub digit_limits : (bit : SigBit) (rest divisor : List SigBit) → Keeps (digit_of bit rest divisor)
unfolding digit_of
digit_limits bit rest divisor =
    then_limits _ _ (less_limits (bit ∷ rest) divisor) λ total.
    then_limits _ _ (select_limits (bit ∷ rest) total.bits total.carry) λ chosen b h. h

pub digit_over : (bit : SigBit) (rest divisor wide : List SigBit) (b : Building) → wide ≡ bit ∷ rest → PassesLimit (less_of wide divisor b).1 → PassesLimit (digit_of bit rest divisor b).1
unfolding after digit_of
digit_over bit rest divisor wide b e over h =
    let total = less_of (bit ∷ rest) divisor b in
    over (subst (λ z. IsInLimits (less_of z divisor b).1) (sym e) (select_limits (bit ∷ rest) total.0.bits total.0.carry total.1 h))

pub divided_limits : (dividend divisor : List SigBit) → Keeps (divided_of dividend divisor)
divided_limits [] divisor b h = h
divided_limits (bit ∷ dividend) divisor b h =
    then_limits _ _ (divided_limits dividend divisor) (λ above. then_limits _ _ (digit_limits bit above.rest divisor) λ digit b h. h) b h

-- also of a division of the upper bits alone
pub upper_limits : (dividend divisor : List SigBit) (at : ℕ) (b : Building) → IsInLimits (divided_of dividend divisor b).1 → IsInLimits (divided_of (drop at dividend) divisor b).1
unfolding after
upper_limits dividend divisor zero b h = h
upper_limits [] divisor (suc at) b h = h
upper_limits (bit ∷ dividend) divisor (suc at) b h =
    upper_limits dividend divisor at b (digit_limits bit (divided_of dividend divisor b).0.rest divisor (divided_of dividend divisor b).1 h)

pub kind_limits : (kind : DivisionKind) (a b : List SigBit) (division : Division) → Keeps (rounded_of kind a b division)
kind_limits Div a b division = truncated_limits a b division.quotient
kind_limits Mod a b division = remainder_limits a division.rest
kind_limits DivFloor a b division = floor_quotient_limits a b division.quotient division.rest
kind_limits ModFloor a b division = floor_remainder_limits a b division.rest
