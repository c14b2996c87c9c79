-- Where a part of a net passes a limit, the whole net does.
use Rattle.std.proofs.Common.{◌≡◌, ℕ, ◌+◌, ◌<◌, List, [], ◌∷◌, ◌++◌, length, drop, get_or, refl, sym, ◌∙◌, subst}
use Rattle.cell_types.specs.declared.word.BitwiseKind.{BitwiseKind}
use Rattle.rtl_ir.specs.Build.{Building}
use Rattle.rtl_sig.specs.declared.sig.SigBit.{SigBit}
use Rattle.net_index.specs.Builder.{IsInLimits, PassesLimit}
use Rattle.gate_nets.specs.Gate.{after, gate_of}
use Rattle.gate_nets.specs.Sum.{adder_of, sum_of}
use Rattle.gate_nets.specs.Words.{each_of, fold_from, fold_of, pairs_of}
use Rattle.gate_nets.specs.declared.adder.Total.{Total}
use Rattle.gate_nets.specs.declared.gate.Gate.{Gate}
use Rattle.gate_nets.specs.declared.gate.Gate.TheVariants.{Bitwise}
use Rattle.gate_nets.proofs.Added.{one_limits}
use Rattle.gate_nets.proofs.Steps.{each_step, fold_step, pairs_step, sum_step}

pub each_limits : (f : SigBit → Gate) (bits : List SigBit) (b : Building) → IsInLimits (each_of f bits b).1 → IsInLimits b
unfolding after
each_limits f [] b h = h
each_limits f (x ∷ bits) b h = one_limits (f x) b (each_limits f bits (gate_of (f x) b).1 h)

pub pairs_limits : (f : SigBit → SigBit → Gate) (xs ys : List SigBit) (b : Building) → IsInLimits (pairs_of f xs ys b).1 → IsInLimits b
unfolding after
pairs_limits f [] ys b h = h
pairs_limits f (x ∷ xs) [] b h = h
pairs_limits f (x ∷ xs) (y ∷ ys) b h = one_limits (f x y) b (pairs_limits f xs ys (gate_of (f x y) b).1 h)

pub fold_limits : (kind : BitwiseKind) (acc : SigBit) (bits : List SigBit) (b : Building) → IsInLimits (fold_from kind acc bits b).1 → IsInLimits b
unfolding after
fold_limits kind acc [] b h = h
fold_limits kind acc (x ∷ bits) b h =
    one_limits (Bitwise kind acc x) b (fold_limits kind (gate_of (Bitwise kind acc x) b).0 bits (gate_of (Bitwise kind acc x) b).1 h)

pub whole_fold_limits : (kind : BitwiseKind) (bits : List SigBit) (b : Building) → IsInLimits (fold_of kind bits b).1 → IsInLimits b
whole_fold_limits kind [] b h = h
whole_fold_limits kind (x ∷ bits) b h = fold_limits kind x bits b h

adder_limits : (x y c : SigBit) (b : Building) → IsInLimits (adder_of x y c b).1 → IsInLimits b
unfolding after
adder_limits x y c b h = one_limits _ b (one_limits _ _ (one_limits _ _ (one_limits _ _ (one_limits _ _ h))))

pub sum_limits : (xs ys : List SigBit) (c : SigBit) (b : Building) → IsInLimits (sum_of xs ys c b).1 → IsInLimits b
unfolding after
sum_limits [] ys c b h = h
sum_limits (x ∷ xs) [] c b h = h
sum_limits (x ∷ xs) (y ∷ ys) c b h =
    adder_limits x y c b (sum_limits xs ys (adder_of x y c b).0.1 (adder_of x y c b).1 h)

pub each_over : (f : SigBit → Gate) (bits made : List SigBit) (at : ℕ) (d : SigBit) (old : Building) (all : List SigBit × Building) → at < length bits
    → (made ++ (each_of f (drop at bits) old).0, (each_of f (drop at bits) old).1) ≡ all → PassesLimit (gate_of (f (get_or bits at d)) old).1 → PassesLimit all.1
each_over f bits made at d old all h e over fits =
    over (each_limits f (drop (at + 1) bits) (gate_of (f (get_or bits at d)) old).1
    (subst (λ z. IsInLimits z.1) (sym (each_step f bits made at d _ old _ h refl ∙ e)) fits))

pub pairs_over : (f : SigBit → SigBit → Gate) (a b made : List SigBit) (at : ℕ) (d : SigBit) (old : Building) (all : List SigBit × Building) → at < length a → at < length b
    → (made ++ (pairs_of f (drop at a) (drop at b) old).0, (pairs_of f (drop at a) (drop at b) old).1) ≡ all → PassesLimit (gate_of (f (get_or a at d) (get_or b at d)) old).1 → PassesLimit all.1
pairs_over f a b made at d old all h k e over fits =
    over (pairs_limits f (drop (at + 1) a) (drop (at + 1) b) (gate_of (f (get_or a at d) (get_or b at d)) old).1
    (subst (λ z. IsInLimits z.1) (sym (pairs_step f a b made at d _ old _ h k refl ∙ e)) fits))

pub fold_over : (kind : BitwiseKind) (bits : List SigBit) (at : ℕ) (d acc : SigBit) (old : Building) (all : SigBit × Building) → at < length bits
    → fold_from kind acc (drop at bits) old ≡ all → PassesLimit (gate_of (Bitwise kind acc (get_or bits at d)) old).1 → PassesLimit all.1
fold_over kind bits at d acc old all h e over fits =
    let here = gate_of (Bitwise kind acc (get_or bits at d)) old in
    over (fold_limits kind here.0 (drop (at + 1) bits) here.1 (subst (λ z. IsInLimits z.1) (sym (fold_step kind bits at d acc here.0 old here.1 h refl ∙ e)) fits))

pub sum_over : (a b made : List SigBit) (at : ℕ) (d c : SigBit) (old : Building) (all : Total × Building) → at < length a → at < length b
    → (record { bits = made ++ (sum_of (drop at a) (drop at b) c old).0.bits; carry = (sum_of (drop at a) (drop at b) c old).0.carry }, (sum_of (drop at a) (drop at b) c old).1) ≡ all
    → PassesLimit (adder_of (get_or a at d) (get_or b at d) c old).1 → PassesLimit all.1
sum_over a b made at d c old all h k e over fits =
    let here = adder_of (get_or a at d) (get_or b at d) c old in
    over (sum_limits (drop (at + 1) a) (drop (at + 1) b) here.0.1 here.1
    (subst (λ z. IsInLimits z.1) (sym (sum_step a b made at d c here.0 old here.1 h k refl ∙ e)) fits))
