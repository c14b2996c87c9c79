-- Loops that make nets: what is made so far, below the net of what is left, is the whole net.
use Rattle.std.proofs.Common.{◌≡◌, ⊎_elim, min, ℕ, suc, ◌+◌, ◌<◌, List, [], ◌∷◌, ◌++◌, length, drop, get_or, refl, sym, ◌∙◌, ap, arith, append_assoc, drop-cons}
use Rattle.std.proofs.lemmas.Bool.{cases_lt}
use Rattle.std.proofs.lemmas.List.{drop_all}
use Rattle.cell_types.specs.declared.word.BitwiseKind.{BitwiseKind}
use Rattle.rtl_ir.specs.Build.{Building}
use Rattle.rtl_sig.specs.declared.sig.SigBit.{SigBit}
use Rattle.gate_nets.specs.Gate.{after, gate_of}
use Rattle.gate_nets.specs.Sum.{adder_of, sum_of}
use Rattle.gate_nets.specs.Words.{each_of, fold_from, pairs_of}
use Rattle.gate_nets.specs.declared.adder.Total.{Total}
use Rattle.gate_nets.specs.declared.gate.Gate.{Gate}
use Rattle.gate_nets.specs.declared.gate.Gate.TheVariants.{Bitwise}

-- a word with further bits below it, beside a module
abbrev pub below : List SigBit → List SigBit × Building → List SigBit × Building
below made r = (made ++ r.0, r.1)

-- a total with further bits below it
abbrev pub below_total : List SigBit → Total × Building → Total × Building
below_total made r = (record { bits = made ++ r.0.bits; carry = r.0.carry }, r.1)

-- what is left at a place of a word that is not its end
pub left_at : (bits : List SigBit) (at : ℕ) (d : SigBit) → at < length bits → drop at bits ≡ get_or bits at d ∷ drop (at + 1) bits
left_at bits at d h =
    let e : suc at ≡ at + 1 = omega arith in
    drop-cons bits at d h ∙ ap (λ n. get_or bits at d ∷ drop n bits) e

pub each_step : (f : SigBit → Gate) (bits made : List SigBit) (at : ℕ) (d y : SigBit) (old new : Building) → at < length bits → (y, new) ≡ gate_of (f (get_or bits at d)) old → below (made ++ y ∷ []) (each_of f (drop (at + 1) bits) new) ≡ below made (each_of f (drop at bits) old)
unfolding after
each_step f bits made at d y old new h e =
    let rest : List SigBit = drop (at + 1) bits in
    ap (λ g. below (made ++ g.0 ∷ []) (each_of f rest g.1)) e
    ∙ ap (λ z. (z, (each_of f rest (gate_of (f (get_or bits at d)) old).1).1)) (append_assoc made _ _)
    ∙ ap (λ z. below made (each_of f z old)) (sym (left_at bits at d h))

pub pairs_step : (f : SigBit → SigBit → Gate) (a b made : List SigBit) (at : ℕ) (d y : SigBit) (old new : Building) → at < length a → at < length b → (y, new) ≡ gate_of (f (get_or a at d) (get_or b at d)) old
    → below (made ++ y ∷ []) (pairs_of f (drop (at + 1) a) (drop (at + 1) b) new) ≡ below made (pairs_of f (drop at a) (drop at b) old)
unfolding after
pairs_step f a b made at d y old new h k e =
    let as' : List SigBit = drop (at + 1) a in
    let bs : List SigBit = drop (at + 1) b in
    ap (λ g. below (made ++ g.0 ∷ []) (pairs_of f as' bs g.1)) e
    ∙ ap (λ z. (z, (pairs_of f as' bs (gate_of (f (get_or a at d) (get_or b at d)) old).1).1)) (append_assoc made _ _)
    ∙ ap (λ z. below made (pairs_of f z (get_or b at d ∷ bs) old)) (sym (left_at a at d h))
    ∙ ap (λ z. below made (pairs_of f (drop at a) z old)) (sym (left_at b at d k))

pairs_none : (f : SigBit → SigBit → Gate) (a : List SigBit) (old : Building) → pairs_of f a [] old ≡ ([], old)
pairs_none f [] old = refl
pairs_none f (x ∷ a) old = refl

-- nothing is left where one of the words ends
pub pairs_end : (f : SigBit → SigBit → Gate) (a b : List SigBit) (at : ℕ) (old : Building) → at ≡ min (length a) (length b) → pairs_of f (drop at a) (drop at b) old ≡ ([], old)
pairs_end f a b at old e =
    ⊎_elim
    (λ less. ap (λ z. pairs_of f z (drop at b) old) (drop_all at a (omega (arith, e, less))))
    (λ more. ap (λ z. pairs_of f (drop at a) z old) (drop_all at b (omega (arith, e, more))) ∙ pairs_none f (drop at a) old)
    (cases_lt (length a) (length b))

pub sum_step : (a b made : List SigBit) (at : ℕ) (d c : SigBit) (digit : SigBit × SigBit) (old new : Building) → at < length a → at < length b → (digit, new) ≡ adder_of (get_or a at d) (get_or b at d) c old
    → below_total (made ++ digit.0 ∷ []) (sum_of (drop (at + 1) a) (drop (at + 1) b) digit.1 new) ≡ below_total made (sum_of (drop at a) (drop at b) c old)
unfolding after
sum_step a b made at d c digit old new h k e =
    let as' : List SigBit = drop (at + 1) a in
    let bs : List SigBit = drop (at + 1) b in
    let next : (SigBit × SigBit) × Building = adder_of (get_or a at d) (get_or b at d) c old in
    let rest : Total × Building = sum_of as' bs next.0.1 next.1 in
    ap (λ g. below_total (made ++ g.0.0 ∷ []) (sum_of as' bs g.0.1 g.1)) e
    ∙ ap (λ z. (record { bits = z; carry = rest.0.carry }, rest.1)) (append_assoc made (next.0.0 ∷ []) rest.0.bits)
    ∙ ap (λ z. below_total made (sum_of z (get_or b at d ∷ bs) c old)) (sym (left_at a at d h))
    ∙ ap (λ z. below_total made (sum_of (drop at a) z c old)) (sym (left_at b at d k))

sum_none : (a : List SigBit) (c : SigBit) (old : Building) → sum_of a [] c old ≡ (record { bits = []; carry = c }, old)
sum_none [] c old = refl
sum_none (x ∷ a) c old = refl

pub sum_end : (a b : List SigBit) (at : ℕ) (c : SigBit) (old : Building) → at ≡ min (length a) (length b) → sum_of (drop at a) (drop at b) c old ≡ (record { bits = []; carry = c }, old)
sum_end a b at c old e =
    ⊎_elim
    (λ less. ap (λ z. sum_of z (drop at b) c old) (drop_all at a (omega (arith, e, less))))
    (λ more. ap (λ z. sum_of (drop at a) z c old) (drop_all at b (omega (arith, e, more))) ∙ sum_none (drop at a) c old)
    (cases_lt (length a) (length b))

pub fold_step : (kind : BitwiseKind) (bits : List SigBit) (at : ℕ) (d acc y : SigBit) (old new : Building) → at < length bits → (y, new) ≡ gate_of (Bitwise kind acc (get_or bits at d)) old → fold_from kind y (drop (at + 1) bits) new ≡ fold_from kind acc (drop at bits) old
unfolding after
fold_step kind bits at d acc y old new h e =
    ap (λ g. fold_from kind g.0 (drop (at + 1) bits) g.1) e ∙ ap (λ z. fold_from kind acc z old) (sym (left_at bits at d h))
