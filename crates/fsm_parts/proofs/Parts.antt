-- The parts of a signal, one after another.
use Rattle.std.proofs.Common.{◌≡◌, ℕ, zero, suc, ◌+◌, ◌-◌, ◌<◌, List, [], ◌∷◌, ◌++◌, length, map, take, drop, refl, sym, ◌∙◌, ap, arith, append_assoc, ⊎_elim}
use Rattle.std.specs.Prelude.{min}
use Rattle.std.proofs.Math.Seq.{drop-length}
use Rattle.std.proofs.Math.ListN.{drop_of_length-le}
use Rattle.std.proofs.lemmas.Bool.{cases_lt}
use Rattle.std.proofs.lemmas.List.{length-drop, take_min}
use Rattle.rtl_sig.specs.declared.sig.SigBit.{SigBit}
use Rattle.net_model.specs.Fsm.Find.{parts_of}

-- nothing is left of no bits
pub no_parts : (n width : ℕ) → parts_of n width [] ≡ []
no_parts zero width = refl
no_parts (suc n) width = refl

-- the first part
pub part_first : (n width : ℕ) (rest : List SigBit) → 0 < length rest → parts_of (suc n) width rest ≡ take width rest ∷ parts_of n width (drop width rest)
part_first n width [] h = absurd (omega (arith, h))
part_first n width (s ∷ rest) h = refl

drop_nil : (k : ℕ) → drop {A = SigBit} k [] ≡ []
drop_nil zero = refl
drop_nil (suc k) = refl

drop_more : (a b : ℕ) (xs : List SigBit) → drop (a + b) xs ≡ drop b (drop a xs)
drop_more zero b xs = let e : zero + b ≡ b = omega arith in ap (λ k. drop k xs) e
drop_more (suc a) b [] = drop_nil (suc a + b) ∙ sym (drop_nil b)
drop_more (suc a) b (x ∷ xs) = let e : suc a + b ≡ suc (a + b) = omega arith in ap (λ k. drop k (x ∷ xs)) e ∙ drop_more a b xs

drop_min : (k : ℕ) (xs : List SigBit) → drop (min k (length xs)) xs ≡ drop k xs
drop_min k xs = ⊎_elim (λ h. let e : min k (length xs) ≡ k = omega (arith, h) in ap (λ j. drop j xs) e) (λ h. let e : min k (length xs) ≡ length xs = omega (arith, h) in ap (λ j. drop j xs) e ∙ drop-length xs ∙ sym (drop_of_length-le xs h)) (cases_lt k (length xs))

-- a part more is followed
pub part_more : {B : Type 0} (f : List SigBit → B) (signal : List SigBit) (from at width cut : ℕ) (done items all : List B) (part : B) → from < length signal → at < length signal → cut ≡ min width (length signal - from)
    → part ≡ f (take ((from + cut) - from) (drop from signal)) → items ≡ done ++ part ∷ [] → done ++ map f (parts_of (length signal - at) width (drop from signal)) ≡ all
    → items ++ map f (parts_of (length signal - (at + 1)) width (drop (from + cut) signal)) ≡ all
part_more f signal from at width cut done items all part in_signal left is one more so =
    let rest : List SigBit = drop from signal in
    let n : ℕ = length signal - (at + 1) in
    let next : length signal - at ≡ suc n = omega (arith, left) in
    let size : length rest ≡ length signal - from = length-drop from signal in
    let cut_is : cut ≡ min width (length rest) = is ∙ ap (min width) (sym size) in
    let back : (from + cut) - from ≡ cut = omega arith in
    let some : 0 < length rest = omega (arith, size, in_signal) in
    let taken : take ((from + cut) - from) rest ≡ take width rest = ap (λ k. take k rest) (back ∙ cut_is) ∙ take_min width rest in
    let dropped : drop (from + cut) signal ≡ drop width rest = drop_more from cut signal ∙ ap (λ k. drop k rest) cut_is ∙ drop_min width rest in
    ap (λ xs. xs ++ map f (parts_of n width (drop (from + cut) signal))) more
    ∙ append_assoc done (part ∷ []) (map f (parts_of n width (drop (from + cut) signal)))
    ∙ (λ i. done ++ (one ∙ ap f taken) i ∷ map f (parts_of n width (dropped i)))
    ∙ ap (λ ps. done ++ map f ps) (sym (part_first n width rest some) ∙ ap (λ k. parts_of k width rest) (sym next))
    ∙ so
