-- The leaves of decisions with their leaves replaced.
use Rattle.std.proofs.Common.{◌≡◌, List, [], ◌∷◌, ◌++◌, refl, sym, ap, ◌∙◌, append_assoc, append-nil}
use Rattle.std.specs.Prelude.{flat_map}
use Rattle.rtl_sig.specs.declared.sig.SigBit.{SigBit}
use Rattle.rtl_ir.specs.Decisions.{Decision, Leaf, Choice, Branches, NoBranch, OneBranch, branches_with_leaves, leaves_before, leaves_of, with_leaves}

flat_append : (f : SigBit → List SigBit) (xs ys : List SigBit) → flat_map f (xs ++ ys) ≡ flat_map f xs ++ flat_map f ys
flat_append f [] ys = refl
flat_append f (x ∷ xs) ys = ap (λ zs. f x ++ zs) (flat_append f xs ys) ∙ sym (append_assoc (f x) (flat_map f xs) (flat_map f ys))

pub flat_same : (f g : SigBit → List SigBit) → ((s : SigBit) → f s ≡ g s) → (xs : List SigBit) → flat_map f xs ≡ flat_map g xs
flat_same f g h [] = refl
flat_same f g h (x ∷ xs) = λ i. h x i ++ flat_same f g h xs i

module _ (f : SigBit → Decision) where
  mutual
    pub leaves_replaced : (d : Decision) → leaves_of (with_leaves f d) ≡ flat_map (λ s. leaves_of (f s)) (leaves_of d)
    leaves_replaced (Leaf s) = sym (append-nil (leaves_of (f s)))
    leaves_replaced (Choice signal branches last) = before_replaced branches (leaves_of (with_leaves f last)) (leaves_of last) (leaves_replaced last)

    before_replaced : (branches : Branches) (last' last : List SigBit) → last' ≡ flat_map (λ s. leaves_of (f s)) last
        → leaves_before (branches_with_leaves f branches) last' ≡ flat_map (λ s. leaves_of (f s)) (leaves_before branches last)
    before_replaced NoBranch last' last e = e
    before_replaced (OneBranch [] value rest) last' last e = leaves_replaced value
    before_replaced (OneBranch (p ∷ ps) value rest) last' last e =
        (λ i. leaves_replaced value i ++ before_replaced rest last' last e i) ∙ sym (flat_append (λ s. leaves_of (f s)) (leaves_of value) (leaves_before rest last))
