-- The places of connections, one behind another.
use Rattle.std.proofs.Common.{◌≡◌, ℕ, zero, suc, ◌+◌, ◌<◌, ◌≤◌, min, List, [], ◌∷◌, ◌++◌, length, get_or, drop, append_assoc, refl, sym, ◌∙◌, ap, arith, add-one}
use Rattle.std.proofs.lemmas.List.{append-nil}
use Rattle.std.proofs.Math.Seq.{drop-cons}
use Rattle.rtl_sig.specs.declared.sig.SigBit.{SigBit}
use Rattle.rtl_sig.specs.declared.sig.SigBit.TheVariants as sig
use Rattle.rtl_ir.specs.Follow.{joins}
use Rattle.rtl_ir.specs.declared.follow.Join.{Join}

-- the first place and those behind it
first_place : (l r : SigBit) (ls rs : List SigBit) → joins (l ∷ ls) (r ∷ rs) ≡ joins (l ∷ []) (r ∷ []) ++ joins ls rs
first_place (sig.Fixed c) r ls rs = refl
first_place (sig.Wire b) r ls rs = refl

-- the next place and those behind it
next_place : (left right : List SigBit) (i : ℕ) (d : SigBit) → i < length left → i < length right
    → joins (drop i left) (drop i right) ≡ joins (get_or left i d ∷ []) (get_or right i d ∷ []) ++ joins (drop (i + 1) left) (drop (i + 1) right)
next_place left right i d h k =
    let next : suc i ≡ i + 1 = sym (add-one i) in
    (λ j. joins ((drop-cons left i d h ∙ (λ m. get_or left i d ∷ drop (next m) left)) j) ((drop-cons right i d k ∙ (λ m. get_or right i d ∷ drop (next m) right)) j))
    ∙ first_place (get_or left i d) (get_or right i d) (drop (i + 1) left) (drop (i + 1) right)

-- the places so far, with the next one, and those that are left are all
pub place_added : (left right : List SigBit) (i : ℕ) (d : SigBit) → i < min (length left) (length right) → (old new all : List Join)
    → new ≡ old ++ joins (get_or left i d ∷ []) (get_or right i d ∷ []) → old ++ joins (drop i left) (drop i right) ≡ all
    → new ++ joins (drop (i + 1) left) (drop (i + 1) right) ≡ all
place_added left right i d h old new all e inv =
    ap (λ js. js ++ joins (drop (i + 1) left) (drop (i + 1) right)) e
    ∙ append_assoc old (joins (get_or left i d ∷ []) (get_or right i d ∷ [])) (joins (drop (i + 1) left) (drop (i + 1) right))
    ∙ ap (λ js. old ++ js) (sym (next_place left right i d (omega arith) (omega arith)))
    ∙ inv

no_right : (ls : List SigBit) → joins ls [] ≡ []
no_right [] = refl
no_right (sig.Fixed c ∷ ls) = refl
no_right (sig.Wire b ∷ ls) = refl

-- behind the end of the shorter side there is no place
no_place : (left right : List SigBit) (i : ℕ) → min (length left) (length right) ≤ i → joins (drop i left) (drop i right) ≡ []
no_place [] right zero h = refl
no_place [] right (suc i) h = refl
no_place (l ∷ ls) [] zero h = no_right (l ∷ ls)
no_place (l ∷ ls) [] (suc i) h = no_right (drop i ls)
no_place (l ∷ ls) (r ∷ rs) zero h = absurd (omega arith)
no_place (l ∷ ls) (r ∷ rs) (suc i) h = no_place ls rs i (omega arith)

-- at the end the places so far are all
pub places_all : (left right : List SigBit) (i : ℕ) → min (length left) (length right) ≤ i → (found all : List Join) → found ++ joins (drop i left) (drop i right) ≡ all → found ≡ all
places_all left right i h found all inv = sym (append-nil found) ∙ ap (λ js. found ++ js) (sym (no_place left right i h)) ∙ inv
