-- How many places connections have.
use Rattle.std.proofs.Common.{◌≡◌, ℕ, ◌+◌, ◌<◌, ◌≤◌, min, List, [], ◌∷◌, ◌++◌, length, get_or, drop, refl, ap, arith, length-append}
use Rattle.rtl_sig.specs.declared.sig.SigBit.{SigBit}
use Rattle.rtl_ir.specs.declared.module.Link.{Link}
use Rattle.rtl_ir.specs.Follow.{all_joins, joins}
use Rattle.net_index.proofs.IndexDrives.{here}
use Rattle.rtl_ir.proofs.JoinPlaces.{place_added, places_all}

-- the places so far, with the next one, and those that are left
pub place_counted : (left right : List SigBit) (i : ℕ) (d : SigBit) → i < min (length left) (length right) → (count all : ℕ)
    → count + length (joins (drop i left) (drop i right)) ≡ all
    → (count + length (joins (get_or left i d ∷ []) (get_or right i d ∷ []))) + length (joins (drop (i + 1) left) (drop (i + 1) right)) ≡ all
place_counted left right i d h count all inv =
    let one = joins (get_or left i d ∷ []) (get_or right i d ∷ []) in
    let rest = joins (drop (i + 1) left) (drop (i + 1) right) in
    let both : one ++ rest ≡ joins (drop i left) (drop i right) = place_added left right i d h [] one (joins (drop i left) (drop i right)) refl refl in
    omega (arith, ap length both, length-append one rest)

pub places_counted : (left right : List SigBit) (i : ℕ) → min (length left) (length right) ≤ i → (count all : ℕ)
    → count + length (joins (drop i left) (drop i right)) ≡ all → count ≡ all
places_counted left right i h count all inv =
    let none : [] ≡ joins (drop i left) (drop i right) = places_all left right i h [] (joins (drop i left) (drop i right)) refl in
    omega (arith, ap length none)

-- the connections so far, with the next one, and those that are left
pub line_counted : (links : List Link) (i : ℕ) (l : Link) → i < length links → l ≡ get_or links i l → (count places all : ℕ) → places ≡ length (joins l.left l.right)
    → count + length (all_joins (drop i links)) ≡ all → (count + places) + length (all_joins (drop (i + 1) links)) ≡ all
line_counted links i l h is count places all e inv =
    let next = ap (λ ls. length (all_joins ls)) (here links i l h is) in
    omega (arith, next, length-append (joins l.left l.right) (all_joins (drop (i + 1) links)))
