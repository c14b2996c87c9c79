-- Laws of numbers that digits write.
use Rattle.std.proofs.Common.{◌≡◌, ℕ, zero, suc, ◌+◌, ◌*◌, ◌-◌, ◌<◌, ◌≤◌, List, [], ◌∷◌, length, take, get_or, arith}
use Rattle.std.specs.List.{fold}
use Rattle.std.proofs.lemmas.List.Sums.{fold_more}
use Rattle.rtl_lex.specs.Numbers.{decimal, octal}

decimal_grows : (a : ℕ) (ds : List ℕ) → a ≤ fold (λ n b. n * 10 + (b - 48)) a ds
decimal_grows a [] = omega arith
decimal_grows a (d ∷ ds) = omega (arith, decimal_grows (a * 10 + (d - 48)) ds)

decimal_front : (a : ℕ) (ds : List ℕ) (i : ℕ) → fold (λ n b. n * 10 + (b - 48)) a (take i ds) ≤ fold (λ n b. n * 10 + (b - 48)) a ds
decimal_front a ds zero = decimal_grows a ds
decimal_front a [] (suc i) = omega arith
decimal_front a (d ∷ ds) (suc i) = decimal_front (a * 10 + (d - 48)) ds i

-- decimal digits that stand for a number of this size at the front settle it
pub decimal_stays : (ds : List ℕ) (i n m : ℕ) → i < length ds → n ≡ decimal (take i ds) → m ≤ n * 10 + (get_or ds i 0 - 48) → m ≤ decimal ds
decimal_stays ds i n m lt is le =
    let more = fold_more (λ n b. n * 10 + (b - 48)) 0 ds i 0 lt in
    omega (arith, more, is, le, decimal_front 0 ds (i + 1))

octal_grows : (a : ℕ) (ds : List ℕ) → a ≤ fold (λ n b. n * 8 + (b - 48)) a ds
octal_grows a [] = omega arith
octal_grows a (d ∷ ds) = omega (arith, octal_grows (a * 8 + (d - 48)) ds)

octal_front : (a : ℕ) (ds : List ℕ) (i : ℕ) → fold (λ n b. n * 8 + (b - 48)) a (take i ds) ≤ fold (λ n b. n * 8 + (b - 48)) a ds
octal_front a ds zero = octal_grows a ds
octal_front a [] (suc i) = omega arith
octal_front a (d ∷ ds) (suc i) = octal_front (a * 8 + (d - 48)) ds i

-- octal digits that stand for a number of this size at the front settle it
pub octal_stays : (ds : List ℕ) (i n m : ℕ) → i < length ds → n ≡ octal (take i ds) → m ≤ n * 8 + (get_or ds i 0 - 48) → m ≤ octal ds
octal_stays ds i n m lt is le =
    let more = fold_more (λ n b. n * 8 + (b - 48)) 0 ds i 0 lt in
    omega (arith, more, is, le, octal_front 0 ds (i + 1))
