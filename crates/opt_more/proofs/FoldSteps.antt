-- What the code of the folds has found is what the definition says.
use Rattle.std.proofs.Common.{◌≡◌, ℕ, zero, suc, ◌+◌, ◌<◌, ◌≤◌, List, [], ◌++◌, ◌∷◌, drop, length, Option, Some, refl, sym, ◌∙◌, ap, arith}
use Rattle.std.specs.Prelude.{flat_map, slice_index_or}
use Rattle.std.specs.List.{fold}
use Rattle.rtl_bits.specs.declared.bit.Bit.{Bit}
use Rattle.rtl_ir.specs.Types.{Ports}
use Rattle.rtl_ir.specs.declared.cell.Cell.{Cell}
use Rattle.rtl_ir.specs.declared.module.Link.{Link}
use Rattle.follow_laws.specs.Inputs.{followed_cell}
use Rattle.opt_more.specs.Reduce.{fold_of, reduced, reduced_fold}

-- lists that are added one after another
pub fold_append : {A B : Type 0} (f : A → B → A) (acc : A) (xs ys : List B) → fold f acc (xs ++ ys) ≡ fold f (fold f acc xs) ys
fold_append f acc [] ys = refl
fold_append f acc (x ∷ xs) ys = fold_append f (f acc x) xs ys

-- a cell that is a fold, with its inputs followed
pub reduced_is : (found : Option Bit) (neutral : Bit) (ports : Ports) (cells : List Cell) (done : List (Option Cell)) (rest : List Cell) (links : List Link) (cell followed after : Cell) → found ≡ fold_of cell → found ≡ Some neutral → followed ≡ followed_cell ports links cell → after ≡ reduced_fold neutral cells done rest links followed
    → after ≡ reduced (fold_of cell) ports cells done rest links cell
reduced_is found neutral ports cells done rest links cell followed after is some f e =
    e
    ∙ ap (reduced_fold neutral cells done rest links) f
    ∙ ap (λ o. reduced o ports cells done rest links cell) (sym some ∙ is)

dropped : {A : Type 0} (xs : List A) (at : ℕ) (d : A) → at < length xs → drop at xs ≡ slice_index_or xs at d ∷ drop (at + 1) xs
dropped [] at d lt = absurd (omega arith)
dropped (x ∷ xs) zero d lt = refl
dropped (x ∷ xs) (suc at) d lt =
    let e : suc at + 1 ≡ suc (at + 1) = omega arith in
    dropped xs at d (omega arith) ∙ ap (λ z. slice_index_or xs at d ∷ drop z (x ∷ xs)) (sym e)

pub none_left : {A : Type 0} (xs : List A) (at : ℕ) → length xs ≤ at → drop at xs ≡ []
none_left [] zero le = refl
none_left [] (suc at) le = refl
none_left (x ∷ xs) zero le = absurd (omega arith)
none_left (x ∷ xs) (suc at) le = none_left xs at (omega arith)

-- what stands for the bit at a place is added, and then what stands for the bits that are left
pub bits_through : {A B : Type 0} (f : List B → B → List B) (g : A → List B) (xs : List A) (at : ℕ) (d : A) (acc new all : List B) → at < length xs → new ≡ fold f acc (g (slice_index_or xs at d)) → fold f acc (flat_map g (drop at xs)) ≡ all → fold f new (flat_map g (drop (at + 1) xs)) ≡ all
bits_through f g xs at d acc new all lt is so =
    ap (λ z. fold f z (flat_map g (drop (at + 1) xs))) is
    ∙ sym (fold_append f acc (g (slice_index_or xs at d)) (flat_map g (drop (at + 1) xs)))
    ∙ ap (λ z. fold f acc (flat_map g z)) (sym (dropped xs at d lt))
    ∙ so

pub bits_left : {A B : Type 0} (f : List B → B → List B) (g : A → List B) (xs : List A) (at : ℕ) (acc all : List B) → length xs ≤ at → fold f acc (flat_map g (drop at xs)) ≡ all → acc ≡ all
bits_left f g xs at acc all le so = ap (λ z. fold f acc (flat_map g z)) (sym (none_left xs at le)) ∙ so
