-- Words that cells choose, bit by bit, and what a code says of them.
use Rattle.std.proofs.Common.{◌≡◌, ◌<◌, ◌≤◌, ℕ, zero, suc, ◌+◌, ◌*◌, Bool, true, false, cond, List, refl, sym, ◌∙◌, ap, subst, arith}
use Rattle.std.specs.Prelude.{◌==◌, count_by, replicate, slice_index_or}
use Rattle.std.proofs.lemmas.List.FromFn.{get_or-map-range_with_len}
use Rattle.cell_word.specs.Choice.{muxed_of, part_of, picked_of, place_of}
use Rattle.rtl_bits.proofs.Lists.{AreBelow_known, all_known_true}
use Rattle.rtl_bits.specs.Knowledge.{AreBelow, Below, all_known}
use Rattle.rtl_bits.specs.Numbers.{is_one}
use Rattle.rtl_bits.specs.Tables.{mux_of, seen_of}
use Rattle.rtl_bits.specs.declared.bit.Bit.{Bit}
use Rattle.rtl_bits.specs.declared.bit.Bit.TheVariants.{X}
use Rattle.fsm_laws.specs.Chosen.{chosen}
use Rattle.fsm_laws.specs.Codes.{OneHot, apart}
use Rattle.fsm_laws.proofs.Coded.{seen_apart, seen_hot, unknown_hot}

-- a bit of a multiplexer's word
pub muxed_at : (a b : List Bit) (s : Bit) (width k : ℕ) → k < width → slice_index_or (muxed_of a b s width) k X ≡ mux_of (slice_index_or a k X) (slice_index_or b k X) s
muxed_at a b s width k lt =
    get_or-map-range_with_len (λ at. mux_of (slice_index_or a at X) (slice_index_or b at X) s) 0 width k k X lt (omega arith)

part_at : (a : List Bit) (offset width k : ℕ) → k < width → slice_index_or (part_of a offset width) k X ≡ seen_of (slice_index_or a (offset + k) X)
part_at a offset width k lt =
    get_or-map-range_with_len (λ at. seen_of (slice_index_or a (offset + at) X)) 0 width k k X lt (omega arith)

unknown_at : (n k : ℕ) → slice_index_or (replicate n X) k X ≡ X
unknown_at zero k = refl
unknown_at (suc n) zero = refl
unknown_at (suc n) (suc k) = unknown_at n k

-- a bit of the word of a multiplexer of several parts
pub picked_at : (a b s : List Bit) (width k : ℕ) → k < width → slice_index_or (picked_of a b s width) k X ≡ chosen s (slice_index_or a k X) (λ j. slice_index_or b (j * width + k) X)
picked_at a b s width k lt = by (all_known s) (count_by is_one s == 0) (count_by is_one s == 1)
  where
    by : (t u w : Bool) → slice_index_or (cond t (cond u (part_of a 0 width) (cond w (part_of b (place_of s * width) width) (replicate width X))) (replicate width X)) k X
        ≡ cond t (cond u (seen_of (slice_index_or a k X)) (cond w (seen_of (slice_index_or b (place_of s * width + k) X)) X)) X
    by true true w = let same : 0 + k ≡ k = omega arith in part_at a 0 width k lt ∙ ap (λ j. seen_of (slice_index_or a j X)) same
    by true false true = part_at b (place_of s * width) width k lt
    by true false false = unknown_at width k
    by false u w = unknown_at width k

-- what is apart stays apart where it is chosen
pub chosen_apart : (s t : List Bit) (a x e : Bit) (b y : ℕ → Bit) → AreBelow s t → Below (apart a e) x → ((j : ℕ) → Below (apart (b j) e) (y j)) → Below (apart (chosen s a b) e) (chosen t x y)
chosen_apart s t a x e b y below h k = by (all_known s) refl
  where
    kept : (u w : Bool) → Below (apart (cond u (seen_of a) (cond w (seen_of (b (place_of s))) X)) e) (cond u (seen_of x) (cond w (seen_of (y (place_of s))) X))
    kept true w = seen_apart a e x h
    kept false true = seen_apart (b (place_of s)) e (y (place_of s)) (k (place_of s))
    kept false false = tt

    by : (u : Bool) → all_known s ≡ u → Below (apart (cond u (cond (count_by is_one s == 0) (seen_of a) (cond (count_by is_one s == 1) (seen_of (b (place_of s))) X)) X) e) (chosen t x y)
    by false f = tt
    by true f =
        let same : t ≡ s = AreBelow_known s t (all_known_true s f) below in
        subst (λ z. Below (apart (cond (count_by is_one s == 0) (seen_of a) (cond (count_by is_one s == 1) (seen_of (b (place_of s))) X)) e) (chosen z x y)) (sym same)
        (subst (λ u. Below (apart (cond (count_by is_one s == 0) (seen_of a) (cond (count_by is_one s == 1) (seen_of (b (place_of s))) X)) e) (cond u (cond (count_by is_one s == 0) (seen_of x) (cond (count_by is_one s == 1) (seen_of (y (place_of s))) X)) X)) (sym f) (kept (count_by is_one s == 0) (count_by is_one s == 1)))

-- and where one bit of each is 1 where all others are 0, so it is of the choice
pub chosen_hot : (count : ℕ) → 2 ≤ count → (s : List Bit) (u : ℕ → Bit) (v : ℕ → ℕ → Bit) → OneHot count u → ((j : ℕ) → OneHot count (λ i. v i j)) → OneHot count (λ i. chosen s (u i) (v i))
chosen_hot count two s u v h k = by (all_known s) (count_by is_one s == 0) (count_by is_one s == 1)
  where
    by : (t w z : Bool) → OneHot count (λ i. cond t (cond w (seen_of (u i)) (cond z (seen_of (v i (place_of s))) X)) X)
    by true true z = seen_hot count u h
    by true false true = seen_hot count (λ i. v i (place_of s)) (k (place_of s))
    by true false false = unknown_hot count two (λ i. X) (λ i lt. refl)
    by false w z = unknown_hot count two (λ i. X) (λ i lt. refl)
