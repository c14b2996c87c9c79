-- The cells that are picked are those at the places.
use Rattle.std.proofs.Common.{◌≡◌, ℕ, zero, suc, ◌+◌, ◌-◌, ◌≤◌, Bool, true, false, eqb, cond, map, List, [], ◌∷◌, ◌++◌, append_assoc, length, drop, Option, Some, None, inl, inr, refl, sym, ◌∙◌, ap, arith}
use Rattle.std.specs.Prelude.{slice_get}
use Rattle.std.specs.Option.{option_map_or}
use Rattle.std.proofs.Math.ListN.{drop_of_length-le}
use Rattle.std.proofs.lemmas.Bool.{eqb-false, eqb-true}
use Rattle.std.proofs.lemmas.List.{append-nil, length-append}
use Rattle.rtl_ir.specs.declared.cell.Cell.{Cell}
use Rattle.net_model.specs.Lists.{In}
use Rattle.opt_merge.specs.Picked.{AreThese, picked}
use Rattle.opt_merge.specs.State.{IsRising}
use Rattle.opt_merge.proofs.Sofar.{drop_here, get_beyond}

-- places from one on
abbrev From : ℕ → List ℕ → Type 0
From at places = (p : ℕ) → In p places → at ≤ p

-- the cells at places, of which the first cell is at a place
abbrev seen : ℕ → List Cell → List ℕ → List (Option Cell)
seen at cells places = map (λ p. slice_get cells (p - at)) places

seen_first : (cells : List Cell) (places : List ℕ) → seen 0 cells places ≡ map (slice_get cells) places
seen_first cells [] = refl
seen_first cells (p ∷ places) =
    let e : p - 0 ≡ p = omega arith in
    λ i. slice_get cells (e i) ∷ seen_first cells places i

seen_next : (at : ℕ) (c : Cell) (cells : List Cell) (places : List ℕ) → From (suc at) places → seen at (c ∷ cells) places ≡ seen (suc at) cells places
seen_next at c cells [] from = refl
seen_next at c cells (p ∷ places) from =
    let h = from p (inl refl) in
    let e : p - at ≡ suc (p - suc at) = omega (arith, h) in
    let one : slice_get (c ∷ cells) (p - at) ≡ slice_get cells (p - suc at) = ap (slice_get (c ∷ cells)) e in
    let rest = seen_next at c cells places (λ q j. from q (inr j)) in
    λ i. one i ∷ rest i

-- what is picked of these cells is what stands at the places
abbrev Picks : ℕ → List Cell → Type 0
Picks at cells = (places : List ℕ) (these : List Cell) → IsRising places → From at places → seen at cells places ≡ map Some these → picked at cells places ≡ these

module _ (at : ℕ) (c : Cell) (cells : List Cell) (next : Picks (suc at) cells) (p : ℕ) (places : List ℕ) (rising : IsRising (p ∷ places)) (from : From at (p ∷ places)) where
  behind : From (suc at) places
  behind q i = let one = from p (inl refl) in let more = rising.0 q i in omega (arith, one, more)

  picks_here : (these : List Cell) → p ≡ at → seen at (c ∷ cells) (p ∷ places) ≡ map Some these → c ∷ picked (suc at) cells places ≡ these
  picks_here [] same e = absurd (cc)
  picks_here (d ∷ these) same e =
      let z : p - at ≡ zero = omega (arith, same) in
      let first : slice_get (c ∷ cells) (p - at) ≡ Some c = ap (slice_get (c ∷ cells)) z in
      let there : slice_get (c ∷ cells) (p - at) ≡ Some d = cc in
      let one : Some c ≡ Some d = sym first ∙ there in
      let is : c ≡ d = cc in
      let rest : seen at (c ∷ cells) places ≡ map Some these = cc in
      let all = next places these rising.1 behind (sym (seen_next at c cells places behind) ∙ rest) in
      λ i. is i ∷ all i

  later : suc at ≤ p → From (suc at) (p ∷ places)
  later h q (inl same) = omega (arith, same, h)
  later h q (inr i) = behind q i

  picks_later : (these : List Cell) → suc at ≤ p → seen at (c ∷ cells) (p ∷ places) ≡ map Some these → picked (suc at) cells (p ∷ places) ≡ these
  picks_later these h e = next (p ∷ places) these rising (later h) (sym (seen_next at c cells (p ∷ places) (later h)) ∙ e)

  picks_one : (these : List Cell) → seen at (c ∷ cells) (p ∷ places) ≡ map Some these → picked at (c ∷ cells) (p ∷ places) ≡ these
  picks_one these e = by (eqb p at) refl
    where
      by : (t : Bool) → eqb p at ≡ t → cond t (c ∷ picked (suc at) cells places) (picked (suc at) cells (p ∷ places)) ≡ these
      by true is = picks_here these (eqb-true p at is) e
      by false is = let apart = eqb-false p at is in let one = from p (inl refl) in picks_later these (omega (arith, one, apart)) e

picked_from : (at : ℕ) (cells : List Cell) (places : List ℕ) (these : List Cell) → IsRising places → From at places → seen at cells places ≡ map Some these → picked at cells places ≡ these
picked_from at [] [] [] rising from e = refl
picked_from at [] [] (d ∷ these) rising from e = absurd (cc)
picked_from at [] (p ∷ places) [] rising from e = absurd (cc)
picked_from at [] (p ∷ places) (d ∷ these) rising from e = let none : None ≡ Some d = cc in absurd (cc)
picked_from at (c ∷ cells) [] [] rising from e = refl
picked_from at (c ∷ cells) [] (d ∷ these) rising from e = absurd (cc)
picked_from at (c ∷ cells) (p ∷ places) these rising from e = picks_one at c cells (picked_from (suc at) cells) p places rising from these e

pub picked_these : (cells : List Cell) (places : List ℕ) (these : List Cell) → AreThese cells places these → picked 0 cells places ≡ these
picked_these cells places these are = picked_from 0 cells places these are.rising (λ p i. omega arith) (seen_first cells places ∙ are.there)

-- no place is left
picked_none : (at : ℕ) (cells : List Cell) → picked at cells [] ≡ []
picked_none at [] = refl
picked_none at (c ∷ cells) = refl

module _ (at : ℕ) (c : Cell) (cells : List Cell) (places : List ℕ) (kept all : List Cell) (before : kept ++ picked at (c ∷ cells) (drop (length kept) places) ≡ all) where
  -- the next place is this one, or another, or there is none
  one_further : (o : Option ℕ) → slice_get places (length kept) ≡ o → (t : Bool) → t ≡ option_map_or (λ p. eqb p at) o false → (new : List Cell)
      → new ≡ kept ++ cond t (c ∷ []) [] → new ++ picked (suc at) cells (drop (length new) places) ≡ all
  one_further None is true f new e = absurd (cc)
  one_further None is false f new e =
      let none : drop (length kept) places ≡ [] = drop_of_length-le places (get_beyond places (length kept) is) in
      ap (λ xs. xs ++ picked (suc at) cells (drop (length xs) places)) (e ∙ append-nil kept)
      ∙ ap (λ ps. kept ++ picked (suc at) cells ps) none
      ∙ ap (λ rest. kept ++ rest) (picked_none (suc at) cells)
      ∙ sym (ap (λ ps. kept ++ picked at (c ∷ cells) ps) none)
      ∙ before
  one_further (Some p) is true f new e =
      let behind : drop (length kept) places ≡ p ∷ drop (length kept + 1) places = drop_here places (length kept) p is in
      let one : length (kept ++ c ∷ []) ≡ length kept + 1 = length-append kept (c ∷ []) in
      ap (λ xs. xs ++ picked (suc at) cells (drop (length xs) places)) e
      ∙ ap (λ n. (kept ++ c ∷ []) ++ picked (suc at) cells (drop n places)) one
      ∙ append_assoc kept (c ∷ []) (picked (suc at) cells (drop (length kept + 1) places))
      ∙ sym (ap (λ u. kept ++ cond u (c ∷ picked (suc at) cells (drop (length kept + 1) places)) (picked (suc at) cells (p ∷ drop (length kept + 1) places))) (sym f))
      ∙ sym (ap (λ ps. kept ++ picked at (c ∷ cells) ps) behind)
      ∙ before
  one_further (Some p) is false f new e =
      let behind : drop (length kept) places ≡ p ∷ drop (length kept + 1) places = drop_here places (length kept) p is in
      ap (λ xs. xs ++ picked (suc at) cells (drop (length xs) places)) (e ∙ append-nil kept)
      ∙ ap (λ ps. kept ++ picked (suc at) cells ps) behind
      ∙ sym (ap (λ u. kept ++ cond u (c ∷ picked (suc at) cells (drop (length kept + 1) places)) (picked (suc at) cells (p ∷ drop (length kept + 1) places))) (sym f))
      ∙ sym (ap (λ ps. kept ++ picked at (c ∷ cells) ps) behind)
      ∙ before

  pub picked_further : (t : Bool) → t ≡ option_map_or (λ p. eqb p at) (slice_get places (length kept)) false → (new : List Cell)
      → new ≡ kept ++ cond t (c ∷ []) [] → new ++ picked (suc at) cells (drop (length new) places) ≡ all
  picked_further t f new e = one_further (slice_get places (length kept)) refl t f new e
