-- Rows of sources.
use Rattle.std.proofs.Common.{◌≡◌, ℕ, zero, suc, ◌<◌, List, [], ◌∷◌, ◌++◌, length, get_or, set, Vec, Global, refl, sym, ap, ◌∙◌, arith}
use Rattle.std.proofs.lemmas.List.{map-set}
use Rattle.rtl_sig.specs.declared.sig.SigBit.{SigBit}
use Rattle.process_trees.specs.Walk.{rows_of, sources_at}

pub length_rows : (rows : List (Vec SigBit Global)) → length (rows_of rows) ≡ length rows
length_rows [] = refl
length_rows (r ∷ rows) = ap suc (length_rows rows)

pub row_at : (rows : List (Vec SigBit Global)) (k : ℕ) (v : Vec SigBit Global) → k < length rows → v ≡ get_or rows k v → sources_at rows k ≡ v.items
row_at [] k v h e = absurd (omega (arith, h))
row_at (r ∷ rows) zero v h e = ap (λ (x : Vec SigBit Global). x.items) (sym e)
row_at (r ∷ rows) (suc k) v h e = row_at rows k v (omega (arith, h)) e

-- a source more in a row
pub row_put : (rows : List (Vec SigBit Global)) (at : ℕ) (source : SigBit) (old new : Vec SigBit Global) → old ≡ get_or rows at old → new.items ≡ old.items ++ source ∷ [] → at < length rows
    → rows_of (set rows at new) ≡ set (rows_of rows) at (sources_at rows at ++ source ∷ [])
row_put rows at source old new is put inside =
    map-set (λ (v : Vec SigBit Global). v.items) rows at new
    ∙ ap (set (rows_of rows) at) (put ∙ ap (λ xs. xs ++ source ∷ []) (sym (row_at rows at old inside is)))
