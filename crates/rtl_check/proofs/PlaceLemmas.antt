-- The places of modules that cells are instances of.
use Rattle.std.proofs.Common.{◌≡◌, ℕ, ◌+◌, ◌<◌, List, [], ◌∷◌, ◌++◌, length, get_or, drop, Option, Some, None, add-one, append_assoc, suc, refl, sym, ◌∙◌, ap}
use Rattle.std.proofs.Math.Seq.{drop-cons}
use Rattle.rtl_ir.specs.declared.cell.Cell.{Cell}
use Rattle.rtl_ir.specs.declared.module.Module.{Module}
use Rattle.rtl_ir.specs.Faults.Recursion.{instance_place, instance_places}
use Rattle.rtl_check.specs.Places.{with_place}

with_place-cons : (modules : List Module) (found : List ℕ) (c : Cell) (cells : List Cell) → with_place found (instance_place modules c.kind_name) ++ instance_places modules cells ≡ found ++ instance_places modules (c ∷ cells)
with_place-cons modules found c cells = by (instance_place modules c.kind_name) refl
  where
    by : (o : Option ℕ) → instance_place modules c.kind_name ≡ o → with_place found o ++ instance_places modules cells ≡ found ++ instance_places modules (c ∷ cells)
    by None e = rw e refl
    by (Some k) e = rw e (append_assoc found (k ∷ []) (instance_places modules cells))

-- the places so far, and then those of a cell and of the others
pub places_next : (modules : List Module) (found now : List ℕ) (place : Option ℕ) (c : Cell) (cells : List Cell) (at : ℕ) → at < length cells → c ≡ get_or cells at c → place ≡ instance_place modules c.kind_name → now ≡ with_place found place
    → found ++ instance_places modules (drop at cells) ≡ instance_places modules cells → now ++ instance_places modules (drop (at + 1) cells) ≡ instance_places modules cells
places_next modules found now place c cells at h is e f so_far =
    rw (f, e) (with_place-cons modules found c (drop (at + 1) cells) ∙ ap (λ cs. found ++ instance_places modules cs) (sym (drop-cons cells at c h ∙ ap (λ d. d ∷ drop (suc at) cells) (sym is) ∙ ap (λ n. c ∷ drop n cells) (sym (add-one at)))) ∙ so_far)
