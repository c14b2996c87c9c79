-- How many cells stay: all of them only where nothing changes.
use Rattle.std.proofs.Common.{◌≡◌, ◌⊎◌, ◌+◌, ◌<◌, List, [], ◌∷◌, ◌++◌, append_assoc, length, find, Option, Some, None, inl, inr, refl, sym, ◌∙◌, ap, arith}
use Rattle.std.specs.Prelude.{IfOk, Result, Ok, Err}
use Rattle.std.specs.Option.{option_map_or}
use Rattle.std.proofs.lemmas.List.{append-nil, length-append}
use Rattle.rtl_bits.specs.declared.bit.Bit.{Bit}
use Rattle.rtl_bits.specs.declared.memory.Memory.{Memory}
use Rattle.rtl_sig.specs.declared.sig.SigBit.{SigBit}
use Rattle.cell_types.specs.declared.kind.CellKind.{CellKind}
use Rattle.rtl_ir.specs.declared.cell.Cell.{Cell}
use Rattle.rtl_ir.specs.declared.module.Module.{Module}
use Rattle.rtl_ir.specs.Flat.Start.{start_of}
use Rattle.opt_merge.specs.Merge.{Merging, after_cells, after_kind, has_traits, join, merge_of, merging_of, stay, with_merging}
use Rattle.opt_merge.specs.Traits.{merging_kind, traits_of}

-- all of the cells behind those before
abbrev all_behind : Merging → List Cell → Merging
all_behind s cells = record { cells = s.cells ++ cells; links = s.links }

-- all stay, or there are fewer
abbrev AllOrFewer : Merging → List Cell → Merging → Type 0
AllOrFewer s cells new = (new ≡ all_behind s cells) ⊎ (length new.cells < length s.cells + length cells)

module _ (start : SigBit → Bit) where
  -- a cell stays, or is none more
  one_more : (s : Merging) (c : Cell) (o : Option CellKind) → (after_kind start s c o ≡ stay s c) ⊎ ((after_kind start s c o).cells ≡ s.cells)
  one_more s c None = inl refl
  one_more s c (Some kind) = by (find (has_traits start s.links (traits_of start s.links kind c)) s.cells)
    where
      by : (o : Option Cell) → (option_map_or (λ earlier. join kind s earlier c) o (stay s c) ≡ stay s c) ⊎ ((option_map_or (λ earlier. join kind s earlier c) o (stay s c)).cells ≡ s.cells)
      by None = inl refl
      by (Some earlier) = inr refl

  module _ (s : Merging) (c : Cell) (cells : List Cell) (next : Merging) (rest : AllOrFewer next cells (after_cells start next cells)) where
    cell_stays : next ≡ stay s c → AllOrFewer s (c ∷ cells) (after_cells start next cells)
    cell_stays e = by rest
      where
        by : AllOrFewer next cells (after_cells start next cells) → AllOrFewer s (c ∷ cells) (after_cells start next cells)
        by (inl all) = inl (all ∙ ap (λ (m : Merging). all_behind m cells) e ∙ (λ i. record { cells = append_assoc s.cells (c ∷ []) cells i; links = s.links }))
        by (inr h) =
            let one : length next.cells ≡ length s.cells + 1 = ap (λ (m : Merging). length m.cells) e ∙ length-append s.cells (c ∷ []) in
            inr (omega (arith, h, one))

    cell_goes : next.cells ≡ s.cells → AllOrFewer s (c ∷ cells) (after_cells start next cells)
    cell_goes e = by rest
      where
        by : AllOrFewer next cells (after_cells start next cells) → AllOrFewer s (c ∷ cells) (after_cells start next cells)
        by (inl all) =
            let count : length (after_cells start next cells).cells ≡ length next.cells + length cells = ap (λ (m : Merging). length m.cells) all ∙ length-append next.cells cells in
            let same : length next.cells ≡ length s.cells = ap length e in
            inr (omega (arith, count, same))
        by (inr h) = let same : length next.cells ≡ length s.cells = ap length e in inr (omega (arith, h, same))

    cell_counts : (next ≡ stay s c) ⊎ (next.cells ≡ s.cells) → AllOrFewer s (c ∷ cells) (after_cells start next cells)
    cell_counts (inl e) = cell_stays e
    cell_counts (inr e) = cell_goes e

  all_or_fewer : (s : Merging) (cells : List Cell) → AllOrFewer s cells (after_cells start s cells)
  all_or_fewer s [] = inl (λ i. record { cells = sym (append-nil s.cells) i; links = s.links })
  all_or_fewer s (c ∷ cells) =
      cell_counts s c cells (after_kind start s c (merging_kind c)) (all_or_fewer (after_kind start s c (merging_kind c)) cells) (one_more s c (merging_kind c))

-- a module that keeps all of its cells stays as it is
pub merge_counts : (m : Module) → length (merge_of m).cells ≡ length m.cells → merge_of m ≡ m
merge_counts m = of_sweep (all_or_fewer (start_of m.wires m.processes) (record { cells = []; links = m.links }) m.cells)
  where
    of_sweep : AllOrFewer (record { cells = []; links = m.links }) m.cells (merging_of m) → length (merging_of m).cells ≡ length m.cells → with_merging m (merging_of m) ≡ m
    of_sweep (inl all) e = ap (with_merging m) all
    of_sweep (inr h) e = absurd (omega (arith, h, e))

pub counts_so : (m : Module) (r : Result Module Memory) → IfOk r (λ after. after ≡ merge_of m) → IfOk r (λ after. length after.cells ≡ length m.cells → after ≡ m)
counts_so m (Ok after) e = λ same. e ∙ merge_counts m (sym (ap (λ (n : Module). length n.cells) e) ∙ same)
counts_so m (Err fault) e = tt
