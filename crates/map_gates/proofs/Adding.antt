-- Cells that are added one for each bit.
use Rattle.std.proofs.Common.{◌≡◌, ℕ, suc, ◌+◌, ◌<◌, List, [], ◌∷◌, ◌++◌, length, drop, get_or, sym, ◌∙◌, ap, subst, arith, append_assoc, length-append}
use Rattle.std.proofs.Math.Seq.{drop-append_seam, drop-cons}
use Rattle.std.proofs.lemmas.List.{append-nil}
use Rattle.rtl_ir.specs.Build.{Building, made_name}
use Rattle.rtl_ir.specs.declared.cell.Cell.{Cell}
use Rattle.rtl_ir.specs.declared.cell.CellParam.{CellParam}
use Rattle.rtl_ir.specs.declared.cell.Pin.{Pin}
use Rattle.rtl_sig.specs.declared.sig.SigBit.{SigBit}
use Rattle.net_index.specs.Builder.{IsInLimits, PassesLimit}
use Rattle.map_laws.specs.Expansion.{cells_added}
use Rattle.map_gates.specs.Gates.{each_bit}

-- the cell of a type under the fresh name of a number
abbrev pub cell_named : List ℕ → List CellParam → List Pin → ℕ → Cell
cell_named kind params pins n = record { kind_name = kind; name = made_name n; params = params; pins = pins; attributes = [] }

-- cells, one for each bit from a place on, under the numbers from one on
abbrev pub cells_from : (ℕ → ℕ → SigBit → Cell) → ℕ → ℕ → List SigBit → List Cell
cells_from cell at n [] = []
cells_from cell at n (y ∷ ys) = cell at n y ∷ cells_from cell (suc at) (n + 1) ys

-- a cell of the next number goes last
abbrev pub puts : (ℕ → ℕ → SigBit → Cell) → ℕ → SigBit → Building → Building
puts cell at y b = record { body = record b.body { cells = b.body.cells ++ cell at b.next y ∷ [] }; next = b.next + 1 }

pub grown : (cell : ℕ → ℕ → SigBit → Cell) (at : ℕ) (ys : List SigBit) (b : Building) → (each_bit (puts cell) at ys b).body.cells ≡ b.body.cells ++ cells_from cell at b.next ys
grown cell at [] b = sym (append-nil b.body.cells)
grown cell at (y ∷ ys) b =
    grown cell (suc at) ys (puts cell at y b) ∙ append_assoc b.body.cells (cell at b.next y ∷ []) (cells_from cell (suc at) (b.next + 1) ys)

pub added_is : (cell : ℕ → ℕ → SigBit → Cell) (ys : List SigBit) (b : Building) → cells_added b (each_bit (puts cell) 0 ys b) ≡ cells_from cell 0 b.next ys
added_is cell ys b = ap (drop (length b.body.cells)) (grown cell 0 ys b) ∙ drop-append_seam b.body.cells (cells_from cell 0 b.next ys)

-- what is within the limits was so before
put_limits : (cell : ℕ → ℕ → SigBit → Cell) (at : ℕ) (y : SigBit) (b : Building) → IsInLimits (puts cell at y b) → IsInLimits b
put_limits cell at y b h = record {
  cells = omega (arith, h.cells, length-append b.body.cells (cell at b.next y ∷ []));
  bits = h.bits;
  names = omega (arith, h.names);
}

pub each_limits : (cell : ℕ → ℕ → SigBit → Cell) (at : ℕ) (ys : List SigBit) (b : Building) → IsInLimits (each_bit (puts cell) at ys b) → IsInLimits b
each_limits cell at [] b h = h
each_limits cell at (y ∷ ys) b h = put_limits cell at y b (each_limits cell (suc at) ys (puts cell at y b) h)

-- where one of the cells passes a limit, all of them do
pub each_over : (cell : ℕ → ℕ → SigBit → Cell) (at : ℕ) (y : SigBit) (ys : List SigBit) (b : Building) → PassesLimit (puts cell at y b) → PassesLimit (each_bit (puts cell) at (y ∷ ys) b)
each_over cell at y ys b over h = over (each_limits cell (suc at) ys (puts cell at y b) h)

-- the same in the middle of all of them
pub over_here : (cell : ℕ → ℕ → SigBit → Cell) (at : ℕ) (ys : List SigBit) (b all : Building) (d : SigBit) → at < length ys → each_bit (puts cell) at (drop at ys) b ≡ all → PassesLimit (puts cell at (get_or ys at d) b) → PassesLimit all
over_here cell at ys b all d h e over =
    subst PassesLimit (ap (λ rest. each_bit (puts cell) at rest b) (sym (drop-cons ys at d h)) ∙ e) (each_over cell at (get_or ys at d) (drop (suc at) ys) b over)
