-- Cells that are none of a memory.
use Rattle.std.proofs.Common.{◌≡◌, ℕ, ◌≤◌, Bool, List, length, drop, ap, subst, arith}
use Rattle.std.specs.Prelude.{◌&&◌, false, not}
use Rattle.std.proofs.Math.ListN.{drop_of_length-le}
use Rattle.rtl_ir.specs.declared.cell.Cell.{Cell}
use Rattle.rtl_ir.specs.Flat.Cell.{cell_kind}
use Rattle.rtl_ir.specs.WritePorts.{is_of_memory}
use Rattle.net_model.specs.Lists.{In}
use Rattle.net_model.specs.Mem.Expand.{is_memory_kind}
use Rattle.net_model.specs.Within.{Each}

-- a cell that is none of any memory
abbrev pub IsPlain : Cell → Type 0
IsPlain c = is_memory_kind (cell_kind c) ≡ false

-- a cell that is none of the memory of this name
abbrev pub stays : List ℕ → Cell → Bool
stays name c = not (is_memory_kind (cell_kind c) && is_of_memory name c)

-- no cell comes after all
pub none_after : (cells all : List Cell) (count : ℕ) → count ≡ length all → all ≡ cells → Each IsPlain (drop count cells)
none_after cells all count is same c i =
    let as_long = ap length same in
    let over : length cells ≤ count = omega (arith, is, as_long) in
    absurd (subst (In c) (drop_of_length-le cells over) i)
