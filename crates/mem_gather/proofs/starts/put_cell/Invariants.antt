-- The start words before this number are put.
use Rattle.std.proofs.Common.{◌≡◌, ℕ, ◌+◌}
use Rattle.rtl_bits.specs.declared.bit.Bit.{Bit}
use Rattle.mem_gather.specs.Tables.{below, table}
use Rattle.mem_gather.proofs.starts.put_cell.Given as goal

abbrev pub invariant-loop-number : goal.invariant-loop-number
invariant-loop-number l =
    (size : ℕ) (f : ℕ → ℕ → Bit) → l.fn.words.items ≡ table l.base size l.width f → l.words.items ≡ table l.base size l.width (below l.width l.cell (l.first + l.number) f)
