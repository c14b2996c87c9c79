-- The bytes so far are there, and those that are left follow.
use Rattle.std.proofs.Common.{◌≡◌, ◌++◌, drop}
use Rattle.opt_merge.specs.Rows.{sized}
use Rattle.opt_merge.proofs.rows.push_bytes.Given as goal

abbrev pub invariant-loop-byte : goal.invariant-loop-byte
invariant-loop-byte l = l.row.items ++ drop l.byte-index l.bytes ≡ l.fn.row.items ++ sized l.bytes
