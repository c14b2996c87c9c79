use Rattle.std.proofs.Common.{◌≡◌, ◌+◌, ◌-◌, ◌++◌}
use Rattle.rtl_read.specs.Part.{range_bits}
use Rattle.rtl_read.proofs.part.cover_range.Given as goal

-- the bits from here on lie on what was there
abbrev pub invariant-loop-above : goal.invariant-loop-above
invariant-loop-above l = l.brace ≡ range_bits l.wire (l.from + l.above) (l.width - l.above) ++ l.initial.brace
