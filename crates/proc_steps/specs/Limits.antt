-- The limits as a test.
use Rattle.std.specs.Prelude.{Bool, ◌&&◌, length, nat_le}
use Rattle.rtl_ir.specs.Build.{Building}
use Rattle.net_index.specs.Numbering.{bit_count, widths_of}

-- a module that is added to is within the limits on cells, on bits of wires and on the numbers of fresh names
unfoldable pub is_within : Building → Bool
is_within b = nat_le (length b.body.cells) 1048576 && (nat_le (bit_count (widths_of b.body.wires)) 4194304 && nat_le b.next 1000000000)
