-- Where a text keeps its bytes.
use Rattle.std.specs.Prelude.{ℕ, List}
use Rattle.std.specs.Arc.{arc_value}
use Rattle.rtl_bits.specs.declared.text.Bytes.{Bytes}
use Rattle.rtl_bits.specs.declared.text.Bytes.TheVariants.{Inline, Boxed, Listed}

-- the bytes that lie there
abbrev pub bytes_of : Bytes → List ℕ
bytes_of (Inline short) = short
bytes_of (Boxed short) = short.value
bytes_of (Listed bytes) = (arc_value bytes).items
