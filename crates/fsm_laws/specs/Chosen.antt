-- Choices of a bit among several, by a word.
use Rattle.std.specs.Prelude.{◌==◌, ℕ, List, count_by, if◌then◌else◌}
use Rattle.cell_word.specs.Choice.{place_of}
use Rattle.rtl_bits.specs.Knowledge.{all_known}
use Rattle.rtl_bits.specs.Numbers.{is_one}
use Rattle.rtl_bits.specs.Tables.{seen_of}
use Rattle.rtl_bits.specs.declared.bit.Bit.{Bit}
use Rattle.rtl_bits.specs.declared.bit.Bit.TheVariants.{X}

-- the first bit where no bit of a known word is 1, the bit of the one that is 1 where there is one, else x
abbrev pub chosen : List Bit → Bit → (ℕ → Bit) → Bit
chosen s a b =
    if all_known s
    then (if count_by is_one s == 0 then seen_of a else if count_by is_one s == 1 then seen_of (b (place_of s)) else X)
    else X
