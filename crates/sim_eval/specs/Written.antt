-- What write ports make of a bit of a word, by the values of the numbered bits.
use Rattle.std.specs.Prelude.{ℕ, Bool, true, false, List, [], ◌∷◌, slice_index_or, if◌then◌else◌}
use Rattle.std.specs.List.{list_all}
use Rattle.rtl_bits.specs.declared.bit.Bit.{Bit}
use Rattle.rtl_bits.specs.declared.bit.Bit.TheVariants.{S0, S1, X, Z, M, Dash}
use Rattle.rtl_bits.specs.Numbers.{is_one}
use Rattle.rtl_bits.specs.Tables.{and_of}
use Rattle.cell_gate.specs.Control.{pick_of}
use Rattle.flat_net.specs.declared.memory.WritePort.{WritePort}
use Rattle.flat_net.specs.declared.net.Point.{Point}
use Rattle.flat_net.specs.Cells.{listed_point}
use Rattle.net_model.specs.Words.{address_is}
use Rattle.sim_eval.specs.Numbers.{number_read, number_word}

-- what the point at a place has, x past the end
abbrev pub number_at : List Bit → List Point → ℕ → Bit
number_at values points at = number_read values (listed_point points at)

-- whether a port writes a bit of the word at an address
abbrev pub number_hit : List Bit → ℕ → ℕ → WritePort → Bit
number_hit values address at w = and_of (number_at values w.enable at) (address_is (number_word values w.address) address)

-- a bit is 0
abbrev pub is_zero : Bit → Bool
is_zero S0 = true
is_zero S1 = false
is_zero X = false
is_zero Z = false
is_zero M = false
is_zero Dash = false

-- the numbers of the ports that may write a bit of the word at an address
abbrev pub writers_of : List Bit → ℕ → ℕ → List WritePort → List ℕ
writers_of values address at [] = []
writers_of values address at (w ∷ ports) =
    if is_zero (number_hit values address at w)
    then writers_of values address at ports
    else w.number ∷ writers_of values address at ports

-- whether a port with this mask may follow the port of a number
abbrev pub may_follow : List Bit → ℕ → Bool
may_follow mask number = is_one (slice_index_or mask number X)

-- whether a port with this mask may follow the ports of these numbers
abbrev pub follows_all : List Bit → List ℕ → Bool
follows_all mask numbers = list_all (λ number. may_follow mask number) numbers

-- what a port makes of a bit of the word at an address, behind the ports of these numbers, which may write it
abbrev pub after_port : List Bit → ℕ → ℕ → WritePort → List ℕ → Bit → Bit
after_port values address at w writers old =
    pick_of (number_hit values address at w) (if follows_all w.mask writers then number_at values w.word at else X) old
