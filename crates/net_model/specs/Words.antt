-- Words of memories: what write ports make of a bit, and what a read port gives.
use Rattle.std.specs.Prelude.{ℕ, ◌-◌, ◌/◌, ◌==◌, Bool, ◌&&◌, List, [], ◌∷◌, ◌++◌, nat_le, if◌then◌else◌, cond, slice_index_or}
use Rattle.rtl_bits.specs.declared.bit.Bit.{Bit}
use Rattle.rtl_bits.specs.declared.bit.Bit.TheVariants.{S0, S1, X}
use Rattle.rtl_bits.specs.Knowledge.{all_known}
use Rattle.rtl_bits.specs.Numbers.{number_of, low_bit_of}
use Rattle.rtl_bits.specs.Tables.{and_of}
use Rattle.cell_gate.specs.Control.{pick_of}
use Rattle.rtl_ir.specs.Flat.Driver.{PortPoints}
use Rattle.net_model.specs.Picked.{equal_of}
use Rattle.net_model.specs.Valuation.{Valuation, read, read_all}

-- whether an address is a number: 0 where two known bits differ or the number does not fit, 1 where all are known and equal, else x
abbrev pub address_is : List Bit → ℕ → Bit
address_is [] number = if number == 0 then S1 else S0
address_is (b ∷ address) number = and_of (equal_of b (low_bit_of number)) (address_is address (number / 2))

-- whether a port writes a bit of the word at an address
abbrev pub hit_of : Valuation → ℕ → PortPoints → Bit
hit_of v address port = and_of (read v port.enable) (address_is (read_all v port.address) address)

-- the data of a port where it may follow each earlier port that may write, else x
abbrev pub followed_by : List Bool → List Bit → Bit → Bit
followed_by follows [] new = new
followed_by [] (S0 ∷ hits) new = followed_by [] hits new
followed_by (f ∷ follows) (S0 ∷ hits) new = followed_by follows hits new
followed_by [] (hit ∷ hits) new = X
followed_by (f ∷ follows) (hit ∷ hits) new = cond f (followed_by follows hits new) X

-- what the ports make of a bit of the word at an address, behind ports that hit so
abbrev pub after_ports : Valuation → ℕ → List Bit → List PortPoints → Bit → Bit
after_ports v address hits [] old = old
after_ports v address hits (port ∷ ports) old =
    after_ports v address (hits ++ hit_of v address port ∷ []) ports
    (pick_of (hit_of v address port) (followed_by port.follows hits (read v port.new)) old)

-- the word at an address, of the words from a first address on; x where the address is unknown or outside
abbrev pub fetched_of : List Bit → ℕ → List Bit → Bit
fetched_of address first words =
    if all_known address && nat_le first (number_of address)
    then slice_index_or words (number_of address - first) X
    else X
