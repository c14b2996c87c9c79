-- The faults that the check answers, and the words of their error lines.
use Rattle.std.specs.Prelude.{ℕ, List, [], ◌++◌, codes}
use Rattle.std.specs.Fmt.{decimal}
use Rattle.rtl_ir.specs.Fault as rtl
use Rattle.rtl_check.specs.declared.fault.CheckFault.{CheckFault}
use Rattle.rtl_check.specs.declared.fault.CheckFault.TheVariants as check
use Rattle.rtl_check.specs.declared.fault.Item.{Item}
use Rattle.rtl_check.specs.declared.fault.Item.TheVariants.{Named, Connect}
use Rattle.rtl_check.specs.declared.fault.Spot.{Spot}
use Rattle.rtl_check.specs.declared.fault.WireSpot.{WireSpot}

-- an item as the check answers it
abbrev pub item_of : rtl.Item → Item
item_of (rtl.Named name) = Named name
item_of (rtl.Connect number) = Connect number

-- what is at fault, as the check answers it
abbrev pub spot_of : rtl.Spot → Spot
spot_of s = record { id = s.id; item = item_of s.item }

-- a fault as the check answers it
abbrev pub answer_of : rtl.Fault → CheckFault
answer_of (rtl.Width s) = check.Width (spot_of s)
answer_of (rtl.UnknownCell s) = check.UnknownCell (spot_of s)
answer_of (rtl.UnsupportedCell s) = check.UnsupportedCell (spot_of s)
answer_of (rtl.BadParameterOrPort s) = check.BadParameterOrPort (spot_of s)
answer_of (rtl.TooWide s) = check.TooWide (spot_of s)
answer_of (rtl.TwoDrivers id name at) = check.TwoDrivers (record { id = id; wire = name; at = at })
answer_of (rtl.BadPort s) = check.BadPort (spot_of s)
answer_of (rtl.BadProcess s) = check.BadProcess (spot_of s)
answer_of (rtl.BadMemory s) = check.BadMemory (spot_of s)
answer_of (rtl.Recursion id) = check.Recursion id

-- the digits of a fault's number
abbrev pub fault_number : CheckFault → List ℕ
fault_number (check.Width s) = codes "7"
fault_number (check.UnknownCell s) = codes "8"
fault_number (check.UnsupportedCell s) = codes "9"
fault_number (check.BadParameterOrPort s) = codes "10"
fault_number (check.TooWide s) = codes "11"
fault_number (check.TwoDrivers s) = codes "12"
fault_number (check.BadPort s) = codes "13"
fault_number (check.BadProcess s) = codes "14"
fault_number (check.BadMemory s) = codes "15"
fault_number (check.Recursion id) = codes "16"
fault_number check.Memory = []

-- what is at fault in a module
abbrev pub item_words : Item → List ℕ
item_words (Named name) = name
item_words (Connect number) = codes "connect " ++ decimal number

-- a module, and what is at fault in it
abbrev pub spot_words : Spot → List ℕ
spot_words s = s.id ++ codes " " ++ item_words s.item

-- a module, a wire and the number of a bit
abbrev pub wire_words : WireSpot → List ℕ
wire_words s = s.id ++ codes " " ++ s.wire ++ codes " " ++ decimal s.at

-- the words of a fault
abbrev pub fault_words : CheckFault → List ℕ
fault_words (check.Width s) = spot_words s
fault_words (check.UnknownCell s) = spot_words s
fault_words (check.UnsupportedCell s) = spot_words s
fault_words (check.BadParameterOrPort s) = spot_words s
fault_words (check.TooWide s) = spot_words s
fault_words (check.TwoDrivers s) = wire_words s
fault_words (check.BadPort s) = spot_words s
fault_words (check.BadProcess s) = spot_words s
fault_words (check.BadMemory s) = spot_words s
fault_words (check.Recursion id) = id
fault_words check.Memory = []
