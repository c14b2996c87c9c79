-- The faults of a design, each with what its error line says.
use Rattle.std.specs.Prelude.{ℕ, Bool, List, [], ◌∷◌, if◌then◌else◌}

-- what is at fault: a wire, memory, cell or process, by its name, or a connection, by its number from 1
pub data Item : Type 0 where
  Named : List ℕ → Item
  Connect : ℕ → Item

-- what is at fault, and the name of its module
pub record Spot : Type 0 where
  pub id : List ℕ
  pub item : Item

-- the faults, in the order of their numbers from 7 on. Of two drivers it says the module, the wire and the bit's
-- number, and of a recursion the module
pub data Fault : Type 0 where
  Width : Spot → Fault
  UnknownCell : Spot → Fault
  UnsupportedCell : Spot → Fault
  BadParameterOrPort : Spot → Fault
  TooWide : Spot → Fault
  TwoDrivers : (id name : List ℕ) (at : ℕ) → Fault
  BadPort : Spot → Fault
  BadProcess : Spot → Fault
  BadMemory : Spot → Fault
  Recursion : (id : List ℕ) → Fault

-- an item of a module, by its name
abbrev pub spot : List ℕ → List ℕ → Spot
spot id name = record { id = id; item = Named name }

-- a connection of a module, by its number
abbrev pub link_spot : List ℕ → ℕ → Spot
link_spot id number = record { id = id; item = Connect number }

-- a fault, where there is one
abbrev pub fault_if : Bool → Fault → List Fault
fault_if there fault = if there then fault ∷ [] else []
