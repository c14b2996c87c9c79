-- Sets of port numbers.
use Rattle.std.specs.Prelude.{◌≡◌, ℤ, List}
use Rattle.std.specs.List.{list_any}
use Rattle.std.specs.HashSet.{HashSet, contains}
use Rattle.std.specs.Ordering.{int_eq}

-- the set has these numbers and no others
abbrev pub Holds : {S : Type 0} → HashSet ℤ S → List ℤ → Type 0
Holds set numbers = (q : ℤ) → contains int_eq set q ≡ list_any (int_eq q) numbers
