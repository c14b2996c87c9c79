-- What is told where the netlist is needed.
use Rattle.std.specs.Prelude.{ℕ, List, ◌++◌, Option, Some, None}
use Rattle.script_core.specs.Cold.{cold}
use Rattle.desk_core.specs.declared.runs.Told.{Told}
use Rattle.desk_core.specs.declared.runs.Told.TheVariants.{Built, Over}
use Rattle.desk_core.specs.Netlist.{built_words, over_words}
use Rattle.desk_core.specs.State.{State}

-- how many keys were built, or the words of an error with that behind them
abbrev pub told_by : List ℕ → Option (List ℕ) → Told
told_by words None = Built words
told_by words (Some over) = Over (over ++ words)

-- what is told in a state
abbrev pub told_of : State → Told
told_of s = told_by (built_words s) (over_words s.design.modules (cold s.script s.design))

-- it was told what was built: no module passes a limit
abbrev pub IsBuilt : Told → Type 0
IsBuilt (Built words) = Unit {0}
IsBuilt (Over words) = ⊥
