-- A design after a script, by the design and the script alone.
use Rattle.std.specs.Prelude.{◌≡◌, ℕ, List, map}
use Rattle.rtl_ir.specs.declared.module.Design.{Design}
use Rattle.rtl_ir.specs.declared.module.Module.{Module}
use Rattle.script_core.specs.declared.outcome.Outcome.{Outcome}
use Rattle.script_core.specs.declared.outcome.Outcome.TheVariants.{Done, Over}
use Rattle.script_core.specs.declared.word.Word.{Word}
use Rattle.script_core.specs.Built.{unnamed}
use Rattle.script_core.specs.Fold.{fold_script}
use Rattle.script_core.specs.Reached.{below_of, table_of}

-- an outcome under a name
abbrev pub named : List ℕ → Outcome → Outcome
named id (Done m) = Done (record m { id = id })
named id (Over word) = Over word

-- the outcome of a module of a list: that of its body, with its own name put back
abbrev pub outcome_of : List Word → List Module → Module → Outcome
outcome_of script modules m =
    named m.id (fold_script script (table_of modules m) (below_of script modules m.cells) (unnamed m))

-- the cold run of a script over a design: the outcome of each module, in order
abbrev pub cold : List Word → Design → List Outcome
cold script design = map (outcome_of script design.modules) design.modules

-- these outcomes are a netlist: each is that module of a design
abbrev pub IsNetlist : List Outcome → Design → Type 0
IsNetlist outcomes netlist = outcomes ≡ map Done netlist.modules
