-- The state of a desk by its present design and script, and the results beside the modules.
use Rattle.std.specs.Prelude.{ℕ, List, Option}
use Rattle.script_core.specs.declared.built.Built.{Built}
use Rattle.desk_core.specs.declared.present.Present.{Present}
use Rattle.desk_core.specs.Results.{AreBeside}
use Rattle.desk_core.specs.State.{KeptKey, State}

-- the state of a desk with this design and script, which keeps these keys
abbrev pub state_with : List KeptKey → Present → State
state_with kept p = record { design = p.design.design; script = p.script; kept = kept }

-- where the results of keys stood beside the modules, results of these keys still do, or nothing
abbrev pub KeepsBeside : Present → List (Option Built) → Present → List (Option Built) → Type 0
KeepsBeside old was new now =
    (keys : List (List ℕ)) → AreBeside keys old.design.design old.script was → AreBeside keys new.design.design new.script now
