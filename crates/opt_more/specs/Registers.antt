-- What the code makes of a register.
use Rattle.std.specs.Prelude.{[], ◌∷◌, None}
use Rattle.opt_expr.specs.Sweep.{Visit, stays}
use Rattle.opt_more.specs.declared.registers.Visited.{Visited}
use Rattle.opt_more.specs.declared.registers.Visited.TheVariants.{Stays, Goes}

-- it stays in its place, or goes and leaves a connection
abbrev pub visit_of : Visited → Visit
visit_of (Stays cell) = stays cell
visit_of (Goes link) = record { cell = None; links = link ∷ [] }
