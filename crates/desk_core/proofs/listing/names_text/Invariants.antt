use Rattle.std.proofs.Common.{◌≡◌, take}
use Rattle.desk_core.specs.Answers.{names_text}
use Rattle.desk_core.proofs.listing.names_text.Given as goal

-- the names so far are written
abbrev pub invariant-loop-module : goal.invariant-loop-module
invariant-loop-module l = l.text ≡ names_text (take l.module-index l.modules)
