use Rattle.std.proofs.Common.{take}
use Rattle.desk_core.proofs.Giving.{GivesUp}
use Rattle.desk_core.proofs.results.give_up_all.Given as goal

-- the keys before this one were to be given up
abbrev pub invariant-loop-key : goal.invariant-loop-key
invariant-loop-key g l = GivesUp l.cache.table.shared.table_id (take l.key-index l.keys) l.initial.seat l.seat
