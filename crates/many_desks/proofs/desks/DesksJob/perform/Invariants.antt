-- The seat has no ticket, and the desk is on its way.
use Rattle.std.proofs.Common.{drop}
use Rattle.result_cache.specs.Seats.{IsIdle}
use Rattle.many_desks.proofs.Ways.{OnItsWay}
use Rattle.many_desks.proofs.desks.DesksJob.perform.Given as goal

abbrev pub invariant-loop-command : goal.invariant-loop-command
invariant-loop-command g l = record {
  idle : IsIdle l.self.cache.now.table.shared.table_id l.token;
  way : OnItsWay (g.T.Table.steps l.self.table.now) (g.T.Table.does l.self.table.now) (g.T.Table.first_state l.self.table.now) l.commands l.fn.token l.fn.meter (drop l.command-index l.commands) l.state l.replies l.token l.meter;
}
