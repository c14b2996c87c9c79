-- The table of several desks may be looked at by several threads.
use denote.RattleType.{RattleType}
use denote.Ref.{NamedLft}
use denote.Param.Send.{IsSync, sendable}
use denote.Param.SendFields.{declared_sync}
use Rattle.std.proofs.Crossing.{crosses}
use Rattle.script_core.proofs.script.Script.TheSendSync as scripts
use Rattle.synth_run.specs.contracts.desks.DeskTable as tables

pub table_sync : (a : NamedLft) (R : RattleType) → IsSync R → IsSync (tables.the_row a R)
table_sync a R y =
    declared_sync (tables.the_type a R) (
      search (sendable, y) depth 20,
      (search (sendable, crosses) depth 20, (search (sendable, scripts.the_sync) depth 20, tt)),
    )
