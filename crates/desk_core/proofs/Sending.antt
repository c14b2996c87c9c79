-- Results may go to another thread, and be looked at by several.
use denote.RattleType.{RattleType}
use denote.Ref.{NamedLft}
use denote.Param.Send.{IsSend, IsSync, sendable}
use denote.Param.SendFields.{declared_send, declared_sync, variants_send, variants_sync}
use Rattle.std.proofs.Crossing.{crosses}
use Rattle.std.proofs.MapsCrossing as maps
use Rattle.build_crew.proofs.finding.Found.TheSendSync as founds
use Rattle.build_crew.specs.contracts.finding.Found as finding
use Rattle.result_cache.proofs.cache.SharedCache.TheSendSync as caches
use Rattle.result_cache.proofs.shard.Shard.TheSendSync as shards
use Rattle.rtl_check.specs.contracts.checked.Checked as checked
use Rattle.rtl_ir.specs.contracts.module.Design as designs
use Rattle.rtl_ir.specs.contracts.table.DesignPorts as tables
use Rattle.script_core.proofs.script.Script.TheSendSync as scripts
use Rattle.rtl_bits.proofs.seq.Seq.TheSendSync as seqs
use Rattle.rtl_bits.proofs.text.Text.TheSendSync as texts
use Rattle.rtl_sig.proofs.sig.SigSpec.TheSendSync as signals
use Rattle.rtl_ir.proofs.cell.Cell.TheSendSync as cells
use Rattle.rtl_ir.proofs.module.Link.TheSendSync as links
use Rattle.rtl_ir.proofs.module.Parameter.TheSendSync as parameters
use Rattle.rtl_ir.proofs.process.Case.TheLaws.TheKnot as tree
use Rattle.rtl_ir.proofs.process.SyncRule.TheSendSync as rules
use Rattle.rtl_ir.proofs.store.Store.TheSendSync as stores
use Rattle.rtl_ir.proofs.value.Attribute.TheSendSync as attributes
use Rattle.rtl_ir.proofs.wire.Wire.TheSendSync as wires
use Rattle.rtl_ir.specs.contracts.module.Module as modules
use Rattle.rtl_ir.specs.contracts.process.Case as cases
use Rattle.rtl_ir.specs.contracts.process.Process as processes
use Rattle.script_core.proofs.key.Key.TheSendSync as keys
use Rattle.script_core.proofs.word.Word.TheSendSync as words
use Rattle.script_core.specs.contracts.built.Built as results
use Rattle.script_core.specs.contracts.key_table.KeyTable as key_tables
use Rattle.script_core.specs.contracts.outcome.Outcome as outcomes
use Rattle.desk_core.specs.contracts.crew_jobs.CrewJobs as jobs
use Rattle.desk_core.specs.contracts.keys.Keys as tellers
use Rattle.desk_core.specs.contracts.kept.Kept as kept
use Rattle.desk_core.specs.contracts.own_results.OwnResults as own_results
use Rattle.desk_core.specs.contracts.present.Present as presents
use Rattle.desk_core.specs.contracts.solo.SoloDesk as desks
use Rattle.desk_core.specs.contracts.solo.SoloDesk.TheInside as inside
use Rattle.desk_core.proofs.ages.Ages.TheSendSync as ages

-- what a module is made of
ruleset parts = (
  texts.the_send,
  texts.the_sync,
  seqs.the_send,
  seqs.the_sync,
  signals.the_send,
  signals.the_sync,
  attributes.the_send,
  attributes.the_sync,
  links.the_send,
  links.the_sync,
  parameters.the_send,
  parameters.the_sync,
  wires.the_send,
  wires.the_sync,
  stores.the_send,
  stores.the_sync,
  cells.the_send,
  cells.the_sync,
  rules.the_send,
  rules.the_sync,
)

case_send : IsSend cases.the_row
case_send = search (sendable, crosses, parts, tree.crosses) depth 40

case_sync : IsSync cases.the_row
case_sync = search (sendable, crosses, parts, tree.crosses) depth 40

process_send : IsSend processes.the_row
process_send = search (sendable, crosses, parts, case_send) depth 40

process_sync : IsSync processes.the_row
process_sync = search (sendable, crosses, parts, case_sync) depth 40

module_send : IsSend modules.the_row
module_send = search (sendable, crosses, parts, process_send) depth 60

module_sync : IsSync modules.the_row
module_sync = search (sendable, crosses, parts, process_sync) depth 60

outcome_send : IsSend outcomes.the_row
outcome_send = variants_send outcomes.enum ((module_send, tt), ((words.the_send, tt), tt))

outcome_sync : IsSync outcomes.the_row
outcome_sync = variants_sync outcomes.enum ((module_sync, tt), ((words.the_sync, tt), tt))

built_send : IsSend results.the_row
built_send = declared_send results.the_type (keys.the_send, (outcome_send, tt))

built_sync : IsSync results.the_row
built_sync = declared_sync results.the_type (keys.the_sync, (outcome_sync, tt))

-- a result that is shared by a counter
pub kept_send : IsSend kept.the_row
kept_send = search (sendable, crosses, built_send, built_sync) depth 40

pub kept_sync : IsSync kept.the_row
kept_sync = search (sendable, crosses, built_send, built_sync) depth 40

-- a result that was found
pub found_send : IsSend (finding.the_row kept.the_row)
found_send = search (sendable, founds.the_send, kept_send) depth 40

-- what tells the keys of a design
design_sync : IsSync designs.the_row
design_sync = search (sendable, crosses, seqs.the_sync, module_sync) depth 40

checked_sync : IsSync checked.the_row
checked_sync = declared_sync checked.the_type (design_sync, tt)

table_sync : (a : NamedLft) → IsSync (tables.the_row a)
table_sync a = search (sendable, crosses, maps.crosses, module_sync) depth 60

key_table_sync : (a : NamedLft) → IsSync (key_tables.the_row a)
key_table_sync a = search (sendable, crosses, maps.crosses, module_sync, table_sync) depth 60

teller_sync : (a b : NamedLft) → IsSync (tellers.the_row a b)
teller_sync a b = search (sendable, checked_sync, key_table_sync, scripts.the_sync) depth 40

-- the jobs of a crew
pub jobs_sync : (a : NamedLft) (R : RattleType) → IsSync R → IsSync (jobs.the_row a R)
jobs_sync a R y =
    declared_sync (jobs.the_type a R) (
      search (sendable, y) depth 20,
      (
        search (sendable, crosses) depth 20,
        (
          search (sendable, caches.the_sync, kept_send) depth 30,
          (search (sendable, teller_sync) depth 20, (search (sendable, crosses, keys.the_sync) depth 30, tt)),
        ),
      ),
    )

-- a desk of one thread
design_send : IsSend designs.the_row
design_send = search (sendable, crosses, seqs.the_send, module_send) depth 40

checked_send : IsSend checked.the_row
checked_send = declared_send checked.the_type (design_send, tt)

present_send : IsSend presents.the_row
present_send = declared_send presents.the_type (search (sendable, crosses) depth 20, (checked_send, (scripts.the_send, tt)))

own_send : IsSend own_results.the_row
own_send =
    declared_send own_results.the_type (
      search (sendable, shards.the_send, kept_send) depth 30,
      (ages.the_send, (search (sendable, crosses, kept_send) depth 40, tt)),
    )

inside_send : IsSend inside.the_row
inside_send = declared_send inside.the_type (present_send, (own_send, tt))

pub solo_send : IsSend desks.the_row
solo_send = search (sendable, inside_send) depth 20
