use mir.Syntax.{named}
use denote.Param.{param}
use denote.Param.Send.{sendable}
use denote.Ref.{NamedLft}
use Rattle.std.proofs.Common.{◌≡◌, ℕ, length, subst}
use Rattle.std.specs.Prelude.{map}
use Rattle.std.specs.List.{range_with_len}
use Rattle.build_crew.specs.declared.finding.Found.{Found}
use Rattle.build_crew.specs.Leaves.{AreCrew, HasRun, HasStopped, new_among}
use Rattle.build_crew.proofs.Crews.{run_leaves, run_seats, stopped_leaves, stopped_seats}
use Rattle.build_crew.proofs.Seats.{idle_of, seats_idle}
use Rattle.result_cache.proofs.Sharing.{share_met}
use Rattle.script_core.specs.declared.built.Built.{Built}
use Rattle.script_core.specs.Built.{IsValueOf}
use Rattle.script_core.specs.Keys.{key_of}
use Rattle.desk_core.specs.Netlist.{key_text_at}
use Rattle.desk_core.proofs.Sending.{found_send, jobs_sync, kept_send}
use Rattle.desk_core.proofs.Told.{on_err}
use Rattle.desk_core.proofs.crew_jobs.CrewJobs.run.Goals as goal

pub run_jobs-outputs-requires-clause-tokens : goal.run_jobs-outputs-requires-clause-tokens
run_jobs-outputs-requires-clause-tokens g c κs within =
    let cache = c.args.self.now.cache.now in
    seats_idle cache.table.shared.table_id (length c.args.seats.now) cache.shards 0 c.args.seats.now c.requires.seats

pub meet-requires-clause-cache : goal.meet-requires-clause-cache
meet-requires-clause-cache g c κs within =
    idle_of c.args.self.now.cache.now.table.shared.table_id c.run_jobs-outputs.new.tokens c.run_jobs-outputs.ensures.tokens

pub returns-in_err-items-clause-seats : goal.returns-in_err-items-clause-seats
returns-in_err-items-clause-seats g c =
    let cache = c.args.self.now.cache.now in
    let crew : AreCrew cache.table.shared.table_id cache.shards c.args.seats.now c.run_jobs-outputs.new.tokens c.meet.new.seats =
    record { some = cache.some.0; any = c.requires.limits.0; all = c.requires.seats; shared = c.requires.shared; idle = c.run_jobs-outputs.ensures.tokens; met = c.meet.ensures.met } in
    stopped_seats (key_text_at c.args.self.now.keys.now.script.now c.args.self.now.keys.now.design.now.design.modules) (λ (found : Found Built). found.is_new) cache.table.shared.table_id cache.shards c.module_count-count.result
    c.args.seats.now c.run_jobs-outputs.new.tokens c.meet.new.seats c.args.meter.now c.run_jobs-outputs.new.meter crew c.in_err-items.ensures.err

pub returns-in_err-items-clause-shared : goal.returns-in_err-items-clause-shared
returns-in_err-items-clause-shared g c = share_met c.args.self.now.cache.now.shards c.run_jobs-outputs.new.tokens c.meet.new.seats c.meet.ensures.met

pub returns-in_err-items-clause-err : goal.returns-in_err-items-clause-err
returns-in_err-items-clause-err g c =
    let cache = c.args.self.now.cache.now in
    let crew : AreCrew cache.table.shared.table_id cache.shards c.args.seats.now c.run_jobs-outputs.new.tokens c.meet.new.seats =
    record { some = cache.some.0; any = c.requires.limits.0; all = c.requires.seats; shared = c.requires.shared; idle = c.run_jobs-outputs.ensures.tokens; met = c.meet.ensures.met } in
    on_err c.from_residual.result
    (subst (λ (n : ℕ). HasStopped (map (key_text_at c.args.self.now.keys.now.script.now c.args.self.now.keys.now.design.now.design.modules) (range_with_len 0 n)) c.args.seats.now c.meet.new.seats c.args.meter.now c.run_jobs-outputs.new.meter) c.module_count-count.ensures.value
    (stopped_leaves (key_text_at c.args.self.now.keys.now.script.now c.args.self.now.keys.now.design.now.design.modules) (λ (found : Found Built). found.is_new) cache.table.shared.table_id cache.shards c.module_count-count.result
    c.args.seats.now c.run_jobs-outputs.new.tokens c.meet.new.seats c.args.meter.now c.run_jobs-outputs.new.meter crew c.in_err-items.ensures.err))

pub returns-clause-seats : goal.returns-clause-seats
returns-clause-seats g c =
    let cache = c.args.self.now.cache.now in
    let crew : AreCrew cache.table.shared.table_id cache.shards c.args.seats.now c.run_jobs-outputs.new.tokens c.meet.new.seats =
    record { some = cache.some.0; any = c.requires.limits.0; all = c.requires.seats; shared = c.requires.shared; idle = c.run_jobs-outputs.ensures.tokens; met = c.meet.ensures.met } in
    run_seats (key_text_at c.args.self.now.keys.now.script.now c.args.self.now.keys.now.design.now.design.modules) (λ (found : Found Built). found.is_new) cache.table.shared.table_id cache.shards c.module_count-count.result
    c.args.seats.now c.run_jobs-outputs.new.tokens c.meet.new.seats c.args.meter.now c.run_jobs-outputs.new.meter crew
    (λ (k : ℕ) (found : Found Built). (found.value.key ≡ key_of c.args.self.now.keys.now.design.now.design.modules k c.args.self.now.keys.now.script.now) × IsValueOf found.value.key found.value.outcome) c.in_ok-items.field-0.items.items _ c.in_ok-items.ensures.ok

pub returns-clause-shared : goal.returns-clause-shared
returns-clause-shared g c = share_met c.args.self.now.cache.now.shards c.run_jobs-outputs.new.tokens c.meet.new.seats c.meet.ensures.met

pub returns-clause-ok : goal.returns-clause-ok
returns-clause-ok g c =
    let cache = c.args.self.now.cache.now in
    let crew : AreCrew cache.table.shared.table_id cache.shards c.args.seats.now c.run_jobs-outputs.new.tokens c.meet.new.seats =
    record { some = cache.some.0; any = c.requires.limits.0; all = c.requires.seats; shared = c.requires.shared; idle = c.run_jobs-outputs.ensures.tokens; met = c.meet.ensures.met } in
    subst (λ (n : ℕ). HasRun (map (key_text_at c.args.self.now.keys.now.script.now c.args.self.now.keys.now.design.now.design.modules) (range_with_len 0 n)) (new_among (λ (found : Found Built). found.is_new) c.in_ok-items.field-0.items.items) c.args.seats.now c.meet.new.seats c.args.meter.now c.run_jobs-outputs.new.meter) c.module_count-count.ensures.value
    (run_leaves (key_text_at c.args.self.now.keys.now.script.now c.args.self.now.keys.now.design.now.design.modules) (λ (found : Found Built). found.is_new) cache.table.shared.table_id cache.shards c.module_count-count.result
    c.args.seats.now c.run_jobs-outputs.new.tokens c.meet.new.seats c.args.meter.now c.run_jobs-outputs.new.meter crew
    (λ (k : ℕ) (found : Found Built). (found.value.key ≡ key_of c.args.self.now.keys.now.design.now.design.modules k c.args.self.now.keys.now.script.now) × IsValueOf found.value.key found.value.outcome) c.in_ok-items.field-0.items.items _ c.in_ok-items.ensures.ok)

pub run_jobs-outputs-requires-send-J-Output : goal.run_jobs-outputs-requires-send-J-Output
run_jobs-outputs-requires-send-J-Output g c κs within = search (sendable, found_send) depth 40

pub run_jobs-outputs-requires-sync-J : goal.run_jobs-outputs-requires-sync-J
run_jobs-outputs-requires-sync-J g c κs within =
    let y = c.type_bounds.sync-R in
    let a : NamedLft = record { mir = named 6; lft = κs.1.1.1.1.1.1.0 } in
    let j = (jobs_sync a (param 0 g.row.R) (search (sendable, y))) in record { shared = j.shared }

pub meet-requires-send-V : goal.meet-requires-send-V
meet-requires-send-V g c κs within = search (sendable, kept_send) depth 40
