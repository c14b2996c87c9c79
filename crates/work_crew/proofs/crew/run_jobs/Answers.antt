use Rattle.std.proofs.Common.{◌≡◌, ℕ, ◌+◌, ◌≤◌, length, map, Some, None, replicate, sym, ap, ◌∙◌, subst, arith, rules}
use Rattle.std.proofs.lemmas.List.Elements.{All-from_recursion, recursion_from_All}
use Rattle.work_crew.specs.Gather.{put_all, dones, metered}
use Rattle.work_crew.specs.Outcome.{Stopped}
use Rattle.work_crew.specs.Seats.{HasWorked}
use Rattle.work_crew.specs.Settle.{AllFirst, AllOwned, taken_by, put_by, tallies}
use Rattle.work_crew.proofs.PairLists.{ran_length}
use Rattle.work_crew.proofs.Outcomes.{none_begun, put_len}
use Rattle.work_crew.proofs.Crews.{owners_in, rows_in, setup_length, setup_ready, setup_crewed, setup_first, setup_owned, setup_once, is_finished, is_stopped}
use Rattle.work_crew.proofs.crew.run_jobs.Goals as goal

pub returns-in_err-room-clause-err : goal.returns-in_err-room-clause-err
returns-in_err-room-clause-err g c =
    let s : Stopped {O = g.row.J-Output.Denot} {T = g.row.J-Token.Denot} (g.J.Job.does c.args.jobs.now) (g.J.Job.fails c.args.jobs.now) c.args.count c.args.tokens.now c.args.tokens.now c.args.meter.now c.room_for.new.meter
    = none_begun (g.J.Job.does c.args.jobs.now) (g.J.Job.fails c.args.jobs.now) c.args.count c.args.tokens.now c.args.meter.now c.room_for.new.meter c.room_for.ensures.meter in
    search (rules, s)

pub work_all-requires-clause-ready : goal.work_all-requires-clause-ready
work_all-requires-clause-ready g c κs within =
    let l = c.requires.limits in
    setup_ready g.J.Job.is_job g.J.Job.token_fits g.J.Job.output_fits g.J.Job.does g.J.Job.fails c.args.jobs.now c.args.count (length c.args.tokens.now) c.in_ok-room.room c.in_ok-room.ensures.ok c.as_slice.result.now c.as_slice.ensures.value
    c.args.tokens.now c.requires.jobs l.0 l.1 (recursion_from_All (g.J.Job.token_fits c.args.jobs.now) c.args.tokens.now c.requires.tokens)

pub work_all-requires-clause-equal_lengths :
    goal.work_all-requires-clause-equal_lengths
work_all-requires-clause-equal_lengths g c κs within =
    setup_length g.J.Job.is_job g.J.Job.token_fits g.J.Job.output_fits g.J.Job.does g.J.Job.fails c.args.jobs.now c.args.count (length c.args.tokens.now) c.in_ok-room.room c.in_ok-room.ensures.ok c.as_slice.result.now c.as_slice.ensures.value

pub gather-requires-clause-empty : goal.gather-requires-clause-empty
gather-requires-clause-empty g c =
    let up = c.in_ok-room.ensures.ok in
    (up.lists.0, up.owners_left.0, up.rows_left.0)

pub gather-requires-clause-lists : goal.gather-requires-clause-lists
gather-requires-clause-lists g c =
    let up = c.in_ok-room.ensures.ok in
    let e = ran_length (HasWorked g.J.Job.token_fits g.J.Job.output_fits g.J.Job.does g.J.Job.fails c.args.jobs.now c.as_slice.result.now) c.in_ok-room.room.seats.items c.work_all.new.seats.items c.args.tokens.now c.work_all.new.tokens c.work_all.ensures in
    let n = setup_length g.J.Job.is_job g.J.Job.token_fits g.J.Job.output_fits g.J.Job.does g.J.Job.fails c.args.jobs.now c.args.count (length c.args.tokens.now) c.in_ok-room.room up c.as_slice.result.now c.as_slice.ensures.value in
    let k = up.lists.1 in
    let o = c.work_all.new.seats.ok.0 in
    omega arith

pub gather-requires-clause-owners : goal.gather-requires-clause-owners
gather-requires-clause-owners g c =
    let up = c.in_ok-room.ensures.ok in
    let e = ran_length (HasWorked g.J.Job.token_fits g.J.Job.output_fits g.J.Job.does g.J.Job.fails c.args.jobs.now c.as_slice.result.now) c.in_ok-room.room.seats.items c.work_all.new.seats.items c.args.tokens.now c.work_all.new.tokens c.work_all.ensures in
    let n = setup_length g.J.Job.is_job g.J.Job.token_fits g.J.Job.output_fits g.J.Job.does g.J.Job.fails c.args.jobs.now c.args.count (length c.args.tokens.now) c.in_ok-room.room up c.as_slice.result.now c.as_slice.ensures.value in
    let k = up.owners_left.1 in
    let o = c.work_all.new.seats.ok.0 in
    omega arith

pub gather-requires-clause-rows : goal.gather-requires-clause-rows
gather-requires-clause-rows g c =
    let up = c.in_ok-room.ensures.ok in
    let e = ran_length (HasWorked g.J.Job.token_fits g.J.Job.output_fits g.J.Job.does g.J.Job.fails c.args.jobs.now c.as_slice.result.now) c.in_ok-room.room.seats.items c.work_all.new.seats.items c.args.tokens.now c.work_all.new.tokens c.work_all.ensures in
    let n = setup_length g.J.Job.is_job g.J.Job.token_fits g.J.Job.output_fits g.J.Job.does g.J.Job.fails c.args.jobs.now c.args.count (length c.args.tokens.now) c.in_ok-room.room up c.as_slice.result.now c.as_slice.ensures.value in
    let k = up.rows_left.1 in
    let o = c.work_all.new.seats.ok.0 in
    omega arith

pub settle-requires-clause-owners : goal.settle-requires-clause-owners
settle-requires-clause-owners g c =
    subst AllFirst (sym c.gather.ensures.owners)
    (setup_first g.J.Job.is_job g.J.Job.token_fits g.J.Job.output_fits g.J.Job.does g.J.Job.fails c.args.jobs.now c.args.count (length c.args.tokens.now) c.in_ok-room.room c.in_ok-room.ensures.ok c.as_slice.result.now c.as_slice.ensures.value
    c.work_all.new.seats.items c.args.tokens.now c.work_all.new.tokens c.work_all.ensures)

pub settle-requires-clause-rows : goal.settle-requires-clause-rows
settle-requires-clause-rows g c =
    subst (λ os. AllOwned os c.gather.new.rows.items) (sym c.gather.ensures.owners)
    (subst (AllOwned (owners_in c.work_all.new.seats.items)) (sym c.gather.ensures.rows)
    (setup_owned g.J.Job.is_job g.J.Job.token_fits g.J.Job.output_fits g.J.Job.does g.J.Job.fails c.args.jobs.now c.args.count (length c.args.tokens.now) c.in_ok-room.room c.in_ok-room.ensures.ok c.as_slice.result.now c.as_slice.ensures.value
    c.work_all.new.seats.items c.args.tokens.now c.work_all.new.tokens c.work_all.ensures))

pub outputs_of-requires-clause-empty : goal.outputs_of-requires-clause-empty
outputs_of-requires-clause-empty g c = c.in_ok-room.ensures.ok.items.0

pub outputs_of-requires-clause-room : goal.outputs_of-requires-clause-room
outputs_of-requires-clause-room g c =
    let up = c.in_ok-room.ensures.ok in
    let i = up.items.1 in
    let e : length c.gather.new.places.items ≡ c.args.count = ap length (c.gather.ensures.places ∙ ap (put_all (dones c.work_all.new.seats.items)) up.places) ∙ put_len (dones c.work_all.new.seats.items) c.args.count in
    let t = c.gather.new.places.ok.0 in
    omega arith

pub returns-in-Some-clause-tokens : goal.returns-in-Some-clause-tokens
returns-in-Some-clause-tokens g c =
    let h = setup_crewed g.J.Job.is_job g.J.Job.token_fits g.J.Job.output_fits g.J.Job.does g.J.Job.fails c.args.jobs.now c.args.count (length c.args.tokens.now) c.in_ok-room.room c.in_ok-room.ensures.ok c.as_slice.result.now c.as_slice.ensures.value
    c.work_all.new.seats.items c.args.tokens.now c.work_all.new.tokens c.work_all.ensures in
    All-from_recursion (g.J.Job.token_fits c.args.jobs.now) c.work_all.new.tokens h.tokens

pub returns-clause-tokens : goal.returns-clause-tokens
returns-clause-tokens g c =
    let h = setup_crewed g.J.Job.is_job g.J.Job.token_fits g.J.Job.output_fits g.J.Job.does g.J.Job.fails c.args.jobs.now c.args.count (length c.args.tokens.now) c.in_ok-room.room c.in_ok-room.ensures.ok c.as_slice.result.now c.as_slice.ensures.value
    c.work_all.new.seats.items c.args.tokens.now c.work_all.new.tokens c.work_all.ensures in
    All-from_recursion (g.J.Job.token_fits c.args.jobs.now) c.work_all.new.tokens h.tokens

pub returns-in-Some-clause-ok : goal.returns-in-Some-clause-ok
returns-in-Some-clause-ok g c =
    let up = c.in_ok-room.ensures.ok in
    let ws = c.work_all.new.seats.items in
    let h = setup_crewed g.J.Job.is_job g.J.Job.token_fits g.J.Job.output_fits g.J.Job.does g.J.Job.fails c.args.jobs.now c.args.count (length c.args.tokens.now) c.in_ok-room.room up c.as_slice.result.now c.as_slice.ensures.value
    ws c.args.tokens.now c.work_all.new.tokens c.work_all.ensures in
    let most : (k : ℕ) → taken_by k (owners_in ws) + tallies k (rows_in ws) ≤ put_by k (owners_in ws) = λ k. let m = c.settle.ensures.once k in let a = ap (taken_by k) c.gather.ensures.owners in let b = ap (tallies k) c.gather.ensures.rows in let d = ap (put_by k) c.gather.ensures.owners in omega arith in
    let once = setup_once g.J.Job.is_job g.J.Job.token_fits g.J.Job.output_fits g.J.Job.does g.J.Job.fails c.args.jobs.now c.args.count (length c.args.tokens.now) c.in_ok-room.room up c.as_slice.result.now c.as_slice.ensures.value
    ws c.args.tokens.now c.work_all.new.tokens c.work_all.ensures c.requires.limits.0 most in
    let m : c.gather.new.meter ≡ metered c.args.meter.now ws = c.gather.ensures.meter ∙ ap (λ n. metered n ws) c.room_for.ensures.meter in
    let put : map Some c.in-Some.items.items ≡ put_all (dones ws) (replicate c.args.count None) = c.in-Some.ensures.some ∙ (c.gather.ensures.places ∙ ap (put_all (dones ws)) up.places) in
    is_finished g.J.Job.is_job g.J.Job.token_fits g.J.Job.output_fits g.J.Job.does g.J.Job.fails c.args.jobs.now c.args.count c.in_ok-room.room.seats.items ws c.args.tokens.now c.work_all.new.tokens c.in-Some.items.items (map (λ v. v.items) c.gather.new.lists.items) c.args.meter.now c.gather.new.meter
    h once put (ap (map (λ v. v.items)) c.gather.ensures.lists) m

pub returns-clause-err : goal.returns-clause-err
returns-clause-err g c =
    let up = c.in_ok-room.ensures.ok in
    let ws = c.work_all.new.seats.items in
    let h = setup_crewed g.J.Job.is_job g.J.Job.token_fits g.J.Job.output_fits g.J.Job.does g.J.Job.fails c.args.jobs.now c.args.count (length c.args.tokens.now) c.in_ok-room.room up c.as_slice.result.now c.as_slice.ensures.value
    ws c.args.tokens.now c.work_all.new.tokens c.work_all.ensures in
    let most : (k : ℕ) → taken_by k (owners_in ws) + tallies k (rows_in ws) ≤ put_by k (owners_in ws) = λ k. let m = c.settle.ensures.once k in let a = ap (taken_by k) c.gather.ensures.owners in let b = ap (tallies k) c.gather.ensures.rows in let d = ap (put_by k) c.gather.ensures.owners in omega arith in
    let once = setup_once g.J.Job.is_job g.J.Job.token_fits g.J.Job.output_fits g.J.Job.does g.J.Job.fails c.args.jobs.now c.args.count (length c.args.tokens.now) c.in_ok-room.room up c.as_slice.result.now c.as_slice.ensures.value
    ws c.args.tokens.now c.work_all.new.tokens c.work_all.ensures c.requires.limits.0 most in
    let m : c.gather.new.meter ≡ metered c.args.meter.now ws = c.gather.ensures.meter ∙ ap (λ n. metered n ws) c.room_for.ensures.meter in
    is_stopped g.J.Job.is_job g.J.Job.token_fits g.J.Job.output_fits g.J.Job.does g.J.Job.fails c.args.jobs.now c.args.count c.in_ok-room.room.seats.items ws c.args.tokens.now c.work_all.new.tokens c.args.meter.now c.gather.new.meter h once m
