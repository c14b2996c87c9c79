use Rattle.std.proofs.Common.{◌≡◌, ◌++◌, List, length, take, drop, refl, sym, ap, subst, ◌∙◌, arith}
use Rattle.std.specs.List.{list_all}
use Rattle.std.specs.Option.{is_some}
use Rattle.std.specs.Vec.{with_items}
use Rattle.result_cache.specs.Filled.{new_count}
use Rattle.result_cache.specs.Seats.{Seated}
use Rattle.build_crew.specs.declared.finding.Found.{Found}
use Rattle.build_crew.specs.Kept.{HasStill, kept_by}
use Rattle.build_crew.specs.Leaves.{HasRun, HasStopped, new_among}
use Rattle.script_core.specs.declared.built.Built.{Built}
use Rattle.desk_core.specs.declared.results.Results.{Results}
use Rattle.desk_core.specs.Builds.{BuildsOrReturns, HasClaims}
use Rattle.desk_core.specs.Netlist.{key_texts}
use Rattle.desk_core.specs.Results.{AreSeated}
use Rattle.desk_core.proofs.Finding.{all_beside, back_whole, beside_of, run_returns, run_ticks, sound_run, sound_stopped, stopped_returns}
use Rattle.desk_core.proofs.results.find_all.Goals as goal

pub found_by-requires-clause-seats : goal.found_by-requires-clause-seats
found_by-requires-clause-seats g c κs within =
    let results = c.args.results.now in
    subst (AreSeated results.cache.table.shared.table_id results.cache.shards) (sym c.as_mut_slice.ensures.value) c.requires.sound.idle

pub returns-in_err-items-clause-sound : goal.returns-in_err-items-clause-sound
returns-in_err-items-clause-sound g c =
    let results = c.args.results.now in
    let news = c.found_by.new.seats in
    let keys = key_texts c.args.keys.now.script.now c.args.keys.now.design.now.design.modules in
    let lent = ap length c.as_mut_slice.ensures.value in
    let kept = c.found_by.auto.seats in
    let size = results.seats.ok.0 in
    let back : take results.seats.len (news ++ drop (length news) results.seats.items) ≡ news = back_whole results.seats.len results.seats.items news (omega (arith, lent, kept, size)) in
    let stopped : HasStopped keys results.seats.items news c.args.meter.now c.found_by.new.meter =
    subst (λ (s : List Seated). HasStopped keys s news c.args.meter.now c.found_by.new.meter) c.as_mut_slice.ensures.value c.in_err-items.ensures.err in
    let after : Results = record { cache = results.cache; seats = with_items results.seats news; ages = results.ages; found = results.found } in
    sound_stopped c.args.keys.now.design.now.design c.args.keys.now.script.now results after c.requires.sound
    (subst (AreSeated results.cache.table.shared.table_id results.cache.shards) (sym back) c.found_by.ensures.seats) refl
    (subst (λ (s : List Seated). HasStill (kept_by results.seats.items) (kept_by s)) (sym back) stopped.kept) refl

pub returns-in_err-items-clause-returned : goal.returns-in_err-items-clause-returned
returns-in_err-items-clause-returned g c =
    let results = c.args.results.now in
    let news = c.found_by.new.seats in
    let keys = key_texts c.args.keys.now.script.now c.args.keys.now.design.now.design.modules in
    let lent = ap length c.as_mut_slice.ensures.value in
    let kept = c.found_by.auto.seats in
    let size = results.seats.ok.0 in
    let back : take results.seats.len (news ++ drop (length news) results.seats.items) ≡ news = back_whole results.seats.len results.seats.items news (omega (arith, lent, kept, size)) in
    let stopped : HasStopped keys results.seats.items news c.args.meter.now c.found_by.new.meter =
    subst (λ (s : List Seated). HasStopped keys s news c.args.meter.now c.found_by.new.meter) c.as_mut_slice.ensures.value c.in_err-items.ensures.err in
    subst (λ (s : List Seated). BuildsOrReturns (new_count (kept_by results.seats.items) keys) results.seats.items s c.args.meter.now c.found_by.new.meter) (sym back)
    (stopped_returns keys results.seats.items news c.args.meter.now c.found_by.new.meter stopped)

pub put_beside-requires : goal.put_beside-requires
put_beside-requires g c =
    let modules = c.args.keys.now.design.now.design.modules in
    let count : length c.in_ok-items.items.items ≡ length modules = c.in_ok-items.ensures.count in
    let same = ap length c.as_mut_slice-2.ensures.value in
    let beside = c.requires.sound.beside in
    record { count = omega (arith, count, same, beside) }

pub returns-clause-sound : goal.returns-clause-sound
returns-clause-sound g c =
    let results = c.args.results.now in
    let news = c.found_by.new.seats in
    let keys = key_texts c.args.keys.now.script.now c.args.keys.now.design.now.design.modules in
    let lent = ap length c.as_mut_slice.ensures.value in
    let kept = c.found_by.auto.seats in
    let size = results.seats.ok.0 in
    let back : take results.seats.len (news ++ drop (length news) results.seats.items) ≡ news = back_whole results.seats.len results.seats.items news (omega (arith, lent, kept, size)) in
    let built = new_among (λ (item : Found Built). item.is_new) c.in_ok-items.items.items in
    let run : HasRun keys built results.seats.items news c.args.meter.now c.found_by.new.meter =
    subst (λ (s : List Seated). HasRun keys built s news c.args.meter.now c.found_by.new.meter) c.as_mut_slice.ensures.value c.in_ok-items.ensures.ok in
    let modules = c.args.keys.now.design.now.design.modules in
    let count : length c.in_ok-items.items.items ≡ length modules = c.in_ok-items.ensures.count in
    let put = c.put_beside.new.found in
    let lent_found = ap length c.as_mut_slice-2.ensures.value in
    let kept_found = c.put_beside.auto.found in
    let size_found = results.found.ok.0 in
    let beside : take results.found.len (put ++ drop (length put) results.found.items) ≡ beside_of c.in_ok-items.items.items =
    back_whole results.found.len results.found.items put (omega (arith, lent_found, kept_found, size_found)) ∙ c.put_beside.ensures.beside in
    let after : Results = record { cache = results.cache; seats = with_items results.seats news; ages = results.ages; found = with_items results.found put } in
    sound_run c.args.keys.now.design.now.design c.args.keys.now.script.now results after c.in_ok-items.items.items c.requires.sound
    (subst (AreSeated results.cache.table.shared.table_id results.cache.shards) (sym back) c.found_by.ensures.seats) count c.in_ok-items.ensures.answers beside
    (ap kept_by back ∙ run.kept) refl

pub returns-clause-filled : goal.returns-clause-filled
returns-clause-filled g c =
    let results = c.args.results.now in
    let news = c.found_by.new.seats in
    let keys = key_texts c.args.keys.now.script.now c.args.keys.now.design.now.design.modules in
    let lent = ap length c.as_mut_slice.ensures.value in
    let kept = c.found_by.auto.seats in
    let size = results.seats.ok.0 in
    let back : take results.seats.len (news ++ drop (length news) results.seats.items) ≡ news = back_whole results.seats.len results.seats.items news (omega (arith, lent, kept, size)) in
    let built = new_among (λ (item : Found Built). item.is_new) c.in_ok-items.items.items in
    let run : HasRun keys built results.seats.items news c.args.meter.now c.found_by.new.meter =
    subst (λ (s : List Seated). HasRun keys built s news c.args.meter.now c.found_by.new.meter) c.as_mut_slice.ensures.value c.in_ok-items.ensures.ok in
    ap kept_by back ∙ run.kept

pub returns-clause-found : goal.returns-clause-found
returns-clause-found g c =
    let results = c.args.results.now in
    let put = c.put_beside.new.found in
    let lent_found = ap length c.as_mut_slice-2.ensures.value in
    let kept_found = c.put_beside.auto.found in
    let size_found = results.found.ok.0 in
    let beside : take results.found.len (put ++ drop (length put) results.found.items) ≡ beside_of c.in_ok-items.items.items =
    back_whole results.found.len results.found.items put (omega (arith, lent_found, kept_found, size_found)) ∙ c.put_beside.ensures.beside in
    ap (list_all is_some) beside ∙ all_beside c.in_ok-items.items.items

pub returns-clause-claims : goal.returns-clause-claims
returns-clause-claims g c =
    let results = c.args.results.now in
    let news = c.found_by.new.seats in
    let keys = key_texts c.args.keys.now.script.now c.args.keys.now.design.now.design.modules in
    let lent = ap length c.as_mut_slice.ensures.value in
    let kept = c.found_by.auto.seats in
    let size = results.seats.ok.0 in
    let back : take results.seats.len (news ++ drop (length news) results.seats.items) ≡ news = back_whole results.seats.len results.seats.items news (omega (arith, lent, kept, size)) in
    let built = new_among (λ (item : Found Built). item.is_new) c.in_ok-items.items.items in
    let run : HasRun keys built results.seats.items news c.args.meter.now c.found_by.new.meter =
    subst (λ (s : List Seated). HasRun keys built s news c.args.meter.now c.found_by.new.meter) c.as_mut_slice.ensures.value c.in_ok-items.ensures.ok in
    subst (λ (s : List Seated). HasClaims keys results.seats.items s) (sym back) run.claimed

pub returns-clause-ticks : goal.returns-clause-ticks
returns-clause-ticks g c =
    let results = c.args.results.now in
    let news = c.found_by.new.seats in
    let keys = key_texts c.args.keys.now.script.now c.args.keys.now.design.now.design.modules in
    let lent = ap length c.as_mut_slice.ensures.value in
    let kept = c.found_by.auto.seats in
    let size = results.seats.ok.0 in
    let back : take results.seats.len (news ++ drop (length news) results.seats.items) ≡ news = back_whole results.seats.len results.seats.items news (omega (arith, lent, kept, size)) in
    let built = new_among (λ (item : Found Built). item.is_new) c.in_ok-items.items.items in
    let run : HasRun keys built results.seats.items news c.args.meter.now c.found_by.new.meter =
    subst (λ (s : List Seated). HasRun keys built s news c.args.meter.now c.found_by.new.meter) c.as_mut_slice.ensures.value c.in_ok-items.ensures.ok in
    run_ticks keys built results.seats.items news c.args.meter.now c.found_by.new.meter run

pub returns-clause-returned : goal.returns-clause-returned
returns-clause-returned g c =
    let results = c.args.results.now in
    let news = c.found_by.new.seats in
    let keys = key_texts c.args.keys.now.script.now c.args.keys.now.design.now.design.modules in
    let lent = ap length c.as_mut_slice.ensures.value in
    let kept = c.found_by.auto.seats in
    let size = results.seats.ok.0 in
    let back : take results.seats.len (news ++ drop (length news) results.seats.items) ≡ news = back_whole results.seats.len results.seats.items news (omega (arith, lent, kept, size)) in
    let built = new_among (λ (item : Found Built). item.is_new) c.in_ok-items.items.items in
    let run : HasRun keys built results.seats.items news c.args.meter.now c.found_by.new.meter =
    subst (λ (s : List Seated). HasRun keys built s news c.args.meter.now c.found_by.new.meter) c.as_mut_slice.ensures.value c.in_ok-items.ensures.ok in
    subst (λ (s : List Seated). BuildsOrReturns (new_count (kept_by results.seats.items) keys) results.seats.items s c.args.meter.now c.found_by.new.meter) (sym back)
    (run_returns keys built results.seats.items news c.args.meter.now c.found_by.new.meter run)
