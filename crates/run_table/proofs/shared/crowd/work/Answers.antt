use Rattle.std.proofs.Common.{sym, subst, arith}
use Rattle.result_cache.specs.Seats.{IsIdle}
use Rattle.result_cache.proofs.Idle.{idle_at, idle_all}
use Rattle.run_table.proofs.shared.crowd.work.Goals as goal

pub for_each_mut-requires-clause-accepts : goal.for_each_mut-requires-clause-accepts
for_each_mut-requires-clause-accepts g c κs within = λ i p l e.
    let cache = c.args.cache.now.table.shared.table_id in
    (c.requires.some, subst (IsIdle cache) (sym e) (idle_at cache c.args.seats.now i p.now c.requires.idle l))

pub returns : goal.returns
returns g c =
    let cache = c.args.cache.now.table.shared.table_id in
    record {
      idle = idle_all cache c.for_each_mut.new.s (λ i d l.
          let t = c.for_each_mut.ensures i d (let e = c.for_each_mut.auto.s in omega arith) in
          subst (IsIdle cache) t.1.left t.1.call);
    }
