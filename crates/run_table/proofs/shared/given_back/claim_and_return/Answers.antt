use Rattle.std.proofs.Common.{◌≡◌, ℕ, List, subst}
use Rattle.result_cache.specs.Seats.{HasClaimed}
use Rattle.run_table.specs.declared.shared.callers.Built.{Built}
use Rattle.run_table.proofs.CallerLemmas.{idle_hit, idle_busy, yours_one}
use Rattle.run_table.proofs.shared.given_back.claim_and_return.Goals as goal

pub return_key-requires-clause-one : goal.return_key-requires-clause-one
return_key-requires-clause-one g c =
    let claimed = subst (HasClaimed (λ (built : Built) (key : List ℕ). built.key ≡ key) c.args.seat.now c.claim.new.seat c.args.key.now) c.in-Ok-Yours.field-0-is c.in-Ok-Yours.ensures.ok in
    yours_one c.args.cache.now.table.shared.table_id c.args.seat.now c.claim.new.seat c.args.key.now c.in-Ok-Yours.ticket c.requires.idle claimed

pub returns-in-Ok-Hit : goal.returns-in-Ok-Hit
returns-in-Ok-Hit g c =
    let claimed = subst (HasClaimed (λ (built : Built) (key : List ℕ). built.key ≡ key) c.args.seat.now c.claim.new.seat c.args.key.now) c.in-Ok-Hit.field-0-is c.in-Ok-Hit.ensures.ok in
    record { idle = idle_hit c.args.cache.now.table.shared.table_id c.args.seat.now c.claim.new.seat c.args.key.now c.requires.idle claimed }

pub returns-in-Ok-Busy : goal.returns-in-Ok-Busy
returns-in-Ok-Busy g c =
    let claimed = subst (HasClaimed (λ (built : Built) (key : List ℕ). built.key ≡ key) c.args.seat.now c.claim.new.seat c.args.key.now) c.in-Ok-Busy.field-0-is c.in-Ok-Busy.ensures.ok in
    record { idle = idle_busy c.args.cache.now.table.shared.table_id c.args.seat.now c.claim.new.seat c.args.key.now c.in-Ok-Busy._by c.requires.idle claimed }
