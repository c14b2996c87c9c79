use Rattle.std.proofs.Common.{◌≡◌, ℕ, List, subst}
use Rattle.result_cache.specs.Seats.{HasClaimed}
use Rattle.run_table.specs.declared.shared.callers.Built.{Built}
use Rattle.run_table.proofs.CallerLemmas.{idle_hit, idle_busy, holding_yours}
use Rattle.run_table.proofs.shared.callers.claim_idle.Goals as goal

pub returns-in-Ok-Hit : goal.returns-in-Ok-Hit
returns-in-Ok-Hit g c =
    let claimed = subst (HasClaimed (λ (built : Built) (key : List ℕ). built.key ≡ key) c.args.seat c.claim.new.seat c.args.key.now) c.in-Ok-Hit.field-0-is c.in-Ok-Hit.ensures.ok in
    record { caller = idle_hit c.args.cache.now.table.shared.table_id c.args.seat c.claim.new.seat c.args.key.now c.requires.idle claimed }

pub returns-in-Ok-Busy : goal.returns-in-Ok-Busy
returns-in-Ok-Busy g c =
    let claimed = subst (HasClaimed (λ (built : Built) (key : List ℕ). built.key ≡ key) c.args.seat c.claim.new.seat c.args.key.now) c.in-Ok-Busy.field-0-is c.in-Ok-Busy.ensures.ok in
    record { caller = idle_busy c.args.cache.now.table.shared.table_id c.args.seat c.claim.new.seat c.args.key.now c.in-Ok-Busy.by c.requires.idle claimed }

pub returns-in-Ok-Yours : goal.returns-in-Ok-Yours
returns-in-Ok-Yours g c =
    let claimed = subst (HasClaimed (λ (built : Built) (key : List ℕ). built.key ≡ key) c.args.seat c.claim.new.seat c.args.key.now) c.in-Ok-Yours.field-0-is c.in-Ok-Yours.ensures.ok in
    record { caller = holding_yours c.args.cache.now.table.shared.table_id c.args.seat c.claim.new.seat c.args.key.now c.in-Ok.own c.in-Ok-Yours.ticket c.requires.idle c.in-Ok.ensures.value claimed }
