use Rattle.std.proofs.Common.{◌≡◌, ℕ, List}
use Rattle.result_cache.proofs.Idle.{forgot_keeps}
use Rattle.run_table.specs.declared.shared.callers.Built.{Built}
use Rattle.run_table.proofs.shared.callers.forget_key.Goals as goal

pub returns : goal.returns
returns g c = record { kept = forgot_keeps (λ (built : Built) (key : List ℕ). built.key ≡ key) c.args.seat.now c.forget.new.seat c.args.key.now c.forget.result c.forget.ensures.forgot }
