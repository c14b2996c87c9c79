use Rattle.std.proofs.Common.{◌∙◌}
use Rattle.result_cache.proofs.Idle.{none_after_filling}
use Rattle.run_table.proofs.shared.callers.fill_key.Goals as goal

pub returns : goal.returns
returns g c = record { idle = (c.fill.ensures.filled.1.cache ∙ c.requires.cache, none_after_filling c.args.seat.now c.fill.new.seat c.args.ticket.key c.requires.one c.fill.ensures.filled) }
