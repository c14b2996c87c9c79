use Rattle.std.proofs.Common.{◌∙◌}
use Rattle.result_cache.proofs.Idle.{none_after_giving}
use Rattle.run_table.proofs.shared.callers.return_key.Goals as goal

pub returns : goal.returns
returns g c = record { idle = (c.give_back.ensures.given_back.cache ∙ c.requires.cache, none_after_giving c.args.seat.now c.give_back.new.seat c.args.ticket.key c.requires.one c.give_back.ensures.given_back) }
