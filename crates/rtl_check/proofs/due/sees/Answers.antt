use Rattle.std.proofs.Common.{sym, ◌∙◌}
use Rattle.rtl_check.proofs.Noting.{none_seen}
use Rattle.rtl_check.proofs.due.sees.Goals as goal

pub returns-then-count-eq0 : goal.returns-then-count-eq0
returns-then-count-eq0 c = record { value = sym (none_seen c.args.names.now c.args.cells.now (sym c.count.ensures.value ∙ c.if-count-eq0.true)) }
