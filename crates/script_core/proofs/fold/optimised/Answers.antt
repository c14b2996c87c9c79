use Rattle.std.proofs.Common.{Some, ap, sym}
use Rattle.script_core.proofs.fold.optimised.Goals as goal

pub settle-requires : goal.settle-requires
settle-requires c = record { ready = c.requires.ready.ready; driven = c.requires.ready.driven }

pub returns : goal.returns
returns c = record { exact = ap Some (sym c.in_ok-done.ensures.exact); settled = c.in_ok-done.ensures.settled }
