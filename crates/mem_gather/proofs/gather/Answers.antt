use Rattle.std.proofs.Common.{length, refl}
use Rattle.net_model.proofs.MemoryCells.{none_after}
use Rattle.mem_gather.proofs.gather.Goals as goal

pub gather_first-requires-clause-first : goal.gather_first-requires-clause-first
gather_first-requires-clause-first c = none_after c.args.module.now.cells c.as_slice-cells.result.now (length c.as_slice-cells.result.now) refl c.as_slice-cells.ensures.value
