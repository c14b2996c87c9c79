use Rattle.readable_flat.proofs.Flattened.{flat_fits, flat_processes, flat_reads}
use Rattle.readable_flat.proofs.laws.flattened_modules_are_readable.Goals as goal

pub returns : goal.returns
returns c = record { items = flat_reads; limits = flat_fits; processes = flat_processes }
