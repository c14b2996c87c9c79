use Rattle.readable_maps.proofs.Techmap.{techmap_fewer, techmap_reads}
use Rattle.readable_maps.proofs.laws.gates_are_readable.Goals as goal

pub returns : goal.returns
returns c = record { mapped = techmap_reads; fewer = techmap_fewer }
