use Rattle.readable_passes.proofs.Memories.{all_memories_read}
use Rattle.readable_passes.proofs.laws.modules_without_memories_are_readable.Goals as goal

pub returns : goal.returns
returns c = record { words = all_memories_read }
