use Rattle.desk_read.proofs.Blocks.{unended_block, whole_block}
use Rattle.desk_read.proofs.laws.blocks_are_whole.Goals as goal

pub returns-clause-ended : goal.returns-clause-ended
returns-clause-ended c = whole_block

pub returns-clause-unclosed : goal.returns-clause-unclosed
returns-clause-unclosed c = unended_block
