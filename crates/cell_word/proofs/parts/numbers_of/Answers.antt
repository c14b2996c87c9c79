use Rattle.std.proofs.Common.{length}
use Rattle.cell_word.proofs.Numbered.{few_numbers}
use Rattle.cell_word.proofs.parts.numbers_of.Goals as goal

pub returns-clause-few : goal.returns-clause-few
returns-clause-few c = few_numbers (length c.args.bits.now) c.requires.few
