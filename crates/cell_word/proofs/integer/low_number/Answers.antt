use Rattle.std.proofs.Common.{refl}
use Rattle.cell_word.proofs.Signs.{low_of_negative}
use Rattle.cell_word.proofs.integer.low_number.Goals as goal

pub returns-then-integer : goal.returns-then-integer
returns-then-integer c = record { value = low_of_negative c.args.integer _ c.if-integer.true refl }
