use Rattle.std.proofs.Common.{sym, arith}
use Rattle.cell_types.specs.Given.{number_in}
use Rattle.cell_types.specs.declared.param_name.ParamName.TheVariants.{SWidth, Width}
use Rattle.cell_types.proofs.NumberLemmas.{parts_many}
use Rattle.cell_types.proofs.widths.parts_in.Goals as goal

pub returns-then-choosing-ge64 : goal.returns-then-choosing-ge64
returns-then-choosing-ge64 c = record {
  value = sym (parts_many (number_in c.args.params.now Width) (number_in c.args.params.now SWidth) (omega arith) (omega arith));
}
