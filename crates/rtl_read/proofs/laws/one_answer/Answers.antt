use Rattle.rtl_read.proofs.Unique.{some_answer, one_design, one_fault, not_both}
use Rattle.rtl_read.proofs.laws.one_answer.Goals as goal

pub returns : goal.returns
returns c = record { some = some_answer; one_design = one_design; one_fault = one_fault; not_both = not_both }
