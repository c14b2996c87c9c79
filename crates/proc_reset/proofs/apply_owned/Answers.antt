use Rattle.std.proofs.Common.{◌∙◌}
use Rattle.proc_reset.proofs.apply_owned.Goals as goal

pub returns : goal.returns
returns c = record { exact = λ i. record c.args.«module» { processes = (c.from_vec.ensures.value ∙ c.in_ok-processes.ensures.exact) i } }
