use Rattle.std.proofs.Common.{Bor, List, ℕ}
use Rattle.synth_run.proofs.Aiming.{no_desk}
use Rattle.synth_run.proofs.aims.desk_by.Goals as goal

pub returns-in-Err-clause-value : goal.returns-in-Err-clause-value
returns-in-Err-clause-value c =
    no_desk (λ (word : Bor (List ℕ)). word.now) c.args.count c.args.words.now _ c.in-len1.len_at_least c.in-len1.len_below c.in-Err.ensures.cases.0
