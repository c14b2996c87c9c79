use Rattle.std.proofs.Common.{ℕ, Bor, ◌∙◌}
use Rattle.desk_core.proofs.Staying.{is_there}
use Rattle.desk_core.proofs.beside.is_edited.Goals as goal

pub returns : goal.returns
returns c = record { value = λ modules are. c.is_some.ensures ∙ is_there (λ (x : Bor ℕ). x.now) c.get.result c.args.name.now modules (c.get.ensures.value ∙ are c.args.name.now) }
