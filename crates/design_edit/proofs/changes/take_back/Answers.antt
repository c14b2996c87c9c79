use Rattle.std.proofs.Common.{sym, ap, ◌∙◌}
use Rattle.design_edit.specs.Changes.{before_changes}
use Rattle.design_edit.proofs.Changing.{before_snoc}
use Rattle.design_edit.proofs.changes.take_back.Goals as goal

pub loop-change-preserved : goal.loop-change-preserved
loop-change-preserved c =
    let modules = c.loop-change.modules.items in
    ap (before_changes c.pop.new.self.items) c.take_one_back.ensures.value
    ∙ sym (before_snoc c.pop.new.self.items c.in-Some.change modules) ∙ ap (λ changes. before_changes changes modules) (sym c.in-Some.ensures.items) ∙ c.loop-change.invariant
