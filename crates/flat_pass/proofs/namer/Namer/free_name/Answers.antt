use Rattle.std.proofs.Common.{◌≡◌, ◌+◌, ◌∙◌, ap}
use Rattle.std.proofs.lemmas.Result.{IfOk-weaker}
use Rattle.rtl_ir.specs.Build.{Building, made_name}
use Rattle.flat_pass.specs.Counts.{AreNames}
use Rattle.flat_pass.specs.Flat.{copy_name, next_after}
use Rattle.flat_pass.proofs.Naming.{free_is, fresh_over, name_free, name_taken}
use Rattle.flat_pass.proofs.namer.Namer.free_name.Goals as goal

pub returns-then-is_free-clause-name : goal.returns-then-is_free-clause-name
returns-then-is_free-clause-name c = λ b h.
    (name_free b c.args.name (free_is c.args.self.now b c.args.name c.as_slice.result.now c.is_free.result h c.as_slice.ensures.value c.is_free.ensures.value ∙ c.if-is_free.true)).0

pub returns-then-is_free-clause-next : goal.returns-then-is_free-clause-next
returns-then-is_free-clause-next c = λ b h.
    h.next ∙ (name_free b c.args.name (free_is c.args.self.now b c.args.name c.as_slice.result.now c.is_free.result h c.as_slice.ensures.value c.is_free.ensures.value ∙ c.if-is_free.true)).1

pub returns-clause-name : goal.returns-clause-name
returns-clause-name c =
    IfOk-weaker c.fresh.result (λ name. name ≡ made_name c.args.self.now.next) (λ free. (b : Building) → AreNames c.args.self.now b → free ≡ copy_name b c.args.name) (λ name e b h. e ∙ ap made_name h.next ∙ (name_taken b c.args.name (free_is c.args.self.now b c.args.name c.as_slice.result.now c.is_free.result h c.as_slice.ensures.value c.is_free.ensures.value ∙ c.if-is_free.false)).0) c.fresh.ensures.name

pub returns-clause-next : goal.returns-clause-next
returns-clause-next c =
    IfOk-weaker c.fresh.result (λ name. c.fresh.new.self.next ≡ c.args.self.now.next + 1) (λ name. (b : Building) → AreNames c.args.self.now b → c.fresh.new.self.next ≡ next_after b c.args.name) (λ name e b h. e ∙ ap (λ k. k + 1) h.next ∙ (name_taken b c.args.name (free_is c.args.self.now b c.args.name c.as_slice.result.now c.is_free.result h c.as_slice.ensures.value c.is_free.ensures.value ∙ c.if-is_free.false)).1) c.fresh.ensures.next

pub returns-clause-over : goal.returns-clause-over
returns-clause-over c = λ e b h.
    fresh_over b c.args.name c.args.self.now.next (free_is c.args.self.now b c.args.name c.as_slice.result.now c.is_free.result h c.as_slice.ensures.value c.is_free.ensures.value ∙ c.if-is_free.false) h.next (c.fresh.ensures.over e)
