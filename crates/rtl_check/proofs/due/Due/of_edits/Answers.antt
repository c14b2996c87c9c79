use Rattle.std.proofs.Common.{cond, ap, ◌∙◌}
use Rattle.rtl_sig.specs.Names.{with_name}
use Rattle.rtl_ir.specs.Types.{design_ports}
use Rattle.rtl_check.proofs.Noting.{noted_all, noted_more}
use Rattle.rtl_check.proofs.due.Due.of_edits.Goals as goal

pub loop-edit-init : goal.loop-edit-init
loop-edit-init c = λ m i. absurd i

pub loop-edit-preserved : goal.loop-edit-preserved
loop-edit-preserved c =
    noted_more (design_ports c.args.modules.now) c.loop-edit.due c.note.new.self c.edit-item.result c.keeps_ports-keeps.result c.keeps_ports-keeps.ensures.keeps
    (c.in_ok-note.ensures.edited ∙ ap (with_name c.loop-edit.due.edited) c.as_slice.ensures.value)
    (c.in_ok-note.ensures.moved ∙ ap (λ n. cond c.keeps_ports-keeps.result c.loop-edit.due.moved (with_name c.loop-edit.due.moved n)) c.as_slice.ensures.value)
    c.args.edits.now c.loop-edit.edit-index c.loop-edit-test.true c.edit-item.is c.loop-edit.invariant

pub returns : goal.returns
returns c = record { noted = noted_all (design_ports c.args.modules.now) c.loop-edit.due c.args.edits.now c.loop-edit.edit-index c.loop-edit-test.false c.loop-edit.invariant }
