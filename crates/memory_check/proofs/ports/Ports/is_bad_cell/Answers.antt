use Rattle.std.proofs.Common.{◌∙◌, sym, ap, subst}
use Rattle.std.proofs.lemmas.Result.{IfOk-weaker}
use Rattle.rtl_ir.specs.Faults.MemoryCells.{is_unlike}
use Rattle.memory_check.specs.Ports.{HasCells, with_cell}
use Rattle.memory_check.specs.Shapes.{HasShape}
use Rattle.memory_check.proofs.Shaping.{says}
use Rattle.memory_check.proofs.Writing.{read_bad, write_bad}
use Rattle.memory_check.proofs.ports.Ports.is_bad_cell.Goals as goal

pub returns-in-Memrd-clause-bad : goal.returns-in-Memrd-clause-bad
returns-in-Memrd-clause-bad c = λ m s ports clocks has shaped.
    let cell = c.args.cell.now in
    let none = ap (λ t. is_unlike t cell) (sym has.store) ∙ sym (c.is_unlike.ensures.value c.args.kind cell shaped) ∙ c.if-is_unlike.false in
    read_bad m.links ports s cell none c.args.kind c.args.shape.now.port.clocked c.in-Memrd.is (says c.args.shape.now c.args.kind cell shaped).clocked

pub returns-in-MemwrV2-clause-bad : goal.returns-in-MemwrV2-clause-bad
returns-in-MemwrV2-clause-bad c = IfOk-weaker c.is_bad_write.result _ _
    (λ bad h m s ports clocks has shaped.
    let cell = c.args.cell.now in
    let none = ap (λ t. is_unlike t cell) (sym has.store) ∙ sym (c.is_unlike.ensures.value c.args.kind cell shaped) ∙ c.if-is_unlike.false in
    write_bad m.links ports s cell none c.args.kind bad c.in-MemwrV2.is (h m s ports clocks has (subst (λ k. HasShape c.args.shape.now k cell) c.in-MemwrV2.is shaped)))
    c.is_bad_write.ensures.bad

pub returns-in-MemwrV2-clause-noted : goal.returns-in-MemwrV2-clause-noted
returns-in-MemwrV2-clause-noted c = IfOk-weaker c.is_bad_write.result _ _
    (λ bad h good m s ports clocks has shaped.
    let cell = c.args.cell.now in
    subst (λ k. HasCells m.links c.is_bad_write.new.self s (with_cell m.links ports k cell)) (sym c.in-MemwrV2.is)
    (h good m s ports clocks has (subst (λ k. HasShape c.args.shape.now k cell) c.in-MemwrV2.is shaped)))
    c.is_bad_write.ensures.noted
