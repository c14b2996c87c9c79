use Rattle.std.proofs.Common.{List, ◌∙◌, ap, subst, sym}
use Rattle.rtl_ir.specs.ModuleTables.{instance_of}
use Rattle.rtl_ir.specs.declared.module.Module.{Module}
use Rattle.script_core.specs.Searching.{Looks}
use Rattle.script_core.proofs.Searches.{all_looked, looks_more, looks_none, looks_on}
use Rattle.script_core.proofs.key_table.KeyTable.look_at.Goals as goal
use Rattle.script_core.proofs.key_table.KeyTable.look_at.Goals.{in-Some+in_ok-find, in_default}

pub loop-cell-init : goal.loop-cell-init
loop-cell-init c = looks_none c.args.self.now.modules.now c.args.search.now c.requires.named c.requires.asked

pub loop-cell-preserved : goal.loop-cell-preserved
loop-cell-preserved c =
    let ms = c.args.self.now.modules.now in
    let found = ap (λ (modules : List Module). instance_of modules c.as_slice.result.now) c.args.self.now.ported in
    elim c.match-instance_of.branch [
      | in-Some+in_ok-find w ↦
          rw w.search-is
          (looks_more ms c.args.search.now c.loop-cell.search c.as_slice-cells.result.now c.loop-cell.cell-index c.cell-item.result c.loop-cell-test.true c.cell-item.is c.as_slice.result.now c.as_slice.ensures.value c.loop-cell.invariant
          w.in-Some.child.now (sym found ∙ sym w.in-Some.ensures.value) w.find.new.self w.in_ok-find.ensures.finds)
      | in_default w ↦
          rw w.search-is
          (looks_on ms c.args.search.now c.loop-cell.search c.as_slice-cells.result.now c.loop-cell.cell-index c.cell-item.result c.loop-cell-test.true c.cell-item.is c.as_slice.result.now c.as_slice.ensures.value c.loop-cell.invariant
          (sym found ∙ sym w.in_default.ensures.value))
    ]

pub returns : goal.returns
returns c =
    let ms = c.args.self.now.modules.now in
    record {
      looks = subst (Looks ms c.args.search.now c.loop-cell.search) c.as_slice-cells.ensures.value
          (all_looked ms c.args.search.now c.loop-cell.search c.as_slice-cells.result.now c.loop-cell.cell-index c.loop-cell-test.false c.loop-cell.invariant);
    }
