-- The cells of the module, one at a time.
use Rattle.std.proofs.Common.{◌≡◌, ◌∙◌, ◌<◌, List, [], length, sym, ap, arith}
use Rattle.std.proofs.lemmas.Grind.{common_steps}
use Rattle.rtl_ir.specs.declared.cell.Cell.{Cell}
use Rattle.rtl_ir.specs.Build.{Building}
use Rattle.net_model.specs.Fsm.Code.{coded_cells}
use Rattle.fsm_code.specs.Links.{behind, linked, with_cells}
use Rattle.fsm_code.specs.Outputs.{coding_of}
use Rattle.fsm_code.proofs.Linking.{cell_goes, cells_end}
use Rattle.fsm_code.proofs.cells.recoded_cells.Goals as goal

pub loop-cell-preserved : goal.loop-cell-preserved
loop-cell-preserved c ports m next is t p =
    let body : Building = record { body = c.args.module; next = next } in
    let coding = coding_of c.args.coding.now in
    let low : c.loop-cell.at < length m.cells = grind (arith, c.if-at-len.false, c.len.ensures, p.forks.long) in
    cell_goes m c.args.machine.now coding c.loop-cell.at c.in-Some.cell c.next.new.self.rest.items body
    c.loop-cell.cells.items c.push_coded.new.cells.items c.loop-cell.links c.push_coded.new.links (coded_cells m c.args.machine.now coding 0 c.args.module.cells body)
    (λ b. c.in_ok-push_coded.ensures.ok ports m b (length m.cells) is t p low)
    (ap (λ (items : List Cell). behind c.loop-cell.cells.items (coded_cells m c.args.machine.now coding c.loop-cell.at items (linked body c.loop-cell.links))) (sym c.in-Some.ensures.steps.0) ∙ c.loop-cell.invariant ports m next is t p)

pub returns : goal.returns
returns c = record {
  exact = λ ports m next is t p same.
      let body : Building = record { body = c.args.module; next = next } in
      let coding = coding_of c.args.coding.now in
      let ends : c.loop-cell.cell-iterator.rest.items ≡ [] = grind (arith, common_steps, c.in-None.ensures.steps) in
      (λ i. record c.args.module { cells = c.from_vec.ensures.value i; links = c.loop-cell.links })
      ∙ cells_end m c.args.machine.now coding c.loop-cell.at c.loop-cell.cells.items c.loop-cell.links body (coded_cells m c.args.machine.now coding 0 c.args.module.cells body)
      (ap (λ (items : List Cell). behind c.loop-cell.cells.items (coded_cells m c.args.machine.now coding c.loop-cell.at items (linked body c.loop-cell.links))) (sym ends) ∙ c.loop-cell.invariant ports m next is t p)
      ∙ ap (λ (cells : List Cell). with_cells (coded_cells m c.args.machine.now coding 0 cells body)) same;
}
