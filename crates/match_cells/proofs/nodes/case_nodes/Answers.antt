use Rattle.match_cells.proofs.NodeRows.{entry_is, has_case, nodes_go}
use Rattle.std.proofs.Common.{sym, subst}
use Rattle.rtl_ir.specs.Tree.{cases_of}
use Rattle.std.proofs.Common.{drop, ◌+◌}
use Rattle.match_cells.specs.Numbers.{HasCases}
use Rattle.match_cells.proofs.nodes.case_nodes.Goals as goal

pub loop-preserved : goal.loop-preserved
loop-preserved c =
    let has = has_case c.args.table.now c.loop.node c.args.cases.now c.loop.index c.loop-item.result c.loop-test.true c.loop-item.is c.loop.invariant.has in
    let is = entry_is c.args.table.now c.loop.node c.behind-node.result _ has.0 c.behind-node.ensures.value in
    record {
      all = nodes_go c.args.table.now c.loop.node c.args.cases.now c.loop.index c.loop-item.result c.loop-test.true c.loop-item.is c.loop.nodes.items c.push.new.self.items _ c.behind-node.result c.loop.invariant.all c.in_ok-push.ensures.items is;
      has = subst (λ m. HasCases c.args.table.now m (cases_of (drop (c.loop.index + 1) c.args.cases.now))) (sym is) has.1.1;
    }
