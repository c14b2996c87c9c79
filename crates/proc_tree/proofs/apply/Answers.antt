use Rattle.rtl_ir.specs.Scope.{with_processes}
use Rattle.rtl_ir.specs.Types.{table_ports}
use Rattle.net_model.specs.Proc.Start.{proc_tree_of}
use Rattle.pass_laws.proofs.Promised.{answered}
use Rattle.proc_laws.specs.Ready.{AreRuled, HasItsBits, HaveNoLines, HaveNoStarts}
use Rattle.proc_laws.specs.Step.{IsStep, StaysReady}
use Rattle.proc_tree.proofs.Promised.{are_ruled, bits_stay, have_no_lines, have_no_starts, tree_ready, tree_step}
use Rattle.proc_tree.proofs.apply.Goals as goal

pub returns : goal.returns
returns c =
    let m = c.args.module.now in
    let table = c.args.ports.now in
    let r = c.tree_of.result in
    let exact = c.tree_of.ensures.exact in
    record {
      exact = exact;
      step = answered r (proc_tree_of m) exact (IsStep table m) (tree_step table m c.requires.placed c.requires.ready);
      ready = answered r (proc_tree_of m) exact (StaysReady table m) (tree_ready m with_processes (λ p e. e) (table_ports table.modules));
      placed = answered r (proc_tree_of m) exact HasItsBits (bits_stay m c.requires.placed);
      ruled = answered r (proc_tree_of m) exact AreRuled (are_ruled m);
      no_starts = answered r (proc_tree_of m) exact HaveNoStarts (have_no_starts m);
      no_lines = λ none. answered r (proc_tree_of m) exact HaveNoLines (have_no_lines m none);
    }
