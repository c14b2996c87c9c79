use Rattle.std.proofs.Common.{◌+◌, ◌++◌, ◌∙◌, ap, length, map, sym}
use Rattle.std.proofs.Math.ListN.{drop_of_length-le}
use Rattle.std.proofs.lemmas.List.{append-nil}
use Rattle.rtl_ir.specs.Flat.Access.{line_accesses}
use Rattle.net_model.specs.Mem.Gather.{write_port}
use Rattle.flat_net.proofs.Lining.{left_of}
use Rattle.flat_net.proofs.line_ports.put_lines.Goals as goal

pub loop-line-preserved : goal.loop-line-preserved
loop-line-preserved c = λ event.
    let lines = c.args.lines.now in
    let ports = c.loop-line.ports.items in
    let at = c.loop-line.line-index in
    c.loop-line.invariant event
    ∙ ap (λ ls. ports ++ map write_port (line_accesses c.args.name.now event (c.args.number + length ports) c.loop-line.before.items ls)) (left_of lines at c.line-item.result c.loop-line-test.true c.line-item.is)
    ∙ c.in_ok-put_line.ensures.ok event _

pub returns : goal.returns
returns c = record {
  ok = λ event.
      let ports = c.loop-line.ports.items in
      sym (c.loop-line.invariant event
      ∙ ap (λ ls. ports ++ map write_port (line_accesses c.args.name.now event (c.args.number + length ports) c.loop-line.before.items ls)) (drop_of_length-le c.args.lines.now c.loop-line-test.false)
      ∙ append-nil ports);
}
