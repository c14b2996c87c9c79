use Rattle.std.proofs.Common.{◌+◌, ◌++◌, ◌∙◌, [], ap, drop, length, map, sym}
use Rattle.std.proofs.Math.ListN.{drop_of_length-le}
use Rattle.std.proofs.lemmas.List.{append-nil}
use Rattle.rtl_ir.specs.Flat.Access.{line_accesses, rule_accesses}
use Rattle.net_model.specs.Mem.Gather.{write_port}
use Rattle.flat_net.proofs.Lining.{accesses_go, left_of}
use Rattle.flat_net.proofs.line_ports.put_rules.Goals as goal

pub loop-rule-preserved : goal.loop-rule-preserved
loop-rule-preserved c =
    let name = c.args.name.now in
    let number = c.args.number in
    let rules = c.args.rules.now in
    let ports = c.loop-rule.ports.items in
    let at = c.loop-rule.rule-index in
    let rule = c.rule-item.result in
    let here = line_accesses name rule.event (number + length ports) [] rule.writes in
    accesses_go ports c.put_lines.new.ports.items number here (λ k. rule_accesses name k (drop (at + 1) rules)) _
    (c.loop-rule.invariant ∙ ap (λ rs. ports ++ map write_port (rule_accesses name (number + length ports) rs)) (left_of rules at rule c.loop-rule-test.true c.rule-item.is))
    (c.in_ok-put_lines.ensures.ok rule.event ∙ ap (λ ls. ports ++ map write_port (line_accesses name rule.event (number + length ports) [] ls)) c.as_slice.ensures.value)

pub returns : goal.returns
returns c = record {
  ok =
      let ports = c.loop-rule.ports.items in
      sym (c.loop-rule.invariant
      ∙ ap (λ rs. ports ++ map write_port (rule_accesses c.args.name.now (c.args.number + length ports) rs)) (drop_of_length-le c.args.rules.now c.loop-rule-test.false)
      ∙ append-nil ports);
}
