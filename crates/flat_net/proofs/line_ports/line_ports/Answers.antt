use Rattle.std.proofs.Common.{◌≡◌, ◌+◌, ◌++◌, ◌∙◌, ap, arith, drop, length, map, sym}
use Rattle.std.proofs.Math.ListN.{drop_of_length-le}
use Rattle.std.proofs.lemmas.List.{append-nil}
use Rattle.rtl_ir.specs.Flat.Access.{rule_accesses}
use Rattle.net_model.specs.Mem.Gather.{write_port}
use Rattle.flat_net.specs.Accesses.{rules_of}
use Rattle.flat_net.proofs.Lining.{accesses_go, left_of, rules-append}
use Rattle.flat_net.proofs.line_ports.line_ports.Goals as goal

pub loop-process-init : goal.loop-process-init
loop-process-init c =
    let number = c.args.number in
    let none = c.new-ports.ensures.items in
    let at : number ≡ number + 0 = omega arith in
    ap (λ n. map write_port (rule_accesses c.args.name.now n (rules_of c.args.processes.now))) at
    ∙ (λ i. sym none i ++ map write_port (rule_accesses c.args.name.now (number + length (sym none i)) (rules_of c.args.processes.now)))

pub loop-process-preserved : goal.loop-process-preserved
loop-process-preserved c =
    let name = c.args.name.now in
    let number = c.args.number in
    let processes = c.args.processes.now in
    let ports = c.loop-process.ports.items in
    let at = c.loop-process.process-index in
    let process = c.process-item.result in
    let here = rule_accesses name (number + length ports) process.syncs in
    let rest = rules_of (drop (at + 1) processes) in
    accesses_go ports c.put_rules.new.ports.items number here (λ k. rule_accesses name k rest) _
    (c.loop-process.invariant
    ∙ ap (λ qs. ports ++ map write_port (rule_accesses name (number + length ports) (rules_of qs))) (left_of processes at process c.loop-process-test.true c.process-item.is)
    ∙ ap (λ xs. ports ++ map write_port xs) (rules-append name (number + length ports) process.syncs rest))
    (c.in_ok-put_rules.ensures.ok ∙ ap (λ rs. ports ++ map write_port (rule_accesses name (number + length ports) rs)) c.as_slice.ensures.value)

pub returns : goal.returns
returns c = record {
  value =
      let ports = c.loop-process.ports.items in
      sym (c.loop-process.invariant
      ∙ ap (λ qs. ports ++ map write_port (rule_accesses c.args.name.now (c.args.number + length ports) (rules_of qs))) (drop_of_length-le c.args.processes.now c.loop-process-test.false)
      ∙ append-nil ports);
}
