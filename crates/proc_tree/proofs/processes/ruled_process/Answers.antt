use Rattle.std.proofs.Common.{◌≡◌, rules}
use Rattle.rtl_ir.specs.SwitchRules.{root_by_rules}
use Rattle.proc_tree.proofs.Giving.{process_given}
use Rattle.proc_tree.proofs.processes.ruled_process.Goals as goal

pub returns-clause-starts : goal.returns-clause-starts
returns-clause-starts c =
    let e : c.in_ok-root.root ≡ root_by_rules c.args.process.now.root = search rules in
    let f : c.as_slice-rules.result.now ≡ c.args.process.now.syncs = search rules in
    process_given c.args.process.now c.in_ok-root.root c.as_slice-rules.result.now c.args.starts.now c.put_process.new.self e f c.in_ok-put_process.ensures.ok
