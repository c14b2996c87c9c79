use Rattle.opt_merge.proofs.Marking.{joins}
use Rattle.opt_merge.proofs.merger.Merger.join.Goals as goal

pub returns-clause-entries : goal.returns-clause-entries
returns-clause-entries c = λ wires links view.
    joins c.args.self.now.entries c.connect.new.self c.mark_signal.new.self wires _ _ (c.in_ok-connect.ensures.view wires links view) c.in_ok-connect.ensures.table c.in_ok-connect.ensures.notes c.in_ok-mark_signal.ensures.marks
