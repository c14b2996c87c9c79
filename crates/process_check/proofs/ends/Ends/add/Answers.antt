use Rattle.process_check.proofs.Endings.{below_more}
use Rattle.process_check.proofs.ends.Ends.add.Goals as goal

pub returns-in_ok-push-2-clause-waiting : goal.returns-in_ok-push-2-clause-waiting
returns-in_ok-push-2-clause-waiting c = below_more c.args.self.now.waiting.items c.push-then-count-eq0.new.self.items c.args.at c.in_ok-push-2.ensures.items
