use Rattle.process_check.proofs.Endings.{below_more}
use Rattle.process_check.proofs.ends.Ends.free.Goals as goal

pub returns-in_ok-push-in-1-clause-waiting : goal.returns-in_ok-push-in-1-clause-waiting
returns-in_ok-push-in-1-clause-waiting c = below_more c.args.self.now.waiting.items c.push.new.self.items c.args.place c.in_ok-push-in-1.ensures.items
