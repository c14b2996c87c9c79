use Rattle.process_trees.proofs.Actors.{many_act}
use Rattle.process_trees.proofs.acting.with_rule.Goals as goal

pub returns-in-Pair : goal.returns-in-Pair
returns-in-Pair c = record { value = λ rules a. many_act c.args.acting rules c.args.rule.now a c.in-Pair.is }
