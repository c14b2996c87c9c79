use Rattle.desk_core.specs.Asked.{asked_key}
use Rattle.desk_core.proofs.OwnShard.{told_answers, told_text}
use Rattle.desk_core.proofs.key_order.KeyOrderOrder.text.Goals as goal

pub returns-clause-value : goal.returns-clause-value
returns-clause-value c = told_text c.text.result c.args.self.now.key.now (asked_key c.args.self.now) c.requires.buildable.own c.text.ensures.exact

pub returns-clause-answers : goal.returns-clause-answers
returns-clause-answers c = told_answers c.text.result c.args.self.now.key.now (asked_key c.args.self.now) c.requires.buildable.own c.text.ensures.only
