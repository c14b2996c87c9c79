use Rattle.flat_pass.proofs.Tables.{counted}
use Rattle.flat_pass.proofs.counts.Counts.set.Goals as goal

pub returns : goal.returns
returns c = record {
  ok = λ n. counted c.in_ok-key.key.items c.args.name.now c.args.self.now.found c.insert.new.self c.args.count c.in_ok-insert.ensures.updates c.in_ok-key.ensures.items n;
}
