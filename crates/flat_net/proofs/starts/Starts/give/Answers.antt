use Rattle.std.proofs.Common.{refl}
use Rattle.flat_net.proofs.Beginning.{gains_one}
use Rattle.flat_net.proofs.Results.{if_ok}
use Rattle.flat_net.proofs.starts.Starts.give.Goals as goal

pub returns : goal.returns
returns c = record {
  gains =
      if_ok c.put.result c.put.ensures.ok
      (λ _ put. gains_one c.args.self.now (record { said = c.args.self.now.said; given = c.put.new.self }) (record { bit = c.args.bit; value = c.args.value }) refl put);
}
