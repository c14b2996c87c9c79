use Rattle.std.proofs.Common.{OnOk, ap, subst, sym, ◌∙◌}
use Rattle.opt_merge.specs.Among.{AreAmong}
use Rattle.opt_merge.specs.Readers.{readers_of_bit}
use Rattle.opt_merge.proofs.readers.Readers.add_bit.Goals as goal

pub returns-in-Wire-clause-all : goal.returns-in-Wire-clause-all
returns-in-Wire-clause-all c =
    subst (λ places. OnOk c.add_places.result (AreAmong places c.add_places.new.places.keys))
    (c.of_bit.ensures.value ∙ sym (ap (readers_of_bit c.args.self.now) c.in-Wire.is)) c.add_places.ensures.all
