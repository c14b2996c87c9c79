use Rattle.std.proofs.Common.{[], ◌∷◌}
use Rattle.sim_eval.proofs.AddingReads.{adds_more}
use Rattle.sim_eval.proofs.Taking.{on_ok_more}
use Rattle.sim_eval.proofs.readers.Readers.add_two.Goals as goal

pub returns : goal.returns
returns c = record {
  adds = on_ok_more c.add-2.result _ _ (λ h. adds_more c.args.self.now c.add.new.self c.add-2.new.self c.args.place (c.args.first ∷ []) (c.args.second ∷ []) c.in_ok-add.ensures.adds h) c.add-2.ensures.adds;
}
