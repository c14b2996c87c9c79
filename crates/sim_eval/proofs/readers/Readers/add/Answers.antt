use Rattle.std.proofs.Common.{refl, arith, ap, ◌∙◌, ◌++◌, ◌∷◌, [], ℕ}
use Rattle.std.specs.Global.{Vec}
use Rattle.sim_eval.proofs.AddingReads.{adds_point}
use Rattle.sim_eval.proofs.readers.Readers.add.Goals as goal

pub returns-in_ok-push : goal.returns-in_ok-push
returns-in_ok-push c = record {
  adds = adds_point c.args.self.now _ c.args.point c.in-At.number c.args.place _ c.push.new.self c.in-At.is (omega arith) refl (c.in_ok-push.ensures.items ∙ ap (λ (v : Vec ℕ). v.items ++ c.args.place ∷ []) c.index_mut.ensures.value);
}
