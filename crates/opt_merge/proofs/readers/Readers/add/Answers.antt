use Rattle.std.proofs.Common.{[], ◌∷◌, ◌++◌, ◌∙◌, ℕ, ap, arith, sym}
use Rattle.std.specs.Global.{Vec}
use Rattle.opt_merge.proofs.Placing.{grows_inside, grows_outside, reads_inside, reads_outside}
use Rattle.opt_merge.proofs.readers.Readers.add.Goals as goal

pub returns-in_ok-push-in-Some-clause-reads : goal.returns-in_ok-push-in-Some-clause-reads
returns-in_ok-push-in-Some-clause-reads c =
    reads_inside c.args.self.now.numbering c.args.self.now.inside.items c.args.self.now.outside.items c.args.bit c.in-Some.number c.args.place _ c.push.new.self (sym c.in-Some.ensures.value) (let s = c.args.self.now.sized in omega (arith, s, c.in-Some.ensures.within)) (c.in_ok-push-in-Some.ensures.items ∙ ap (λ (v : Vec ℕ). v.items ++ c.args.place ∷ []) c.index_mut.ensures.value)

pub returns-in_ok-push-in-Some-clause-keeps : goal.returns-in_ok-push-in-Some-clause-keeps
returns-in_ok-push-in-Some-clause-keeps c = record {
  keeps = grows_inside c.args.self.now.numbering c.args.self.now.inside.items c.args.self.now.outside.items c.in-Some.number c.args.place _ c.push.new.self (let s = c.args.self.now.sized in omega (arith, s, c.in-Some.ensures.within)) (c.in_ok-push-in-Some.ensures.items ∙ ap (λ (v : Vec ℕ). v.items ++ c.args.place ∷ []) c.index_mut.ensures.value);
}

pub returns-in_ok-push-in-None-clause-reads : goal.returns-in_ok-push-in-None-clause-reads
returns-in_ok-push-in-None-clause-reads c =
    reads_outside c.args.self.now.numbering c.args.self.now.inside.items c.args.self.now.outside.items c.push-in-None.new.self.items c.args.bit c.args.place (sym c.in-None.ensures.value) c.in_ok-push-in-None.ensures.items

pub returns-in_ok-push-in-None-clause-keeps : goal.returns-in_ok-push-in-None-clause-keeps
returns-in_ok-push-in-None-clause-keeps c = record {
  keeps = grows_outside c.args.self.now.numbering c.args.self.now.inside.items c.args.self.now.outside.items c.push-in-None.new.self.items c.args.place c.in_ok-push-in-None.ensures.items;
}
