use Rattle.std.proofs.Common.{[], ◌<◌, arith, get_or, length, set, subst, sym}
use Rattle.net_model.specs.Lists.{In}
use Rattle.opt_merge.specs.Classes.{class_of}
use Rattle.opt_merge.specs.Late.{lists_of}
use Rattle.opt_merge.proofs.Among.{has_more}
use Rattle.opt_merge.proofs.Waiting.{changed_here, grows}
use Rattle.opt_merge.proofs.late.Late.put.Goals as goal

pub returns-clause-own : goal.returns-clause-own
returns-clause-own c =
    let s = c.args.self.now.sized in
    let inside : c.class_of-class.result < length c.args.self.now.places.items = omega (arith, s, c.class_of-class.ensures.small) in
    subst (λ k. In c.args.place (get_or (lists_of (set c.args.self.now.places.items c.class_of-class.result c.insert.new.self)) k [])) c.class_of-class.ensures.value
    (subst (In c.args.place) (sym (changed_here c.args.self.now.places.items c.class_of-class.result c.insert.new.self inside)) (has_more _ c.insert.new.self.keys _ c.in_ok-insert.ensures.keys).own)

pub returns-clause-stays : goal.returns-clause-stays
returns-clause-stays c =
    let s = c.args.self.now.sized in
    let inside : c.class_of-class.result < length c.args.self.now.places.items = omega (arith, s, c.class_of-class.ensures.small) in
    λ other. grows c.args.self.now.places.items c.class_of-class.result _ _ c.insert.new.self c.index_mut.ensures.value inside (has_more _ c.insert.new.self.keys _ c.in_ok-insert.ensures.keys).stays (class_of other)
