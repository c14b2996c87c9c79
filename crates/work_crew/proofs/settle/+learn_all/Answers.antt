use Rattle.std.proofs.Common.{rules, ap, ◌∙◌, subst, arith}
use Rattle.work_crew.specs.Times.{times}
use Rattle.work_crew.specs.Settle.{AllFirst, taken_by, put_by}
use Rattle.work_crew.proofs.OwnerLists.{first_snoc, taken_snoc, put_snoc}
use Rattle.work_crew.proofs.settle.+learn_all.Goals as goal

pub learn-requires : goal.learn-requires
learn-requires t c = (first_snoc c.pop.new.self.items c.in-Some.owner (subst AllFirst c.in-Some.ensures.items c.requires)).1

pub learn_all-requires : goal.learn_all-requires
learn_all-requires t c = (search rules, (first_snoc c.pop.new.self.items c.in-Some.owner (subst AllFirst c.in-Some.ensures.items c.requires)).0)

pub returns-clause-once : goal.returns-clause-once
returns-clause-once t c k =
    let os = c.pop.new.self.items in
    let o = c.in-Some.owner in
    let i = c.in-Some.ensures.items in
    let a = ap (taken_by k) i ∙ taken_snoc k os o in
    let b = ap (put_by k) i ∙ put_snoc k os o in
    let e = c.learn.ensures.same.1 in
    let x = ap (λ v. times k v.taken) e in
    let y = ap (λ v. times k v.put) e in
    let f = c.learn.ensures.once k in
    let r = c.learn_all.ensures.once k in
    omega arith
