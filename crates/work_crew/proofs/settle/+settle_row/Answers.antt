use Rattle.std.proofs.Common.{rules, [], ◌∷◌, ◌++◌, sym, ap, ◌∙◌, subst, arith}
use Rattle.crossbeam_deque.specs.Handles.{worker_view, view}
use Rattle.work_crew.specs.Times.{times}
use Rattle.work_crew.specs.Reach.{tally}
use Rattle.work_crew.specs.Settle.{Owned, SameOwners, taken_by}
use Rattle.work_crew.proofs.Counting.{times_append}
use Rattle.work_crew.proofs.OwnerLists.{owned_snoc, same_refl, same_snoc, same_length, taken_snoc, tally_snoc}
use Rattle.work_crew.proofs.settle.+settle_row.Goals as goal

pub returns-in_default-clause-same : goal.returns-in_default-clause-same
returns-in_default-clause-same t c = same_refl c.args.owners.now.items

pub take_in-requires : goal.take_in-requires
take_in-requires t c =
    let h = subst (Owned (c.pop-2.new.self.items ++ c.in-Some-pop.owner ∷ [])) c.in-Some.ensures.items (subst (λ os. Owned os c.args.row.now.items) c.in-Some-pop.ensures.items c.requires) in
    let r = owned_snoc c.pop-2.new.self.items c.pop.new.self.items c.in-Some-pop.owner c.in-Some.note h in
    (r.1, r.2)

pub settle_row-requires : goal.settle_row-requires
settle_row-requires t c =
    let h = subst (Owned (c.pop-2.new.self.items ++ c.in-Some-pop.owner ∷ [])) c.in-Some.ensures.items (subst (λ os. Owned os c.args.row.now.items) c.in-Some-pop.ensures.items c.requires) in
    (search rules, (owned_snoc c.pop-2.new.self.items c.pop.new.self.items c.in-Some-pop.owner c.in-Some.note h).0)

pub push_reserved-requires : goal.push_reserved-requires
push_reserved-requires t c =
    let l = same_length c.pop-2.new.self.items c.settle_row.new.owners.items c.settle_row.ensures.same in
    let a = c.settle_row.new.owners.ok in
    let b = c.pop-2.new.self.ok in
    let k = c.settle_row.ensures.capacity in
    let p = c.in-Some-pop.ensures.len in
    let q = c.in-Some-pop.ensures.capacity in
    let o = c.args.owners.now.ok in
    omega arith

pub returns-clause-same : goal.returns-clause-same
returns-clause-same t c =
    let s = c.take_in.ensures.same in
    subst (λ os. SameOwners os c.push_reserved.new.self.items) (sym c.in-Some-pop.ensures.items)
    (subst (SameOwners (c.pop-2.new.self.items ++ c.in-Some-pop.owner ∷ [])) (sym c.push_reserved.ensures.items)
    (same_snoc c.pop-2.new.self.items c.settle_row.new.owners.items c.in-Some-pop.owner c.take_in.new.owner c.settle_row.ensures.same s.0 s.2 c.take_in.ensures.put))

pub returns-clause-taken : goal.returns-clause-taken
returns-clause-taken t c k =
    let a = ap (taken_by k) c.in-Some-pop.ensures.items ∙ taken_snoc k c.pop-2.new.self.items c.in-Some-pop.owner in
    let b = ap (taken_by k) c.push_reserved.ensures.items ∙ taken_snoc k c.settle_row.new.owners.items c.take_in.new.owner in
    let e = ap (times k) c.take_in.ensures.taken in
    let f = times_append k (worker_view c.in-Some-pop.owner).taken (view c.in-Some.note).taken in
    let n = ap (tally k) c.in-Some.ensures.items ∙ tally_snoc k c.pop.new.self.items c.in-Some.note in
    let r = c.settle_row.ensures.taken k in
    omega arith
