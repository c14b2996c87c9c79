use Rattle.std.proofs.Common.{rules, [], ◌∷◌, ◌++◌, sym, subst, arith}
use Rattle.work_crew.specs.Settle.{AllFirst}
use Rattle.work_crew.specs.Setup.{KeepsOwners, AllFixed, AreNoted}
use Rattle.work_crew.proofs.OwnerLists.{first_snoc}
use Rattle.work_crew.proofs.Setups.{share_step, keeps_length, keeps_snoc, fixed_snoc, noted_length, noted_snoc}
use Rattle.work_crew.proofs.setup.+share.Goals as goal

pub share-requires : goal.share-requires
share-requires t c =
    let r = c.requires.room in
    let p = c.in-Some.ensures.len in
    (search rules, ((first_snoc c.pop.new.self.items c.in-Some.owner (subst AllFirst c.in-Some.ensures.items c.requires.first)).0, (c.requires.empty, omega arith)))

pub note_of-requires : goal.note_of-requires
note_of-requires t c = (first_snoc c.pop.new.self.items c.in-Some.owner (subst AllFirst c.in-Some.ensures.items c.requires.first)).1

pub push_reserved-requires : goal.push_reserved-requires
push_reserved-requires t c =
    let l = keeps_length c.pop.new.self.items c.share.new.owners.items c.share.ensures.kept in
    let n = noted_length c.share.new.owners.items c.share.new.row.items c.share.ensures.noted in
    let k = c.share.ensures.capacity.1 in
    let r = c.requires.room in
    let p = c.in-Some.ensures.len in
    let a = c.share.new.row.ok in
    let b = c.pop.new.self.ok in
    omega arith

pub push_reserved-requires-2 : goal.push_reserved-requires-2
push_reserved-requires-2 t c =
    let l = keeps_length c.pop.new.self.items c.share.new.owners.items c.share.ensures.kept in
    let k = c.share.ensures.capacity.0 in
    let p = c.in-Some.ensures.len in
    let q = c.in-Some.ensures.capacity in
    let a = c.share.new.owners.ok in
    let b = c.pop.new.self.ok in
    let o = c.args.owners.now.ok in
    omega arith

pub returns-clause-kept : goal.returns-clause-kept
returns-clause-kept t c =
    let k = share_step c.in-Some.owner c.note_of.new.owner c.note_of.result c.note_of.ensures.same c.note_of.ensures.view c.note_of.ensures.note.0 c.note_of.ensures.note.1 in
    subst (λ os. KeepsOwners os c.push_reserved-2.new.self.items) (sym c.in-Some.ensures.items)
    (subst (KeepsOwners (c.pop.new.self.items ++ c.in-Some.owner ∷ [])) (sym c.push_reserved-2.ensures.items)
    (keeps_snoc c.pop.new.self.items c.share.new.owners.items c.in-Some.owner c.note_of.new.owner c.share.ensures.kept k.0))

pub returns-clause-fixed : goal.returns-clause-fixed
returns-clause-fixed t c =
    let k = share_step c.in-Some.owner c.note_of.new.owner c.note_of.result c.note_of.ensures.same c.note_of.ensures.view c.note_of.ensures.note.0 c.note_of.ensures.note.1 in
    subst AllFixed (sym c.push_reserved-2.ensures.items) (fixed_snoc c.share.new.owners.items c.note_of.new.owner c.share.ensures.fixed k.1)

pub returns-clause-noted : goal.returns-clause-noted
returns-clause-noted t c =
    let k = share_step c.in-Some.owner c.note_of.new.owner c.note_of.result c.note_of.ensures.same c.note_of.ensures.view c.note_of.ensures.note.0 c.note_of.ensures.note.1 in
    subst (λ os. AreNoted os c.push_reserved.new.self.items) (sym c.push_reserved-2.ensures.items)
    (subst (AreNoted (c.share.new.owners.items ++ c.note_of.new.owner ∷ [])) (sym c.push_reserved.ensures.items)
    (noted_snoc c.share.new.owners.items c.share.new.row.items c.note_of.new.owner c.note_of.result c.share.ensures.noted k.2))
