use Rattle.std.proofs.Common.{◌≡◌, true, sym, ◌∙◌}
use Rattle.opt_more.specs.Muxtree.{is_mux}
use Rattle.opt_more.proofs.MuxEnds.{after_muxed, arms_after}
use Rattle.opt_more.proofs.muxes.muxed.Goals as goal

pub returns-clause-value : goal.returns-clause-value
returns-clause-value c = λ ports cells links types places aliases arms.
    let is : is_mux c.args.cell ≡ true = sym c.in_ok-mux.ensures.value ∙ c.if-not-mux.false in
    let one = c.followed_cell.ensures.keeps links aliases in
    let two = c.with_arm.ensures.keeps links one in
    after_muxed ports links cells c.args.others.now.done.now c.args.others.now.rest.now.items c.args.cell is c.in_ok-followed.followed.cell c.in_ok-first.first c.in_ok-after.after _ _ _ _
    (c.in_ok-followed.ensures.value ports links types aliases)
    (λ h. c.in_ok-first.ensures.value cells links places one h)
    (λ h. c.in_ok-first.ensures.ends cells links places one h)
    c.with_arm.ensures.name
    (λ h. c.in_ok-after.ensures.value cells links places two h)
    (λ h. c.in_ok-after.ensures.ends cells links places two h)
    c.with_arm-2.ensures.name
    arms.first arms.second arms.a arms.b

pub returns-clause-arms : goal.returns-clause-arms
returns-clause-arms c = λ ports cells links types places aliases arms.
    let is : is_mux c.args.cell ≡ true = sym c.in_ok-mux.ensures.value ∙ c.if-not-mux.false in
    let one = c.followed_cell.ensures.keeps links aliases in
    let two = c.with_arm.ensures.keeps links one in
    arms_after ports links cells c.args.others.now.done.now c.args.others.now.rest.now.items c.args.cell is c.in_ok-followed.followed.cell c.in_ok-first.first c.in_ok-after.after c.args.arms.now.a c.with_arm.new.arm c.args.arms.now.b c.with_arm-2.new.arm
    (c.in_ok-followed.ensures.value ports links types aliases)
    (λ h. c.in_ok-first.ensures.value cells links places one h)
    (λ h. c.in_ok-first.ensures.ends cells links places one h)
    c.with_arm.ensures.name
    (λ h. c.in_ok-after.ensures.value cells links places two h)
    (λ h. c.in_ok-after.ensures.ends cells links places two h)
    c.with_arm-2.ensures.name
    arms.first arms.second arms.a arms.b
