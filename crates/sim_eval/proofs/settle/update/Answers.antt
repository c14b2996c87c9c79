use Rattle.std.proofs.Common.{length, map, subst, sym}
use Rattle.std.specs.Prelude.{flat_map}
use Rattle.flat_net.specs.Parts.{held_row, inputs_of, output_row, part_rows, raced_row}
use Rattle.flat_net.specs.Picks.{tree_row}
use Rattle.flat_net.specs.Within.{IsFetchedWithin, IsHeldWithin, IsLogicWithin, IsPartWithin, IsRacedWithin, IsRememberedWithin, IsTreeWithin}
use Rattle.flat_net.specs.Words.{port_rows, word_row}
use Rattle.sim_eval.specs.Advance.{Advances}
use Rattle.sim_eval.specs.Moment.{time_of}
use Rattle.sim_eval.proofs.Taking.{if_ok_more}
use Rattle.sim_eval.proofs.settle.update.Goals as goal

pub returns-in-Joined-clause-advances : goal.returns-in-Joined-clause-advances
returns-in-Joined-clause-advances c = λ ps board within.
    let t = time_of ps c.args.moment.now in
    let inside = subst (IsPartWithin (length ps)) c.in-Joined.is within in
    subst (λ z. Advances ps t (part_rows ps z) c.args.now.now c.update_joined.new.now c.update_joined.result) (sym c.in-Joined.is)
    (c.update_joined.ensures.advances ps board.apart board.now inside.0 inside.1 t)

pub returns-in-Logic-clause-advances : goal.returns-in-Logic-clause-advances
returns-in-Logic-clause-advances c =
    let old = c.args.now.now in
    let new = c.update_logic.new.now in
    if_ok_more c.update_logic.result _ _ (λ changed k ps board within.
    let t = time_of ps c.args.moment.now in
    subst (λ z. Advances ps t (part_rows ps z) old new changed) (sym c.in-Logic.is)
    (subst (λ z. Advances ps t (map (output_row ps z.shape (inputs_of ps z)) z.outputs) old new changed) c.deref.ensures
    (k ps board.apart board.now (subst (IsLogicWithin (length ps)) (sym c.deref.ensures) (subst (IsPartWithin (length ps)) c.in-Logic.is within)) t)))
    c.update_logic.ensures.advances

pub returns-in-Tree-clause-advances : goal.returns-in-Tree-clause-advances
returns-in-Tree-clause-advances c =
    let old = c.args.now.now in
    let new = c.update_tree.new.now in
    if_ok_more c.update_tree.result _ _ (λ changed k ps board within.
    let t = time_of ps c.args.moment.now in
    subst (λ z. Advances ps t (part_rows ps z) old new changed) (sym c.in-Tree.is)
    (subst (λ z. Advances ps t (map (tree_row ps z.root) z.outputs) old new changed) c.deref-in-Tree.ensures
    (k ps board.apart board.now (subst (IsTreeWithin (length ps)) (sym c.deref-in-Tree.ensures) (subst (IsPartWithin (length ps)) c.in-Tree.is within)) t)))
    c.update_tree.ensures.advances

pub returns-in-Held-clause-advances : goal.returns-in-Held-clause-advances
returns-in-Held-clause-advances c =
    let old = c.args.now.now in
    let new = c.update_held.new.now in
    if_ok_more c.update_held.result _ _ (λ changed k ps board within.
    let t = time_of ps c.args.moment.now in
    subst (λ z. Advances ps t (part_rows ps z) old new changed) (sym c.in-Held.is)
    (subst (λ z. Advances ps t (map (held_row ps z.tree) z.bits) old new changed) c.deref-in-Held.ensures
    (k ps board (subst (IsHeldWithin (length ps)) (sym c.deref-in-Held.ensures) (subst (IsPartWithin (length ps)) c.in-Held.is within)))))
    c.update_held.ensures.advances

pub returns-in-Raced-clause-advances : goal.returns-in-Raced-clause-advances
returns-in-Raced-clause-advances c =
    let old = c.args.now.now in
    let new = c.update_raced.new.now in
    if_ok_more c.update_raced.result _ _ (λ changed k ps board within.
    let t = time_of ps c.args.moment.now in
    subst (λ z. Advances ps t (part_rows ps z) old new changed) (sym c.in-Raced.is)
    (subst (λ z. Advances ps t (map (raced_row ps z) z.bits) old new changed) c.deref-in-Raced.ensures
    (k ps board (subst (IsRacedWithin (length ps)) (sym c.deref-in-Raced.ensures) (subst (IsPartWithin (length ps)) c.in-Raced.is within)))))
    c.update_raced.ensures.advances

pub returns-in-Remembered-clause-advances : goal.returns-in-Remembered-clause-advances
returns-in-Remembered-clause-advances c =
    let old = c.args.now.now in
    let new = c.update_remembered.new.now in
    if_ok_more c.update_remembered.result _ _ (λ changed k ps board within.
    let t = time_of ps c.args.moment.now in
    subst (λ z. Advances ps t (part_rows ps z) old new changed) (sym c.in-Remembered.is)
    (subst (λ z. Advances ps t (map (word_row ps z) z.bits) old new changed) c.deref-in-Remembered.ensures
    (k ps board (subst (IsRememberedWithin (length ps)) (sym c.deref-in-Remembered.ensures) (subst (IsPartWithin (length ps)) c.in-Remembered.is within)))))
    c.update_remembered.ensures.advances

pub returns-in-Fetched-clause-advances : goal.returns-in-Fetched-clause-advances
returns-in-Fetched-clause-advances c =
    let old = c.args.now.now in
    let new = c.update_fetched.new.now in
    if_ok_more c.update_fetched.result _ _ (λ changed k ps board within.
    let t = time_of ps c.args.moment.now in
    subst (λ z. Advances ps t (part_rows ps z) old new changed) (sym c.in-Fetched.is)
    (subst (λ z. Advances ps t (flat_map (port_rows ps z) z.ports) old new changed) c.deref-in-Fetched.ensures
    (k ps board.apart board.now (subst (IsFetchedWithin (length ps)) (sym c.deref-in-Fetched.ensures) (subst (IsPartWithin (length ps)) c.in-Fetched.is within)) t)))
    c.update_fetched.ensures.advances
