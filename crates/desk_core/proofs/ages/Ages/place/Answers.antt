use Rattle.std.proofs.Common.{◌≡◌, ◌++◌, [], ◌∷◌, None, length, ap, ◌∙◌, arith}
use Rattle.desk_core.proofs.Placing.{placed_known, placed_new}
use Rattle.desk_core.proofs.ages.Ages.place.Goals as goal

pub returns-then-id-len-clause-kept : goal.returns-then-id-len-clause-kept
returns-then-id-len-clause-kept c =
    let held = c.in_ok-reserve.ensures.items in
    let last : c.in_ok-id.id.index ≡ length c.args.self.now.ages.items = omega (arith, c.if-id-len.true, c.len.ensures, c.reserve.new.self.ok.0, ap length held) in
    (placed_new _ _ c.args.key.now c.in_ok-id.id.index _ _ c.requires.beside c.in_ok-id.ensures.number last c.in_ok-id.ensures.names (c.push_reserved.ensures.items ∙ ap (λ ages. ages ++ None ∷ []) held)).kept

pub returns-then-id-len-clause-young : goal.returns-then-id-len-clause-young
returns-then-id-len-clause-young c =
    let held = c.in_ok-reserve.ensures.items in
    let last : c.in_ok-id.id.index ≡ length c.args.self.now.ages.items = omega (arith, c.if-id-len.true, c.len.ensures, c.reserve.new.self.ok.0, ap length held) in
    (placed_new _ _ c.args.key.now c.in_ok-id.id.index _ _ c.requires.beside c.in_ok-id.ensures.number last c.in_ok-id.ensures.names (c.push_reserved.ensures.items ∙ ap (λ ages. ages ++ None ∷ []) held)).young

pub returns-else-id-len-clause-beside : goal.returns-else-id-len-clause-beside
returns-else-id-len-clause-beside c =
    let held = c.in_ok-reserve.ensures.items in
    (placed_known _ _ c.args.key.now c.in_ok-id.id.index _ _ c.requires.beside c.in_ok-id.ensures.number (λ last. c.if-id-len.false (omega (arith, last, c.len.ensures, c.reserve.new.self.ok.0, ap length held))) c.in_ok-id.ensures.names held).beside

pub returns-else-id-len-clause-kept : goal.returns-else-id-len-clause-kept
returns-else-id-len-clause-kept c =
    let held = c.in_ok-reserve.ensures.items in
    (placed_known _ _ c.args.key.now c.in_ok-id.id.index _ _ c.requires.beside c.in_ok-id.ensures.number (λ last. c.if-id-len.false (omega (arith, last, c.len.ensures, c.reserve.new.self.ok.0, ap length held))) c.in_ok-id.ensures.names held).kept
