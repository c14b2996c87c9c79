use Rattle.std.proofs.Common.{rules, ◌≡◌, ◌≤◌, [], ◌∷◌, length, vec_len, ap, ◌∙◌, arith, length-append}
use Rattle.std.specs.Vec.{vec_capacity}
use Rattle.work_crew.proofs.Setups.{seats_grow, seats_length}
use Rattle.work_crew.proofs.setup.+seats_for.Goals as goal

pub seats_for-requires : goal.seats_for-requires
seats_for-requires g t c κs within =
    let a = ap length c.in-Some.ensures.items in
    let b = ap length c.in-Some-pop.ensures.items in
    let d = ap length c.in-Some-pop-2.ensures.items in
    let r = c.requires.rows in
    let w = c.requires.works in
    let m = c.requires.room in
    let p = c.in-Some.ensures.len in
    let rows : length c.pop-2.new.self.items ≡ length c.pop.new.self.items = omega (arith, length-append c.pop.new.self.items (c.in-Some.owner ∷ []), length-append c.pop-2.new.self.items (c.in-Some-pop.notes ∷ [])) in
    let works : length c.pop-3.new.self.items ≡ length c.pop.new.self.items = omega (arith, length-append c.pop.new.self.items (c.in-Some.owner ∷ []), length-append c.pop-3.new.self.items (c.in-Some-pop-2.worked ∷ [])) in
    let room : vec_len c.pop.new.self ≤ vec_capacity c.args.seats.now = omega arith in
    search (rules, rows, works, room, c.requires.empty)

pub push_reserved-requires : goal.push_reserved-requires
push_reserved-requires g t c =
    let a = ap length c.in-Some.ensures.items in
    let b = ap length c.in-Some-pop.ensures.items in
    let d = ap length c.in-Some-pop-2.ensures.items in
    let r = c.requires.rows in
    let w = c.requires.works in
    let os = c.pop.new.self.items in
    let rs = c.pop-2.new.self.items in
    let ws = c.pop-3.new.self.items in
    let lr : length rs ≡ length os = omega (arith, length-append os (c.in-Some.owner ∷ []), length-append rs (c.in-Some-pop.notes ∷ [])) in
    let lw : length ws ≡ length os = omega (arith, length-append os (c.in-Some.owner ∷ []), length-append ws (c.in-Some-pop-2.worked ∷ [])) in
    let l = ap length c.seats_for.ensures.seats ∙ seats_length g.row.L.Denot 0 os rs ws lr lw in
    let k = c.seats_for.ensures.capacity in
    let o = c.seats_for.new.seats.ok.0 in
    let p = c.args.owners.now.ok.0 in
    let m = c.requires.room in
    omega (arith, length-append os (c.in-Some.owner ∷ []))

pub returns-clause-seats : goal.returns-clause-seats
returns-clause-seats g t c =
    let p = c.pop.new.self.ok.0 in
    let n = c.len-number.ensures in
    seats_grow c.pop.new.self.items c.args.owners.now.items c.pop-2.new.self.items c.args.rows.now.items c.pop-3.new.self.items c.args.works.now.items c.in-Some.owner c.in-Some-pop.notes c.in-Some-pop-2.worked c.len-number.result c.part-meter.result
    c.seats_for.new.seats.items c.push_reserved.new.self.items
    c.in-Some.ensures.items c.in-Some-pop.ensures.items c.in-Some-pop-2.ensures.items c.requires.rows c.requires.works (omega arith) c.part-meter.ensures.value c.seats_for.ensures.seats c.push_reserved.ensures.items

pub returns-clause-meter : goal.returns-clause-meter
returns-clause-meter g t c = c.part-meter.ensures.kept ∙ c.seats_for.ensures.meter
