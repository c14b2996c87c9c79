use Rattle.std.proofs.Common.{ap, arith, length}
use Rattle.design_edit.proofs.Placing.{all_more, length_places}
use Rattle.design_edit.proofs.changes.put_modules.Goals as goal

pub overflow_sub-placing : goal.overflow_sub-placing
overflow_sub-placing c =
    let size = c.args.modules.now.ok.0 in
    let least = all_more c.as_slice.result.now c.as_slice-2.result.now in
    omega (arith, c.in_ok-placing.ensures.count, least, ap length c.as_slice.ensures.value, c.len-2.ensures, size)

pub put_all-requires-clause-notes : goal.put_all-requires-clause-notes
put_all-requires-clause-notes c =
    let size = c.in_ok-placing.placing.places.ok.0 in
    let many = length_places c.as_slice.result.now c.as_slice-2.result.now in
    omega (arith, c.in_ok-changes.ensures.capacity, c.len.ensures, size, many, ap length c.in_ok-placing.ensures.places, ap length c.into_vec.ensures.value, ap length c.as_slice-2.ensures.value)
