use Rattle.std.proofs.Common.{◌<◌, length, arith}
use Rattle.proc_mux.specs.Rows.{row_at}
use Rattle.proc_mux.proofs.RowWalks.{place_goes, places_end}
use Rattle.proc_mux.proofs.rows.put_line.Goals as goal

pub loop-at-preserved : goal.loop-at-preserved
loop-at-preserved c = λ b.
    let hl : c.loop-at.at < length c.args.left.now = omega (arith, c.min-at-end.ensures) in
    let hr : c.loop-at.at < length c.args.right.now = omega (arith, c.min-at-end.ensures) in
    place_goes c.args.node b c.args.left.now c.args.right.now c.loop-at.at _ _ hl hr (row_at c.loop-at.rows b) (row_at c.put_place.new.rows b) _ (c.in_ok-put_place.ensures.rows b) (c.loop-at.invariant b)

pub returns : goal.returns
returns c = record {
  rows = λ b. places_end c.args.node b c.args.left.now c.args.right.now c.loop-at.at (row_at c.loop-at.rows b) _ (omega (arith, c.min-at-end.ensures)) (c.loop-at.invariant b);
}
