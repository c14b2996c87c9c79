use Rattle.std.proofs.Common.{◌≡◌, ◌+◌, ◌++◌, length, take, drop, ap, subst, sym, arith}
use Rattle.std.proofs.lemmas.List.{take_at}
use Rattle.net_index.specs.Numbering.{bit_count}
use Rattle.net_index.specs.ReaderFill.{Adds}
use Rattle.net_index.specs.ReaderLinks.{AreMarks, readers_by_link}
use Rattle.net_index.proofs.ReaderAdds.{left_next, next_link}
use Rattle.net_index.proofs.reader_links.add_links.Goals as goal

pub loop-place-preserved : goal.loop-place-preserved
loop-place-preserved c =
    let w = c.args.numbering.now in
    let now = c.loop-place.list.items in
    let new = c.add_link.new.list.items in
    let marks = c.add_link.new.marks in
    let i = c.loop-place.place in
    let l = c.index-links-place.result in
    let same = ap length c.as_mut_slice.ensures.value in
    let back : take c.loop-place.marks.len (marks ++ drop (length marks) c.loop-place.marks.items) ≡ marks = take_at marks (drop (length marks) c.loop-place.marks.items) c.loop-place.marks.len (omega arith) in
    let added : Adds w now (readers_by_link i l.right) new =
    subst (λ n. Adds w now (readers_by_link n l.right) new) c.in_ok-narrowed.ensures.value
    (subst (λ ss. Adds w now (readers_by_link c.in_ok-narrowed.field-0 ss) new) c.as_slice-right.ensures.value c.in_ok-add_link.ensures.ok) in
    record {
      sized = subst (λ ms. length ms ≡ bit_count w) (sym back) (omega (arith, same));
      marks = subst (λ ms. AreMarks (i + 1) ms) (sym back) (subst (λ n. AreMarks (n + 1) marks) c.in_ok-narrowed.ensures.value c.in_ok-add_link.ensures.marks);
      left = left_next w c.args.list.now.items now new _ _ (readers_by_link i l.right) _ (next_link c.args.links.now i l c.loop-place-test.true c.index-links-place.is) added c.loop-place.invariant.left;
    }
