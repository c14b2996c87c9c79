use Rattle.std.proofs.Common.{◌+◌, ◌++◌, [], ◌∷◌, set, subst, sym, arith}
use Rattle.net_index.specs.declared.reader.Reader.TheVariants as reader
use Rattle.net_index.specs.ReaderLinks.{AddsLink}
use Rattle.net_index.proofs.ReaderOnce.{once_added}
use Rattle.net_index.proofs.reader_links.add_once.Goals as goal

pub returns-in_ok-push : goal.returns-in_ok-push
returns-in_ok-push c = record {
  ok =
      let w = c.args.numbering.now in
      let old = c.args.list.now.items in
      let marks = c.args.marks.now in
      let n = c.in-Some.number in
      let added : AddsLink w c.args.link c.args.bit old marks (old ++ record { number = n; reader = reader.Link c.from-place.result } ∷ []) (set marks n (c.from-place.result + 1)) =
      subst (λ p. AddsLink w c.args.link c.args.bit old marks (old ++ record { number = n; reader = reader.Link p } ∷ []) (set marks n (p + 1))) (sym c.from-place.ensures)
      (once_added w c.args.link c.args.bit old marks n (sym c.in-Some.ensures.value) c.in-Some.ensures.within (omega (arith, c.in-Some.ensures.within)) (omega arith)) in
      subst (λ xs. AddsLink w c.args.link c.args.bit old marks xs (set marks n (c.from-place.result + 1))) (sym c.in_ok-push.ensures.items) added;
}
