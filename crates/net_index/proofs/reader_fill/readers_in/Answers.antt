use Rattle.std.proofs.Common.{[], subst}
use Rattle.net_index.specs.ReaderFill.{Adds}
use Rattle.net_index.specs.Readers.{cell_readers, cell_reads, link_readers}
use Rattle.net_index.proofs.ReaderAdds.{both_added}
use Rattle.net_index.proofs.reader_fill.readers_in.Goals as goal

pub returns : goal.returns
returns c = record {
  value = λ ports are.
      let m = c.args.module.now in
      let w = c.args.numbering.now in
      let mid = c.add_cells.new.list.items in
      let new = c.add_links.new.list.items in
      let by_cells : Adds w [] (cell_readers (cell_reads ports 0 m.cells)) mid =
      subst (λ xs. Adds w xs (cell_readers (cell_reads ports 0 m.cells)) mid) c.new-list.ensures.items
      (subst (λ cs. Adds w c.new-list.result.items (cell_readers (cell_reads ports 0 cs)) mid) c.as_slice.ensures.value (c.in_ok-add_cells.ensures.ok ports are)) in
      let by_links : Adds w mid (link_readers 0 m.links) new =
      subst (λ ls. Adds w mid (link_readers 0 ls) new) c.as_slice-2.ensures.value c.in_ok-add_links.ensures.ok in
      both_added w mid new (cell_readers (cell_reads ports 0 m.cells)) (link_readers 0 m.links) by_cells by_links;
}
