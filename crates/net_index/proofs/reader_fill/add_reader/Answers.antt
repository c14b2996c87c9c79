use Rattle.std.proofs.Common.{subst, sym}
use Rattle.net_index.specs.ReaderFill.{Adds, reader_of}
use Rattle.net_index.proofs.ReaderAdds.{one_added}
use Rattle.net_index.proofs.reader_fill.add_reader.Goals as goal

pub returns-in_ok-push : goal.returns-in_ok-push
returns-in_ok-push c = record {
  ok =
      let w = c.args.numbering.now in
      let old = c.args.list.now.items in
      subst (Adds w old (reader_of c.args.bit c.args.reader)) (sym c.in_ok-push.ensures.items)
      (one_added w old c.args.bit c.in-Some.number c.args.reader (sym c.in-Some.ensures.value) c.in-Some.ensures.within);
}
