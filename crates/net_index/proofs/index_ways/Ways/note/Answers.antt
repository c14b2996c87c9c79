use Rattle.net_index.proofs.IndexNotes.{found_next, ways_noted}
use Rattle.net_index.proofs.index_ways.Ways.note.Goals as goal

pub loop-preserved : goal.loop-preserved
loop-preserved c = record {
  known = λ joins are is.
      let before = c.loop.invariant.known joins are is in
      record {
        steps = before.steps;
        ways = ways_noted joins c.loop.self.table c.put.new.self c.loop.bit c.args.found (c.loop.invariant.found joins are is) c.in_ok-put.ensures.ok before.ways;
      };
  found = λ joins are is.
      found_next joins c.loop.bit c.in-To.next c.args.found (c.in-To.ensures.value joins (c.loop.invariant.known joins are is)) (c.loop.invariant.found joins are is);
}
