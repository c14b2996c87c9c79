use Rattle.process_check.proofs.ReadingLemmas.{bit_put}
use Rattle.process_check.proofs.readings.put_bit.Goals as goal

pub returns-in_ok-put_edges : goal.returns-in_ok-put_edges
returns-in_ok-put_edges c = record {
  ok = λ bits numbers assigns sources.
      bit_put bits c.args.signals.now assigns c.args.bit c.in-Some.from (let e = numbers c.args.bit in cc) c.source_of.result (c.source_of.ensures.value bits numbers assigns sources)
      c.args.edges.now.items c.put_edge.new.edges.items c.put_edges.new.edges.items c.in_ok-put_edge.ensures.ok c.in_ok-put_edges.ensures.ok;
}
