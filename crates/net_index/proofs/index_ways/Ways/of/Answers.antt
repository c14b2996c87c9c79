use Rattle.std.proofs.Common.{◌∙◌, arith}
use Rattle.net_index.proofs.IndexNotes.{first_alone, ways_put}
use Rattle.net_index.proofs.index_ways.Ways.of.Goals as goal

pub returns : goal.returns
returns c = record {
  ways =
      let joins = c.args.joins.now in
      c.in_ok-settle_all.ensures.ways joins (record {
        steps = omega arith;
        ways = λ b. ways_put joins c.put_joins.new.table b (c.in_ok-put_joins.ensures.ok b ∙ first_alone c.in_ok-table.table joins b (c.in_ok-table.ensures.none b));
      });
}
