use Rattle.process_trees.proofs.Rows.{row_put}
use Rattle.process_trees.proofs.walk.put_source.Goals as goal

pub returns : goal.returns
returns c = record {
  rows = row_put c.args.rows.now.items c.args.at c.args.source c.index_mut.result.now c.push.new.self c.index_mut.ensures.value c.in_ok-push.ensures.items c.requires.in_range;
}
