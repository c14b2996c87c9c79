use Rattle.process_check.proofs.Endings.{linked}
use Rattle.process_check.proofs.GraphEdges.{links}
use Rattle.process_check.proofs.ends.link.Goals as goal

pub returns-clause-graph : goal.returns-clause-graph
returns-clause-graph c =
    linked c.args.graph.now.items c.args.place c.args.at c.index_mut.result.now c.push.new.self c.index_mut.ensures.value c.in_ok-push.ensures.items c.requires.place c.requires.in_range c.requires.graph

pub returns-clause-links : goal.returns-clause-links
returns-clause-links c = links c.args.graph.now.items c.args.place c.args.at c.index_mut.result.now c.push.new.self c.index_mut.ensures.value c.in_ok-push.ensures.items c.requires.place
