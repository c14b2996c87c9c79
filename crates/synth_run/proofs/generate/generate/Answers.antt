use Rattle.synth_run.proofs.Generating.{kept_front, told, told_front, told_netlist}
use Rattle.synth_run.proofs.Speaking.{keeps_same}
use Rattle.synth_run.proofs.generate.generate.Goals as goal

pub returns-in_default-clause-begun : goal.returns-in_default-clause-begun
returns-in_default-clause-begun g c = kept_front c.args.plan.script c.args.count (g.K.Sink.held c.args.sink.now) (g.K.Sink.held c.args.sink.now) (keeps_same (g.K.Sink.held c.args.sink.now))

pub returns-clause-ok : goal.returns-clause-ok
returns-clause-ok g c =
    told c.args.plan.script c.args.count c.in-Ok.summary c.as_slice.result.now (g.K.Sink.held c.args.sink.now) (g.K.Sink.held c.tell.new.sink) c.in-Ok.ensures.value c.as_slice.ensures.value
    c.tell.result c.tell.ensures.ok

pub returns-clause-begun : goal.returns-clause-begun
returns-clause-begun g c =
    told_front c.args.plan.script c.args.count c.in-Ok.summary c.as_slice.result.now (g.K.Sink.held c.args.sink.now) (g.K.Sink.held c.tell.new.sink) c.in-Ok.ensures.value c.as_slice.ensures.value
    c.tell.result c.tell.ensures.front

pub returns-clause-refines : goal.returns-clause-refines
returns-clause-refines g c =
    told_netlist c.args.plan.script c.args.count c.in-Ok.summary c.as_slice.result.now (g.K.Sink.held c.args.sink.now) (g.K.Sink.held c.tell.new.sink) c.in-Ok.ensures.value c.as_slice.ensures.value
    c.tell.result c.requires.script c.requires.modules c.tell.ensures.ok
