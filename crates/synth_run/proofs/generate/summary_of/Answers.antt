use Rattle.synth_run.proofs.Generating.{summary_found, summary_rises}
use Rattle.synth_run.proofs.generate.summary_of.Goals as goal

pub returns-clause-value : goal.returns-clause-value
returns-clause-value g c =
    summary_found c.args.plan.script c.args.count c.in_ok-desk.desk.state c.take_generated.new.desk.state c.summarise.new.self.state c.summarise.result
    c.in_ok-desk.ensures.value c.in_ok-take_generated.ensures.ok c.summarise.ensures.ok

pub returns-clause-builds : goal.returns-clause-builds
returns-clause-builds g c =
    summary_rises c.args.plan.script c.args.count c.in_ok-desk.desk.state c.take_generated.new.desk.state c.summarise.result c.args.meter.now c.summarise.new.meter
    c.in_ok-desk.ensures.value c.in_ok-take_generated.ensures.ok c.summarise.ensures.ticks
