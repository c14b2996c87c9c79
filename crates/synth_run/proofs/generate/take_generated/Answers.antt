use Rattle.synth_run.proofs.Generating.{made_readable, made_state}
use Rattle.synth_run.proofs.generate.take_generated.Goals as goal

pub replace-requires : goal.replace-requires
replace-requires c = record { readable = made_readable c.args.count c.in_ok-design.design c.in_ok-design.ensures.exact c.requires.few }

pub returns : goal.returns
returns c = record {
  ok = made_state c.args.count c.args.desk.now.state c.replace.new.self.state c.in_ok-design.design c.in_ok-_reply._reply c.in_ok-design.ensures.exact c.in_ok-_reply.ensures.ok;
}
