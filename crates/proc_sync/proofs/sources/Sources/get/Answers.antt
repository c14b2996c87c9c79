use Rattle.proc_sync.proofs.sources.Sources.get.Goals as goal

pub returns : goal.returns
returns c = record { value = c.source_of.ensures.value c.args.self.now.places.items c.args.self.now.agree }
