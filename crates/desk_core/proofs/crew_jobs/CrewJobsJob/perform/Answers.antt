use denote.Param.Send.{sendable}
use Rattle.desk_core.proofs.Finding.{key_there, keys_within}
use Rattle.desk_core.proofs.Sending.{kept_send}
use Rattle.desk_core.proofs.crew_jobs.CrewJobsJob.perform.Goals as goal

pub bounds-self-number : goal.bounds-self-number
bounds-self-number g c =
    let keys = c.args.self.now.keys.now in
    keys_within keys.design.now.design keys.table.now.modules.now keys.script.now c.args.self.now.all.now c.args.number c.requires.job.0 c.requires.job.1

pub find-requires-clause-buildable : goal.find-requires-clause-buildable
find-requires-clause-buildable g c κs within =
    let keys = c.args.self.now.keys.now in
    record {
      table = c.requires.job.0.same;
      readable = c.requires.job.0.readable;
      in_range = c.requires.job.1;
      own = key_there keys.design.now.design keys.table.now.modules.now keys.script.now c.args.self.now.all.now c.args.number c.index-self-number.result c.requires.job.0 c.requires.job.1;
    }

pub find-requires-send-O-Value : goal.find-requires-send-O-Value
find-requires-send-O-Value g c κs = search (sendable, kept_send)

pub returns-clause-fits : goal.returns-clause-fits
returns-clause-fits g c = c.find.ensures.answer

pub returns-clause-ok : goal.returns-clause-ok
returns-clause-ok g c = c.find.ensures.found
