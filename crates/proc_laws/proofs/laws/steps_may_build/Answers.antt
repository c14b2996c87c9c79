use Rattle.std.proofs.Common.{[], refl, sym}
use Rattle.net_model.proofs.Grown.{ports_more}
use Rattle.proc_laws.proofs.RebuildDriven.{instances_stay, still_driven}
use Rattle.proc_laws.proofs.RebuildFaults.{last_ready, still_ready}
use Rattle.proc_laws.proofs.laws.steps_may_build.Goals as goal

pub returns : goal.returns
returns c = record {
  ready = still_ready;
  last = λ ports m fresh new more ready r. last_ready ports m fresh new more [] ready r refl;
  driven = λ ports over m fresh new more changed within r. still_driven ports m fresh new more changed within r over;
  same_ports = λ ports m fresh new more changed r. sym (ports_more m.wires fresh r.inner);
  same_instances = λ ports m fresh new more changed r. instances_stay ports m fresh new more changed r;
}
