use Rattle.std.proofs.Common.{◌≡◌, ◌-◌, [], false}
use Rattle.crossbeam_deque.specs.Handles.{worker_flavor, worker_port, worker_view}
use Rattle.work_crew.proofs.Setups.{Dealing}
use Rattle.work_crew.proofs.setup.dealt.Given as goal

abbrev pub invariant-loop-next : goal.invariant-loop-next
invariant-loop-next l = record {
  port : worker_port l.owner ≡ 0;
  flavor : worker_flavor l.owner ≡ 0;
  unfixed : (worker_view l.owner).fixed ≡ false;
  none_taken : (worker_view l.owner).taken ≡ [];
  dealing : Dealing l.first l.step l.count l.next (worker_view l.owner).put;
}

abbrev pub decreases-loop-next : goal.decreases-loop-next
decreases-loop-next l = l.count - l.next
