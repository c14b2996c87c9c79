use Rattle.std.proofs.Common.{arith, refl}
use Rattle.proc_sync.proofs.Porting.{port_goes}
use Rattle.proc_sync.proofs.masks.ports_in.Goals as goal

pub loop-at-preserved : goal.loop-at-preserved
loop-at-preserved c =
    port_goes c.args.memory.now c.args.lines.now c.loop-at.at _ _ c.loop-at.ports.items c.push.new.self.items c.port_in.result _ (omega arith) refl c.port_in.ensures.value c.in_ok-push.ensures.items c.loop-at.invariant
